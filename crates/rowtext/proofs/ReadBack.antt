-- What is printed for a number reads back as that number, for every number that a line can hold. Assumes nothing.
use mathlib.Core.Bool.{Bool, true, false, ◌&&◌, and_assoc, and-eq-true_iff}
use mathlib.Core.List.{List, [], ◌∷◌, ◌++◌}
use mathlib.Core.Option.{some}
use mathlib.Core.Path.{◌≡◌, refl, sym, ap, ◌∙◌}
use Prim.Native.Nat.{ℕ, zero, suc, ◌+◌, ◌-◌, ◌*◌, ◌/◌, ◌%◌, ◌^◌, ◌≤◌, ◌<◌}
use native.Mathlib.Nat.{div-lt_iff_lt-mul, pow-suc}
use native.Mathlib.Omega.{arith}
use borrow.Author.Tests.{leb-true, le-leb, ne_eqb}
use lib.Dec.{leb, leb→le}
use lib.IntN.{ℤ, pos, negsuc, neg_ℤ}
use lib.ListN.{length}
use lib.Signed.{◌≤ℤ◌}
use Rattle.decimal.specs.Decimal.{places, last_digits, decimal, signed_decimal}
use Rattle.decimal.proofs.Places.{decimal_length, places_few, places_some, places_hold}
use Rattle.readtext.specs.Numbers.{digit, all_digits, value_after, well_formed, in_range, signed_number, line_number}

-- ---- the digits of a number
value_append : (a : ℕ) (xs ys : List ℕ) → value_after a (xs ++ ys) ≡ value_after (value_after a xs) ys
value_append a [] ys = refl
value_append a (x ∷ xs) ys = value_append (10 * a + (x - 48)) xs ys

-- they write the number
pub value_of_digits : (k n : ℕ) → n < 10 ^ k → value_after 0 (last_digits k n) ≡ n
value_of_digits zero n h = omega arith
value_of_digits (suc k) n h =
    let rest : n / 10 < 10 ^ k = (div-lt_iff_lt-mul {k = 10} {x = n} {y = 10 ^ k} (omega arith)).1 (rw pow-suc at h) in
    value_append 0 (last_digits k (n / 10)) ((48 + n % 10) ∷ [])
    ∙ ap (λ (q : ℕ). 10 * q + (48 + n % 10 - 48)) (value_of_digits k (n / 10) rest)
    ∙ omega arith

all_append : (xs ys : List ℕ) → all_digits (xs ++ ys) ≡ (all_digits xs && all_digits ys)
all_append [] ys = refl
all_append (x ∷ xs) ys = ap (λ (b : Bool). digit x && b) (all_append xs ys) ∙ sym (and_assoc (digit x) (all_digits xs) (all_digits ys))

pub digits_are_digits : (k n : ℕ) → all_digits (last_digits k n) ≡ true
digits_are_digits zero n = refl
digits_are_digits (suc k) n =
    all_append (last_digits k (n / 10)) ((48 + n % 10) ∷ [])
    ∙ rw (digits_are_digits k (n / 10), le-leb 48 (48 + n % 10) (omega arith), le-leb (48 + n % 10) 57 (omega arith))

-- ---- the text of a number
module _ (n : ℕ) where
  some_digits : 1 ≤ length (decimal n)
  some_digits = omega (arith, decimal_length n, places_some 9 n)

  only_digits : all_digits (decimal n) ≡ true
  unfolding decimal
  only_digits = digits_are_digits (places n) n

  -- if it has at most five digits
  module _ (small : n < 10 ^ 5) where
    formed : well_formed (decimal n) ≡ true
    formed =
        rw (
          le-leb 1 (length (decimal n)) some_digits,
          le-leb (length (decimal n)) 5 (omega (arith, decimal_length n, places_few n 4 small (omega arith))),
        )
        only_digits

    value : value_after 0 (decimal n) ≡ n
    unfolding decimal
    value = value_of_digits (places n) n (places_hold 9 n (omega arith))

    read : (minus : Bool) → signed_number minus (decimal n) ≡ in_range minus n
    read minus = rw (formed, value)

-- a digit is no minus
unsigned : (l : List ℕ) → 1 ≤ length l → all_digits l ≡ true → line_number l ≡ signed_number false l
unfolding line_number
unsigned [] h e = absurd (omega arith)
unsigned (b ∷ bs) h e =
    let first = ((and-eq-true_iff (digit b) (all_digits bs)).0 e).0 in
    let least = leb-true 48 b ((and-eq-true_iff (leb 48 b) (leb b 57)).0 first).0 in
    rw (ne_eqb b 45 (λ q. omega arith))

pub read_back : (v : ℤ) → neg_ℤ (pos 32768) ≤ℤ v → v ≤ℤ pos 32767 → line_number (signed_decimal v) ≡ some v
unfolding signed_decimal line_number
read_back (pos n) low high =
    let h : n ≤ 32767 = leb→le n 32767 high.le in
    unsigned (decimal n) (some_digits n) (only_digits n) ∙ read n (omega arith) false ∙ rw (le-leb n 32767 h)
read_back (negsuc n) low high =
    let h : n ≤ 32767 = leb→le n 32767 low.le in
    read (suc n) (omega arith) true ∙ rw (le-leb (suc n) 32768 (omega arith))
