-- How many digits numbers have, and how long their text is. Assumes nothing.
use mathlib.Core.Bool.{Bool, true, false, cond}
use mathlib.Core.List.{List, [], ◌∷◌, ◌++◌}
use mathlib.Core.Logic.{◌⊎◌, inl, inr}
use mathlib.Core.Path.{◌≡◌, refl, sym, ap, ◌∙◌}
use Prim.Native.Nat.{ℕ, zero, suc, ◌+◌, ◌-◌, ◌/◌, ◌%◌, ◌^◌, ◌≤◌, ◌<◌}
use native.Mathlib.Nat.{le_refl, eq-or-lt_of_le, pow-le-pow_right, lt_of_not-le}
use native.Mathlib.Numerals.{add-one}
use native.Mathlib.Omega.{arith}
use borrow.Author.Tests.{ltb-true, ltb-false, lt-ltb, le-ltb}
use lib.Dec.{ltb}
use lib.IntN.{ℤ, pos, negsuc}
use lib.ListN.{length, length-append}
use Rattle.std.proofs.lemmas.Fmt.{decimal_digit, decimal_step}
use Rattle.std.specs.Fmt.{decimal as standard}
use Rattle.integers.proofs.Choices.{either}
use Rattle.decimal.specs.Decimal.{places_up_to, places, last_digits, decimal, signed_decimal, field}

-- ---- the count of digits
-- a number below 10^(j + 1) passes each test of a greater power
below : (k j n : ℕ) → j ≤ k → n < 10 ^ suc j → places_up_to k n ≡ places_up_to j n
below zero j n h small = let e : 0 ≡ j = omega arith in ap (λ (i : ℕ). places_up_to i n) e
below (suc k) j n h small = cases (λ l. below k j n l small) (eq-or-lt_of_le h)
  where
    cases : (j ≤ k → places_up_to k n ≡ places_up_to j n) → (j ≡ suc k) ⊎ (j < suc k) → places_up_to (suc k) n ≡ places_up_to j n
    cases fewer (inl e) = ap (λ (i : ℕ). places_up_to i n) (sym e)
    cases fewer (inr l) =
        let more : 10 ^ suc j ≤ 10 ^ suc k = pow-le-pow_right (omega arith) (omega arith) in
        rw (lt-ltb n (10 ^ suc k) (omega arith)) (fewer (omega arith))

reached : (j n : ℕ) → (0 < j → 10 ^ j ≤ n) → places_up_to j n ≡ suc j
reached zero n big = refl
reached (suc j) n big = rw (le-ltb n (10 ^ suc j) (big (omega arith)))

-- a number from 10^j up, or from 0 if j is 0, and below 10^(j + 1)
pub places_at : (k j n : ℕ) → j ≤ k → n < 10 ^ suc j → (0 < j → 10 ^ j ≤ n) → places_up_to k n ≡ suc j
places_at k j n h small big = below k j n h small ∙ reached j n big

most : (k n : ℕ) → places_up_to k n ≤ suc k
most zero n = le_refl 1
most (suc k) n =
    let less = most k n in
    either (λ (p : ℕ). p ≤ suc (suc k)) (ltb n (10 ^ suc k)) (omega arith) (omega arith)

-- a number below 10^(d + 1)
pub places_few : (n d : ℕ) → n < 10 ^ suc d → d ≤ 9 → places n ≤ suc d
places_few n d small h = rw (below 9 d n h small) (most d n)

pub places_some : (k n : ℕ) → 1 ≤ places_up_to k n
places_some zero n = le_refl 1
places_some (suc k) n = either (λ (p : ℕ). 1 ≤ p) (ltb n (10 ^ suc k)) (places_some k n) (omega arith)

-- so many digits hold the number
pub places_hold : (k n : ℕ) → n < 10 ^ suc k → n < 10 ^ places_up_to k n
places_hold zero n h = h
places_hold (suc k) n h = cases (ltb n (10 ^ suc k)) refl (places_hold k n)
  where
    cases : (b : Bool) → ltb n (10 ^ suc k) ≡ b → (n < 10 ^ suc k → n < 10 ^ places_up_to k n) → n < 10 ^ cond b (places_up_to k n) (suc (suc k))
    cases true e fewer = fewer (ltb-true n (10 ^ suc k) e)
    cases false e fewer = h

-- ---- lengths
last_digits_length : (k n : ℕ) → length (last_digits k n) ≡ k
last_digits_length zero n = refl
last_digits_length (suc k) n = simp (length-append, last_digits_length k (n / 10)) (add-one k)

pub decimal_length : (n : ℕ) → length (decimal n) ≡ places n
unfolding decimal
decimal_length n = last_digits_length (places n) n

pub field_size : (n end : ℕ) → length (field n end) ≡ suc (places n)
field_size n end = simp (length-append, decimal_length n) (add-one (places n))

-- a number with its sign: of every number at most ten digits are written
pub signed_short : (v : ℤ) → length (signed_decimal v) ≤ 11
unfolding signed_decimal
signed_short (pos n) = omega (arith, decimal_length n, most 9 n)
signed_short (negsuc n) = omega (arith, decimal_length (suc n), most 9 (suc n))

-- ---- counting upward, a power of ten to a turn
-- a power of ten that is below another has the smaller exponent
pub less : (k m : ℕ) → 10 ^ k < 10 ^ m → k < m
less k m h = lt_of_not-le (λ over. let more : 10 ^ m ≤ 10 ^ k = pow-le-pow_right (omega arith) over in omega arith)

-- the count at which a number is below the power of ten, and not below the one before
pub found : (k n : ℕ) → 0 < k → k ≤ 10 → n < 10 ^ k → (1 < k → 10 ^ (k - 1) ≤ n) → k ≡ places n
found zero n some few small big = absurd (omega arith)
found (suc j) n some few small big =
    let e : suc j - 1 ≡ j = omega arith in
    sym (places_at 9 j n (omega arith) small (λ h. rw e at (big (omega arith))))

-- ---- std's text of a number is the same
std_by_places : (k n : ℕ) → n < 10 ^ suc k → n < 2 ^ 64 → standard n ≡ last_digits (places_up_to k n) n
std_by_places zero n small fits =
    let unit : n % 10 ≡ n = omega arith in
    rw unit (decimal_digit n small)
std_by_places (suc k) n small fits =
    cases (ltb n (10 ^ suc k)) refl (λ l. std_by_places k n l fits) (λ l. std_by_places k (n / 10) l (omega arith))
  where
    cases : (b : Bool) → ltb n (10 ^ suc k) ≡ b → (n < 10 ^ suc k → standard n ≡ last_digits (places_up_to k n) n) →
        (n / 10 < 10 ^ suc k → standard (n / 10) ≡ last_digits (places_up_to k (n / 10)) (n / 10)) →
        standard n ≡ last_digits (cond b (places_up_to k n) (suc (suc k))) n
    cases true e fewer shorter = fewer (ltb-true n (10 ^ suc k) e)
    cases false e fewer shorter =
        let big : 10 ^ suc k ≤ n = ltb-false n (10 ^ suc k) e in
        let some : 10 ^ 1 ≤ 10 ^ suc k = pow-le-pow_right {n = 10} (omega arith) {i = 1} {j = suc k} (omega arith) in
        let less : n / 10 < 10 ^ suc k = omega arith in
        let whole : 10 ^ k ≤ n / 10 = omega arith in
        decimal_step n (omega arith) fits
        ∙ ap (λ (l : List ℕ). l ++ ((48 + n % 10) ∷ [])) (shorter less ∙ ap (λ (j : ℕ). last_digits j (n / 10)) (reached k (n / 10) (λ z. whole)))

pub std_decimal : (n : ℕ) → n < 10 ^ 10 → standard n ≡ decimal n
unfolding decimal
std_decimal n small = std_by_places 9 n small (omega arith)
