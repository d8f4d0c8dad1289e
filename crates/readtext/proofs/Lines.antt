-- The number of a line, by what stands before its digits and by their number. Assumes nothing.
use mathlib.Core.Bool.{Bool, true, false, cond, ◌&&◌, and-eq-true_iff}
use mathlib.Core.List.{List, [], ◌∷◌}
use mathlib.Core.Option as found
use mathlib.Core.Path.{◌≡◌, refl, ap, subst}
use Prim.Native.Nat.{ℕ, zero, suc, ◌≤◌, ◌<◌, ◌^◌}
use native.Mathlib.Nat.{lt_of_not-le}
use native.Mathlib.Omega.{arith}
use borrow.Author.Tests.{le-leb, lt-leb}
use lib.Dec.{eqb}
use lib.IntN.{ℤ, pos, neg_ℤ, ◌-ℤ◌, +ℤ_idl}
use lib.ListN.{length, take, drop}
use lib.Pointwise.{pointwise}
use lib.Signed.{mag}
use mir.Facts.{to_z-of_z}
use mir.Syntax.{w16, w64}
use mir.Val.{SFits, to_z, of_z}
use Rattle.std.proofs.Common.{Some, None, Result, Ok, Err}
use Rattle.std.specs.Result.{OkIff, result_ok}
use Rattle.readtext.specs.Numbers.{value_after, well_formed, in_range, signed_number, line_number}
use Rattle.readtext.specs.Readings.{size_of, number_read}

-- ---- before the digits
pub empty : (l : List ℕ) → length l ≡ 0 → found.none ≡ line_number l
unfolding line_number
empty [] e = refl
empty (b ∷ bs) e = absurd (omega arith)

pub with_minus : (l : List ℕ) {digits : List ℕ} → pointwise eqb (take 1 l) (45 ∷ []) ≡ true → digits ≡ drop 1 l → signed_number true digits ≡ line_number l
unfolding line_number
with_minus [] e d = cc
with_minus (b ∷ bs) e d =
    let minus : eqb b 45 ≡ true = ((and-eq-true_iff (eqb b 45) true).0 e).0 in
    rw (minus, d)

pub without_minus : (l : List ℕ) → pointwise eqb (take 1 l) (45 ∷ []) ≡ false → signed_number false l ≡ line_number l
unfolding line_number
without_minus [] e = refl
without_minus (b ∷ bs) e = by_test (eqb b 45) e
  where
    by_test : (t : Bool) → (t && true) ≡ false → signed_number false (b ∷ bs) ≡ cond t (signed_number true bs) (signed_number false (b ∷ bs))
    by_test true e = cc
    by_test false e = refl

-- ---- the digits
pub no_size : (minus : Bool) (digits : List ℕ) → None ≡ size_of digits → found.none ≡ signed_number minus digits
no_size minus digits e = by_test (well_formed digits) e
  where
    by_test : (b : Bool) → None ≡ cond b (Some (value_after 0 digits)) None → found.none ≡ cond b (in_range minus (value_after 0 digits)) found.none
    by_test true e = cc
    by_test false e = refl

pub of_size : (minus : Bool) (digits : List ℕ) {v : ℕ} → Some v ≡ size_of digits → in_range minus v ≡ signed_number minus digits
of_size minus digits {v} e = by_test (well_formed digits) e
  where
    by_test : (b : Bool) → Some v ≡ cond b (Some (value_after 0 digits)) None → in_range minus v ≡ cond b (in_range minus (value_after 0 digits)) found.none
    by_test true e = let q : v ≡ value_after 0 digits = cc in ap (in_range minus) q
    by_test false e = cc

-- ---- the range
pub from_zero_up : {E : Type 0} (v : ℕ) (r : Result ℤ E) → OkIff r (SFits w16 (pos v)) (pos v) → number_read (result_ok r) ≡ in_range false v
from_zero_up v (Ok x) p = let f = p.0.sfits in rw (p.1, le-leb v 32767 (omega arith))
from_zero_up v (Err e) p = rw (lt-leb v 32767 (lt_of_not-le (λ h. p (record { sfits = omega arith }))))

mag_neg : (v : ℕ) → (mag (neg_ℤ (pos v)) < 2 ^ 15 → v ≤ 32768) × (v ≤ 32768 → mag (neg_ℤ (pos v)) < 2 ^ 15)
mag_neg zero = ((λ h. omega arith), (λ h. omega arith))
mag_neg (suc n) = ((λ h. omega arith), (λ h. omega arith))

negative_fits : (n : ℕ) → SFits w64 (pos n) → SFits w64 (neg_ℤ (pos n))
negative_fits zero f = f
negative_fits (suc n) f = let g = f.sfits in record { sfits = omega arith }

pub below_zero : {E : Type 0} (v : ℕ) {z : ℤ} (r : Result ℤ E) → z ≡ neg_ℤ (pos v) → OkIff r (SFits w16 z) z → number_read (result_ok r) ≡ in_range true v
below_zero v {z} (Ok x) e p = let f = rw e at p.0.sfits in rw (p.1, e, le-leb v 32768 ((mag_neg v).0 f))
below_zero v {z} (Err d) e p =
    rw (lt-leb v 32768 (lt_of_not-le (λ h. p (record { sfits = rw e ((mag_neg v).1 h) }))))

pub negated : (n : ℕ) {x : ℤ} → x ≡ pos n → SFits w64 x → to_z w64 (of_z w64 (pos 0 -ℤ to_z w64 (of_z w64 x))) ≡ neg_ℤ (pos n)
negated n {x} e f =
    let g : SFits w64 (pos n) = subst (SFits w64) e f in
    rw (to_z-of_z f, e, +ℤ_idl (neg_ℤ (pos n))) (to_z-of_z (negative_fits n g))
