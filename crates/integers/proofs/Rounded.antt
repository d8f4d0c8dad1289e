-- What follows from the laws of rounding: twice a number over twice a divisor, and how large a rounded number is. Only `round_double` sees what `round` is;
-- the others follow from `round_near` alone. Assumes nothing.
use mathlib.Core.Path.{◌≡◌, sym, ap, ◌∙◌}
use Prim.Native.Nat.{ℕ, suc, ◌+◌, ◌*◌, ◌/◌, ◌<◌, ◌≤◌}
use native.Mathlib.Nat.{div-div-eq-div-mul, mul-le-mul_left}
use native.Mathlib.Omega.{arith, by_contra}
use lib.IntN.{ℤ, pos, negsuc, neg_ℤ, nat_abs, ◌*ℤ◌}
use Rattle.integers.specs.Bound.{Within}
use Rattle.integers.specs.Rounding.{nearest, round}
use Rattle.integers.proofs.Parts.{nat_abs_nat}
use Rattle.integers.proofs.Linear.{reify, read, show}
use Rattle.integers.proofs.Rounding.{round_near, round_neg}

-- 2·a over 2·d gives what a over d does
nearest_double : (a d : ℕ) → nearest (2 * a) (2 * d) ≡ nearest a d
nearest_double a d = sym (div-div-eq-div-mul (2 * a + 2 * d / 2) 2 d) ∙ ap (λ n. n / d) (omega arith)

pub round_double : (a : ℤ) (d : ℕ) → round (pos 2 *ℤ a) (2 * d) ≡ round a d
unfolding round
round_double (pos a) d = ap pos (nearest_double a d)
round_double (negsuc a) d = round_neg (pos (2 * suc a)) (2 * d) ∙ ap (λ n. neg_ℤ (pos n)) (nearest_double (suc a) d)

-- |round(a, d)| ≤ |a|/d + 1/2
pub round_size : (a : ℤ) (d : ℕ) → 0 < d → 2 * d * nat_abs (round a d) ≤ 2 * nat_abs a + d
round_size a d h = show (simp reify tt) (omega (arith, read (round_near a d h) (simp reify tt), nat_abs_nat a))

-- |a|/d below B + 1/2 makes |round(a, d)| at most B
pub round_bound : (a : ℤ) (d B : ℕ) → 0 < d → 2 * nat_abs a < d * (2 * B + 1) → nat_abs (round a d) ≤ B
round_bound a d B h k = by_contra (nat_abs (round a d)) B (λ l. omega (arith, round_size a d h, mul-le-mul_left d l))

pub round_within : {a : ℤ} (d : ℕ) {B : ℕ} → 0 < d → Within (d * B) a → Within B (round a d)
round_within {a} d {B} h k = record { within = round_bound a d B h (omega (arith, k.within)) }
