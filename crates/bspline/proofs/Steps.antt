-- One step of each recursion and one coefficient, as inequalities: the rounded number times its divisor is at most half the divisor from what was divided.
-- They follow from `round_near` alone, which holds whatever the rule for a tie is, and they are all that the ranges and distances take from the rounding.
-- Assumes nothing.
use mathlib.Core.Path.{◌≡◌}
use Prim.Native.Nat.{◌^◌, ◌≤◌}
use native.Mathlib.Omega.{arith}
use lib.Dec.{lit<}
use lib.IntN.{ℤ, pos, nat_abs, ◌-ℤ◌, ◌*ℤ◌}
use Rattle.integers.proofs.Linear.{reify, read, show}
use Rattle.integers.proofs.Rounding.{round_near}
use Rattle.bspline.specs.Recursions.{Z, R, causal, anticausal, coefficient}

-- 2^31, the divisor of R
abbrev pub Q : ℤ
Q = pos (2 ^ 31)

-- R(a) times 2^31 is at most 2^30 from a
pub R_near : (a : ℤ) → nat_abs (Q *ℤ R a -ℤ a) ≤ 2 ^ 30
unfolding R
R_near a = omega (arith, round_near a (2 ^ 31) (lit< tt))

-- what p[k] takes off from t[k] is near Z × p[k-1] / 2^31
pub causal_near : (t p : ℤ) → nat_abs (Q *ℤ (t -ℤ causal t p) -ℤ Z *ℤ p) ≤ 2 ^ 30
unfolding causal
causal_near t p = show (simp reify tt) (omega (arith, read (R_near (Z *ℤ p)) (simp reify tt)))

-- b[k] is near Z × (p[k] - b[k+1]) / 2^31
pub anticausal_near : (p b : ℤ) → nat_abs (Q *ℤ anticausal p b -ℤ Z *ℤ (p -ℤ b)) ≤ 2 ^ 30
unfolding anticausal
anticausal_near p b = R_near (Z *ℤ (p -ℤ b))

-- a coefficient is near 6 × b / 16
pub coefficient_near : (b : ℤ) → nat_abs (pos 16 *ℤ coefficient b -ℤ pos 6 *ℤ b) ≤ 8
unfolding coefficient
coefficient_near b = omega (arith, round_near (pos 6 *ℤ b) 16 (lit< tt))

-- the coefficient of 0 is 0
pub coefficient_zero : coefficient (pos 0) ≡ pos 0
coefficient_zero = show (simp reify tt) (omega (arith, read (coefficient_near (pos 0)) (simp reify tt)))
