-- A weighted sum and its divisor can be divided: the divisor is 16 times the weights' total W, which is 6m³ for a row and 36m⁶ for a picture, and the
-- sum is at most W times a 32-bit number, so that the quotient is at most 2^27. Assumes nothing.
use mathlib.Core.Path.{◌≡◌, ap, ◌∙◌}
use Prim.Native.Nat.{ℕ, ◌*◌, ◌^◌, ◌≤◌, ◌<◌}
use native.Mathlib.Nat.{one-le-pow, mul-le-mul}
use native.Mathlib.Omega.{arith}
use lib.IntN.{ℤ, pos, nat_abs}
use lib.Signed.{◌<ℤ◌}
use Rattle.integers.proofs.Parts.{lt_of}
use Rattle.bspline.specs.Limits.{greatest_factor}
use Rattle.bspline.proofs.Weights.{cubed, sixth}

-- what `rounding::round_narrow` asks
pub divisible : (a : ℤ) {d : ℤ} (W : ℕ) → d ≡ pos (16 * W) → 0 < W → W ≤ 36 * 16 ^ 6 → nat_abs a ≤ W * 2 ^ 31 →
    (pos 0 <ℤ d) × (nat_abs d ≤ 2 ^ 34) × (nat_abs a ≤ 2 ^ 27 * nat_abs d)
divisible a W e some few small = rw e (lt_of (omega arith), omega arith, omega (arith, small))

-- m³ is from 1 to 16³
module _ (m : ℕ) (some : 0 < m) (few : m ≤ greatest_factor) where
  cube_few : m ^ 3 ≤ 16 ^ 3
  cube_few = omega (arith, cubed m, mul-le-mul (mul-le-mul few few) few)

  pub row_divisible : (a : ℤ) {d : ℤ} → d ≡ pos (96 * m ^ 3) → nat_abs a ≤ 6 * m ^ 3 * 2 ^ 31 → (pos 0 <ℤ d) × (nat_abs d ≤ 2 ^ 34) × (nat_abs a ≤ 2 ^ 27 * nat_abs d)
  row_divisible a e = divisible a (6 * m ^ 3) (e ∙ ap pos (omega arith)) (omega (arith, one-le-pow 3 m some)) (omega (arith, cube_few))

  pub picture_divisible : (a : ℤ) {d : ℤ} → d ≡ pos (576 * m ^ 6) → nat_abs a ≤ 36 * m ^ 6 * 2 ^ 31 → (pos 0 <ℤ d) × (nat_abs d ≤ 2 ^ 34) × (nat_abs a ≤ 2 ^ 27 * nat_abs d)
  picture_divisible a e =
      divisible a (36 * m ^ 6) (e ∙ ap pos (omega arith)) (omega (arith, one-le-pow 6 m some)) (omega (arith, sixth m, mul-le-mul cube_few cube_few))
