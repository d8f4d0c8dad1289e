-- Z is the whole number nearest to (2 - √3) × 2^31, the filter's pole without its sign.
-- With Q = 2^31, (2 - √3)Q is the lesser zero of z² - 4Qz + Q², which is above 0 before it and below 0 from there to the greater one.
-- It changes its sign so between Z - 1/2 and Z + 1/2: multiplied by 4 it is x² - 8Qx + 4Q² at x = 2z, and by computing that is above 0 at 2Z - 1 and
-- below 0 at 2Z + 1. Assumes nothing.
use Prim.Native.Nat.{◌*◌, ◌^◌}
use lib.IntN.{ℤ, pos, ◌+ℤ◌, ◌-ℤ◌, ◌*ℤ◌}
use lib.Signed.{◌<ℤ◌}
use Rattle.bspline.specs.Recursions.{Z}

-- x² - 8Qx + 4Q²
abbrev pub polynomial : ℤ → ℤ
polynomial x = x *ℤ x -ℤ pos (8 * 2 ^ 31) *ℤ x +ℤ pos (4 * 2 ^ 62)

-- Z - 1/2 is below the pole
pub pole_low : pos 0 <ℤ polynomial (pos 2 *ℤ Z -ℤ pos 1)
pole_low = record { lt = tt }

-- Z + 1/2 is above it
pub pole_high : polynomial (pos 2 *ℤ Z +ℤ pos 1) <ℤ pos 0
pole_high = record { lt = tt }
