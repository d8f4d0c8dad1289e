-- A factor and the sides of a picture for which the test of the refusal fails are within their limits. Assumes nothing.
use mathlib.Core.Bool.{false}
use mathlib.Core.Path.{◌≡◌}
use Prim.Native.Nat.{ℕ, ◌-◌, ◌≤◌, ◌^◌}
use native.Mathlib.Nat.{mul-le-mul}
use native.Mathlib.Omega.{arith}
use Rattle.bspline.specs.Limits.{greatest_pitch, greatest_factor}
use Rattle.bspline.specs.PictureLayout.{Shape, area, extent}
use Rattle.bspline.specs.Refusals.{outside, bad_sides}
use Rattle.bspline.specs.Values.{zoom_count, enlarged}
use Rattle.bspline.proofs.Refusals.{one_to, sides_within}
use Rattle.answers.specs.Limits.{Factor, GoodSides}

pub factor : (m : ℕ) → outside greatest_factor m ≡ false → Factor m
factor m e = let f = one_to greatest_factor m e in record { some = f.0; small = f.1 }

pub good_sides : (d : Shape) → bad_sides d ≡ false → GoodSides d
good_sides d e =
    let within = sides_within d e in
    record { wide = within.0.0; high = within.1.0; narrow = within.0.1; low = within.1.1 }

-- such a picture has so few pixels that their count fits, and at a pitch in range reaches over so few numbers
pub area_small : (d : Shape) → GoodSides d → area d ≤ 2 ^ 18
area_small d good = mul-le-mul good.narrow good.low

pub extent_small : (d : Shape) → GoodSides d → d.pitch ≤ greatest_pitch → extent d ≤ 2 ^ 22
extent_small d good near =
    let rows : d.height - 1 ≤ 511 = omega (arith, good.low) in
    omega (arith, mul-le-mul rows near, good.narrow)

-- and its enlarged sides have at most 511 × 16 + 1 values each
pub enlarged_small : (m : ℕ) (d : Shape) → Factor m → GoodSides d → area (enlarged m d) ≤ 2 ^ 26
enlarged_small m d f good =
    let across : d.width - 1 ≤ 511 = omega (arith, good.narrow) in
    let down : d.height - 1 ≤ 511 = omega (arith, good.low) in
    let wide : zoom_count m d.width ≤ 8177 = omega (arith, mul-le-mul across f.small) in
    let high : zoom_count m d.height ≤ 8177 = omega (arith, mul-le-mul down f.small) in
    omega (arith, mul-le-mul wide high)
