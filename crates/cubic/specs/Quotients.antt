-- What the code that lists quotients asks. Assumes nothing.
use Rattle.std.specs.Prelude.{List, ℕ, ◌*◌, ◌^◌, ◌≤◌, ◌<◌, ℤ, pos, nat_abs, length}
use Rattle.bspline.specs.Limits.{greatest_factor}
use Rattle.rounding.specs.declared.Divisor.{Divisor}
use Rattle.rounding.specs.Roundable.{Dividing}
use Rattle.cubic.specs.declared.Cubic.{Cubic}
use Rattle.cubic.specs.Cubics.{cubic_sum, CubicSmall}

-- a small cubic, a divisor, and room for at most as many values as the greatest factor, at whose numerators the cubic is at most 2^27 divisors
pub record Fillable (f : Cubic) (d : Divisor) (values : List ℤ) : Type 0 where
  pub small : CubicSmall f
  pub divisor : Dividing d
  pub room : length values ≤ greatest_factor
  pub size : (j : ℕ) → j < length values → nat_abs (cubic_sum f (pos j)) ≤ 2 ^ 27 * nat_abs d.by
