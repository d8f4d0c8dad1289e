-- The cubic of the numerator that a weighted sum is between two places, and what the code asks that lists quotients of such sums. Assumes nothing.
use Rattle.std.specs.Prelude.{List, ◌≡◌, ℕ, ◌*◌, ◌^◌, ◌≤◌, ℤ, pos, nat_abs, length}
use Rattle.bspline.specs.Bounds.{AllWithin}
use Rattle.bspline.specs.Limits.{greatest_factor}
use Rattle.bspline.specs.Values.{weights, dot}
use Rattle.rounding.specs.declared.Divisor.{Divisor}
use Rattle.rounding.specs.Roundable.{Dividing}
use Rattle.sums.specs.Sums.{greatest_sum}
use Rattle.cubic.specs.declared.Cubic.{Cubic}
use Rattle.cubic.specs.Cubics.{cubic_sum}

-- at every numerator the cubic is the weighted sum of the four numbers
pub record CubicOf (m : ℕ) (c : List ℤ) (f : Cubic) : Type 0 where
  pub sums : (j : ℕ) → cubic_sum f (pos j) ≡ dot (weights m j) c

-- four numbers, none further from 0 than a bound, a factor, a divisor so great that a weighted sum of numbers within the bound is at most 2^27
-- divisors, and room for at most m values
pub record Weighable (c : List ℤ) (m : ℕ) (d : Divisor) (values : List ℤ) : Type 0 where
  pub bound : ℕ
  pub light : bound ≤ greatest_sum
  pub small : AllWithin bound c
  pub factor : m ≤ greatest_factor
  pub divisor : Dividing d
  pub size : 6 * m ^ 3 * bound ≤ 2 ^ 27 * nat_abs d.by
  pub room : length values ≤ m
