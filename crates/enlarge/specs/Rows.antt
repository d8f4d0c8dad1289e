-- The values of a row of whatever numbers, and what the code asks that lists the rows of an enlarged picture. Assumes nothing.
use Rattle.std.specs.Prelude.{List, ◌≡◌, ℕ, ◌*◌, ◌^◌, ◌≤◌, ◌<◌, ℤ, length}
use Rattle.integers.specs.Rounding.{round}
use Rattle.bspline.specs.Bounds.{sizes}
use Rattle.bspline.specs.Limits.{longest_side}
use Rattle.bspline.specs.Lists.{tabulate}
use Rattle.bspline.specs.PictureLayout.{Shape, area}
use Rattle.bspline.specs.Values.{row_sum, zoom_position}
use Rattle.answers.specs.Limits.{GoodSides}
use Rattle.answers.specs.declared.factor.Factor.{Factor}
use Rattle.sums.specs.Sums.{listed}
use Rattle.columns.specs.declared.Band.{Band}
use Rattle.columns.specs.Bands.{Holds, sums_along}

-- the i-th value along a row of n numbers, at i/m
abbrev pub value_along : ℕ → ℕ → (ℕ → ℤ) → ℕ → ℕ → ℤ
value_along m n f divisor i = round (row_sum m n f (zoom_position m i)) divisor

-- so many of them, from one on
abbrev pub values_along : ℕ → ℕ → (ℕ → ℤ) → ℕ → ℕ → ℕ → List ℤ
values_along m n f divisor from count = tabulate (value_along m n f divisor) from count

-- one value of the sums along the columns of four rows, rounded by 576m⁶, and so many of them
abbrev pub value_in : ℕ → Band → ℕ → ℤ
value_in m b i = value_along m b.width (sums_along b) (576 * m ^ 6) i

abbrev pub values_in : ℕ → Band → ℕ → ℕ → List ℤ
values_in m b from count = values_along m b.width (sums_along b) (576 * m ^ 6) from count

-- four rows of a picture, weights that are those of a numerator, and a factor
pub record RowReady (b : Band) (m : Factor) : Type 0 where
  pub some : 0 < b.width
  pub narrow : b.width ≤ longest_side
  pub columns : Holds b b.width
  pub total : sizes (listed b.weights) ≡ 6 * m.value ^ 3

-- a picture whose sides are not refused, with its coefficients, and a factor
pub record Ready (d : Shape) (m : Factor) (c : List ℤ) : Type 0 where
  pub good : GoodSides d
  pub count : length c ≡ area d
