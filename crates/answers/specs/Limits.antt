-- Factors and sides that are not refused. Assumes nothing.
use Rattle.std.specs.Prelude.{ℕ, ◌≤◌, ◌<◌}
use Rattle.bspline.specs.Limits.{longest_side, greatest_factor}
use Rattle.bspline.specs.PictureLayout.{Shape}

-- a factor from 1 to 16
pub record Factor (m : ℕ) : Type 0 where
  pub some : 0 < m
  pub small : m ≤ greatest_factor

-- the sides of a picture, each from 1 to 512
pub record GoodSides (d : Shape) : Type 0 where
  pub wide : 0 < d.width
  pub high : 0 < d.height
  pub narrow : d.width ≤ longest_side
  pub low : d.height ≤ longest_side
