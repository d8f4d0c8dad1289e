-- What the code that lists values asks. Assumes nothing.
use Rattle.std.specs.Prelude.{List, ℕ, ◌≤◌, ◌<◌, ℤ, length}
use Rattle.bspline.specs.Limits.{longest_row}
use Rattle.answers.specs.declared.factor.Factor.{Factor}

-- a place of a row that is not refused, a factor, and room for at most as many values
pub record Between (k : ℕ) (m : Factor) (c values : List ℤ) : Type 0 where
  pub inside : k < length c
  pub short : length c ≤ longest_row
  pub room : length values ≤ m.value
  pub some : 0 < length values
