-- The return of a sample. Assumes nothing.
use Rattle.std.specs.Prelude.{List, ◌≡◌, ℕ, ◌≤◌, ◌<◌, ℤ, pos, ◌*ℤ◌, length}
use Rattle.bspline.specs.Limits.{greatest_factor}
use Rattle.bspline.specs.Lists.{at}
use Rattle.bspline.specs.Outcomes.{row_transform}
use Rattle.bspline.specs.Refusals.{Answer, count, value}

-- if the row is accepted, k is a place of it and m a factor, the answer is 256 times the sample
pub record Returns (s : List ℤ) (k m : ℕ) (buffer work : List ℤ) (a : Answer) : Type 0 where
  pub returns : (row_transform s buffer work).answer ≡ count (length s) → 0 < m → m ≤ greatest_factor → k < length s → a ≡ value (pos 256 *ℤ at s k)
