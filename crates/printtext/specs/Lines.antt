-- What the function that puts lines is asked. Assumes nothing.
use Rattle.std.specs.Prelude.{List, ℕ, ◌-◌, ◌*◌, ◌≤◌, ◌<◌, ℤ, take, drop}
use Rattle.bspline.specs.Limits.{longest_row, greatest_factor}
use Rattle.bspline.specs.Values.{zoom_count}
use Rattle.printtext.specs.Output.{longest_line}

-- the numbers of a list from one place up to another
abbrev pub between : ℕ → ℕ → List ℤ → List ℤ
between from to l = take (to - from) (drop from l)

-- the lines of the values from one place up to another, of so many that a row has at the factor m, and a buffer of so many bytes
pub record Lines (m from to count bytes : ℕ) : Type 0 where
  pub some : 0 < m
  pub small : m ≤ greatest_factor
  pub ordered : from ≤ to
  pub held : to ≤ count
  pub inside : to ≤ zoom_count m longest_row
  pub room : longest_line * (to - from) ≤ bytes
