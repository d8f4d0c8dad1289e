-- Four rows of a picture's coefficients with the weights of the sums along their columns, as the code has them. Assumes nothing.
use Rattle.std.specs.Prelude.{ℕ, ◌*◌, ◌^◌, ℤ}
use Rattle.bspline.specs.Bounds.{sizes}
use Rattle.sums.specs.Sums.{listed}
use Rattle.columns.specs.declared.Band.{Band}
use Rattle.columns.specs.Columns.{Columns, column_sum}

-- the sums along its columns
abbrev pub sums_along : Band → ℕ → ℤ
sums_along b = column_sum (listed b.weights) b.starts b.coefficients.now

-- how great such a sum is at most, of coefficients of 32 bits
abbrev pub most_of : Band → ℕ
most_of b = sizes (listed b.weights) * 2 ^ 31

-- n columns of it lie in the coefficients, and its weights are light
abbrev pub Holds : Band → ℕ → Type 0
Holds b n = Columns b.starts n (listed b.weights) b.coefficients.now
