-- The buffers of an accepted row, cut to what its length asks, before they are filtered and after. Assumes nothing.
use Rattle.std.specs.Prelude.{List, ◌≡◌, ◌^◌, ◌≤◌, ◌<◌, ℤ, pos, length, replicate}
use Rattle.bspline.specs.Bounds.{RowWithin}
use Rattle.bspline.specs.Limits.{longest_row, work_words}
use Rattle.bspline.specs.Lists.{at}
use Rattle.bspline.specs.Transforms.{row_coefficients}

-- buffers of exactly the lengths that a row asks
pub record RowBuffers (s c work : List ℤ) : Type 0 where
  pub some : 0 < length s
  pub short : length s ≤ longest_row
  pub coefficients : length c ≡ length s
  pub words : length work ≡ work_words (length s)

-- the same buffers afterwards: the row's coefficients, and every word of work 0. Samples are 16-bit numbers
pub record RowFiltered (s c work : List ℤ) : Type 0 where
  pub coefficients : c ≡ row_coefficients s
  pub small : RowWithin (2 ^ 15) (length s) (at s)
  pub cleared : work ≡ replicate (work_words (length s)) (pos 0)
