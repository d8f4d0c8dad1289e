-- Samples and pixels in the coefficients' unit. Assumes nothing.
use Rattle.std.specs.Prelude.{List, map, ◌≡◌, ℕ, ◌^◌, ℤ, pos, ◌*ℤ◌, length}
use Rattle.bspline.specs.Bounds.{RowWithin, PictureWithin}
use Rattle.bspline.specs.Lists.{at}
use Rattle.bspline.specs.PictureLayout.{Shape, pixel, raster}

-- a sample or pixel in the coefficients' unit, 1/4096 of a count: a line of samples is one of coefficients before it is filtered
abbrev pub raised : ℤ → ℤ
raised s = pos 4096 *ℤ s

abbrev pub raised_pixel : Shape → List ℤ → ℕ → ℕ → ℤ
raised_pixel d p x y = raised (pixel d p x y)

-- a buffer that holds samples in that unit. Samples are 16-bit numbers, so they are at most 2^15 from 0
pub record Raised (s c : List ℤ) : Type 0 where
  pub numbers : c ≡ map raised s
  pub small : RowWithin (2 ^ 15) (length s) (at s)

-- a buffer that holds the pixels of a picture in that unit, closely packed
pub record RaisedPicture (d : Shape) (p c : List ℤ) : Type 0 where
  pub numbers : c ≡ raster d (raised_pixel d p)
  pub small : PictureWithin (2 ^ 15) d (pixel d p)
