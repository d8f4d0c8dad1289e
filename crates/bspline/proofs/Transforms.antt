-- How many coefficients the transforms give, and that the accuracy of coefficients is that of every longer buffer which they begin.
-- Assumes nothing.
use mathlib.Core.List.{List, ◌++◌}
use mathlib.Core.Path.{◌≡◌}
use native.Mathlib.Omega.{arith}
use lib.IntN.{ℤ, pos, ◌*ℤ◌}
use lib.ListN.{length, get_or-append}
use Rattle.bspline.specs.Exact.{RowAccurate, PictureAccurate}
use Rattle.bspline.specs.PictureLayout.{Shape, packed, area, place}
use Rattle.bspline.specs.Lists.{at}
use Rattle.bspline.specs.Transforms.{row_coefficients, second_pass, picture_coefficients}
use Rattle.bspline.proofs.PictureLayout.{raster_length, place_below}
use Rattle.bspline.proofs.Lines.{coefficients_length}

-- a row has as many as samples
pub row_length : (s : List ℤ) → length (row_coefficients s) ≡ length s
unfolding row_coefficients
row_length s = coefficients_length (length s) (λ k. pos 65536 *ℤ at s k)

-- a picture has as many as pixels
pub picture_length : (d : Shape) (p : List ℤ) → length (picture_coefficients d p) ≡ area d
unfolding picture_coefficients
picture_length d p = raster_length d (second_pass d p)

pub row_begins : (s C rest : List ℤ) → length C ≡ length s → RowAccurate s C → RowAccurate s (C ++ rest)
row_begins s C rest e a = record {
  accurate = λ c solves k h. rw (get_or-append C rest (pos 0) k (omega arith)) (a.accurate c solves k h);
}

pub picture_begins : (d : Shape) (p C rest : List ℤ) → length C ≡ area d → PictureAccurate d p C → PictureAccurate d p (C ++ rest)
picture_begins d p C rest e a = record {
  accurate = λ c solves x y h g.
      rw (get_or-append C rest (pos 0) (place (packed d) x y) (omega (arith, place_below d x y h g))) (a.accurate c solves x y h g);
}
