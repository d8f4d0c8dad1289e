-- The row transform and the picture transform: "The two recursions". Assumes nothing.
use Rattle.std.specs.Prelude.{List, ℕ, ℤ, pos, ◌*ℤ◌, length}
use Rattle.bspline.specs.Recursions.{coefficients}
use Rattle.bspline.specs.PictureLayout.{Shape, pixel, raster}
use Rattle.bspline.specs.Lists.{at}

-- a row of samples: t[k] = 65536 × s[k]
unfoldable pub row_coefficients : List ℤ → List ℤ
row_coefficients s = coefficients (length s) (λ k. pos 65536 *ℤ at s k)

-- a picture after its first pass, the rows: column x, row y
unfoldable pub first_pass : Shape → List ℤ → ℕ → ℕ → ℤ
first_pass d p x y = at (coefficients d.width (λ k. pos 65536 *ℤ pixel d p k y)) x

-- and after the second, the columns of the result: t[k] = 16 times the coefficient from the first pass
unfoldable pub second_pass : Shape → List ℤ → ℕ → ℕ → ℤ
second_pass d p x y = at (coefficients d.height (λ k. pos 16 *ℤ first_pass d p x k)) y

unfoldable pub picture_coefficients : Shape → List ℤ → List ℤ
picture_coefficients d p = raster d (second_pass d p)
