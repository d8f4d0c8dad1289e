-- The buffers of an accepted picture, cut to what its sides ask, before they are filtered and after. Assumes nothing.
use Rattle.std.specs.Prelude.{List, ◌≡◌, max, ◌^◌, ◌≤◌, ℤ, pos, length, replicate}
use Rattle.bspline.specs.Bounds.{PictureWithin}
use Rattle.bspline.specs.Limits.{work_words}
use Rattle.bspline.specs.PictureLayout.{Shape, area, extent, pixel}
use Rattle.bspline.specs.Transforms.{picture_coefficients}

-- pixels that the slice holds, and buffers of exactly the lengths that the sides ask
pub record PictureBuffers (d : Shape) (p c work : List ℤ) : Type 0 where
  pub pixels : extent d ≤ length p
  pub coefficients : length c ≡ area d
  pub words : length work ≡ work_words (max d.width d.height)

-- the same buffers afterwards: the picture's coefficients, and every word of work 0. Pixels are 16-bit numbers
pub record PictureFiltered (d : Shape) (p c work : List ℤ) : Type 0 where
  pub coefficients : c ≡ picture_coefficients d p
  pub small : PictureWithin (2 ^ 15) d (pixel d p)
  pub cleared : work ≡ replicate (work_words (max d.width d.height)) (pos 0)
