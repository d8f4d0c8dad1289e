-- Samples and pixels in the coefficients' unit by their places: they are in the range of the line filter, and 16 times one is 65536 times the sample or
-- pixel. Assumes nothing.
use mathlib.Core.List.{List}
use mathlib.Core.Path.{◌≡◌, ap, ◌∙◌}
use Prim.Native.Nat.{ℕ, ◌*◌, ◌^◌, ◌≤◌, ◌<◌}
use native.Mathlib.Omega.{arith}
use lib.IntN.{ℤ, pos, nat_abs, ◌*ℤ◌}
use lib.ListN.{get_or-map}
use Rattle.integers.proofs.Linear.{reify, show}
use Rattle.bspline.specs.Lists.{at}
use Rattle.bspline.specs.PictureLayout.{Shape, packed, pixel}
use Rattle.bspline.proofs.PictureLayout.{raster_at}
use Rattle.bspline.proofs.Ranges.{loaded_range}
use Rattle.buffers.specs.Raised.{raised, raised_pixel, Raised, RaisedPicture}

pub raised_at : {s c : List ℤ} → Raised s c → (k : ℕ) → at c k ≡ raised (at s k)
raised_at {s} {c} r k = ap (λ l. at l k) r.numbers ∙ get_or-map raised s k (pos 0)

pub raised_pixel_lem : {d : Shape} {p c : List ℤ} → RaisedPicture d p c → (x y : ℕ) → x < d.width → y < d.height →
    pixel (packed d) c x y ≡ raised (pixel d p x y)
raised_pixel_lem {d} {p} {c} r x y h g = ap (λ l. pixel (packed d) l x y) r.numbers ∙ raster_at d (raised_pixel d p) x y h g

pub raised_small : (s : ℤ) → nat_abs s ≤ 2 ^ 15 → nat_abs (raised s) ≤ 27 * 2 ^ 24
raised_small s h = omega (arith, loaded_range 4096 (2 ^ 15) s h)

pub raised_loaded : (s : ℤ) → pos 16 *ℤ raised s ≡ pos 65536 *ℤ s
raised_loaded s = show (simp reify tt) (omega arith)
