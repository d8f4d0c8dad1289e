-- The laws of a picture's layout: how many numbers it has and reaches over, which number stands where, and when two lists hold the same picture. A
-- closely packed picture is the table of its places y × w + x, and the place gives back y as its quotient by w and x as its remainder.
-- Assumes nothing.
use mathlib.Core.List.{List}
use mathlib.Core.Path.{◌≡◌, refl, sym, ap, ap₂, ◌∙◌}
use Prim.Native.Nat.{ℕ, zero, suc, ◌+◌, ◌-◌, ◌*◌, ◌/◌, ◌%◌, ◌≤◌, ◌<◌}
use native.Mathlib.Nat.{zero-mul, suc-mul, mul_comm, mul-le-mul_right, mod-lt, div-add-mod', div-lt_iff_lt-mul}
use native.Mathlib.Omega.{arith}
use lib.Arith.{digits_div, digits_mod}
use lib.IntN.{ℤ, pos}
use lib.ListN.{length}
use lib.Seq.{ext_get_or}
use Rattle.bspline.specs.Lists.{at}
use Rattle.bspline.specs.PictureLayout.{Shape, packed, area, place, extent, pixel, raster, copied, SamePicture}
use Rattle.bspline.proofs.Lists.{tabulate_length, tabulate_from_zero}

-- a picture has as many numbers as its sides multiplied
pub raster_length : (d : Shape) (f : ℕ → ℕ → ℤ) → length (raster d f) ≡ area d
unfolding raster
raster_length d f = tabulate_length _ 0 (area d)

-- ---- which places a picture has
-- each row of it ends within what it reaches over
pub row_inside : (d : Shape) (y : ℕ) → y < d.height → y * d.pitch + d.width ≤ extent d
row_inside d y h = let below : y ≤ d.height - 1 = omega arith in omega (arith, mul-le-mul_right d.pitch below)

-- a closely packed one reaches over as many numbers as it has
pub packed_extent : (d : Shape) → 0 < d.height → extent (packed d) ≡ area d
packed_extent d h =
    let last : suc (d.height - 1) ≡ d.height = omega arith in
    sym (suc-mul (d.height - 1) d.width) ∙ rw last (mul_comm d.height d.width)

-- so a column and a row within the sides have their place among them
pub place_below : (d : Shape) (x y : ℕ) → x < d.width → y < d.height → place (packed d) x y < area d
place_below d x y h g = omega (arith, row_inside (packed d) y g, packed_extent d (omega arith))

-- ---- which number stands where
-- the number of a picture in column x and row y is f x y
pub raster_at : (d : Shape) (f : ℕ → ℕ → ℤ) (x y : ℕ) → x < d.width → y < d.height → pixel (packed d) (raster d f) x y ≡ f x y
unfolding raster
raster_at d f x y h g =
    tabulate_from_zero _ (area d) (place (packed d) x y) (place_below d x y h g) ∙ ap₂ f (digits_mod y h) (digits_div y h)

-- and a list with these numbers is the picture
pub raster_is : (d : Shape) (f : ℕ → ℕ → ℤ) (l : List ℤ) → length l ≡ area d →
    ((x y : ℕ) → x < d.width → y < d.height → pixel (packed d) l x y ≡ f x y) → l ≡ raster d f
raster_is d f l long same = ext_get_or (pos 0) l (raster d f) (long ∙ sym (raster_length d f)) (λ i h. each i (rw long at h))
  where
    each : (i : ℕ) → i < area d → at l i ≡ at (raster d f) i
    each i h =
        let x = i % d.width in
        let y = i / d.width in
        let e : place (packed d) x y ≡ i = div-add-mod' i d.width in
        let wide : 0 < d.width = above d.width d.height i h in
        let below : x < d.width = mod-lt i wide in
        let within : y < d.height = (div-lt_iff_lt-mul wide).1 (omega (arith, mul_comm d.width d.height)) in
        ap (at l) (sym e) ∙ same x y below within ∙ sym (raster_at d f x y below within) ∙ ap (at (raster d f)) e
      where
        above : (w k i : ℕ) → i < w * k → 0 < w
        above zero k i g = absurd (omega (arith, zero-mul k))
        above (suc w) k i g = omega arith

-- so pictures with the same sides and the same numbers are the same
pub raster_same : (d e : Shape) (f g : ℕ → ℕ → ℤ) → d.width ≡ e.width → d.height ≡ e.height →
    ((x y : ℕ) → x < d.width → y < d.height → f x y ≡ g x y) → raster d f ≡ raster e g
raster_same d e f g wide high same =
    raster_is e g (raster d f) (raster_length d f ∙ ap₂ ◌*◌ wide high)
    (λ x y h k.
    let l : x < d.width = rw wide h in
    let m : y < d.height = rw high k in
    rw (sym wide) (raster_at d f x y l m) ∙ same x y l m)

-- ---- the same picture in two lists
-- it has as many numbers in both
pub same_area : {d e : Shape} {k l : List ℤ} → SamePicture d k e l → area d ≡ area e
same_area s = ap₂ ◌*◌ s.wide s.high

-- a picture and the same copied out
pub copied_same : (d : Shape) (l : List ℤ) → SamePicture d l (packed d) (copied d l)
copied_same d l = record { wide = refl; high = refl; same = λ x y h g. sym (raster_at d (pixel d l) x y h g) }
