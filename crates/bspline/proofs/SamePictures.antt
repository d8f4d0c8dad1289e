-- The same picture in two slices, each with its description. The coefficients are made of the pixels alone, so both have the same. Hence numbers
-- between the rows are never used, and a picture that lies in a larger slice is transformed as if it had been copied out. Assumes nothing.
use mathlib.Core.Bool.{Bool, true, false, ◌||◌}
use mathlib.Core.List.{List}
use mathlib.Core.Path.{◌≡◌, refl, sym, ap, ◌∙◌}
use Prim.Native.Nat.{ℕ, ◌<◌}
use native.Mathlib.Omega.{arith}
use borrow.Author.Tests.{le-ltb}
use lib.Dec.{ltb}
use lib.IntN.{ℤ, pos, ◌*ℤ◌}
use lib.ListN.{length, take}
use Rattle.bspline.specs.Limits.{greatest_pitch}
use Rattle.bspline.specs.Lists.{at}
use Rattle.bspline.specs.Outcomes.{picture_transform}
use Rattle.bspline.specs.PictureLayout.{Shape, packed, extent, pixel, copied, SamePicture}
use Rattle.bspline.specs.Recursions.{coefficients}
use Rattle.bspline.specs.Refusals.{count, bad_sides, bad_pitch, bad_pixels}
use Rattle.bspline.specs.Transforms.{first_pass, second_pass, picture_coefficients}
use Rattle.bspline.proofs.Lines.{coefficients_same}
use Rattle.bspline.proofs.Operations.{picture_left}
use Rattle.bspline.proofs.PictureLayout.{raster_length, raster_same, packed_extent, same_area, copied_same}
use Rattle.bspline.proofs.Refusals.{sides_within}

-- a number of a picture after a pass: lines with the same data, brought to their unit, have the same coefficients
pass_same : (n m c : ℕ) (t u : ℕ → ℤ) → n ≡ m → ((k : ℕ) → k < n → t k ≡ u k) → (x : ℕ) → x < n →
    at (coefficients n (λ k. pos c *ℤ t k)) x ≡ at (coefficients m (λ k. pos c *ℤ u k)) x
pass_same n m c t u e same x h =
    ap (λ (C : List ℤ). at C x) (coefficients_same n _ _ (omega arith) (λ k l. ap (λ (v : ℤ). pos c *ℤ v) (same k l)))
    ∙ ap (λ (l : ℕ). at (coefficients l (λ k. pos c *ℤ u k)) x) e

module _ {d e : Shape} {p q : List ℤ} (s : SamePicture d p e q) where
  first_same : (x y : ℕ) → x < d.width → y < d.height → first_pass d p x y ≡ first_pass e q x y
  unfolding first_pass
  first_same x y h g =
      pass_same d.width e.width 65536 (λ k. pixel d p k y) (λ k. pixel e q k y) s.wide (λ k l. s.same k y l g) x h

  second_same : (x y : ℕ) → x < d.width → y < d.height → second_pass d p x y ≡ second_pass e q x y
  unfolding second_pass
  second_same x y h g =
      pass_same d.height e.height 16 (first_pass d p x) (first_pass e q x) s.high (λ k l. first_same x k h l) y g

  pub picture_coefficients_same : picture_coefficients d p ≡ picture_coefficients e q
  unfolding picture_coefficients
  picture_coefficients_same = raster_same d e (second_pass d p) (second_pass e q) s.wide s.high second_same

  -- where neither is refused for its pixels, or both are, the outcome is the same: the answer and every number of every buffer
  pub picture_transform_same : (buffer work : List ℤ) → bad_pixels d (length p) ≡ bad_pixels e (length q) →
      picture_transform d p buffer work ≡ picture_transform e q buffer work
  unfolding picture_transform
  picture_transform_same buffer work f = rw (f, picture_coefficients_same, s.wide, s.high)

  -- and accepted calls that have buffers of their own leave the same coefficients in them
  pub same_coefficients_left : (buffer work C W buffer' work' C' W' : List ℤ) (n n' : ℕ) →
      record { answer = count n; coefficients = C; work = W } ≡ picture_transform d p buffer work →
      record { answer = count n'; coefficients = C'; work = W' } ≡ picture_transform e q buffer' work' →
      (n' ≡ n) × (take n' C' ≡ take n C)
  same_coefficients_left buffer work C W buffer' work' C' W' n n' f f' =
      let t = picture_left d p buffer work C W n f in
      let t' = picture_left e q buffer' work' C' W' n' f' in
      (t'.1 ∙ sym (t.1 ∙ same_area s), t'.2 ∙ sym picture_coefficients_same ∙ sym t.2)

-- Numbers between the rows are never used: two slices that agree at the picture's pixels give the same outcome, if both are long enough to hold
-- the picture or neither is
pub between_rows_unused : (d : Shape) (p q buffer work : List ℤ) → ltb (length p) (extent d) ≡ ltb (length q) (extent d) →
    ((x y : ℕ) → x < d.width → y < d.height → pixel d p x y ≡ pixel d q x y) →
    picture_transform d p buffer work ≡ picture_transform d q buffer work
between_rows_unused d p q buffer work held same =
    picture_transform_same (record { wide = refl; high = refl; same = same }) buffer work (ap (λ b. bad_pitch d || b) held)

-- A picture that lies in a larger slice, at a pitch and in a slice that are not refused, and the same picture copied out, closely packed: the outcome is
-- the same. Where a side is refused, it is refused of both
pub copied_out : (d : Shape) (p buffer work : List ℤ) → bad_pixels d (length p) ≡ false →
    picture_transform d p buffer work ≡ picture_transform (packed d) (copied d p) buffer work
unfolding picture_transform
copied_out d p buffer work f = by_sides (bad_sides d) refl
  where
    fits : bad_sides d ≡ false → bad_pixels (packed d) (length (copied d p)) ≡ false
    fits e =
        let within = sides_within d e in
        rw (
          le-ltb d.width d.width (omega arith),
          le-ltb greatest_pitch d.width (omega (arith, within.0.1)),
          le-ltb (length (copied d p)) (extent (packed d)) (omega (arith, raster_length d (pixel d p), packed_extent d within.1.0)),
        )

    by_sides : (b : Bool) → bad_sides d ≡ b → picture_transform d p buffer work ≡ picture_transform (packed d) (copied d p) buffer work
    by_sides true e = rw e refl
    by_sides false e = picture_transform_same (copied_same d p) buffer work (f ∙ sym (fits e))
