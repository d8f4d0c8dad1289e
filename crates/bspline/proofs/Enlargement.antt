-- The values of an enlarged picture: how many there are, which stands where, and that those of one row are the zoom of a row of sums along columns,
-- over the divisor of pictures; and what enlarging answers of too many values or too short a buffer. Assumes nothing.
use mathlib.Core.List.{List, [], ◌∷◌}
use mathlib.Core.Path.{◌≡◌, sym, ap, ◌∙◌}
use Prim.Native.Nat.{ℕ, ◌+◌, ◌-◌, ◌*◌, ◌^◌, ◌≤◌, ◌<◌}
use borrow.Author.Tests.{lt-ltb, le-ltb}
use lib.Dec.{ltb}
use lib.IntN.{ℤ}
use lib.ListN.{length}
use Rattle.integers.specs.Rounding.{round}
use Rattle.bspline.specs.Limits.{most_enlarged}
use Rattle.bspline.specs.Outcomes.{unevaluated, evaluated, picture_enlargement}
use Rattle.bspline.specs.PictureLayout.{Shape, area, pixel}
use Rattle.bspline.specs.Refusals.{refusal_3, refusal_4_coefficients, refusal_7, refusal_9, refusal_16}
use Rattle.bspline.specs.Values.{Position, weights, support, dot, row_sum, value_in_picture, zoom_position, enlarged, enlarged_values}
use Rattle.bspline.proofs.PictureLayout.{raster_length, raster_at}
use Rattle.bspline.proofs.Refusals.{Passed, judged_skipped, judged_refused, judged_passed}
use Rattle.bspline.proofs.Weights.{picture_sum_rows, sums_exchanged}

pub enlarged_length : (m : ℕ) (d : Shape) (c : List ℤ) → length (enlarged_values m d c) ≡ area (enlarged m d)
unfolding enlarged_values
enlarged_length m d c = raster_length (enlarged m d) _

pub enlarged_at : (m : ℕ) (d : Shape) (c : List ℤ) (x y : ℕ) → x < (enlarged m d).width → y < (enlarged m d).height →
    pixel (enlarged m d) (enlarged_values m d c) x y ≡ value_in_picture m d c (zoom_position m x) (zoom_position m y)
unfolding enlarged_values
enlarged_at m d c x y h g = raster_at (enlarged m d) _ x y h g

-- a picture value is rounded from the sum along a row of sums along columns, with the weights of the one side on those of the other
pub value_of_columns : (m : ℕ) (d : Shape) (c : List ℤ) (px py : Position) →
    round (row_sum m d.width (λ x. dot (weights m py.j) (support d.height (pixel d c x) py.k)) px) (576 * m ^ 6)
    ≡ value_in_picture m d c px py
unfolding value_in_picture row_sum
value_of_columns m d c px py =
    ap (λ (s : ℤ). round s (576 * m ^ 6)) (sym (picture_sum_rows m d (pixel d c) px py ∙ sums_exchanged m d.width d.height (pixel d c) px py))

-- what is answered where no test before 16 refuses, by how many values there are and how many the buffer holds
pub enlargement_number : (m : ℕ) (d : Shape) (c buffer : List ℤ) → Passed (refusal_3 d ∷ refusal_4_coefficients d c ∷ refusal_7 m ∷ []) →
    let n = ((d.width - 1) * m + 1) * ((d.height - 1) * m + 1) in
    (1048576 < n → picture_enlargement m d c buffer ≡ unevaluated buffer 16)
    × (n ≤ 1048576 → length buffer < n → picture_enlargement m d c buffer ≡ unevaluated buffer 9)
    × (n ≤ 1048576 → n ≤ length buffer → picture_enlargement m d c buffer ≡ evaluated n (enlarged_values m d c) buffer)
unfolding picture_enlargement
enlargement_number m d c buffer t =
    let n = area (enlarged m d) in
    let many = refusal_16 n in
    let short = refusal_9 n buffer in
    let result = evaluated n (enlarged_values m d c) buffer in
    let left = judged_skipped (refusal_3 d ∷ refusal_4_coefficients d c ∷ refusal_7 m ∷ []) (many ∷ short ∷ []) (unevaluated buffer) result t in (
      λ h. left ∙ judged_refused [] 16 (ltb most_enlarged n) (short ∷ []) (unevaluated buffer) result tt (lt-ltb most_enlarged n h),
      λ h g. left ∙ judged_refused (many ∷ []) 9 (ltb (length buffer) n) [] (unevaluated buffer) result (le-ltb most_enlarged n h, tt) (lt-ltb (length buffer) n g),
      λ h g. left ∙ judged_passed (many ∷ short ∷ []) (unevaluated buffer) result (le-ltb most_enlarged n h, (le-ltb (length buffer) n g, tt)),
    )
