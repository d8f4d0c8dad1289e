-- The law of negation about operations: what the two transforms leave of negated samples is the negation of what they leave of the samples, what row
-- value, row zoom, picture value and enlarging answer of negated coefficients is the opposite, and so negated samples have negated values. Each call may
-- have buffers of its own, and a negated picture its own slice and pitch. A call is refused exactly if the other is, where their buffers are as long
-- and neither or both are refused for their pixels. The laws hold for every list of whole numbers; a caller's samples are 16 bits wide, and have a
-- negation of that width if none is -32768. Assumes nothing.
use mathlib.Core.List.{List}
use mathlib.Core.Path.{◌≡◌, sym, ap, ◌∙◌}
use Prim.Native.Nat.{ℕ, max}
use lib.IntN.{ℤ, neg_ℤ}
use lib.ListN.{length, take, length-map}
use Rattle.bspline.specs.Limits.{work_words}
use Rattle.bspline.specs.Negation.{negated, opposite}
use Rattle.bspline.specs.Outcomes.{Transformed, Evaluated, refused, accepted, row_tests, row_transform, unevaluated, evaluated, zoom_tests, row_zoom, enlargement_tests, picture_enlargement, row_value_tests, row_value, picture_tests, picture_transform, picture_value_tests, picture_value}
use Rattle.bspline.specs.PictureLayout.{Shape, packed, area, SamePicture}
use Rattle.bspline.specs.Refusals.{count, value, refusal, Test, bad_pixels, judged}
use Rattle.bspline.specs.Transforms.{row_coefficients, picture_coefficients}
use Rattle.bspline.specs.Values.{Position, value_in_row, value_in_picture, zoom_count, zoom_values, enlarged, enlarged_values}
use Rattle.bspline.proofs.Negation.{row_coefficients_negated, picture_coefficients_negated, value_in_row_negated, value_in_picture_negated, zoom_values_negated, enlarged_values_negated}
use Rattle.bspline.proofs.Operations.{row_left, picture_left, zoom_left, enlargement_left}
use Rattle.bspline.proofs.PictureLayout.{same_area}
use Rattle.bspline.proofs.Refusals.{judged_map}
use Rattle.bspline.proofs.SamePictures.{picture_coefficients_same}

-- a list and its negation are as long
same_length : (l : List ℤ) → length (negated l) ≡ length l
same_length l = length-map l neg_ℤ

-- ---- the values: of negated coefficients the opposite is answered
pub row_value_negated : (m : ℕ) (c : List ℤ) (p : Position) → row_value m (negated c) p ≡ opposite (row_value m c p)
unfolding row_value
row_value_negated m c p =
    rw (same_length c, value_in_row_negated m c p) (sym (judged_map opposite (row_value_tests m c p) refusal (value (value_in_row m c p))))

-- and so of a picture
pub picture_value_negated : (m : ℕ) (d : Shape) (c : List ℤ) (px py : Position) → picture_value m d (negated c) px py ≡ opposite (picture_value m d c px py)
unfolding picture_value
picture_value_negated m d c px py =
    rw (same_length c, value_in_picture_negated m d c px py)
    (sym (judged_map opposite (picture_value_tests m d c px py) refusal (value (value_in_picture m d c px py))))

-- ---- row zoom and enlarging: two calls, each with a buffer of its own
-- the answer, by the tests alone
values_answer : (tests : List Test) (n : ℕ) (made buffer : List ℤ) →
    (judged tests (unevaluated buffer) (evaluated n made buffer)).answer ≡ judged tests refusal (count n)
values_answer tests n made buffer = judged_map (λ (o : Evaluated). o.answer) tests (unevaluated buffer) (evaluated n made buffer)

-- the values that the one lists are those of the other negated
pub row_zoom_negated : (m : ℕ) (c buffer vs buffer' vs' : List ℤ) (q q' : ℕ) →
    record { answer = count q; values = vs } ≡ row_zoom m c buffer →
    record { answer = count q'; values = vs' } ≡ row_zoom m (negated c) buffer' →
    (q' ≡ q) × (take q' vs' ≡ negated (take q vs))
row_zoom_negated m c buffer vs buffer' vs' q q' e e' =
    let t = zoom_left m c buffer vs q e in
    let t' = zoom_left m (negated c) buffer' vs' q' e' in
    (t'.2 ∙ ap (zoom_count m) (same_length c) ∙ sym t.2, t'.3 ∙ zoom_values_negated m c ∙ ap negated (sym t.3))

pub enlargement_negated : (m : ℕ) (d : Shape) (c buffer vs buffer' vs' : List ℤ) (q q' : ℕ) →
    record { answer = count q; values = vs } ≡ picture_enlargement m d c buffer →
    record { answer = count q'; values = vs' } ≡ picture_enlargement m d (negated c) buffer' →
    (q' ≡ q) × (take q' vs' ≡ negated (take q vs))
enlargement_negated m d c buffer vs buffer' vs' q q' e e' =
    let t = enlargement_left m d c buffer vs q e in
    let t' = enlargement_left m d (negated c) buffer' vs' q' e' in
    (t'.1 ∙ sym t.1, t'.2 ∙ enlarged_values_negated m d c ∙ ap negated (sym t.2))

-- in buffers of one length they answer the same, refusals too
pub row_zoom_alike : (m : ℕ) (c buffer buffer' : List ℤ) → length buffer' ≡ length buffer →
    (row_zoom m (negated c) buffer').answer ≡ (row_zoom m c buffer).answer
unfolding row_zoom
row_zoom_alike m c buffer buffer' e = answer (negated c) buffer' ∙ rw (same_length c, e) (sym (answer c buffer))
  where
    answer : (c buffer : List ℤ) → (row_zoom m c buffer).answer ≡ judged (zoom_tests m c buffer) refusal (count (zoom_count m (length c)))
    answer c buffer = values_answer (zoom_tests m c buffer) (zoom_count m (length c)) (zoom_values m c) buffer

pub enlargement_alike : (m : ℕ) (d : Shape) (c buffer buffer' : List ℤ) → length buffer' ≡ length buffer →
    (picture_enlargement m d (negated c) buffer').answer ≡ (picture_enlargement m d c buffer).answer
unfolding picture_enlargement
enlargement_alike m d c buffer buffer' e = answer (negated c) buffer' ∙ rw (same_length c, e) (sym (answer c buffer))
  where
    answer : (c buffer : List ℤ) →
        (picture_enlargement m d c buffer).answer ≡ judged (enlargement_tests m d c buffer) refusal (count (area (enlarged m d)))
    answer c buffer = values_answer (enlargement_tests m d c buffer) (area (enlarged m d)) (enlarged_values m d c) buffer

-- ---- the transforms: two calls likewise
-- the answer of a transform, by its tests alone
transform_answer : (tests : List Test) (n words : ℕ) (C buffer work : List ℤ) →
    (judged tests (refused buffer work) (accepted n C words buffer work)).answer ≡ judged tests refusal (count n)
transform_answer tests n words C buffer work = judged_map (λ (o : Transformed). o.answer) tests (refused buffer work) (accepted n C words buffer work)

-- in buffers of the same lengths a row and its negation are answered the same, refusals too
pub row_transform_alike : (s buffer work buffer' work' : List ℤ) → length buffer' ≡ length buffer → length work' ≡ length work →
    (row_transform (negated s) buffer' work').answer ≡ (row_transform s buffer work).answer
unfolding row_transform
row_transform_alike s buffer work buffer' work' e f =
    transform_answer (row_tests (negated s) buffer' work') (length (negated s)) (work_words (length (negated s))) (row_coefficients (negated s)) buffer' work'
    ∙ rw (same_length s, e, f) (sym (transform_answer (row_tests s buffer work) (length s) (work_words (length s)) (row_coefficients s) buffer work))

-- and so are a picture and its negation, which may lie in a slice of its own, by a description of its own: if both are refused for their pixels, or
-- neither is
pub picture_transform_alike : (d : Shape) (p : List ℤ) (e : Shape) (q buffer work buffer' work' : List ℤ) → SamePicture d (negated p) e q →
    bad_pixels e (length q) ≡ bad_pixels d (length p) → length buffer' ≡ length buffer → length work' ≡ length work →
    (picture_transform e q buffer' work').answer ≡ (picture_transform d p buffer work).answer
unfolding picture_transform
picture_transform_alike d p e q buffer work buffer' work' same b f g =
    transform_answer (picture_tests e q buffer' work') (area e) (work_words (max e.width e.height)) (picture_coefficients e q) buffer' work'
    ∙ rw (b, ← same.wide, ← same.high, f, g)
    (sym (transform_answer (picture_tests d p buffer work) (area d) (work_words (max d.width d.height)) (picture_coefficients d p) buffer work))

module _ (s buffer work C W buffer' work' C' W' : List ℤ) (n n' : ℕ)
    (taken : record { answer = count n; coefficients = C; work = W } ≡ row_transform s buffer work)
    (reversed : record { answer = count n'; coefficients = C'; work = W' } ≡ row_transform (negated s) buffer' work') where
  -- of the negated samples the negated coefficients are left, as many
  pub row_transform_negated : (n' ≡ n) × (take n' C' ≡ negated (take n C))
  row_transform_negated =
      let t = row_left s buffer work C W n taken in
      let t' = row_left (negated s) buffer' work' C' W' n' reversed in
      (t'.1 ∙ same_length s ∙ sym t.1, t'.2 ∙ row_coefficients_negated s ∙ ap negated (sym t.2))

  -- so at every position the opposite value is answered of them, or the same refusal
  pub reversed_row_value : (m : ℕ) (p : Position) → row_value m (take n' C') p ≡ opposite (row_value m (take n C) p)
  reversed_row_value m p = ap (λ c. row_value m c p) row_transform_negated.1 ∙ row_value_negated m (take n C) p

  -- and their zoom lists the negated values
  pub reversed_row_zoom : (m : ℕ) (values vs values' vs' : List ℤ) (q q' : ℕ) →
      record { answer = count q; values = vs } ≡ row_zoom m (take n C) values →
      record { answer = count q'; values = vs' } ≡ row_zoom m (take n' C') values' →
      (q' ≡ q) × (take q' vs' ≡ negated (take q vs))
  reversed_row_zoom m values vs values' vs' q q' e e' =
      row_zoom_negated m (take n C) values vs values' vs' q q' e (e' ∙ ap (λ c. row_zoom m c values') row_transform_negated.1)

-- the picture of the negated pixels may lie in a slice of its own, by a description of its own
module _ (d : Shape) (p : List ℤ) (e : Shape) (q buffer work C W buffer' work' C' W' : List ℤ) (n n' : ℕ) (same : SamePicture d (negated p) e q)
    (taken : record { answer = count n; coefficients = C; work = W } ≡ picture_transform d p buffer work)
    (reversed : record { answer = count n'; coefficients = C'; work = W' } ≡ picture_transform e q buffer' work') where
  -- of the negated pixels the negated coefficients are left, as many
  pub picture_transform_negated : (n' ≡ n) × (take n' C' ≡ negated (take n C))
  picture_transform_negated =
      let t = picture_left d p buffer work C W n taken in
      let t' = picture_left e q buffer' work' C' W' n' reversed in (
        t'.1 ∙ sym (t.1 ∙ same_area same),
        t'.2 ∙ sym (picture_coefficients_same same) ∙ picture_coefficients_negated d p ∙ ap negated (sym t.2),
      )

  -- so at every two positions the opposite value is answered of them, or the same refusal
  pub reversed_picture_value : (m : ℕ) (px py : Position) →
      picture_value m (packed d) (take n' C') px py ≡ opposite (picture_value m (packed d) (take n C) px py)
  reversed_picture_value m px py =
      ap (λ c. picture_value m (packed d) c px py) picture_transform_negated.1 ∙ picture_value_negated m (packed d) (take n C) px py

  -- and the enlarged picture has the negated values
  pub reversed_enlargement : (m : ℕ) (values vs values' vs' : List ℤ) (i i' : ℕ) →
      record { answer = count i; values = vs } ≡ picture_enlargement m (packed d) (take n C) values →
      record { answer = count i'; values = vs' } ≡ picture_enlargement m (packed d) (take n' C') values' →
      (i' ≡ i) × (take i' vs' ≡ negated (take i vs))
  reversed_enlargement m values vs values' vs' i i' f f' =
      enlargement_negated m (packed d) (take n C) values vs values' vs' i i' f
      (f' ∙ ap (λ c. picture_enlargement m (packed d) c values') picture_transform_negated.1)
