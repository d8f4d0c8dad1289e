-- Demands 2 and 3 of values, about operations: what row value, row zoom and picture value answer of the coefficients that an accepted transform
-- leaves, in a buffer of whatever length. From the two clauses of the transform's contract: the outcome, which tells the count and that the
-- coefficients begin the buffer, and the accuracy, from which the values' distances and the return of the samples follow. Assumes nothing.
use mathlib.Core.Bool.{false}
use mathlib.Core.List.{List}
use mathlib.Core.Path.{◌≡◌, refl, sym, ap, ap₂, ◌∙◌}
use Prim.Native.Nat.{ℕ, max, ◌+◌, ◌-◌, ◌*◌, ◌≤◌, ◌<◌}
use native.Mathlib.Nat.{mod-lt, mul-le-mul_right, div-add-mod'}
use native.Mathlib.Omega.{arith}
use borrow.Author.Tests.{ltb-false, eqb-false, ne_eqb, eq-eqb, le-ltb}
use lib.IntN.{ℤ, pos, ◌*ℤ◌}
use lib.ListN.{length, take, drop, length-append}
use lib.Seq.{get_or-take, take_at}
use Rattle.bspline.specs.Exact.{RowAccurate, PictureAccurate}
use Rattle.bspline.specs.Limits.{longest_row, greatest_factor, work_words}
use Rattle.bspline.specs.Lists.{at}
use Rattle.bspline.specs.Outcomes.{Transformed, Evaluated, refused, accepted, row_tests, row_transform, unevaluated, evaluated, zoom_tests, row_zoom, enlargement_tests, picture_enlargement, row_value_tests, row_value, picture_tests, picture_transform, picture_value_tests, picture_value}
use Rattle.bspline.specs.PictureLayout.{Shape, packed, area, place, pixel}
use Rattle.bspline.specs.Refusals.{Answer, count, value, refusal, Test, bad_sides, judged}
use Rattle.bspline.specs.Transforms.{row_coefficients, picture_coefficients}
use Rattle.bspline.specs.Values.{Position, zoom_position, zoom_count, zoom_values, enlarged, enlarged_values, value_in_row, value_in_picture, RowValueAccurate, PictureValueAccurate}
use Rattle.bspline.proofs.Enlargement.{enlarged_length, enlarged_at}
use Rattle.bspline.proofs.Lists.{tabulate_from_zero}
use Rattle.bspline.proofs.OffData.{past_end_beyond, row_value_number, picture_value_number}
use Rattle.bspline.proofs.PictureLayout.{place_below}
use Rattle.bspline.proofs.Refusals.{Passed, judged_accepted, one_to, inside, sides_within, numerator_below}
use Rattle.bspline.proofs.Transforms.{row_length, picture_length}
use Rattle.bspline.proofs.Zoom.{position_at_sample, zoom_length}
use Rattle.bspline.proofs.Values.{row_value_accurate, sample_returns, picture_value_accurate, pixel_returns}

-- a sample's place, in steps of the factor, is not behind the last one's
sample_within : (m n k : ℕ) → k < n → k * m + 0 ≤ (n - 1) * m
sample_within m n k h = let l : k ≤ n - 1 = omega arith in omega (arith, mul-le-mul_right m l)

-- ---- what an accepted call leaves
-- a transform that answers a count n has made so many numbers, no test's condition holds, and the numbers begin the buffer
transform_taken : (tests : List Test) (q words : ℕ) (made buffer work C W : List ℤ) (n : ℕ) → length made ≡ q →
    record { answer = count n; coefficients = C; work = W } ≡ judged tests (refused buffer work) (accepted q made words buffer work) →
    Passed tests × (n ≡ q) × (take n C ≡ made) × (n ≤ length C)
transform_taken tests q words made buffer work C W n l e =
    let never : (k : ℕ) → refusal k ≡ count n → ⊥ = λ k f. let z : ◌≡◌ {A = ℕ} 0 1 = cc in omega arith in
    let t = judged_accepted (λ (o : Transformed). o.answer) tests (refused buffer work) (accepted q made words buffer work) _ never e in
    let same : n ≡ q = let f = ap (λ (o : Transformed). o.answer) t.1 in cc in
    let rest = drop (length made) buffer in (
      t.0,
      same,
      ap (λ (o : Transformed). take n o.coefficients) t.1 ∙ take_at made rest n (l ∙ sym same),
      omega (arith, same, l, ap (λ (o : Transformed). length o.coefficients) t.1, length-append made rest),
    )

-- an answer that is a value is that of the accepted call, and no test's condition holds
value_taken : (tests : List Test) (v w : ℤ) → judged tests refusal (value w) ≡ value v → Passed tests × (v ≡ w)
value_taken tests v w e =
    let never : (k : ℕ) → refusal k ≡ value v → ⊥ = λ k f. let z : ◌≡◌ {A = ℕ} 0 1 = cc in omega arith in
    let t = judged_accepted (λ (a : Answer). a) tests refusal (value w) (value v) never (sym e) in
    (t.0, let f = t.1 in cc)

-- where row value answers a value the numerator is below the factor, and k + j/m at most n - 1
pub row_value_on : (m : ℕ) (c : List ℤ) (p : Position) (v : ℤ) → row_value m c p ≡ value v → (p.j < m) × (p.k * m + p.j ≤ (length c - 1) * m)
unfolding row_value
row_value_on m c p v e =
    let t = (value_taken (row_value_tests m c p) v (value_in_row m c p) e).0 in
    let below = numerator_below m p t.1.1.1.0 in
    (below, ltb-false _ _ (sym (past_end_beyond m (length c) p below) ∙ t.1.1.1.1.0))

-- row zoom or enlarging that answers a count n has made so many values, no test's condition holds, and the values begin the buffer
values_taken : (tests : List Test) (q : ℕ) (made buffer vs : List ℤ) (n : ℕ) → length made ≡ q →
    record { answer = count n; values = vs } ≡ judged tests (unevaluated buffer) (evaluated q made buffer) →
    Passed tests × (n ≡ q) × (take n vs ≡ made)
values_taken tests q made buffer vs n l e =
    let never : (k : ℕ) → refusal k ≡ count n → ⊥ = λ k f. let z : ◌≡◌ {A = ℕ} 0 1 = cc in omega arith in
    let t = judged_accepted (λ (o : Evaluated). o.answer) tests (unevaluated buffer) (evaluated q made buffer) _ never e in
    let same : n ≡ q = let f = ap (λ (o : Evaluated). o.answer) t.1 in cc in
    (t.0, same, ap (λ (o : Evaluated). take n o.values) t.1 ∙ take_at made _ n (l ∙ sym same))

-- row zoom: at a factor in range
pub zoom_left : (m : ℕ) (c buffer vs : List ℤ) (q : ℕ) → record { answer = count q; values = vs } ≡ row_zoom m c buffer →
    (0 < m) × (m ≤ greatest_factor) × (q ≡ zoom_count m (length c)) × (take q vs ≡ zoom_values m c)
unfolding row_zoom
zoom_left m c buffer vs q e =
    let t = values_taken (zoom_tests m c buffer) (zoom_count m (length c)) (zoom_values m c) buffer vs q (zoom_length m c) e in
    let range = one_to greatest_factor m t.0.1.1.0 in
    (range.0, range.1, t.1, t.2)

-- the value that it leaves at place i is what row value answers at i/m
pub row_zoom_values : (m : ℕ) (c buffer vs : List ℤ) (q : ℕ) → record { answer = count q; values = vs } ≡ row_zoom m c buffer →
    (i : ℕ) → i < q → row_value m c (zoom_position m i) ≡ value (at vs i)
unfolding row_zoom zoom_values
row_zoom_values m c buffer vs q e i h =
    let count = zoom_count m (length c) in
    let t = (values_taken (zoom_tests m c buffer) count (zoom_values m c) buffer vs q (zoom_length m c) e).0 in
    let z = zoom_left m c buffer vs q e in
    (row_value_number m c (zoom_position m i) (t.0, (t.1.0, (inside greatest_factor m z.0 z.1, tt)))).2
    (mod-lt i z.0) (omega (arith, div-add-mod' i m, z.2))
    ∙ ap value (sym (tabulate_from_zero _ count i (omega (arith, z.2))) ∙ ap (λ l. at l i) (sym z.3) ∙ get_or-take q vs i (pos 0) h)

-- enlarging: the same, of a picture that is closely packed and whose sides are in range
pub enlargement_left : (m : ℕ) (d : Shape) (c buffer vs : List ℤ) (q : ℕ) → record { answer = count q; values = vs } ≡ picture_enlargement m d c buffer →
    Passed (enlargement_tests m d c buffer) × (q ≡ area (enlarged m d)) × (take q vs ≡ enlarged_values m d c)
unfolding picture_enlargement
enlargement_left m d c buffer vs q e =
    values_taken (enlargement_tests m d c buffer) (area (enlarged m d)) (enlarged_values m d c) buffer vs q (enlarged_length m d c) e

-- the value that it leaves in column x and row y is the one at x/m and y/m
enlarged_value : (m : ℕ) (d : Shape) (c buffer vs : List ℤ) (q : ℕ) → record { answer = count q; values = vs } ≡ picture_enlargement m d c buffer →
    (x y : ℕ) → x < (enlarged m d).width → y < (enlarged m d).height →
    pixel (enlarged m d) vs x y ≡ value_in_picture m d c (zoom_position m x) (zoom_position m y)
enlarged_value m d c buffer vs q e x y h g =
    let t = enlargement_left m d c buffer vs q e in
    sym (get_or-take q vs (place (enlarged m d) x y) (pos 0) (omega (arith, t.1, place_below (enlarged m d) x y h g)))
    ∙ ap (λ l. pixel (enlarged m d) l x y) t.2
    ∙ enlarged_at m d c x y h g

-- and so what picture value answers there
pub enlargement_values : (m : ℕ) (d : Shape) (c buffer vs : List ℤ) (q : ℕ) → record { answer = count q; values = vs } ≡ picture_enlargement m d c buffer →
    (x y : ℕ) → x < (enlarged m d).width → y < (enlarged m d).height →
    picture_value m d c (zoom_position m x) (zoom_position m y) ≡ value (pixel (enlarged m d) vs x y)
enlargement_values m d c buffer vs q e x y h g =
    let t = (enlargement_left m d c buffer vs q e).0 in
    let some = (one_to greatest_factor m t.1.1.0).0 in
    (picture_value_number m d c (zoom_position m x) (zoom_position m y) (t.0, (t.1.0, (t.1.1.0, tt)))).4
    (mod-lt x some) (mod-lt y some) (omega (arith, div-add-mod' x m)) (omega (arith, div-add-mod' y m))
    ∙ ap value (sym (enlarged_value m d c buffer vs q e x y h g))

-- ---- rows
-- what the transform leaves where it answers a count
pub row_left : (s buffer work C W : List ℤ) (n : ℕ) → record { answer = count n; coefficients = C; work = W } ≡ row_transform s buffer work →
    Passed (row_tests s buffer work) × (n ≡ length s) × (take n C ≡ row_coefficients s) × (n ≤ length C)
unfolding row_transform
row_left s buffer work C W n e =
    transform_taken (row_tests s buffer work) (length s) (work_words (length s)) (row_coefficients s) buffer work C W n (row_length s) e

-- a row of n samples was taken, and the coefficients of it that are in the buffer are accurate
pub record RowTaken (s C : List ℤ) (n : ℕ) : Type 0 where
  pub count : n ≡ length s
  pub some : 0 < n
  pub short : n ≤ longest_row
  pub room : n ≤ length C
  pub begins : take n C ≡ row_coefficients s
  pub accurate : RowAccurate s C

-- from the two clauses of the row transform
pub row_taken : (s buffer work C W : List ℤ) (n : ℕ) →
    record { answer = count n; coefficients = C; work = W } ≡ row_transform s buffer work → RowAccurate s C → RowTaken s C n
row_taken s buffer work C W n e a =
    let t = row_left s buffer work C W n e in
    record {
      count = t.1;
      some = omega (arith, eqb-false (length s) 0 t.0.0);
      short = omega (arith, ltb-false longest_row (length s) t.0.1.0);
      room = t.3;
      begins = t.2;
      accurate = a;
    }

module _ (s C : List ℤ) (n : ℕ) (taken : RowTaken s C n) where
  -- the n numbers are as many as the samples, and as accurate as in the whole buffer
  pub taken_length : length (take n C) ≡ length s
  taken_length = ap length taken.begins ∙ row_length s

  near : RowAccurate s (take n C)
  near = record { accurate = λ c solves k h. rw (get_or-take n C k (pos 0) (omega (arith, taken.count))) (taken.accurate.accurate c solves k h) }

  -- whatever value row value answers of them is within 19/32
  pub row_value_near : (m : ℕ) (p : Position) (v : ℤ) → row_value m (take n C) p ≡ value v → RowValueAccurate m s p v
  unfolding row_value
  row_value_near m p v e =
      let t = value_taken (row_value_tests m (take n C) p) v (value_in_row m (take n C) p) e in
      let factor = one_to greatest_factor m t.0.1.1.0 in
      let below = numerator_below m p t.0.1.1.1.0 in
      rw t.1 (row_value_accurate m factor.0 s (take n C) p (omega (arith, below)) (omega (arith, taken.some, taken.count)) taken_length near)

  -- and at a sample it answers 256 times the sample
  pub row_value_returns : (m k : ℕ) → 0 < m → m ≤ greatest_factor → k < n → row_value m (take n C) (record { k = k; j = 0 }) ≡ value (pos 256 *ℤ at s k)
  row_value_returns m k some small below =
      let l = take n C in
      (row_value_number m l (record { k = k; j = 0 }) (
        ne_eqb (length l) 0 (λ e. omega (arith, taken_length, taken.some, taken.count)),
        (le-ltb longest_row (length l) (omega (arith, taken_length, taken.short, taken.count)), (inside greatest_factor m some small, tt)),
      )).2 some (sample_within m (length l) k (omega (arith, taken_length, taken.count)))
      ∙ ap value (sample_returns m some s l taken_length near k (omega (arith, taken.count)))

  -- every value that row zoom lists of them is within 19/32
  pub row_zoom_near : (m : ℕ) (buffer vs : List ℤ) (q : ℕ) → record { answer = count q; values = vs } ≡ row_zoom m (take n C) buffer →
      (i : ℕ) → i < q → RowValueAccurate m s (zoom_position m i) (at vs i)
  row_zoom_near m buffer vs q e i h = row_value_near m (zoom_position m i) (at vs i) (row_zoom_values m (take n C) buffer vs q e i h)

  -- and the one at the place of a sample is 256 times the sample
  pub row_zoom_returns : (m : ℕ) (buffer vs : List ℤ) (q : ℕ) → record { answer = count q; values = vs } ≡ row_zoom m (take n C) buffer →
      (k : ℕ) → k < n → at vs (k * m) ≡ pos 256 *ℤ at s k
  row_zoom_returns m buffer vs q e k h =
      let l = take n C in
      let t = zoom_left m l buffer vs q e in
      let listed = row_zoom_values m l buffer vs q e (k * m) (omega (arith, t.2, sample_within m (length l) k (omega (arith, taken_length, taken.count)))) in
      let same = sym listed ∙ ap (row_value m l) (position_at_sample m k t.0) ∙ row_value_returns m k t.0 t.1 h in
      cc

-- ---- pictures
-- what the transform leaves where it answers a count
pub picture_left : (d : Shape) (p buffer work C W : List ℤ) (n : ℕ) →
    record { answer = count n; coefficients = C; work = W } ≡ picture_transform d p buffer work →
    Passed (picture_tests d p buffer work) × (n ≡ area d) × (take n C ≡ picture_coefficients d p) × (n ≤ length C)
unfolding picture_transform
picture_left d p buffer work C W n e =
    transform_taken (picture_tests d p buffer work) (area d) (work_words (max d.width d.height)) (picture_coefficients d p) buffer work C W n
    (picture_length d p) e

-- a picture of n pixels was taken, and the coefficients of it that are in the buffer are accurate
pub record PictureTaken (d : Shape) (p C : List ℤ) (n : ℕ) : Type 0 where
  pub count : n ≡ area d
  pub sides : bad_sides d ≡ false
  pub room : n ≤ length C
  pub begins : take n C ≡ picture_coefficients d p
  pub accurate : PictureAccurate d p C

-- from the two clauses of the picture transform
pub picture_taken : (d : Shape) (p buffer work C W : List ℤ) (n : ℕ) →
    record { answer = count n; coefficients = C; work = W } ≡ picture_transform d p buffer work → PictureAccurate d p C → PictureTaken d p C n
picture_taken d p buffer work C W n e a =
    let t = picture_left d p buffer work C W n e in
    record { count = t.1; sides = t.0.0; room = t.3; begins = t.2; accurate = a }

module _ (d : Shape) (p C : List ℤ) (n : ℕ) (taken : PictureTaken d p C n) where
  -- neither side is 0
  wide : 0 < d.width
  wide = (sides_within d taken.sides).0.0

  high : 0 < d.height
  high = (sides_within d taken.sides).1.0

  -- the numbers are as many as the pixels, and as accurate as in the whole buffer
  full : length (take n C) ≡ area d
  full = ap length taken.begins ∙ picture_length d p

  close : PictureAccurate d p (take n C)
  close = record {
    accurate = λ c solves x y h g.
        rw (get_or-take n C (place (packed d) x y) (pos 0) (omega (arith, taken.count, place_below d x y h g))) (taken.accurate.accurate c solves x y h g);
  }

  -- whatever value picture value answers of them is within 15/16
  pub picture_value_near : (m : ℕ) (px py : Position) (v : ℤ) →
      picture_value m (packed d) (take n C) px py ≡ value v → PictureValueAccurate m d p px py v
  unfolding picture_value
  picture_value_near m px py v e =
      let t = value_taken (picture_value_tests m (packed d) (take n C) px py) v (value_in_picture m (packed d) (take n C) px py) e in
      let factor = one_to greatest_factor m t.0.1.1.0 in
      let along = numerator_below m px t.0.1.1.1.0 in
      let down = numerator_below m py t.0.1.1.1.1.0 in
      rw t.1
      (picture_value_accurate m factor.0 d p (take n C) px py (omega (arith, along)) (omega (arith, down)) wide high close)

  -- and at a pixel it answers 256 times the pixel
  pub picture_value_returns : (m x y : ℕ) → 0 < m → m ≤ greatest_factor → x < d.width → y < d.height →
      picture_value m (packed d) (take n C) (record { k = x; j = 0 }) (record { k = y; j = 0 }) ≡ value (pos 256 *ℤ pixel d p x y)
  picture_value_returns m x y some small left above =
      (picture_value_number m (packed d) (take n C) (record { k = x; j = 0 }) (record { k = y; j = 0 }) (
        taken.sides,
        (rw (eq-eqb d.width d.width refl, eq-eqb (length (take n C)) (area d) full) refl, (inside greatest_factor m some small, tt)),
      )).4 some some (sample_within m d.width x left) (sample_within m d.height y above)
      ∙ ap value (pixel_returns m some d p (take n C) close x y left above)

  -- every value that enlarging leaves of them is within 15/16
  pub enlargement_near : (m : ℕ) (buffer vs : List ℤ) (q : ℕ) → record { answer = count q; values = vs } ≡ picture_enlargement m (packed d) (take n C) buffer →
      (x y : ℕ) → x < (enlarged m d).width → y < (enlarged m d).height →
      PictureValueAccurate m d p (zoom_position m x) (zoom_position m y) (pixel (enlarged m d) vs x y)
  enlargement_near m buffer vs q e x y h g =
      picture_value_near m (zoom_position m x) (zoom_position m y) _ (enlargement_values m (packed d) (take n C) buffer vs q e x y h g)

  -- and the one at the place of a pixel is 256 times the pixel
  pub enlargement_returns : (m : ℕ) (buffer vs : List ℤ) (q : ℕ) → record { answer = count q; values = vs } ≡ picture_enlargement m (packed d) (take n C) buffer →
      (x y : ℕ) → x < d.width → y < d.height → pixel (enlarged m d) vs (x * m) (y * m) ≡ pos 256 *ℤ pixel d p x y
  enlargement_returns m buffer vs q e x y left above =
      let some = (one_to greatest_factor m (enlargement_left m (packed d) (take n C) buffer vs q e).0.1.1.0).0 in
      let across = sample_within m d.width x left in
      let down = sample_within m d.height y above in
      enlarged_value m (packed d) (take n C) buffer vs q e (x * m) (y * m) (omega (arith, across)) (omega (arith, down))
      ∙ ap₂ (value_in_picture m (packed d) (take n C)) (position_at_sample m x some) (position_at_sample m y some)
      ∙ pixel_returns m some d p (take n C) close x y left above
