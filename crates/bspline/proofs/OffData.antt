-- Refusals 8, 14 and 15 together refuse the positions off the data, and no others: by their conditions, and by what row value and picture value
-- answer. Where the numerator is below the factor, past the end means that k + j/m is greater than n - 1; and so it is said which of the three is
-- answered, where no test before them refuses. Assumes nothing.
use mathlib.Core.Bool.{Bool, true, false, ◌||◌, or_assoc, or_comm, or-true}
use mathlib.Core.List.{List, [], ◌∷◌, ◌++◌, map}
use mathlib.Core.Path.{◌≡◌, refl, sym, ap, ◌∙◌}
use Prim.Native.Nat.{ℕ, ◌+◌, ◌-◌, ◌*◌, ◌≤◌, ◌<◌}
use native.Mathlib.Decide.{dec_le, ℕ_discrete}
use native.Mathlib.Nat.{suc-mul, mul-le-mul_right, lt_of_not-le}
use native.Mathlib.Omega.{arith}
use borrow.Author.Tests.{lt-ltb, le-ltb, le-leb, lt-leb, eq-eqb, ne_eqb}
use lib.Dec.{leb, ltb}
use lib.IntN.{ℤ}
use lib.ListN.{length}
use Rattle.bspline.specs.Limits.{longest_row}
use Rattle.bspline.specs.OffData.{off_data, as_one, undivided}
use Rattle.bspline.specs.Outcomes.{row_value_tests, row_value, position_tests, picture_value_tests, picture_value}
use Rattle.bspline.specs.PictureLayout.{Shape}
use Rattle.bspline.specs.Refusals.{value, refusal, Test, ◌when◌, bad_numerator, past_end, refusal_1, refusal_2, refusal_3, refusal_4_coefficients, refusal_7, refusal_8, refusal_14, refusal_15, judged}
use Rattle.bspline.specs.Values.{Position, value_in_row, value_in_picture}
use Rattle.bspline.proofs.Refusals.{Passed, judged_skipped, judged_passed, judged_refused, judged_after, judged_joined}

-- ---- the conditions
-- of a row, the condition of 8 or of 14 holds exactly if the position is off the data
pub row_positions : (m n : ℕ) (p : Position) → (bad_numerator m p || past_end n p) ≡ off_data m n p
row_positions m n p = sym (or_assoc (leb m p.j) (ltb (n - 1) p.k) _)

-- of a picture, the condition of 8, 14 or 15 exactly if the position is off the data along either side
pub picture_positions : (m w h : ℕ) (px py : Position) →
    (bad_numerator m px || bad_numerator m py || past_end w px || past_end h py) ≡ (off_data m w px || off_data m h py)
picture_positions m w h px py =
    regrouped (bad_numerator m px) (bad_numerator m py) (past_end w px) (past_end h py)
    ∙ rw (row_positions m w px, row_positions m h py) refl
  where
    regrouped : (a b c d : Bool) → (a || b || c || d) ≡ (a || c || (b || d))
    regrouped true b c d = refl
    regrouped false b c d = ap (λ (x : Bool). x || d) (or_comm b c) ∙ or_assoc c b d

-- past the end, with a good numerator, means beyond: k + j/m is greater than n - 1
pub past_end_beyond : (m n : ℕ) (p : Position) → p.j < m → past_end n p ≡ ltb ((n - 1) * m) (p.k * m + p.j)
past_end_beyond m n p below = go (dec_le p.k (n - 1)) (ℕ_discrete p.k (n - 1)) (dec_le p.j 0)
  where
    go : Dec (p.k ≤ n - 1) → Dec (p.k ≡ n - 1) → Dec (p.j ≤ 0) → past_end n p ≡ ltb ((n - 1) * m) (p.k * m + p.j)
    go (no l) e z =
        let more : (n - 1) * m < p.k * m + p.j = omega (arith, suc-mul (n - 1) m, mul-le-mul_right m (lt_of_not-le l)) in
        rw (lt-ltb (n - 1) p.k (lt_of_not-le l), lt-ltb _ _ more) refl
    go (yes l) (no e) z =
        let less : p.k * m + p.j ≤ (n - 1) * m = let h : p.k < n - 1 = omega arith in omega (arith, suc-mul p.k m, mul-le-mul_right m h) in
        rw (le-ltb (n - 1) p.k l, ne_eqb p.k (n - 1) e, le-ltb _ _ less) refl
    go (yes l) (yes e) (no z) =
        let more : (n - 1) * m < p.k * m + p.j = rw e (omega (arith, z)) in
        rw (le-ltb (n - 1) p.k l, eq-eqb p.k (n - 1) e, lt-ltb 0 p.j (omega (arith, z)), lt-ltb _ _ more) refl
    go (yes l) (yes e) (yes z) =
        let less : p.k * m + p.j ≤ (n - 1) * m = rw e (omega (arith, z)) in
        rw (le-ltb (n - 1) p.k l, eq-eqb p.k (n - 1) e, le-ltb 0 p.j z, le-ltb _ _ less) refl

-- ---- the answers
-- what tests decide, with 14 and 15 read as 8, is what the tests so numbered decide
abbrev numbered : Test → Test
numbered (k when c) = as_one k when c

undivided_judged : (tests : List Test) (v : ℤ) → undivided (judged tests refusal (value v)) ≡ judged (map numbered tests) refusal (value v)
undivided_judged [] v = refl
undivided_judged ((k when true) ∷ tests) v = refl
undivided_judged ((k when false) ∷ tests) v = undivided_judged tests v

-- so row value, with one number for positions off the data, tests 1, 2, 7 and that number
pub row_value_undivided : (m : ℕ) (c : List ℤ) (p : Position) → undivided (row_value m c p)
    ≡ judged (refusal_1 (length c) ∷ refusal_2 longest_row (length c) ∷ refusal_7 m ∷ (8 when off_data m (length c) p) ∷ []) refusal (value (value_in_row m c p))
unfolding row_value
row_value_undivided m c p =
    let bad = bad_numerator m p in
    let past = past_end (length c) p in
    let result = value (value_in_row m c p) in
    undivided_judged (row_value_tests m c p) (value_in_row m c p)
    ∙ judged_after (refusal_1 (length c) ∷ refusal_2 longest_row (length c) ∷ refusal_7 m ∷ [])
    ((8 when bad) ∷ (8 when past) ∷ []) ((8 when off_data m (length c) p) ∷ []) refusal result
    (judged_joined 8 bad past [] refusal result
    ∙ ap (λ (b : Bool). judged ((8 when b) ∷ []) refusal result) (row_positions m (length c) p))

-- and picture value 3, 4, 7 and that number
pub picture_value_undivided : (m : ℕ) (d : Shape) (c : List ℤ) (px py : Position) → undivided (picture_value m d c px py)
    ≡ judged (refusal_3 d ∷ refusal_4_coefficients d c ∷ refusal_7 m ∷ (8 when (off_data m d.width px || off_data m d.height py)) ∷ []) refusal
    (value (value_in_picture m d c px py))
unfolding picture_value
picture_value_undivided m d c px py =
    let along = bad_numerator m px in
    let down = bad_numerator m py in
    let right = past_end d.width px in
    let bottom = past_end d.height py in
    let result = value (value_in_picture m d c px py) in
    undivided_judged (picture_value_tests m d c px py) (value_in_picture m d c px py)
    ∙ judged_after (refusal_3 d ∷ refusal_4_coefficients d c ∷ refusal_7 m ∷ [])
    ((8 when along) ∷ (8 when down) ∷ (8 when right) ∷ (8 when bottom) ∷ [])
    ((8 when (off_data m d.width px || off_data m d.height py)) ∷ []) refusal result
    (judged_joined 8 along down ((8 when right) ∷ (8 when bottom) ∷ []) refusal result
    ∙ judged_joined 8 (along || down) right ((8 when bottom) ∷ []) refusal result
    ∙ judged_joined 8 (along || down || right) bottom [] refusal result
    ∙ ap (λ (b : Bool). judged ((8 when b) ∷ []) refusal result) (picture_positions m d.width d.height px py))

-- ---- which number is answered, where no test before 8 refuses
-- a place past the end, and one that is not
past : (m n : ℕ) (p : Position) → p.j < m → (n - 1) * m < p.k * m + p.j → past_end n p ≡ true
past m n p below h = past_end_beyond m n p below ∙ lt-ltb _ _ h

not_past : (m n : ℕ) (p : Position) → p.j < m → p.k * m + p.j ≤ (n - 1) * m → past_end n p ≡ false
not_past m n p below h = past_end_beyond m n p below ∙ le-ltb _ _ h

-- row value answers 8 if j is not below m; if it is, 14 if k + j/m is greater than n - 1, and else the value
pub row_value_number : (m : ℕ) (c : List ℤ) (p : Position) → Passed (refusal_1 (length c) ∷ refusal_2 longest_row (length c) ∷ refusal_7 m ∷ []) →
    (m ≤ p.j → row_value m c p ≡ refusal 8)
    × (p.j < m → (length c - 1) * m < p.k * m + p.j → row_value m c p ≡ refusal 14)
    × (p.j < m → p.k * m + p.j ≤ (length c - 1) * m → row_value m c p ≡ value (value_in_row m c p))
unfolding row_value
row_value_number m c p t =
    let first = refusal_1 (length c) ∷ refusal_2 longest_row (length c) ∷ refusal_7 m ∷ [] in
    let tests = refusal_8 m p ∷ refusal_14 (length c) p ∷ [] in
    let result = value (value_in_row m c p) in
    let left = judged_skipped first tests refusal result t in (
      λ j. left ∙ judged_refused [] 8 (bad_numerator m p) (refusal_14 (length c) p ∷ []) refusal result tt (le-leb m p.j j),
      λ j k. left ∙ judged_refused (refusal_8 m p ∷ []) 14 (past_end (length c) p) [] refusal result (lt-leb m p.j j, tt) (past m (length c) p j k),
      λ j k. left ∙ judged_passed tests refusal result (lt-leb m p.j j, (not_past m (length c) p j k, tt)),
    )

-- picture value 8 if either numerator is not below m; if both are, 14 by the place along the width, else 15 by that along the height, and else the value
pub picture_value_number : (m : ℕ) (d : Shape) (c : List ℤ) (px py : Position) → Passed (refusal_3 d ∷ refusal_4_coefficients d c ∷ refusal_7 m ∷ []) →
    (m ≤ px.j → picture_value m d c px py ≡ refusal 8)
    × (m ≤ py.j → picture_value m d c px py ≡ refusal 8)
    × (px.j < m → py.j < m → (d.width - 1) * m < px.k * m + px.j → picture_value m d c px py ≡ refusal 14)
    × (px.j < m → py.j < m → px.k * m + px.j ≤ (d.width - 1) * m → (d.height - 1) * m < py.k * m + py.j → picture_value m d c px py ≡ refusal 15)
    × (px.j < m → py.j < m → px.k * m + px.j ≤ (d.width - 1) * m → py.k * m + py.j ≤ (d.height - 1) * m →
    picture_value m d c px py ≡ value (value_in_picture m d c px py))
unfolding picture_value
picture_value_number m d c px py t =
    let x = bad_numerator m px in
    let y = bad_numerator m py in
    let numerators = refusal_8 m px ∷ refusal_8 m py ∷ [] in
    let right = refusal_14 d.width px in
    let bottom = refusal_15 d.height py in
    let result = value (value_in_picture m d c px py) in
    let left = judged_skipped (refusal_3 d ∷ refusal_4_coefficients d c ∷ refusal_7 m ∷ []) (position_tests m d px py) refusal result t in
    let eight : (x || y) ≡ true → judged (picture_value_tests m d c px py) refusal result ≡ refusal 8 =
    λ e. left ∙ judged_joined 8 x y (right ∷ bottom ∷ []) refusal result ∙ judged_refused [] 8 (x || y) (right ∷ bottom ∷ []) refusal result tt e in (
      λ j. eight (ap (λ (b : Bool). b || y) (le-leb m px.j j)),
      λ j. eight (ap (λ (b : Bool). x || b) (le-leb m py.j j) ∙ or-true x),
      λ i j k. left ∙ judged_refused numerators 14 (past_end d.width px) (bottom ∷ []) refusal result
          (lt-leb m px.j i, (lt-leb m py.j j, tt)) (past m d.width px i k),
      λ i j k l. left ∙ judged_refused (numerators ++ right ∷ []) 15 (past_end d.height py) [] refusal result
          (lt-leb m px.j i, (lt-leb m py.j j, (not_past m d.width px i k, tt))) (past m d.height py j l),
      λ i j k l. left ∙ judged_passed (position_tests m d px py) refusal result
          (lt-leb m px.j i, (lt-leb m py.j j, (not_past m d.width px i k, (not_past m d.height py j l, tt)))),
    )
