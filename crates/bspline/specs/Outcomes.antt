-- What each operation answers and what it leaves in every buffer, for every input: "Who can be refused". Assumes nothing.
use Rattle.std.specs.Prelude.{List, [], ◌∷◌, ◌++◌, ℕ, max, ℤ, pos, length, drop, replicate}
use Rattle.bspline.specs.PictureLayout.{Shape, area}
use Rattle.bspline.specs.Limits.{longest_row, work_words}
use Rattle.bspline.specs.Refusals.{Answer, count, value, refusal, Test, refusal_1, refusal_2, refusal_3, refusal_4_pixels, refusal_4_coefficients, refusal_5, refusal_6, refusal_7, refusal_8, refusal_9, refusal_14, refusal_15, refusal_16, judged}
use Rattle.bspline.specs.Transforms.{row_coefficients, picture_coefficients}
use Rattle.bspline.specs.Values.{Position, value_in_row, value_in_picture, zoom_count, zoom_values, enlarged, enlarged_values}

-- numbers written from a buffer's start; every number beyond them stays
abbrev pub overwrite : List ℤ → List ℤ → List ℤ
overwrite l buffer = l ++ drop (length l) buffer

-- ---- the two transforms: the answer, and the buffers afterwards
pub record Transformed : Type 0 where
  pub answer : Answer
  pub coefficients : List ℤ
  pub work : List ℤ

-- a refused call changes nothing
abbrev pub refused : List ℤ → List ℤ → ℕ → Transformed
refused buffer work k = record { answer = refusal k; coefficients = buffer; work = work }

-- an accepted one writes n coefficients, and sets to 0 the words of work that it required
abbrev pub accepted : ℕ → List ℤ → ℕ → List ℤ → List ℤ → Transformed
accepted n C words buffer work = record { answer = count n; coefficients = overwrite C buffer; work = overwrite (replicate words (pos 0)) work }

-- row transform: 1, 2, 5, 6
abbrev pub row_tests : List ℤ → List ℤ → List ℤ → List Test
row_tests s buffer work = refusal_1 (length s) ∷ refusal_2 longest_row (length s) ∷ refusal_5 (length s) work ∷ refusal_6 (length s) buffer ∷ []

unfoldable pub row_transform : List ℤ → List ℤ → List ℤ → Transformed
row_transform s buffer work =
    judged (row_tests s buffer work) (refused buffer work) (accepted (length s) (row_coefficients s) (work_words (length s)) buffer work)

-- picture transform: 3 to 6
abbrev pub picture_tests : Shape → List ℤ → List ℤ → List ℤ → List Test
picture_tests d p buffer work = refusal_3 d ∷ refusal_4_pixels d p ∷ refusal_5 (max d.width d.height) work ∷ refusal_6 (area d) buffer ∷ []

unfoldable pub picture_transform : Shape → List ℤ → List ℤ → List ℤ → Transformed
picture_transform d p buffer work =
    judged (picture_tests d p buffer work) (refused buffer work) (accepted (area d) (picture_coefficients d p) (work_words (max d.width d.height)) buffer work)

-- ---- row zoom and enlarging: the answer, and the value buffer afterwards
pub record Evaluated : Type 0 where
  pub answer : Answer
  pub values : List ℤ

-- a refused call changes nothing
abbrev pub unevaluated : List ℤ → ℕ → Evaluated
unevaluated buffer k = record { answer = refusal k; values = buffer }

-- an accepted one writes n values
abbrev pub evaluated : ℕ → List ℤ → List ℤ → Evaluated
evaluated n vs buffer = record { answer = count n; values = overwrite vs buffer }

-- row zoom: 1, 2, 7, 9
abbrev pub zoom_tests : ℕ → List ℤ → List ℤ → List Test
zoom_tests m c buffer = refusal_1 (length c) ∷ refusal_2 longest_row (length c) ∷ refusal_7 m ∷ refusal_9 (zoom_count m (length c)) buffer ∷ []

unfoldable pub row_zoom : ℕ → List ℤ → List ℤ → Evaluated
row_zoom m c buffer = judged (zoom_tests m c buffer) (unevaluated buffer) (evaluated (zoom_count m (length c)) (zoom_values m c) buffer)

-- enlarging a picture: 3, 4, 7, 16, 9
abbrev pub enlargement_tests : ℕ → Shape → List ℤ → List ℤ → List Test
enlargement_tests m d c buffer =
    refusal_3 d ∷ refusal_4_coefficients d c ∷ refusal_7 m ∷ refusal_16 (area (enlarged m d)) ∷ refusal_9 (area (enlarged m d)) buffer ∷ []

unfoldable pub picture_enlargement : ℕ → Shape → List ℤ → List ℤ → Evaluated
picture_enlargement m d c buffer =
    judged (enlargement_tests m d c buffer) (unevaluated buffer) (evaluated (area (enlarged m d)) (enlarged_values m d c) buffer)

-- ---- the two values: an answer alone, since they write nothing. Row value tests 1, 2, 7, 8, 14
abbrev pub row_value_tests : ℕ → List ℤ → Position → List Test
row_value_tests m c p = refusal_1 (length c) ∷ refusal_2 longest_row (length c) ∷ refusal_7 m ∷ refusal_8 m p ∷ refusal_14 (length c) p ∷ []

unfoldable pub row_value : ℕ → List ℤ → Position → Answer
row_value m c p = judged (row_value_tests m c p) refusal (value (value_in_row m c p))

-- picture value: 3, 4, 7, and of the position 8 along both sides, 14, 15
abbrev pub position_tests : ℕ → Shape → Position → Position → List Test
position_tests m d px py = refusal_8 m px ∷ refusal_8 m py ∷ refusal_14 d.width px ∷ refusal_15 d.height py ∷ []

abbrev pub picture_value_tests : ℕ → Shape → List ℤ → Position → Position → List Test
picture_value_tests m d c px py = refusal_3 d ∷ refusal_4_coefficients d c ∷ refusal_7 m ∷ position_tests m d px py

unfoldable pub picture_value : ℕ → Shape → List ℤ → Position → Position → Answer
picture_value m d c px py = judged (picture_value_tests m d c px py) refusal (value (value_in_picture m d c px py))
