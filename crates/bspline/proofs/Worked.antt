-- The marked examples M1 to M13 of "Checked examples" hold, by computing. And the exact solutions among them, M7, M8, M9 and M13, are the
-- only ones: whatever solves the equations of the listed data equals the listed numbers, by uniqueness. Other examples hold by computing too: which
-- sizes, layouts and positions are refused, and as which number, and what is left in buffers. Most proofs hold with another limit, order or number in a definition that the code
-- follows; these examples do not. Assumes nothing.
use mathlib.Core.Bool.{true, false}
use mathlib.Core.List.{List, [], ◌∷◌, ◌++◌, Memᴰ}
use mathlib.Core.Path.{◌≡◌, refl}
use Prim.Native.Nat.{ℕ, zero, suc, ◌+◌, ◌<◌}
use native.Mathlib.Omega.{arith}
use borrow.Author.Count.{below_none, below_more}
use lib.IntN.{ℤ, pos, neg_ℤ}
use lib.ListN.{length, replicate}
use Rattle.integers.specs.Rounding.{round}
use Rattle.bspline.specs.Examples.{Example, rounds, reads, solves, solves_picture, weighs, transforms, Holds, OnlySolution, All, end, ◌also◌, examples}
use Rattle.bspline.specs.Exact.{Fractions, tridiagonal, Equation, Solves, Grid, SolvesPicture, row, column, whole, whole_grid}
use Rattle.bspline.specs.Mirror.{mirror}
use Rattle.bspline.specs.Recursions.{R, causal, forward, anticausal, backward, coefficient, delivered, coefficients}
use Rattle.bspline.specs.Lists.{tabulate}
use Rattle.bspline.specs.Limits.{longest_row, greatest_factor, most_values, work_words}
use Rattle.bspline.specs.Outcomes.{row_transform, row_zoom, row_value, picture_transform, picture_value, picture_enlargement}
use Rattle.bspline.specs.Refusals.{count, refusal, ◌when◌, refusal_1, refusal_2, outside, bad_sides, bad_pixels, bad_coefficients, bad_numerator, past_end}
use Rattle.bspline.specs.PictureLayout.{sides, raster}
use Rattle.bspline.specs.Transforms.{row_coefficients, first_pass, second_pass, picture_coefficients}
use Rattle.bspline.specs.Values.{Position, weights, block, row_sum, picture_sum, value_in_row, value_in_picture, zoom_values, enlarged_values}
use Rattle.bspline.proofs.Uniqueness.{unique, picture_unique}

-- P 0, .., P (n - 1), the last first
abbrev pub Each : ℕ → (ℕ → Type 0) → Type 0
Each zero P = Unit
Each (suc n) P = P n × Each n P

-- each of them by its place
each : (n : ℕ) (P : ℕ → Type 0) → Each n P → (k : ℕ) → k < n → P k
each zero P e k l = below_none P k l
each (suc n) P e k l = below_more P n (each n P e.1) e.0 k (omega arith)

-- a row's equations, one after the other
pub equations_solve : (n : ℕ) (s c : Fractions) → Each n (Equation n s c) → Solves n s c
equations_solve n s c e = record { equation = each n (Equation n s c) e }

-- a picture's, from the picture between
between_solves : (w h : ℕ) (p c between : Grid) → Each h (λ y. Solves w (row y p) (row y between)) → Each w (λ x. Solves h (column x between) (column x c)) →
    SolvesPicture w h p c
between_solves w h p c between e f = record { between = between; rows = each h _ e; columns = each w _ f }

-- the examples hold
pub examples_hold : All examples
unfolding R round mirror tridiagonal weights row_coefficients coefficients delivered coefficient tabulate forward causal backward anticausal
examples_hold =
    refl also refl also refl also refl
    also refl also refl also refl also refl
    also equations_solve 2 _ _ (refl, (refl, tt))
    also equations_solve 3 _ _ (refl, (refl, (refl, tt)))
    also equations_solve 3 _ _ (refl, (refl, (refl, tt)))
    also refl also refl
    also refl
    also between_solves 2 2 _ _ (whole_grid (sides 2 2) (pos 2 ∷ neg_ℤ (pos 1) ∷ pos 0 ∷ pos 0 ∷ []))
    (equations_solve 2 _ _ (refl, (refl, tt)), (equations_solve 2 _ _ (refl, (refl, tt)), tt))
    (equations_solve 2 _ _ (refl, (refl, tt)), (equations_solve 2 _ _ (refl, (refl, tt)), tt))
    also end

-- ---- no other solution
-- an example that holds lists the only solution
holds_only : (e : Example) → Holds e → OnlySolution e
holds_only (solves s c) h = λ x f. unique (length s) (whole s) (whole s) x c (record { same = λ k l. refl }) f h
holds_only (solves_picture d p c) h = λ x f. picture_unique d.width d.height (whole_grid d p) (whole_grid d p) x c (record { same = λ x y l u. refl }) f h
holds_only (rounds a r) h = tt
holds_only (reads n k i) h = tt
holds_only (weighs m j ws) h = tt
holds_only (transforms s C) h = tt

-- an example of a list that holds, holds
all_hold : {es : List Example} (e : Example) → All es → Memᴰ e es → Holds e
all_hold e (h also a) (Memᴰ.head p) = rw p h
all_hold e (h also a) (Memᴰ.tail m) = all_hold e a m
all_hold e end m = elim m [ ]

-- the listed solutions of M7, M8, M9 and M13 are the only ones
pub listed_solutions_unique : (e : Example) → Memᴰ e examples → OnlySolution e
listed_solutions_unique e m = holds_only e (all_hold e examples_hold m)

-- the picture of M13 in a slice of five, with a number between its rows, has the same exact solution
pub between_rows : SolvesPicture 2 2 (whole_grid (record { width = 2; height = 2; pitch = 3 }) (pos 1 ∷ pos 0 ∷ pos 9 ∷ pos 0 ∷ pos 0 ∷ []))
    (whole_grid (sides 2 2) (pos 4 ∷ neg_ℤ (pos 2) ∷ neg_ℤ (pos 2) ∷ pos 1 ∷ []))
unfolding mirror tridiagonal
between_rows =
    between_solves 2 2 _ _ (whole_grid (sides 2 2) (pos 2 ∷ neg_ℤ (pos 1) ∷ pos 0 ∷ pos 0 ∷ []))
    (equations_solve 2 _ _ (refl, (refl, tt)), (equations_solve 2 _ _ (refl, (refl, tt)), tt))
    (equations_solve 2 _ _ (refl, (refl, tt)), (equations_solve 2 _ _ (refl, (refl, tt)), tt))

-- five numbers, or more, hold it and four do not; the pitch is not below the width; one row of it may have a pitch of 4,096 and none of 4,097
pub held : (bad_pixels (record { width = 2; height = 2; pitch = 3 }) 5 ≡ false) × (bad_pixels (record { width = 2; height = 2; pitch = 3 }) 9 ≡ false)
    × (bad_pixels (record { width = 2; height = 2; pitch = 3 }) 4 ≡ true) × (bad_pixels (record { width = 2; height = 2; pitch = 1 }) 9 ≡ true)
    × (bad_pixels (record { width = 2; height = 1; pitch = 4096 }) 2 ≡ false) × (bad_pixels (record { width = 2; height = 1; pitch = 4097 }) 2 ≡ true)
held = (refl, refl, refl, refl, refl, refl)

-- its coefficients are four, and at the pitch 2
pub kept : (bad_coefficients (sides 2 2) 4 ≡ false) × (bad_coefficients (sides 2 2) 3 ≡ true) × (bad_coefficients (sides 2 2) 5 ≡ true)
    × (bad_coefficients (record { width = 2; height = 2; pitch = 3 }) 4 ≡ true)
kept = (refl, refl, refl, refl)

-- a line of n numbers takes n + 40 words of work
pub work_words_lem : (n : ℕ) → work_words n ≡ n + 40
work_words_lem n = refl

-- the limits: 4,096 samples, sides of 512, the factor 16, 65,521 values
pub within_limits : (refusal_2 longest_row 4096 ≡ (2 when false)) × (bad_sides (sides 1 512) ≡ false) × (bad_sides (sides 512 1) ≡ false)
    × (outside greatest_factor 1 ≡ false) × (outside greatest_factor 16 ≡ false) × (most_values ≡ 65521)
within_limits = (refl, refl, refl, refl, refl, refl)

pub beyond_limits : (refusal_1 0 ≡ (1 when true)) × (refusal_2 longest_row 4097 ≡ (2 when true)) × (bad_sides (sides 0 1) ≡ true) × (bad_sides (sides 1 0) ≡ true)
    × (bad_sides (sides 513 1) ≡ true) × (bad_sides (sides 1 513) ≡ true) × (outside greatest_factor 0 ≡ true) × (outside greatest_factor 17 ≡ true)
beyond_limits = (refl, refl, refl, refl, refl, refl, refl, refl)

-- at factor 2 the numerator 1 is good and 2 is not; of three samples the places 1 + 1/2 and 2 are on the data, and 2 + 1/2 and 3 are past the end
pub on_and_off : (bad_numerator 2 (record { k = 2; j = 1 }) ≡ false) × (bad_numerator 2 (record { k = 1; j = 2 }) ≡ true)
    × (past_end 3 (record { k = 1; j = 1 }) ≡ false) × (past_end 3 (record { k = 2; j = 0 }) ≡ false)
    × (past_end 3 (record { k = 2; j = 1 }) ≡ true) × (past_end 3 (record { k = 3; j = 0 }) ≡ true)
on_and_off = (refl, refl, refl, refl, refl, refl)

-- ---- of several conditions that hold the first in its order refuses
-- zeros, and a position
abbrev zeros : ℕ → List ℤ
zeros n = replicate n (pos 0)

abbrev position : ℕ → ℕ → Position
position k j = record { k = k; j = j }

pub rows_refused_first : ((row_transform [] [] []).answer ≡ refusal 1) × ((row_transform (zeros 4097) [] []).answer ≡ refusal 2)
    × ((row_transform (zeros 3) [] (zeros 42)).answer ≡ refusal 5) × ((row_transform (zeros 3) [] (zeros 43)).answer ≡ refusal 6)
    × ((row_zoom 0 [] []).answer ≡ refusal 1) × ((row_zoom 0 (zeros 4097) []).answer ≡ refusal 2)
    × ((row_zoom 0 (zeros 1) []).answer ≡ refusal 7) × ((row_zoom 1 (zeros 1) []).answer ≡ refusal 9)
    × (row_value 0 [] (position 1 1) ≡ refusal 1) × (row_value 0 (zeros 4097) (position 4097 1) ≡ refusal 2) × (row_value 0 (zeros 1) (position 1 1) ≡ refusal 7)
unfolding row_transform row_zoom row_value
rows_refused_first = (refl, refl, refl, refl, refl, refl, refl, refl, refl, refl, refl)

-- of three samples at factor 2: a bad numerator, at a place on the data and past the end, and places past the end
pub row_positions_refused : (row_value 2 (zeros 3) (position 1 2) ≡ refusal 8) × (row_value 2 (zeros 3) (position 3 2) ≡ refusal 8)
    × (row_value 2 (zeros 3) (position 2 1) ≡ refusal 14) × (row_value 2 (zeros 3) (position 3 0) ≡ refusal 14)
unfolding row_value
row_positions_refused = (refl, refl, refl, refl)

pub pictures_refused_first : ((picture_transform (record { width = 2; height = 0; pitch = 1 }) [] [] []).answer ≡ refusal 3)
    × ((picture_transform (record { width = 2; height = 2; pitch = 1 }) [] [] []).answer ≡ refusal 4)
    × ((picture_transform (sides 2 3) (zeros 6) [] (zeros 42)).answer ≡ refusal 5) × ((picture_transform (sides 2 3) (zeros 6) [] (zeros 43)).answer ≡ refusal 6)
    × ((picture_transform (sides 3 2) (zeros 6) [] (zeros 42)).answer ≡ refusal 5) × ((picture_transform (sides 3 2) (zeros 6) [] (zeros 43)).answer ≡ refusal 6)
    × (picture_value 0 (record { width = 2; height = 0; pitch = 3 }) [] (position 2 1) (position 0 1) ≡ refusal 3)
    × (picture_value 0 (record { width = 2; height = 2; pitch = 3 }) [] (position 2 1) (position 2 1) ≡ refusal 4)
    × (picture_value 0 (sides 1 1) (zeros 1) (position 1 1) (position 1 1) ≡ refusal 7)
unfolding picture_transform picture_value
pictures_refused_first = (refl, refl, refl, refl, refl, refl, refl, refl, refl)

-- of a picture three wide and two high at factor 2: a bad numerator along one side, with a place on the picture or past an edge along the other or the
-- same, and places past the edges
pub picture_positions_refused : (picture_value 2 (sides 3 2) (zeros 6) (position 0 2) (position 0 0) ≡ refusal 8)
    × (picture_value 2 (sides 3 2) (zeros 6) (position 0 0) (position 0 2) ≡ refusal 8)
    × (picture_value 2 (sides 3 2) (zeros 6) (position 2 1) (position 0 2) ≡ refusal 8)
    × (picture_value 2 (sides 3 2) (zeros 6) (position 0 2) (position 1 1) ≡ refusal 8)
    × (picture_value 2 (sides 3 2) (zeros 6) (position 3 2) (position 0 0) ≡ refusal 8)
    × (picture_value 2 (sides 3 2) (zeros 6) (position 2 1) (position 0 0) ≡ refusal 14)
    × (picture_value 2 (sides 3 2) (zeros 6) (position 2 1) (position 1 1) ≡ refusal 14)
    × (picture_value 2 (sides 3 2) (zeros 6) (position 3 0) (position 2 0) ≡ refusal 14)
    × (picture_value 2 (sides 3 2) (zeros 6) (position 0 0) (position 1 1) ≡ refusal 15)
    × (picture_value 2 (sides 3 2) (zeros 6) (position 2 0) (position 2 0) ≡ refusal 15)
unfolding picture_value
picture_positions_refused = (refl, refl, refl, refl, refl, refl, refl, refl, refl, refl)

-- enlarging: 94 × 94 at factor 11 has exactly 1,048,576 values, and with one column more too many; of both that and a short buffer the first refuses
pub enlargements_refused_first : ((picture_enlargement 0 (record { width = 2; height = 0; pitch = 3 }) [] []).answer ≡ refusal 3)
    × ((picture_enlargement 0 (record { width = 2; height = 2; pitch = 3 }) [] []).answer ≡ refusal 4)
    × ((picture_enlargement 0 (sides 1 1) [] []).answer ≡ refusal 4) × ((picture_enlargement 0 (sides 1 1) (zeros 1) []).answer ≡ refusal 7)
    × ((picture_enlargement 17 (sides 65 65) (zeros 4225) []).answer ≡ refusal 7) × ((picture_enlargement 16 (sides 65 65) (zeros 4225) []).answer ≡ refusal 16)
    × ((picture_enlargement 11 (sides 95 94) (zeros 8930) []).answer ≡ refusal 16) × ((picture_enlargement 11 (sides 94 94) (zeros 8836) []).answer ≡ refusal 9)
    × ((picture_enlargement 2 (sides 3 1) (zeros 3) (zeros 4)).answer ≡ refusal 9) × ((picture_enlargement 2 (sides 3 1) (zeros 3) (zeros 5)).answer ≡ count 5)
unfolding picture_enlargement
enlargements_refused_first = (refl, refl, refl, refl, refl, refl, refl, refl, refl, refl)

-- ---- a refused call leaves its buffers as they were, and an accepted one writes its numbers from the start, clears the words of work that it requires
-- and leaves the rest: of one number, which takes 41 words, and of pictures whose longer side is three, which take 43, in a buffer with room for one
-- number more and a work slice with eight words more
abbrev nines : ℕ → List ℤ
nines n = replicate n (pos 9)

pub buffers_left : (row_transform [] (pos 7 ∷ []) (pos 9 ∷ []) ≡ record { answer = refusal 1; coefficients = pos 7 ∷ []; work = pos 9 ∷ [] })
    × (row_transform (zeros 1) (nines 2) (nines 49) ≡ record { answer = count 1; coefficients = zeros 1 ++ nines 1; work = zeros 41 ++ nines 8 })
    × (picture_transform (sides 1 0) [] (pos 7 ∷ []) (pos 9 ∷ []) ≡ record { answer = refusal 3; coefficients = pos 7 ∷ []; work = pos 9 ∷ [] })
    × (picture_transform (sides 1 1) (zeros 1) (nines 2) (nines 49) ≡ record { answer = count 1; coefficients = zeros 1 ++ nines 1; work = zeros 41 ++ nines 8 })
    × ((picture_transform (sides 2 3) (zeros 6) (nines 7) (nines 51)).work ≡ zeros 43 ++ nines 8)
    × ((picture_transform (sides 3 2) (zeros 6) (nines 7) (nines 51)).work ≡ zeros 43 ++ nines 8)
    × (row_zoom 17 (zeros 1) (pos 7 ∷ []) ≡ record { answer = refusal 7; values = pos 7 ∷ [] })
    × (row_zoom 1 (pos 16 ∷ []) (pos 7 ∷ pos 8 ∷ []) ≡ record { answer = count 1; values = pos 1 ∷ pos 8 ∷ [] })
    × (picture_enlargement 17 (sides 1 1) (zeros 1) (pos 7 ∷ []) ≡ record { answer = refusal 7; values = pos 7 ∷ [] })
    × (picture_enlargement 1 (sides 1 1) (pos 16 ∷ []) (pos 7 ∷ pos 8 ∷ []) ≡ record { answer = count 1; values = pos 1 ∷ pos 8 ∷ [] })
unfolding row_transform row_coefficients picture_transform picture_coefficients first_pass second_pass coefficients forward backward delivered causal anticausal coefficient R row_zoom zoom_values value_in_row row_sum picture_enlargement enlarged_values raster tabulate value_in_picture picture_sum block weights round mirror
buffers_left = (refl, refl, refl, refl, refl, refl, refl, refl, refl, refl)

-- ---- the values of an enlarged picture
-- six coefficients at factor 2 as a picture of 3 × 2, which has 5 × 3 values, and as one of 2 × 3, which has 3 × 5: row after row
abbrev six : List ℤ
six = pos 9216 ∷ pos 0 ∷ pos 0 ∷ pos 0 ∷ pos 0 ∷ pos 4608 ∷ []

pub row_after_row : (enlarged_values 2 (sides 3 2) six
    ≡ pos 256 ∷ pos 186 ∷ pos 80 ∷ pos 54 ∷ pos 64 ∷ pos 192 ∷ pos 141 ∷ pos 72 ∷ pos 75 ∷ pos 96 ∷ pos 128 ∷ pos 96 ∷ pos 64 ∷ pos 96 ∷ pos 128 ∷ [])
    × (enlarged_values 2 (sides 2 3) six
    ≡ pos 256 ∷ pos 192 ∷ pos 128 ∷ pos 186 ∷ pos 141 ∷ pos 96 ∷ pos 80 ∷ pos 72 ∷ pos 64 ∷ pos 54 ∷ pos 75 ∷ pos 96 ∷ pos 64 ∷ pos 96 ∷ pos 128 ∷ [])
unfolding enlarged_values raster tabulate value_in_picture picture_sum block weights round mirror
row_after_row = (refl, refl)

-- a value is not clamped: of the greatest and of the least coefficient it is far outside of 256 times the samples
pub not_clamped : (value_in_row 1 (pos 2147483647 ∷ []) (record { k = 0; j = 0 }) ≡ pos 134217728)
    × (value_in_row 1 (neg_ℤ (pos 2147483648) ∷ []) (record { k = 0; j = 0 }) ≡ neg_ℤ (pos 134217728))
unfolding value_in_row row_sum weights round mirror tabulate
not_clamped = (refl, refl)
