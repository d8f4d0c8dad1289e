-- The worked examples: what is answered of the row (0, 1, 0), from its samples on. The definitions compute it. Assumes nothing.
use mathlib.Core.Bool.{false}
use mathlib.Core.List.{List, [], ◌∷◌}
use mathlib.Core.Path.{◌≡◌, refl}
use Prim.Native.Nat.{ℕ}
use lib.IntN.{ℤ, pos, negsuc}
use lib.Ieee.{fin, binary64, of_bits, of_int, div}
use Rattle.integers.specs.Rounding.{round}
use Rattle.bspline.specs.Lists.{tabulate}
use Rattle.bspline.specs.Mirror.{mirror}
use Rattle.bspline.specs.Recursions.{R, causal, forward, anticausal, backward, coefficient, delivered, coefficients}
use Rattle.bspline.specs.Transforms.{row_coefficients}
use Rattle.bspline.specs.Values.{weights, row_sum, value_in_row, zoom_values}
use Rattle.onset.specs.Measures.{position, height}
use Rattle.onset.specs.Outcomes.{onset, quiet, refusal, find_onset}
use Rattle.onset.specs.Runs.{reached, first_run, greatest_from}

-- its values at a factor
unfoldable values : ℕ → List ℤ
unfolding zoom_values row_coefficients coefficients delivered coefficient backward anticausal forward causal R round tabulate mirror value_in_row row_sum weights
values m = zoom_values m (row_coefficients (pos 0 ∷ pos 1 ∷ pos 0 ∷ []))

fourths : values 4 ≡ pos 0 ∷ pos 40 ∷ pos 128 ∷ pos 216 ∷ pos 256 ∷ pos 216 ∷ pos 128 ∷ pos 40 ∷ pos 0 ∷ []
unfolding values
fourths = refl

-- seven values reach 40 in a row, and the greatest is 256: 1 count
seven_are_quiet : find_onset (values 4) 4 (pos 40) ≡ quiet (fin false 1 (pos 0))
unfolding values find_onset first_run reached greatest_from height div of_int
seven_are_quiet = refl

-- all nine values reach 0, from the start on
all_reach : find_onset (values 4) 4 (pos 0) ≡ onset (fin false 0 (pos 0)) (fin false 0 (pos 0))
unfolding values find_onset first_run reached position height div of_int
all_reach = refl

-- at factor 16 place 4 is a quarter of a sample; the value there is 40, 5/32 of a count
quarter : find_onset (values 16) 16 (pos 40) ≡ onset (fin false 1 (negsuc 1)) (fin false 5 (negsuc 4))
unfolding values find_onset first_run reached position height div of_int
quarter = refl

-- at factor 5 place 1 is the nearest number to a fifth of a sample, by its bits; the value there is 27
fifth : find_onset (values 5) 5 (pos 27) ≡ onset (of_bits binary64 0x3fc999999999999a) (fin false 27 (negsuc 7))
unfolding values find_onset first_run reached position height div of_int of_bits
fifth = refl

-- the order of the refusals
empty_first : find_onset [] 0 (pos 0) ≡ refusal 1
unfolding find_onset
empty_first = refl
