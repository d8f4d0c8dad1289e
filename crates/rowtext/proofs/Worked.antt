-- Examples of the definitions, by computing: lines of text, numbers as text, and the example of rowzoom whole. Assumes nothing.
use mathlib.Core.List.{List, [], ◌∷◌}
use mathlib.Core.Option.{none, some}
use mathlib.Core.Path.{◌≡◌, refl, ap}
use Prim.Native.Nat.{ℕ}
use lib.IntN.{pos, neg_ℤ}
use Rattle.integers.specs.Rounding.{round}
use Rattle.bspline.specs.Lists.{tabulate}
use Rattle.bspline.specs.Mirror.{mirror}
use Rattle.bspline.specs.Recursions.{R, causal, forward, anticausal, backward, coefficient, delivered, coefficients}
use Rattle.bspline.specs.Transforms.{row_coefficients}
use Rattle.bspline.specs.Values.{weights, row_sum, value_in_row, zoom_values}
use Rattle.decimal.specs.Decimal.{decimal, signed_decimal}
use Rattle.readtext.specs.Numbers.{line_number, lines, numbers}
use Rattle.judgetext.specs.Outcomes.{row, zoom_samples, zoom_text}
use Rattle.printtext.specs.Output.{header, value_line, value_lines, refusal_line, printed, output}

-- "-00005" is -5, "-0" is 0
five : line_number (45 ∷ 48 ∷ 48 ∷ 48 ∷ 48 ∷ 53 ∷ []) ≡ some (neg_ℤ (pos 5))
unfolding line_number
five = refl

minus_zero : line_number (45 ∷ 48 ∷ []) ≡ some (pos 0)
unfolding line_number
minus_zero = refl

-- "000001" has six digits, "32768" is out of range, "-" has no digit, and a line feed alone is a line with none
six_digits : line_number (48 ∷ 48 ∷ 48 ∷ 48 ∷ 48 ∷ 49 ∷ []) ≡ none
unfolding line_number
six_digits = refl

out_of_range : line_number (51 ∷ 50 ∷ 55 ∷ 54 ∷ 56 ∷ []) ≡ none
unfolding line_number
out_of_range = refl

minus_alone : line_number (45 ∷ []) ≡ none
unfolding line_number
minus_alone = refl

blank : numbers (10 ∷ []) ≡ none
unfolding numbers lines line_number
blank = refl

-- 0 and -8388608
zero_printed : decimal 0 ≡ 48 ∷ []
unfolding decimal
zero_printed = refl

printed_with_sign : signed_decimal (neg_ℤ (pos 8388608)) ≡ 45 ∷ 56 ∷ 51 ∷ 56 ∷ 56 ∷ 54 ∷ 48 ∷ 56 ∷ []
unfolding signed_decimal decimal
printed_with_sign = refl

-- no text is "refused 10"
nothing : output [] ≡ 114 ∷ 101 ∷ 102 ∷ 117 ∷ 115 ∷ 101 ∷ 100 ∷ 32 ∷ 49 ∷ 48 ∷ 10 ∷ []
unfolding output printed refusal_line zoom_text numbers lines decimal
nothing = refl

-- the lines 3, 0, 1, 0
abbrev example : List ℕ
example = 51 ∷ 10 ∷ 48 ∷ 10 ∷ 49 ∷ 10 ∷ 48 ∷ 10 ∷ []

abbrev example_output : List ℕ
example_output =
    114 ∷ 111 ∷ 119 ∷ 122 ∷ 111 ∷ 111 ∷ 109 ∷ 32 ∷ 51 ∷ 32 ∷ 51 ∷ 32 ∷ 55 ∷ 10 ∷ 48 ∷ 32 ∷ 48 ∷ 32 ∷ 48 ∷ 10 ∷ 48 ∷ 32 ∷ 49 ∷ 32 ∷ 54 ∷ 54 ∷ 10 ∷ 48 ∷ 32 ∷ 50 ∷
    32 ∷ 49 ∷ 57 ∷ 48 ∷ 10 ∷ 49 ∷ 32 ∷ 48 ∷ 32 ∷ 50 ∷ 53 ∷ 54 ∷ 10 ∷ 49 ∷ 32 ∷ 49 ∷ 32 ∷ 49 ∷ 57 ∷ 48 ∷ 10 ∷ 49 ∷ 32 ∷ 50 ∷ 32 ∷ 54 ∷ 54 ∷ 10 ∷ 50 ∷ 32 ∷
    48 ∷ 32 ∷ 48 ∷ 10 ∷ []

example_values : zoom_samples 3 (pos 0 ∷ pos 1 ∷ pos 0 ∷ []) ≡
    row 3 3 (pos 0 ∷ pos 66 ∷ pos 190 ∷ pos 256 ∷ pos 190 ∷ pos 66 ∷ pos 0 ∷ [])
unfolding zoom_samples zoom_values value_in_row row_sum weights round mirror row_coefficients coefficients delivered coefficient tabulate forward causal backward anticausal R
example_values = refl

pub example_printed : output example ≡ example_output
unfolding output printed header value_line value_lines decimal signed_decimal zoom_text numbers lines line_number
example_printed = ap printed example_values
