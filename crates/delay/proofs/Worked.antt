-- The worked examples: delays between two short rows, the factors that are taken, the order of the refusals, and why a factor of 5 is not taken. The definitions compute them. Assumes
-- nothing.
use mathlib.Core.Bool.{true, false, cond}
use mathlib.Core.List.{List, [], ◌∷◌}
use mathlib.Core.Path.{◌≡◌, refl}
use Prim.Native.Nat.{ℕ, zero, suc}
use lib.IntN.{ℤ, pos, negsuc}
use lib.Ieee.{fin, binary64, of_bits, of_int, div, sub, neg}
use Rattle.onset.specs.Measures.{position, height}
use Rattle.onset.specs.Outcomes.{find_onset}
use Rattle.onset.specs.Runs.{reached, first_run, greatest_from}
use Rattle.delay.specs.Outcomes.{delay, refusal, exact_factor, find_delay, plain}

-- so many zeros, and then eight times a value
unfoldable row : ℕ → ℤ → List ℤ
row zero v = v ∷ v ∷ v ∷ v ∷ v ∷ v ∷ v ∷ v ∷ []
row (suc place) v = pos 0 ∷ row place v

-- at factor 16 the place 5 is 3/16 of a sample after the place 2; 256 is a count, and 512 two
later : find_delay (row 5 (pos 256)) (row 2 (pos 512)) 16 (pos 256) ≡ delay (fin false 3 (negsuc 3)) (fin false 1 (pos 0)) (fin false 1 (pos 1))
unfolding row find_delay find_onset first_run reached position height div of_int sub neg
later = refl

earlier : find_delay (row 2 (pos 512)) (row 5 (pos 256)) 16 (pos 256) ≡ delay (fin true 3 (negsuc 3)) (fin false 1 (pos 1)) (fin false 1 (pos 0))
unfolding row find_delay find_onset first_run reached position height div of_int sub neg
earlier = refl

-- of an answer that is not 0 no sign is left out
earlier_plain : plain (find_delay (row 2 (pos 512)) (row 5 (pos 256)) 16 (pos 256)) ≡ delay (fin true 3 (negsuc 3)) (fin false 1 (pos 1)) (fin false 1 (pos 0))
unfolding row find_delay find_onset first_run reached position height div of_int sub neg
earlier_plain = refl

-- at the same place the delay is +0
same_place : find_delay (row 3 (pos 256)) (row 3 (pos 512)) 8 (pos 256) ≡ delay (fin false 0 (pos 0)) (fin false 1 (pos 0)) (fin false 1 (pos 1))
unfolding row find_delay find_onset first_run reached position height div of_int sub neg
same_place = refl

-- ---- the factors below a number that are taken
unfoldable taken : ℕ → List ℕ
taken zero = []
taken (suc m) = cond (exact_factor m) (m ∷ taken m) (taken m)

five_taken : taken 100 ≡ 16 ∷ 8 ∷ 4 ∷ 2 ∷ 1 ∷ []
unfolding taken
five_taken = refl

-- ---- the order of the refusals
empty_first : find_delay [] [] 0 (pos 0) ≡ refusal 1
unfolding find_delay
empty_first = refl

factor_before_second : find_delay (row 0 (pos 0)) [] 17 (pos 0) ≡ refusal 7
unfolding row find_delay
factor_before_second = refl

second_before_inexact : find_delay (row 0 (pos 0)) [] 3 (pos 0) ≡ refusal 1
unfolding row find_delay
second_before_inexact = refl

inexact_before_quiet : find_delay (row 0 (pos 0)) (row 0 (pos 0)) 3 (pos 1) ≡ refusal 19
unfolding row find_delay
inexact_before_quiet = refl

first_quiet : find_delay (row 0 (pos 0)) (row 0 (pos 1)) 16 (pos 1) ≡ refusal 20
unfolding row find_delay find_onset first_run reached greatest_from height div of_int
first_quiet = refl

second_quiet : find_delay (row 0 (pos 1)) (row 0 (pos 0)) 16 (pos 1) ≡ refusal 20
unfolding row find_delay find_onset first_run reached greatest_from position height div of_int
second_quiet = refl

-- ---- at factor 5 the place 3 is two fifths of a sample after the place 1, but the difference of the positions is another number than that at the place 2
three_less_one : sub binary64 (position 5 3) (position 5 1) ≡ of_bits binary64 0x3fd9999999999999
unfolding position div of_int sub neg of_bits
three_less_one = refl

two_fifths : position 5 2 ≡ of_bits binary64 0x3fd999999999999a
unfolding position div of_int of_bits
two_fifths = refl
