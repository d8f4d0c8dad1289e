-- What the delay between two hydrophones is, for every input: "Delay between two hydrophones". Assumes nothing.
use Rattle.std.specs.Prelude.{Bool, true, false, not, ◌||◌, List, [], ◌∷◌, ◌≡◌, ℕ, zero, suc, eqb, ℤ, pos, ◌-ℤ◌, Float, length}
use Rattle.std.specs.Float.{nan, inf, fin, binary64}
use Rattle.std.specs.Float.Ieee.{sub, neg}
use Rattle.bspline.specs.Limits.{most_values}
use Rattle.bspline.specs.Lists.{at}
use Rattle.bspline.specs.Refusals.{Test, ◌when◌, refusal_1, refusal_2, refusal_7, judged}
use Rattle.floats.specs.Fractions.{Exactly}
use Rattle.onset.specs.Outcomes.{Answer as Search, onset, quiet, refusal as unsearched, find_onset}
use Rattle.onset.specs.Runs.{FirstRun}

-- An answer: the first position less the second one, with both heights, or the refusal by its number
pub data Answer : Type 0 where
  delay : Float → Float → Float → Answer
  refusal : ℕ → Answer

-- the factors that are taken: at these, positions are exact
abbrev pub exact_factor : ℕ → Bool
exact_factor m = eqb m 1 || eqb m 2 || eqb m 4 || eqb m 8 || eqb m 16

-- a factor that is none of them
abbrev pub refusal_19 : ℕ → Test
refusal_19 m = 19 when not (exact_factor m)

-- the difference of two onsets; where either row is quiet there is none. A row that is refused is refused before
abbrev pub difference : Search → Search → Answer
difference (onset x h) (onset y g) = delay (sub binary64 x y) h g
difference (onset x h) (quiet g) = refusal 20
difference (onset x h) (unsearched k) = refusal k
difference (quiet h) b = refusal 20
difference (unsearched k) b = refusal k

-- it tests 1, 2 on the first row, 7, then 1, 2 on the second, 19, 20
unfoldable pub find_delay : List ℤ → List ℤ → ℕ → ℤ → Answer
find_delay first second m t =
    judged
    (refusal_1 (length first) ∷ refusal_2 most_values (length first) ∷ refusal_7 m ∷ refusal_1 (length second) ∷ refusal_2 most_values (length second) ∷ refusal_19 m ∷ [])
    refusal
    (difference (find_onset first m t) (find_onset second m t))

-- ---- what a delay means, by places and fractions
-- the factor is taken, and each place is where the first run of its row starts. The delay is exactly their difference over m, and between equal places +0;
-- the heights are exactly those of the values there
pub record DelayMeasured (first second : List ℤ) (m : ℕ) (t : ℤ) (d h g : Float) : Type 0 where
  pub taken : exact_factor m ≡ true
  pub first_place : ℕ
  pub second_place : ℕ
  pub first_run : FirstRun t first first_place
  pub second_run : FirstRun t second second_place
  pub delay_exact : Exactly d (pos first_place -ℤ pos second_place) m
  pub delay_zero : first_place ≡ second_place → d ≡ fin false 0 (pos 0)
  pub first_height_exact : Exactly h (at first first_place) 256
  pub second_height_exact : Exactly g (at second second_place) 256

-- nothing is said of a refusal
abbrev pub Measured : List ℤ → List ℤ → ℕ → ℤ → Answer → Type 0
Measured first second m t (delay d h g) = DelayMeasured first second m t d h g
Measured first second m t (refusal k) = Unit

-- ---- the rows exchanged
-- zero stands for itself, whatever its sign bit: -0 is taken as +0
abbrev pub plain_zero : Float → Float
plain_zero nan = nan
plain_zero (inf s) = inf s
plain_zero (fin s zero e) = fin false zero e
plain_zero (fin s (suc n) e) = fin s (suc n) e

-- the opposite delay with the heights exchanged, or the same refusal
abbrev pub exchanged : Answer → Answer
exchanged (delay d h g) = delay (neg d) g h
exchanged (refusal k) = refusal k

-- an answer whose delay, if it is zero, has the sign +: two answers that are alike in this differ in that sign bit alone
abbrev pub plain : Answer → Answer
plain (delay d h g) = delay (plain_zero d) h g
plain (refusal k) = refusal k

-- ---- for the inner functions
-- why there is no delay between two rows that are not refused
abbrev pub no_delay : ℕ → ℕ
no_delay m = judged (refusal_19 m ∷ []) (λ k. k) 20

-- and to a second row, where the first is not refused
abbrev pub unmeasured : List ℤ → ℕ → ℕ
unmeasured second m = judged (refusal_1 (length second) ∷ refusal_2 most_values (length second) ∷ refusal_7 m ∷ []) (λ k. k) (no_delay m)
