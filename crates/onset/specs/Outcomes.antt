-- What the search for an onset answers, for every input: "Where a click starts". Assumes nothing.
use Rattle.std.specs.Prelude.{List, [], ◌∷◌, ◌≡◌, ℕ, ◌^◌, ℤ, pos, Float, length}
use Rattle.std.proofs.Math.Option.{Option, none, some}
use Rattle.std.specs.Float.{binary64}
use Rattle.bspline.specs.Limits.{most_values}
use Rattle.bspline.specs.Lists.{at}
use Rattle.bspline.specs.Refusals.{refusal_1, refusal_2, refusal_7, judged}
use Rattle.floats.specs.Fractions.{Exactly, Nearest}
use Rattle.onset.specs.Measures.{position, height}
use Rattle.onset.specs.Runs.{first_run, greatest, FirstRun, NoRun}

-- An answer: an onset, by its position and its height, or the greatest height of a quiet row, or the refusal by its number
pub data Answer : Type 0 where
  onset : Float → Float → Answer
  quiet : Float → Answer
  refusal : ℕ → Answer

-- the answer by where the first run starts
abbrev pub answer_at : ℕ → List ℤ → Option ℕ → Answer
answer_at m values (some place) = onset (position m place) (height (at values place))
answer_at m values none = quiet (height (greatest values))

-- it tests 1, 2, 7
unfoldable pub find_onset : List ℤ → ℕ → ℤ → Answer
find_onset values m t =
    judged (refusal_1 (length values) ∷ refusal_2 most_values (length values) ∷ refusal_7 m ∷ [])
    refusal
    (answer_at m values (first_run t values))

-- ---- what an answer means, by places and fractions
-- an onset is where the first run starts. Its position is the nearest number to place / m, and exactly that if m is a power of two; its height is
-- exactly value / 256
pub record OnsetMeasured (values : List ℤ) (m : ℕ) (t : ℤ) (x h : Float) : Type 0 where
  pub place : ℕ
  pub first : FirstRun t values place
  pub position_nearest : Nearest binary64 x place m
  pub position_exact : (j : ℕ) → m ≡ 2 ^ j → Exactly x (pos place) m
  pub height_exact : Exactly h (at values place) 256

-- a quiet row has no run, and its height is exactly that of its greatest value
pub record QuietMeasured (values : List ℤ) (t : ℤ) (h : Float) : Type 0 where
  pub no_run : NoRun t values
  pub height_exact : Exactly h (greatest values) 256

-- what each answer means; nothing is said of a refusal
abbrev pub Measured : List ℤ → ℕ → ℤ → Answer → Type 0
Measured values m t (onset x h) = OnsetMeasured values m t x h
Measured values m t (quiet h) = QuietMeasured values t h
Measured values m t (refusal k) = Unit
