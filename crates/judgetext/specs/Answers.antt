-- The sizes and answers of `judgetext`, read as outcomes of a text. Assumes nothing.
use Rattle.std.specs.Prelude.{Bool, not, ◌&&◌, cond, List, [], ◌∷◌, ◌≡◌, ℕ, ◌-◌, eqb, ℤ, Option, None, Some, Result, Ok, Err, take}
use Rattle.std.proofs.Math.Option.{some}
use Rattle.bspline.specs.Limits.{longest_row, greatest_factor}
use Rattle.bspline.specs.Refusals.{outside, refusal_1, refusal_2, refusal_7, judged}
use Rattle.bspline.specs.Values.{zoom_count}
use Rattle.answers.specs.Answers.{number}
use Rattle.answers.specs.declared.Refusal.{Refusal}
use Rattle.readtext.specs.Readings.{Begun}
use Rattle.judgetext.specs.Outcomes.{Outcome, row, refused, Reply, sized, declined, factor_of, zoom_numbers, zoom_text}
use Rattle.judgetext.specs.declared.Sizes.{Sizes}

-- sizes that a text can have
abbrev pub row_sizes : Sizes → Bool
row_sizes s =
    not (outside longest_row s.samples) && not (outside greatest_factor s.factor) && eqb s.values (zoom_count s.factor s.samples)

-- what was found in a text, its values at the start of a buffer
abbrev pub found : Result Sizes Refusal → List ℤ → Outcome
found (Ok s) values = row s.samples s.factor (take s.values values)
found (Err r) values = refused (number r)

-- what was answered of a text
abbrev pub replied : Result Sizes Refusal → Reply
replied (Ok s) = sized s.samples s.factor s.values
replied (Err r) = declined (number r)

-- what is answered of n numbers, the first of which is f: without a first one 10, then 1, 2 and 7 of the others
abbrev pub judged_numbers : ℕ → ℤ → Reply
judged_numbers n f =
    cond (eqb n 0) (declined 10)
    (judged (refusal_1 (n - 1) ∷ refusal_2 longest_row (n - 1) ∷ refusal_7 (factor_of f) ∷ [])
    declined
    (sized (n - 1) (factor_of f) (zoom_count (factor_of f) (n - 1))))

-- the outcome of a text is that of n numbers, of which as many as a buffer holds are at its start
pub record Numbered (t : List ℕ) (buffer : List ℤ) (n : ℕ) : Type 0 where
  pub all : List ℤ
  pub outcome : zoom_text t ≡ zoom_numbers (some all)
  pub begun : Begun all n buffer

-- what was read of a text that is not too long, into a buffer
abbrev pub ReadsText : List ℕ → List ℤ → Option ℕ → Type 0
ReadsText t buffer (Some n) = Numbered t buffer n
ReadsText t buffer None = zoom_text t ≡ refused 10
