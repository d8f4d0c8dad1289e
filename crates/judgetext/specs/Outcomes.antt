-- What rowzoom finds in a text, before it is printed: "The program rowzoom". Assumes nothing.
use Rattle.std.specs.Prelude.{cond, List, [], ◌∷◌, ℕ, ltb, ℤ, pos, negsuc, length}
use Rattle.std.proofs.Math.Option.{Option, none, some}
use Rattle.bspline.specs.Limits.{longest_row}
use Rattle.bspline.specs.Refusals.{refusal_1, refusal_2, refusal_7, judged}
use Rattle.bspline.specs.Transforms.{row_coefficients}
use Rattle.bspline.specs.Values.{zoom_values}
use Rattle.readtext.specs.Numbers.{numbers}
use Rattle.judgetext.specs.Limits.{longest_text}

-- a row of n samples at the factor m and its values, or a refusal by its number
pub data Outcome : Type 0 where
  row : ℕ → ℕ → List ℤ → Outcome
  refused : ℕ → Outcome

-- the factor that a number means; a negative one is refused as 0 is
abbrev pub factor_of : ℤ → ℕ
factor_of (pos m) = m
factor_of (negsuc m) = 0

-- samples at a factor: 1, 2, 7
unfoldable pub zoom_samples : ℕ → List ℤ → Outcome
zoom_samples m s =
    judged (refusal_1 (length s) ∷ refusal_2 longest_row (length s) ∷ refusal_7 m ∷ [])
    refused
    (row (length s) m (zoom_values m (row_coefficients s)))

-- the first number is the factor, the others are the samples; without a first one it is refusal 10
abbrev pub zoom_numbers : Option (List ℤ) → Outcome
zoom_numbers none = refused 10
zoom_numbers (some []) = refused 10
zoom_numbers (some (f ∷ s)) = zoom_samples (factor_of f) s

-- a text of at most 65,536 bytes
unfoldable pub zoom_text : List ℕ → Outcome
zoom_text t = cond (ltb longest_text (length t)) (refused 10) (zoom_numbers (numbers t))

-- ---- what is answered of a text
-- the samples, the factor and the count of values of a row, or a refusal by its number
pub data Reply : Type 0 where
  sized : ℕ → ℕ → ℕ → Reply
  declined : ℕ → Reply

abbrev pub reply : Outcome → Reply
reply (row n m vs) = sized n m (length vs)
reply (refused k) = declined k
