-- The values of a text in a buffer: what is answered, and the buffer afterwards. Assumes nothing.
use Rattle.std.specs.Prelude.{cond, List, ◌≡◌, ℕ, ltb, ℤ, length}
use Rattle.std.proofs.Math.Option.{some}
use Rattle.bspline.specs.Outcomes.{overwrite, Evaluated}
use Rattle.bspline.specs.Refusals.{Answer, count, value, refusal}
use Rattle.readtext.specs.Readings.{Begun}
use Rattle.judgetext.specs.Outcomes.{Outcome, row, refused, Reply, sized, declined, zoom_numbers}

pub record Kept : Type 0 where
  pub answer : Reply
  pub values : List ℤ

-- a refused text changes nothing; a buffer that is shorter than the values is refused as 9, after all others
unfoldable pub kept : Outcome → List ℤ → Kept
kept (refused k) buffer = record { answer = declined k; values = buffer }
kept (row n m vs) buffer =
    cond (ltb (length buffer) (length vs))
    (record { answer = declined 9; values = buffer })
    (record { answer = sized n m (length vs); values = overwrite vs buffer })

-- what row zoom answers of n coefficients at the factor m, which is no value, and its buffer
abbrev pub reply_of : ℕ → ℕ → Answer → Reply
reply_of n m (count k) = sized n m k
reply_of n m (value v) = declined 0
reply_of n m (refusal k) = declined k

abbrev pub listed : ℕ → ℕ → Evaluated → Kept
listed n m o = record { answer = reply_of n m o.answer; values = o.values }

-- the outcome of every list of n numbers that begins as a buffer does, with the values in another buffer
abbrev pub ZoomsNumbers : ℕ → List ℤ → List ℤ → Kept → Type 0
ZoomsNumbers n numbers buffer o = (l : List ℤ) → Begun l n numbers → o ≡ kept (zoom_numbers (some l)) buffer
