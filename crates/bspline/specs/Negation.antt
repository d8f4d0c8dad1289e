-- Negated numbers and opposite answers: "Reversed polarity". Assumes nothing.
use Rattle.std.specs.Prelude.{List, map, ℤ, neg_ℤ}
use Rattle.bspline.specs.Refusals.{Answer, count, value, refusal}

-- every number of a list with the opposite sign
abbrev pub negated : List ℤ → List ℤ
negated l = map neg_ℤ l

-- an answer with the opposite value; a count and a refusal stay as they are
abbrev pub opposite : Answer → Answer
opposite (count n) = count n
opposite (value v) = value (neg_ℤ v)
opposite (refusal k) = refusal k
