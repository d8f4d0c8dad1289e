-- What the transform answers and leaves gives `row_taken`, and `row_value_returns` gives the answer; a refused transform has no count.
use Rattle.std.proofs.Common.{◌≡◌, ap, ◌∙◌, ℕ, ◌≤◌, ◌<◌, ℤ, pos, ◌*ℤ◌, List, length, arith, Result, Ok, Err}
use Rattle.bspline.specs.Exact.{RowAccurate}
use Rattle.bspline.specs.Limits.{greatest_factor}
use Rattle.bspline.specs.Lists.{at}
use Rattle.bspline.specs.Outcomes.{Transformed, row_transform}
use Rattle.bspline.specs.Refusals.{Answer, count, value}
use Rattle.bspline.proofs.Operations.{row_taken, row_value_returns}
use Rattle.answers.specs.Answers.{written, Promised}
use Rattle.answers.specs.declared.Refusal.{Refusal}
use Rattle.round_trip.specs.Asked.{value_after, Asked}
use Rattle.round_trip.specs.Returns.{Returns}
use Rattle.round_trip.proofs.value_at_sample.Goals as goal

-- the answer at a sample is 256 times it
module _ {s buffer work : List ℤ} {k m : ℕ} {a : Answer} (asked : Asked s buffer work m (record { k = k; j = 0 }) a) where
  abbrev o : Transformed
  o = row_transform s buffer work

  returned : (t : Result ℕ Refusal) → written t ≡ o.answer → Promised (written t) (RowAccurate s o.coefficients) → o.answer ≡ count (length s) →
      0 < m → m ≤ greatest_factor → k < length s → value_after m (record { k = k; j = 0 }) o.coefficients t ≡ value (pos 256 *ℤ at s k)
  returned (Ok n) e near f some small inside =
      let taken =
      row_taken s buffer work o.coefficients o.work n
      (ap (λ (x : Answer). record { answer = x; coefficients = o.coefficients; work = o.work }) e) near in
      row_value_returns s o.coefficients n taken m k some small (omega (arith, taken.count))
  returned (Err r) e near f some small inside = let z : ◌≡◌ {A = ℕ} 0 1 = cc in absurd (omega arith)

  sample_returned : Returns s k m buffer work a
  sample_returned = record {
    returns = λ f some small inside. asked.answer ∙ returned asked.transformed asked.outcome asked.accurate f some small inside;
  }

pub returns : goal.returns
returns c = sample_returned c.value_of_row.ensures
