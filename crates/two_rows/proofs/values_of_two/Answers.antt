-- The transforms of a row and of the reversed row answer the same (`row_transform_alike`), since a call keeps the lengths of the buffers; where they
-- answer a count, the values are opposite (`reversed_row_value`). Of rows that differ at one sample, the values are near each other (`row_values_near`).
use Rattle.std.proofs.Common.{◌≡◌, sym, ap, ◌∙◌, ℕ, ℤ, List, length, arith, Result, Ok, Err}
use Rattle.bspline.specs.Exact.{RowAccurate}
use Rattle.bspline.specs.Negation.{negated, opposite}
use Rattle.bspline.specs.Outcomes.{Transformed, row_transform}
use Rattle.bspline.specs.Refusals.{Answer, value}
use Rattle.bspline.specs.Values.{Position}
use Rattle.bspline.proofs.ReversedPolarity.{row_transform_alike, reversed_row_value}
use Rattle.reach.specs.Reach.{DifferAt, Away, ValuesNear}
use Rattle.reach.proofs.Operations.{row_values_near}
use Rattle.answers.specs.Answers.{written, Promised}
use Rattle.answers.specs.declared.Refusal.{Refusal}
use Rattle.round_trip.specs.Asked.{value_after, Asked}
use Rattle.two_rows.specs.TwoRows.{BothAsked, Opposites, NearValues}
use Rattle.two_rows.proofs.values_of_two.Goals as goal

-- an answer put in the place of an outcome's
outcome : (o : Transformed) (a : Answer) → a ≡ o.answer → record { answer = a; coefficients = o.coefficients; work = o.work } ≡ o
outcome o a e = ap (λ (x : Answer). record { answer = x; coefficients = o.coefficients; work = o.work }) e

-- ---- the reversed row, in buffers of the same lengths
-- two counts are followed by opposite values, two refusals are the same, and a count is no refusal
opposite_after : (s buffer work buffer' work' : List ℤ) (m : ℕ) (p : Position) (t t' : Result ℕ Refusal) → written t' ≡ written t →
    written t ≡ (row_transform s buffer work).answer → written t' ≡ (row_transform (negated s) buffer' work').answer →
    value_after m p (row_transform (negated s) buffer' work').coefficients t' ≡ opposite (value_after m p (row_transform s buffer work).coefficients t)
opposite_after s buffer work buffer' work' m p (Ok n) (Ok n') same e e' =
    reversed_row_value s buffer work _ _ buffer' work' _ _ n n' (outcome (row_transform s buffer work) _ e) (outcome (row_transform (negated s) buffer' work') _ e') m p
opposite_after s buffer work buffer' work' m p (Err r) (Err r') same e e' = same
opposite_after s buffer work buffer' work' m p (Ok n) (Err r') same e e' = cc
opposite_after s buffer work buffer' work' m p (Err r) (Ok n') same e e' = cc

-- ---- rows that differ at one sample
-- an answer that is a value follows a count
near_after : (i : ℕ) (d : ℤ) (s t buffer work buffer' work' : List ℤ) (m : ℕ) (p : Position) (w w' : Result ℕ Refusal) → DifferAt i d s t →
    written w ≡ (row_transform s buffer work).answer → Promised (written w) (RowAccurate s (row_transform s buffer work).coefficients) →
    written w' ≡ (row_transform t buffer' work').answer → Promised (written w') (RowAccurate t (row_transform t buffer' work').coefficients) →
    (g : ℕ) → Away m p i g → (v v' : ℤ) →
    value_after m p (row_transform s buffer work).coefficients w ≡ value v → value_after m p (row_transform t buffer' work').coefficients w' ≡ value v' →
    ValuesNear g d v v'
near_after i d s t buffer work buffer' work' m p (Ok n) (Ok n') differ e near e' near' g away v v' h h' =
    row_values_near i d s t differ buffer work _ _ buffer' work' _ _ n n'
    (outcome (row_transform s buffer work) _ e) near (outcome (row_transform t buffer' work') _ e') near' m p v v' h h' g away
near_after i d s t buffer work buffer' work' m p (Err r) w' differ e near e' near' g away v v' h h' =
    let z : ◌≡◌ {A = ℕ} 0 1 = cc in absurd (omega arith)
near_after i d s t buffer work buffer' work' m p (Ok n) (Err r) differ e near e' near' g away v v' h h' =
    let z : ◌≡◌ {A = ℕ} 0 1 = cc in absurd (omega arith)

-- ---- both, from what was asked
both_asked : {s t buffer work buffer' work' : List ℤ} {m : ℕ} {p : Position} {a b : Answer} →
    Asked s buffer work m p a → Asked t buffer' work' m p b → length buffer' ≡ length buffer → length work' ≡ length work → BothAsked s t buffer work m p a b
both_asked {buffer' = buffer'} {work' = work'} first second long many = record { first = first; buffer' = buffer'; work' = work'; long = long; many = many; second = second }

module _ {s t buffer work : List ℤ} {m : ℕ} {p : Position} {a b : Answer} (both : BothAsked s t buffer work m p a b) where
  opposite_answers : Opposites s t a b
  opposite_answers = record { opposites = go }
    where
      go : t ≡ negated s → b ≡ opposite a
      go reversed =
          let other = rw reversed at both.second in
          let alike = other.outcome ∙ row_transform_alike s buffer work both.buffer' both.work' both.long both.many ∙ sym both.first.outcome in
          other.answer
          ∙ opposite_after s buffer work both.buffer' both.work' m p both.first.transformed other.transformed alike both.first.outcome other.outcome
          ∙ sym (ap opposite both.first.answer)

  near_answers : NearValues s t m p a b
  near_answers = record {
    near = λ i d differ g away v v' h h'.
        near_after i d s t buffer work both.buffer' both.work' m p both.first.transformed both.second.transformed differ
        both.first.outcome both.first.accurate both.second.outcome both.second.accurate g away v v'
        (sym both.first.answer ∙ h) (sym both.second.answer ∙ h');
  }

pub returns-clause-opposites : goal.returns-clause-opposites
returns-clause-opposites c =
    let first = c.value_of_row-value in
    opposite_answers (both_asked first.ensures c.value_of_row-other.ensures first.auto.coefficients first.auto.work)

pub returns-clause-near_values : goal.returns-clause-near_values
returns-clause-near_values c =
    let first = c.value_of_row-value in
    near_answers (both_asked first.ensures c.value_of_row-other.ensures first.auto.coefficients first.auto.work)
