-- What both transforms answer and promise of their coefficients gives `coefficients_near`.
use Rattle.std.proofs.Common.{◌≡◌, ap, List, ℤ}
use Rattle.bspline.specs.Exact.{RowAccurate}
use Rattle.bspline.specs.Outcomes.{Transformed, row_transform}
use Rattle.bspline.specs.Refusals.{Answer}
use Rattle.reach.proofs.Operations.{coefficients_near}
use Rattle.answers.specs.Answers.{Promised}
use Rattle.two_rows.specs.TwoRows.{BothTransformed, NearCoefficients}
use Rattle.two_rows.proofs.transforms_of_two.Goals as goal

-- the outcomes of both calls
both_transformed : {s t buffer other work : List ℤ} {a b : Answer} {C C' W W' : List ℤ} →
    record { answer = a; coefficients = C; work = W } ≡ row_transform s buffer work →
    record { answer = b; coefficients = C'; work = W' } ≡ row_transform t other W → BothTransformed s t buffer other work a b C C' W'
both_transformed first second =
    let left = ap (λ (o : Transformed). o.work) first in
    record { first = rw left at first; second = rw left at second }

-- with what is promised of them
near_coefficients : {s t buffer other work : List ℤ} {a b : Answer} {C C' W : List ℤ} → BothTransformed s t buffer other work a b C C' W →
    Promised a (RowAccurate s C) → Promised b (RowAccurate t C') → NearCoefficients s t a b C C'
near_coefficients {s} {t} {buffer} {other} {work} {a} {b} {C} {C'} {W} both p q = record {
  near = λ i d differ n n' e f.
      let left = (row_transform s buffer work).work in
      coefficients_near i d s t differ buffer work C left other left C' W n n' (rw e at both.first) (rw e at p) (rw f at both.second) (rw f at q);
}

pub returns-clause-near_coefficients : goal.returns-clause-near_coefficients
returns-clause-near_coefficients c =
    let a = c.transform-a.ensures in
    let b = c.transform-b.ensures in
    near_coefficients (both_transformed a.work_after b.work_after) a.promised b.promised
