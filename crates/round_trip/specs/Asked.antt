-- The value that is asked for right after the transform of a row. Assumes nothing.
use Rattle.std.specs.Prelude.{List, ◌≡◌, ℕ, ℤ, take, Result, Ok, Err}
use Rattle.bspline.specs.Exact.{RowAccurate}
use Rattle.bspline.specs.Outcomes.{row_transform, row_value}
use Rattle.bspline.specs.Refusals.{Answer, refusal}
use Rattle.bspline.specs.Values.{Position}
use Rattle.answers.specs.Answers.{number, written, Promised}
use Rattle.answers.specs.declared.Refusal.{Refusal}

-- by what the transform has answered: row value of the coefficients that it counts, or its refusal
abbrev pub value_after : ℕ → Position → List ℤ → Result ℕ Refusal → Answer
value_after m p C (Ok n) = row_value m (take n C) p
value_after m p C (Err r) = refusal (number r)

-- what the transform answers, that the coefficients which it leaves are accurate, and what is answered in the end
pub record Asked (s buffer work : List ℤ) (m : ℕ) (p : Position) (a : Answer) : Type 0 where
  pub transformed : Result ℕ Refusal
  pub outcome : written transformed ≡ (row_transform s buffer work).answer
  pub accurate : Promised (written transformed) (RowAccurate s (row_transform s buffer work).coefficients)
  pub answer : a ≡ value_after m p (row_transform s buffer work).coefficients transformed
