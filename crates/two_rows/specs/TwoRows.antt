-- Two rows: their coefficients, and their values at one position, each asked for right after the transform of its row. Assumes nothing.
use Rattle.std.specs.Prelude.{List, ◌≡◌, ℕ, ◌<◌, ℤ, length}
use Rattle.bspline.specs.Negation.{negated, opposite}
use Rattle.bspline.specs.Outcomes.{row_transform}
use Rattle.bspline.specs.Refusals.{Answer, count, value}
use Rattle.bspline.specs.Values.{Position}
use Rattle.reach.specs.Reach.{DifferAt, Away, CoefficientsNear, ValuesNear}
use Rattle.round_trip.specs.Asked.{Asked}

-- rows that were transformed one after the other, each into its buffer, the second with the work slice that the first has left
pub record BothTransformed (s t buffer other work : List ℤ) (a b : Answer) (C C' W : List ℤ) : Type 0 where
  pub first : record { answer = a; coefficients = C; work = (row_transform s buffer work).work } ≡ row_transform s buffer work
  pub second : record { answer = b; coefficients = C'; work = W } ≡ row_transform t other (row_transform s buffer work).work

-- where the rows differ at place i by d and both answers are counts, the coefficients are near each other at every place
pub record NearCoefficients (s t : List ℤ) (a b : Answer) (C C' : List ℤ) : Type 0 where
  pub near : (i : ℕ) (d : ℤ) → DifferAt i d s t → (n n' : ℕ) → a ≡ count n → b ≡ count n' → (k : ℕ) → k < n → CoefficientsNear i d C C' k

-- values that were asked for one after the other, the second in buffers that are as long as those of the first
pub record BothAsked (s t buffer work : List ℤ) (m : ℕ) (p : Position) (a b : Answer) : Type 0 where
  pub first : Asked s buffer work m p a
  pub buffer' : List ℤ
  pub work' : List ℤ
  pub long : length buffer' ≡ length buffer
  pub many : length work' ≡ length work
  pub second : Asked t buffer' work' m p b

-- where the second row is the reversed row, the answers are opposite values, or the same refusal
pub record Opposites (s t : List ℤ) (a b : Answer) : Type 0 where
  pub opposites : t ≡ negated s → b ≡ opposite a

-- where the rows differ at place i by d and the position is at least g places from it, answers that are values are near each other
pub record NearValues (s t : List ℤ) (m : ℕ) (p : Position) (a b : Answer) : Type 0 where
  pub near : (i : ℕ) (d : ℤ) → DifferAt i d s t → (g : ℕ) → Away m p i g → (v v' : ℤ) → a ≡ value v → b ≡ value v' → ValuesNear g d v v'
