-- The outcome of a measurement, with its answer as one number. Assumes nothing.
use Rattle.std.specs.Prelude.{ℕ, Float}
use Rattle.delay.specs.Outcomes.{Answer, delay, refusal}

pub record CodedDelay : Type 0 where
  pub answer : ℕ
  pub samples : Float
  pub first_height : Float
  pub second_height : Float

-- a delay as 0, a refusal as its number; then the floats stay
abbrev pub coded_delay : Float → Float → Float → Answer → CodedDelay
coded_delay x y z (delay d h g) = record { answer = 0; samples = d; first_height = h; second_height = g }
coded_delay x y z (refusal k) = record { answer = k; samples = x; first_height = y; second_height = z }
