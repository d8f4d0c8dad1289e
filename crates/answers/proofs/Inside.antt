-- A position whose numerator and place are not refused is inside the data. Assumes nothing.
use mathlib.Core.Bool.{false}
use mathlib.Core.Path.{◌≡◌}
use Prim.Native.Nat.{ℕ, ◌<◌}
use Rattle.bspline.specs.Refusals.{bad_numerator, past_end}
use Rattle.bspline.specs.Values.{Position}
use Rattle.bspline.proofs.Refusals.{numerator_below, place_inside}
use Rattle.answers.specs.Positions.{Inside}

pub inside : (m n : ℕ) (p : Position) → 0 < n → bad_numerator m p ≡ false → past_end n p ≡ false → Inside m n p
inside m n p some good on = record { numerator = numerator_below m p good; index = place_inside n p some on }
