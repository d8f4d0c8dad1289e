-- The unit of a divisor, where both are written out: tests that compute. Assumes nothing.
use Prim.Native.Nat.{ℕ, ◌+◌, ◌*◌, ◌%◌, ◌^◌}
use lib.Dec.{T, eqb, leb, eqb→eq, leb→le}
use Rattle.rounding.specs.Roundable.{Counted}

-- each condition on a divisor and its unit as a test
abbrev pub Tests : ℕ → ℕ → Type 0
Tests d u = T (eqb (d % 2) 0) × T (leb ((2 ^ 27 + 1) * d) (2 ^ 31 * u)) × T (leb u (2 ^ 30))

pub counted : (d u : ℕ) → Tests d u → Counted d u
counted d u t = record { even = eqb→eq _ _ t.0; near = leb→le _ _ t.1; small = leb→le _ _ t.2 }
