-- Positions and heights as 64-bit floating-point numbers: "Where a click starts". Assumes nothing.
use Rattle.std.specs.Prelude.{ℕ, ℤ, pos, Float}
use Rattle.floats.specs.Fractions.{quotient}

-- a place over the factor, in samples
unfoldable pub position : ℕ → ℕ → Float
position m place = quotient (pos place) m

-- a value over 256, in counts
unfoldable pub height : ℤ → Float
height v = quotient v 256
