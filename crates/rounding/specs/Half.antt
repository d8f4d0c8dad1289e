-- What is added to a number before its quotient is rounded down, so that it comes out rounded to the nearest. Assumes nothing.
use Rattle.std.specs.Prelude.{ℕ, ◌-◌, ◌/◌, ℤ, pos, negsuc}

-- half of d; for a negative number what that leaves of d - 1, which for an even d is 1 less, so that a tie goes down
abbrev pub half : ℤ → ℕ → ℕ
half (pos a) d = d / 2
half (negsuc a) d = d - 1 - d / 2
