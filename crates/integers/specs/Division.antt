-- Division of an integer by a natural number above 0, rounded down, and its remainder. By 0 the two mean nothing of use, and
-- no law speaks of it. They unfold everywhere and compute. proofs/Division.antt has what characterises them:
-- d·floor(a, d) ≤ a < d·floor(a, d) + d, and a = d·floor(a, d) + modulo(a, d). Assumes nothing.
use Rattle.std.specs.Prelude.{ℕ, suc, ◌-◌, ◌/◌, ◌%◌, ℤ, pos, negsuc}

-- a / d, rounded down
abbrev pub floor : ℤ → ℕ → ℤ
floor (pos a) d = pos (a / d)
floor (negsuc a) d = negsuc (a / d)

-- a modulo d, from 0 up to d - 1
abbrev pub modulo : ℤ → ℕ → ℕ
modulo (pos a) d = a % d
modulo (negsuc a) d = d - suc (a % d)
