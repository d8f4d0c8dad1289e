-- The mirror (whole-sample symmetric) extension of a row: "The mirrored row". Assumes nothing.
use Rattle.std.specs.Prelude.{cond, ℕ, ◌-◌, ◌*◌, ltb, eqb, ℤ}
use Rattle.integers.specs.Division.{modulo}

-- an index r from 0 up that is above n - 1 is replaced by 2(n - 1) minus it
abbrev pub fold : ℕ → ℕ → ℕ
fold n r = cond (ltb (n - 1) r) (2 * (n - 1) - r) r

-- the place of a row of n that the index k reads: 0 for n = 1, otherwise k modulo 2(n - 1), folded
unfoldable pub mirror : ℕ → ℤ → ℕ
mirror n k = cond (eqb n 1) 0 (fold n (modulo k (2 * (n - 1))))
