-- A bound on an integer without its sign, |x| ≤ B, as contracts and lemmas state it.
-- It is a record, so that the proofs find it unasked: `omega linear` of proofs/Parts.antt takes up each `Within` in reach, also in
-- the fields of other records. Its laws are in proofs/Absolute.antt, `within_add` and the others there. Assumes nothing.
use Rattle.std.specs.Prelude.{ℕ, ◌≤◌, ℤ, nat_abs}

-- |x| ≤ B
pub record Within (B : ℕ) (x : ℤ) : Type 0 where
  pub within : nat_abs x ≤ B
