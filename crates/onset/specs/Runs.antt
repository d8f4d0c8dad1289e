-- Runs of values that reach a threshold, and the greatest value: "Where a click starts". Assumes nothing.
use Rattle.std.specs.Prelude.{Bool, true, false, ◌&&◌, cond, List, [], ◌∷◌, ℕ, zero, suc, ◌+◌, ◌≤◌, ◌<◌, ℤ, pos, length, ◌≤ℤ◌}
use Rattle.std.proofs.Math.Option.{Option, none, some, map}
use Rattle.std.specs.Int.Signed.{le_z, lt_z}
use Rattle.bspline.specs.Lists.{at}

-- how many values in a row make a run
abbrev pub run_length : ℕ
run_length = 8

-- whether a list begins with n values that reach the threshold: each is at or above it
unfoldable pub reached : ℤ → ℕ → List ℤ → Bool
reached t zero l = true
reached t (suc n) [] = false
reached t (suc n) (v ∷ l) = le_z t v && reached t n l

-- the first place from which a run reaches it, or none
unfoldable pub first_run : ℤ → List ℤ → Option ℕ
first_run t [] = none
first_run t (v ∷ l) = cond (reached t run_length (v ∷ l)) (some 0) (map suc (first_run t l))

-- the greater of two values
abbrev pub greater : ℤ → ℤ → ℤ
greater v w = cond (lt_z v w) w v

-- the greatest of a value and those of a list
unfoldable pub greatest_from : ℤ → List ℤ → ℤ
greatest_from v [] = v
greatest_from v (w ∷ l) = greatest_from (greater v w) l

-- the greatest value of a list; of an empty one 0
abbrev pub greatest : List ℤ → ℤ
greatest [] = pos 0
greatest (v ∷ l) = greatest_from v l

-- ---- the same by places, for the theorems
-- a run starts at a place: the values from there on are in the list, and each reaches the threshold
pub record Run (t : ℤ) (l : List ℤ) (place : ℕ) : Type 0 where
  pub inside : place + run_length ≤ length l
  pub reach : (i : ℕ) → i < run_length → t ≤ℤ at l (place + i)

-- it is the first: none starts before it
pub record FirstRun (t : ℤ) (l : List ℤ) (place : ℕ) : Type 0 where
  pub run : Run t l place
  pub none_before : (p : ℕ) → p < place → Run t l p → ⊥

-- none starts anywhere
pub record NoRun (t : ℤ) (l : List ℤ) : Type 0 where
  pub nowhere : (p : ℕ) → Run t l p → ⊥
