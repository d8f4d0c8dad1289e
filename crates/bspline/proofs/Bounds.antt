-- The laws of a bound on every number of a list, `AllWithin`: the empty list, a list with one number more or less, a table, and the sum of the sizes.
-- The bound is one statement for each place, and the places of a list with one number more are 0 and those after it.
-- Assumes nothing.
use mathlib.Core.List.{List, [], ◌∷◌}
use Prim.Native.Nat.{ℕ, zero, suc, ◌+◌, ◌≤◌, ◌<◌}
use native.Mathlib.Decide.{dec_lt}
use native.Mathlib.Omega.{arith}
use lib.IntN.{ℤ, pos, nat_abs}
use lib.ListN.{length, get_or-eq_default}
use Rattle.integers.specs.Bound.{Within}
use Rattle.bspline.specs.Bounds.{AllWithin, sizes}
use Rattle.bspline.specs.Lists.{at, tabulate}

-- the empty list is within every bound
pub nil_within : (B : ℕ) → AllWithin B []
nil_within B = record { within = λ k. omega arith }

-- a number within the bound, put before a list within it
pub cons_within : {B : ℕ} {x : ℤ} {l : List ℤ} → nat_abs x ≤ B → AllWithin B l → AllWithin B (x ∷ l)
cons_within {B} {x} {l} h g = record { within = each }
  where
    each : (k : ℕ) → nat_abs (at (x ∷ l) k) ≤ B
    each zero = h
    each (suc k) = g.within k

-- four numbers within it
pub four_within : {B : ℕ} {a b c d : ℤ} → Within B a → Within B b → Within B c → Within B d → AllWithin B (a ∷ b ∷ c ∷ d ∷ [])
four_within {B} p q r s = cons_within p.within (cons_within q.within (cons_within r.within (cons_within s.within (nil_within B))))

-- the list after its first number
pub rest_within : {B : ℕ} {x : ℤ} {l : List ℤ} → AllWithin B (x ∷ l) → AllWithin B l
rest_within h = record { within = λ k. h.within (suc k) }

-- a greater bound
pub all_weaken : {A B : ℕ} {l : List ℤ} → A ≤ B → AllWithin A l → AllWithin B l
all_weaken {l = l} h g = record { within = λ k. omega (arith, g.within k, h) }

-- a table of a function that is within the bound below a + n
pub tabulate_within : (B : ℕ) (f : ℕ → ℤ) (a n : ℕ) → ((k : ℕ) → k < a + n → nat_abs (f k) ≤ B) → AllWithin B (tabulate f a n)
unfolding tabulate
tabulate_within B f a zero h = nil_within B
tabulate_within B f a (suc n) h = cons_within (h a (omega arith)) (tabulate_within B f (suc a) n (λ k g. h k (omega arith)))

-- a list each of whose places is within the bound
pub places_within : (B : ℕ) (l : List ℤ) → ((k : ℕ) → k < length l → nat_abs (at l k) ≤ B) → AllWithin B l
places_within B l h = record { within = λ k. each k (dec_lt k (length l)) }
  where
    each : (k : ℕ) → Dec (k < length l) → nat_abs (at l k) ≤ B
    each k (yes g) = h k g
    each k (no g) =
        let past : length l ≤ k = omega arith in
        rw (get_or-eq_default l (pos 0) past) (omega arith)

-- no number is further from 0 than all sizes together
pub sizes_within : (l : List ℤ) → AllWithin (sizes l) l
sizes_within [] = nil_within 0
sizes_within (x ∷ l) = cons_within (omega arith) (all_weaken (omega arith) (sizes_within l))
