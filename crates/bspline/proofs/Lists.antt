-- The laws of tables: how many numbers they have, which number stands where, and when two tables are the same; of a function of every number.
-- `tabulate` takes one number off at a time, so each law is an induction over the count. Assumes nothing.
use mathlib.Core.List.{List, [], ◌∷◌, map}
use mathlib.Core.Path.{◌≡◌, refl, ap, ap₂, ◌∙◌}
use Prim.Native.Nat.{ℕ, zero, suc, ◌+◌, ◌<◌}
use native.Mathlib.Nat.{zero-add}
use native.Mathlib.Omega.{arith}
use lib.IntN.{ℤ}
use lib.ListN.{length, take, drop}
use Rattle.bspline.specs.Lists.{tabulate, at}

-- a table of n numbers has n numbers
pub tabulate_length : (f : ℕ → ℤ) (a n : ℕ) → length (tabulate f a n) ≡ n
unfolding tabulate
tabulate_length f a zero = refl
tabulate_length f a (suc n) = ap suc (tabulate_length f (suc a) n)

-- the number at place k of a table from a on is f (a + k)
pub tabulate_at : (f : ℕ → ℤ) (a n k : ℕ) → k < n → at (tabulate f a n) k ≡ f (a + k)
unfolding tabulate
tabulate_at f a zero k h = absurd (omega arith)
tabulate_at f a (suc n) zero h = ap f (omega arith)
tabulate_at f a (suc n) (suc k) h = tabulate_at f (suc a) n k (omega arith) ∙ ap f (omega arith)

-- where it begins at 0, that is f k
pub tabulate_from_zero : (f : ℕ → ℤ) (n k : ℕ) → k < n → at (tabulate f 0 n) k ≡ f k
tabulate_from_zero f n k h = tabulate_at f 0 n k h ∙ ap f (zero-add k)

-- functions that agree below a + n have the same table
pub tabulate_same : (f g : ℕ → ℤ) (a n : ℕ) → ((k : ℕ) → k < a + n → f k ≡ g k) → tabulate f a n ≡ tabulate g a n
unfolding tabulate
tabulate_same f g a zero e = refl
tabulate_same f g a (suc n) e = ap₂ ◌∷◌ (e a (omega arith)) (tabulate_same f g (suc a) n (λ k h. e k (omega arith)))

-- a function of every number of a table is the table of that function's numbers
pub tabulate_map : (h : ℤ → ℤ) (f : ℕ → ℤ) (a n : ℕ) → tabulate (λ k. h (f k)) a n ≡ map h (tabulate f a n)
unfolding tabulate
tabulate_map h f a zero = refl
tabulate_map h f a (suc n) = ap (λ l. h (f a) ∷ l) (tabulate_map h f (suc a) n)

-- ---- a function of every number of a part of a list
pub take_map : (h : ℤ → ℤ) (n : ℕ) (l : List ℤ) → take n (map h l) ≡ map h (take n l)
take_map h zero l = refl
take_map h (suc n) [] = refl
take_map h (suc n) (a ∷ l) = ap (λ k. h a ∷ k) (take_map h n l)

pub drop_map : (h : ℤ → ℤ) (n : ℕ) (l : List ℤ) → drop n (map h l) ≡ map h (drop n l)
drop_map h zero l = refl
drop_map h (suc n) [] = refl
drop_map h (suc n) (a ∷ l) = drop_map h n l
