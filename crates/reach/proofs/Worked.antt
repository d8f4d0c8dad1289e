-- The bound of the exact solutions is reached at every place of two rows: of two samples, where the first differs, and of three, where the middle one does.
-- So no smaller number than 2 would do. And from how many places on coefficients differ by at most 3 units, and the table
-- of docs/REACH.md: so many places are enough, and none fewer are. All by computing. Assumes nothing.
use mathlib.Core.List.{List, [], ◌∷◌}
use mathlib.Core.Path.{◌≡◌, refl}
use Prim.Native.Nat.{ℕ, zero, suc, ◌*◌, ◌^◌, ◌<◌}
use lib.Dec.{lit<}
use lib.IntN.{ℤ, pos, neg_ℤ}
use Rattle.bspline.specs.Exact.{tridiagonal, Solves, whole}
use Rattle.bspline.specs.Lists.{at}
use Rattle.bspline.specs.Mirror.{mirror}
use Rattle.bspline.proofs.Worked.{Each, equations_solve}
use Rattle.reach.specs.Reach.{DifferAt, solutions_gap, solutions_bound, Row}
use Rattle.reach.proofs.Marks.{row}

-- ---- the bound is reached
-- rows of n that differ by 1 at place i, their exact solutions, and at each place the bound with "equal" for "at most"
pub record BoundReached (n i : ℕ) (s t c e : List ℤ) : Type 0 where
  pub differ : DifferAt i (pos 1) s t
  pub solved : Solves n (whole s) (whole c)
  pub solved' : Solves n (whole t) (whole e)
  pub reached : Each n (λ k. solutions_gap i (whole c) (whole e) k ≡ solutions_bound (pos 1) (whole c) (whole e))

-- (0, 0) and (1, 0)
pub two_reached : BoundReached 2 0 (pos 0 ∷ pos 0 ∷ []) (pos 1 ∷ pos 0 ∷ []) (pos 0 ∷ pos 0 ∷ []) (pos 2 ∷ neg_ℤ (pos 1) ∷ [])
unfolding tridiagonal mirror
two_reached = record {
  differ = record { long = refl; there = refl; elsewhere = only };
  solved = equations_solve 2 _ _ (refl, (refl, tt));
  solved' = equations_solve 2 _ _ (refl, (refl, tt));
  reached = (refl, (refl, tt));
}
  where
    only : (k : ℕ) → (k ≡ 0 → ⊥) → at (pos 1 ∷ pos 0 ∷ []) k ≡ at (pos 0 ∷ pos 0 ∷ []) k
    only zero other = absurd (other refl)
    only (suc k) other = refl

-- (0, 0, 0) and (0, 1, 0)
pub three_reached : BoundReached 3 1 (pos 0 ∷ pos 0 ∷ pos 0 ∷ []) (pos 0 ∷ pos 1 ∷ pos 0 ∷ []) (pos 0 ∷ pos 0 ∷ pos 0 ∷ [])
    (neg_ℤ (pos 1) ∷ pos 2 ∷ neg_ℤ (pos 1) ∷ [])
unfolding tridiagonal mirror
three_reached = record {
  differ = record { long = refl; there = refl; elsewhere = only };
  solved = equations_solve 3 _ _ (refl, (refl, (refl, tt)));
  solved' = equations_solve 3 _ _ (refl, (refl, (refl, tt)));
  reached = (refl, (refl, (refl, tt)));
}
  where
    only : (k : ℕ) → (k ≡ 1 → ⊥) → at (pos 0 ∷ pos 1 ∷ pos 0 ∷ []) k ≡ at (pos 0 ∷ pos 0 ∷ pos 0 ∷ []) k
    only zero other = refl
    only (suc zero) other = absurd (other refl)
    only (suc (suc k)) other = refl

-- ---- 29 places are enough for 3 units
pub three_units_from : 8192 * 65535 < 2 ^ 29
three_units_from = lit< tt

-- ---- the table of docs/REACH.md
pub places_table :
    Row 1 9 5 1 0
    × Row 4 11 7 3 0
    × Row 16 13 9 5 1
    × Row 64 15 11 7 3
    × Row 256 17 13 9 5
    × Row 1024 19 15 11 7
    × Row 4096 21 17 13 9
    × Row 16384 23 19 15 11
    × Row 65535 25 21 17 13
places_table = (row refl, row refl, row refl, row refl, row refl, row refl, row refl, row refl, row refl)
