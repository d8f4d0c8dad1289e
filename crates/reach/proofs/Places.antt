-- How far apart places and positions are, in numbers that `omega` reads. Assumes nothing.
use mathlib.Core.List.{[], ◌∷◌}
use mathlib.Core.Path.{◌≡◌, ap}
use Prim.Native.Nat.{ℕ, suc, ◌+◌, ◌-◌, ◌*◌, ◌≤◌, ◌<◌}
use native.Mathlib.Nat.{suc-mul, le_of_suc-le-suc, le_of_mul-le-mul_left, lt_of_mul-lt-mul_right}
use native.Mathlib.Omega.{arith}
use lib.IntN.{ℤ, pos, nat_abs, ◌+ℤ◌, ◌-ℤ◌, ◌*ℤ◌}
use Rattle.integers.proofs.Absolute.{abs_mul}
use Rattle.integers.proofs.Linear.{reify, show}
use Rattle.integers.proofs.Ring.{polys, ring}
use Rattle.bspline.proofs.Mirror.{Neighbours}
use Rattle.reach.specs.Reach.{apart}

-- |k - i| by differences that stop at 0
pub apart_is : (k i : ℕ) → apart k i ≡ (k - i) + (i - k)
apart_is k i = omega (arith, most, least)
  where
    most : nat_abs (pos k -ℤ pos i) ≤ (k - i) + (i - k)
    most = show (simp reify tt) (omega arith)

    least : nat_abs (pos k -ℤ pos i) < (k - i) + (i - k) → ⊥
    least = show (simp reify tt) (omega arith)

-- a neighbour is at most one place nearer
pub apart_next : (i k l : ℕ) → Neighbours k l → apart k i ≤ suc (apart l i)
apart_next i k l b = omega (arith, apart_is k i, apart_is l i)

-- ---- a position k + j/m that is at least g places from i
-- between k and k + 1, where i is k or before it
pub places_after : (m k j i g : ℕ) → j < m → i ≤ k → g * m ≤ apart (k * m + j) (i * m) → g ≤ k - i
places_after m k j i g h l a =
    let e : i + (k - i) ≡ k = omega arith in
    le_of_suc-le-suc (lt_of_mul-lt-mul_right m (omega (arith, apart_is (k * m + j) (i * m), ap (λ z. z * m) e, suc-mul (k - i) m)))

-- between k and k + 1, where i is k + 1 or behind it
pub places_before : (m k j i g : ℕ) → 0 < j → j < m → k < i → g * m ≤ apart (k * m + j) (i * m) → g ≤ i - suc k
places_before m k j i g some h l a =
    let e : k + suc (i - suc k) ≡ i = omega arith in
    le_of_suc-le-suc (lt_of_mul-lt-mul_right m (omega (arith, apart_is (k * m + j) (i * m), ap (λ z. z * m) e, suc-mul (i - suc k) m)))

-- at k
pub places_at : (m k i g : ℕ) → 0 < m → g * m ≤ apart (k * m + 0) (i * m) → g ≤ apart k i
places_at m k i g some a = le_of_mul-le-mul_left {k = m} (omega (arith, ap nat_abs (scaled (pos k) (pos i) (pos m)), abs_mul (pos m) (pos k -ℤ pos i))) some
  where
    scaled : (k i m : ℤ) → k *ℤ m +ℤ pos 0 -ℤ i *ℤ m ≡ m *ℤ (k -ℤ i)
    scaled k i m = ring (k ∷ i ∷ m ∷ []) (simp polys tt) tt
