-- The weighted sum between two places of a row, as a cubic of the numerator. Assumes nothing.
use mathlib.Core.List.{[], ◌∷◌}
use mathlib.Core.Path.{◌≡◌}
use Prim.Native.Nat.{ℕ}
use lib.IntN.{ℤ, pos, ◌+ℤ◌, ◌-ℤ◌, ◌*ℤ◌}
use Rattle.integers.proofs.Ring.{polys, ring}
use Rattle.bspline.specs.Values.{weights, dot}
use Rattle.bspline.proofs.Weights.{weights_of, weights_products}

-- the cubic at j, whose coefficients are made of the four numbers and m
abbrev cubic : (m j b h a e : ℤ) → ℤ
cubic m j b h a e =
    (((e -ℤ b +ℤ pos 3 *ℤ (h -ℤ a)) *ℤ j +ℤ pos 3 *ℤ m *ℤ (b -ℤ pos 2 *ℤ h +ℤ a)) *ℤ j +ℤ pos 3 *ℤ m *ℤ m *ℤ (a -ℤ b)) *ℤ j +ℤ
    m *ℤ m *ℤ m *ℤ (b +ℤ pos 4 *ℤ h +ℤ a)

collected : (m j b h a e : ℤ) → cubic m j b h a e ≡ dot (weights_of m j) (b ∷ h ∷ a ∷ e ∷ [])
collected m j b h a e = ring (m ∷ j ∷ b ∷ h ∷ a ∷ e ∷ []) (simp polys tt) tt

-- it is the weighted sum of the four
pub cubic_sum_lem : (m j : ℕ) (b h a e : ℤ) → cubic (pos m) (pos j) b h a e ≡ dot (weights m j) (b ∷ h ∷ a ∷ e ∷ [])
cubic_sum_lem m j b h a e = rw (weights_products m j) (collected (pos m) (pos j) b h a e)
