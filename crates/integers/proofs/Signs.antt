-- A negative 16-bit number from its size. Assumes nothing.
use mathlib.Core.Path.{◌≡◌, ap, ◌∙◌}
use Prim.Native.Nat.{ℕ, ◌≤◌}
use native.Mathlib.Omega.{arith}
use lib.IntN.{pos, neg_ℤ, ◌-ℤ◌, +ℤ_idl}
use mir.Facts.{sfits_widen, to_z-of_z, to_z_pos}
use mir.Syntax.{w16, w64}
use mir.Val.{SFits, to_z, of_z}
use Rattle.integers.proofs.Linear.{reify, show}

-- a size with a minus, which the machine takes from 0 as a 64-bit number and then casts to 16 bits
module _ (v : ℕ) (h : v ≤ 32768) where
  fits : SFits w16 (pos 0 -ℤ pos v)
  fits = small h
    where
      small : v ≤ 32768 → SFits w16 (pos 0 -ℤ pos v)
      small = show (simp reify tt) (omega arith)

  size : to_z w64 v ≡ pos v
  size = to_z_pos w64 (omega arith)

  pub minus_fits : SFits w64 (pos 0 -ℤ to_z w64 v)
  minus_fits = rw size (sfits_widen tt fits)

  minus_is : to_z w64 (of_z w64 (pos 0 -ℤ to_z w64 v)) ≡ pos 0 -ℤ pos v
  minus_is = to_z-of_z minus_fits ∙ ap (λ z. pos 0 -ℤ z) size

  pub minus_fits_16 : SFits w16 (to_z w64 (of_z w64 (pos 0 -ℤ to_z w64 v)))
  minus_fits_16 = rw minus_is fits

  pub minus_16 : to_z w16 (of_z w16 (to_z w64 (of_z w64 (pos 0 -ℤ to_z w64 v)))) ≡ neg_ℤ (pos v)
  minus_16 = to_z-of_z minus_fits_16 ∙ minus_is ∙ +ℤ_idl (neg_ℤ (pos v))
