-- Absolute values, `nat_abs` of `lib.IntN`, and the bounds that are stated by them: `nat_abs x ≤ B`, and the record `Within B x` of
-- specs/Bound.antt, which `omega linear` finds wherever it is in reach. The laws are for products, which `omega` does not bound
-- by itself, and for bounds that are no literals: `show (simp reify tt) (omega arith)` proves the rest. Assumes nothing.
use mathlib.Core.Path.{◌≡◌, refl}
use Prim.Native.Nat.{ℕ, zero, suc, ◌+◌, ◌*◌, ◌^◌, ◌≤◌, ◌<◌}
use native.Mathlib.Nat.{mul-le-mul, le_trans, le_of_eq}
use native.Mathlib.Omega.{arith}
use lib.IntN.{ℤ, pos, negsuc, ◌+ℤ◌, ◌-ℤ◌, ◌*ℤ◌, neg_ℤ, nat_abs}
use mir.Syntax.{Width}
use mir.Val.{SFits, hbits}
use Rattle.integers.specs.Bound.{Within}
use Rattle.integers.proofs.Parts.{nat_abs_nat}
use Rattle.integers.proofs.Linear.{reify, show}

-- ---- the operations

-- the triangle inequality
pub abs_add : (x y : ℤ) → nat_abs (x +ℤ y) ≤ nat_abs x + nat_abs y
abs_add x y = show (simp reify tt) (omega (arith, nat_abs_nat x, nat_abs_nat y))

pub abs_sub : (x y : ℤ) → nat_abs (x -ℤ y) ≤ nat_abs x + nat_abs y
abs_sub x y = show (simp reify tt) (omega (arith, nat_abs_nat x, nat_abs_nat y))

pub abs_neg : (x : ℤ) → nat_abs (neg_ℤ x) ≡ nat_abs x
abs_neg (pos zero) = refl
abs_neg (pos (suc n)) = refl
abs_neg (negsuc n) = refl

pub abs_mul : (x y : ℤ) → nat_abs (x *ℤ y) ≡ nat_abs x * nat_abs y
abs_mul (pos a) (pos b) = refl
abs_mul (pos a) (negsuc b) = abs_neg (pos (a * suc b))
abs_mul (negsuc a) (pos b) = abs_neg (pos (suc a * b))
abs_mul (negsuc a) (negsuc b) = refl

pub abs_mul≤ : (x y : ℤ) {A B : ℕ} → nat_abs x ≤ A → nat_abs y ≤ B → nat_abs (x *ℤ y) ≤ A * B
abs_mul≤ x y h k = le_trans (le_of_eq (abs_mul x y)) (mul-le-mul h k)

pub abs_zero : {x : ℤ} → nat_abs x ≡ 0 → x ≡ pos 0
abs_zero {x} e = zero_of (omega arith)
  where
    zero_of : nat_abs x ≤ 0 → x ≡ pos 0
    zero_of = show (simp reify tt) (omega arith)

-- ---- a number that is small enough fits a width

pub fits_abs : (w : Width) (z : ℤ) → nat_abs z < 2 ^ hbits w → SFits w z
fits_abs w z = show (simp reify tt) (omega arith)

pub abs_fits : {w : Width} (z : ℤ) → SFits w z → nat_abs z ≤ 2 ^ hbits w
abs_fits {w} z = show (simp reify tt) (omega arith)

-- ---- the same for `Within`

pub within_weaken : {A B : ℕ} {x : ℤ} → A ≤ B → Within A x → Within B x
within_weaken {A} {B} {x} = show (simp reify tt) (omega arith)

pub within_neg : {A : ℕ} {x : ℤ} → Within A x → Within A (neg_ℤ x)
within_neg {A} {x} = show (simp reify tt) (omega arith)

pub within_add : {A B : ℕ} {x y : ℤ} → Within A x → Within B y → Within (A + B) (x +ℤ y)
within_add {A} {B} {x} {y} = show (simp reify tt) (omega arith)

pub within_sub : {A B : ℕ} {x y : ℤ} → Within A x → Within B y → Within (A + B) (x -ℤ y)
within_sub {A} {B} {x} {y} = show (simp reify tt) (omega arith)

pub within_mul : {A B : ℕ} {x y : ℤ} → Within A x → Within B y → Within (A * B) (x *ℤ y)
within_mul {A} {B} {x} {y} h k = record { within = abs_mul≤ x y h.within k.within }

pub within_fits : (w : Width) {B : ℕ} {x : ℤ} → B < 2 ^ hbits w → Within B x → SFits w x
within_fits w {B} {x} = show (simp reify tt) (omega arith)

pub fits_within : {w : Width} {x : ℤ} → SFits w x → Within (2 ^ hbits w) x
fits_within {w} {x} = show (simp reify tt) (omega arith)
