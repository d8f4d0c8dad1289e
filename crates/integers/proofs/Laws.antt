-- The laws of the ordered commutative ring ℤ that `lib.IntN` and `lib.Signed` lack, for proofs that apply a law by its name.
-- A linear statement needs none of them (proofs/Linear.antt), nor does a polynomial identity (proofs/Ring.antt).
-- The last section proves an inequality by a certificate: for numbers past the 38 digits of `omega`, and for products of unknowns.
-- Assumes nothing.
use mathlib.Core.Path.{◌≡◌, sym, ap, subst}
use mathlib.Core.Logic.Dec
use mathlib.Core.Logic.Iff
use mathlib.Core.Logic.{◌⊎◌, inl, inr, ⊎_elim}
use Prim.Native.Nat.{ℕ, ◌+◌}
use native.Mathlib.Decide.{dec_le}
use native.Mathlib.Nat.{mul-le-mul_left, mul-lt-mul_of_pos_left}
use native.Mathlib.Omega.{arith}
use lib.IntN.{ℤ, pos, negsuc, ◌+ℤ◌, ◌-ℤ◌, ◌*ℤ◌, neg_ℤ, *ℤ-zero}
use lib.Signed.{◌≤ℤ◌, ◌<ℤ◌, clash_ℤ}
use Rattle.integers.proofs.Parts.{positive, negative, of_le, le_of, of_lt, le_nat}
use Rattle.integers.proofs.Linear.{reify, show}

-- ---- the commutative ring

pub +ℤ_left_comm : (x y z : ℤ) → x +ℤ (y +ℤ z) ≡ y +ℤ (x +ℤ z)
+ℤ_left_comm x y z = show (simp reify tt) (omega arith)

pub diff_zero : {x y : ℤ} → x -ℤ y ≡ pos 0 → x ≡ y
diff_zero {x} {y} = show (simp reify tt) (omega arith)

pub zero_diff : {x y : ℤ} → x ≡ y → x -ℤ y ≡ pos 0
zero_diff {x} {y} = show (simp reify tt) (omega arith)

pub *ℤ_idl : (x : ℤ) → pos 1 *ℤ x ≡ x
*ℤ_idl x = show (simp reify tt) (omega arith)

pub *ℤ_idr : (x : ℤ) → x *ℤ pos 1 ≡ x
*ℤ_idr x = show (simp reify tt) (omega arith)

pub *ℤ_assoc : (x y z : ℤ) → x *ℤ y *ℤ z ≡ x *ℤ (y *ℤ z)
*ℤ_assoc x y z = show (simp reify tt) (omega arith)

pub *ℤ_left_comm : (x y z : ℤ) → x *ℤ (y *ℤ z) ≡ y *ℤ (x *ℤ z)
*ℤ_left_comm x y z = show (simp reify tt) (omega arith)

pub *ℤ_+ℤ : (x y z : ℤ) → x *ℤ (y +ℤ z) ≡ x *ℤ y +ℤ x *ℤ z
*ℤ_+ℤ x y z = show (simp reify tt) (omega arith)

pub +ℤ_*ℤ : (x y z : ℤ) → (x +ℤ y) *ℤ z ≡ x *ℤ z +ℤ y *ℤ z
+ℤ_*ℤ x y z = show (simp reify tt) (omega arith)

pub negℤ_*ℤ : (x y : ℤ) → neg_ℤ x *ℤ y ≡ neg_ℤ (x *ℤ y)
negℤ_*ℤ x y = show (simp reify tt) (omega arith)

pub *ℤ_negℤ : (x y : ℤ) → x *ℤ neg_ℤ y ≡ neg_ℤ (x *ℤ y)
*ℤ_negℤ x y = show (simp reify tt) (omega arith)

-- both sides times k: what `read_poly` is handed where a fact is wanted times a factor
pub times : (k : ℤ) {x y : ℤ} → x ≡ y → k *ℤ x ≡ k *ℤ y
times k e = ap (λ z. k *ℤ z) e

-- ---- the order

pub ≤ℤ_of_≡ : {x y : ℤ} → x ≡ y → x ≤ℤ y
≤ℤ_of_≡ {x} {y} = show (simp reify tt) (omega arith)

pub ≤ℤ_antisym : {x y : ℤ} → x ≤ℤ y → y ≤ℤ x → x ≡ y
≤ℤ_antisym {x} {y} = show (simp reify tt) (omega arith)

pub <ℤ→≤ℤ : {x y : ℤ} → x <ℤ y → x ≤ℤ y
<ℤ→≤ℤ {x} {y} = show (simp reify tt) (omega arith)

pub ≤ℤ_trans : {x y z : ℤ} → x ≤ℤ y → y ≤ℤ z → x ≤ℤ z
≤ℤ_trans {x} {y} {z} = show (simp reify tt) (omega arith)

pub ≤ℤ_<ℤ_trans : {x y z : ℤ} → x ≤ℤ y → y <ℤ z → x <ℤ z
≤ℤ_<ℤ_trans {x} {y} {z} = show (simp reify tt) (omega arith)

pub ≤ℤ_dec : (x y : ℤ) → Dec (x ≤ℤ y)
≤ℤ_dec x y = Dec.of_iff (Iff.symm (le_nat x y)) (dec_le (positive x + negative y) (positive y + negative x))

pub ≤ℤ_or_>ℤ : (x y : ℤ) → (x ≤ℤ y) ⊎ (y <ℤ x)
≤ℤ_or_>ℤ x y = go (≤ℤ_dec x y)
  where
    above : ¬ (x ≤ℤ y) → y <ℤ x
    above = show (simp reify tt) (omega arith)

    go : Dec (x ≤ℤ y) → (x ≤ℤ y) ⊎ (y <ℤ x)
    go (yes h) = inl h
    go (no h) = inr (above h)

-- ---- the order and the operations

pub negℤ_anti : {x y : ℤ} → x ≤ℤ y → neg_ℤ y ≤ℤ neg_ℤ x
negℤ_anti {x} {y} = show (simp reify tt) (omega arith)

-- a product with a number that is not negative
pub *ℤ_mono : (k : ℤ) {x y : ℤ} → pos 0 ≤ℤ k → x ≤ℤ y → (k *ℤ x) ≤ℤ (k *ℤ y)
*ℤ_mono (pos n) {x} {y} _ h = show (simp reify tt) (omega (arith, mul-le-mul_left n (of_le h)))
*ℤ_mono (negsuc n) p h = absurd p.le

-- a product with a positive number
pub *ℤ_mono< : (k : ℤ) {x y : ℤ} → pos 0 <ℤ k → x <ℤ y → (k *ℤ x) <ℤ (k *ℤ y)
*ℤ_mono< (pos n) {x} {y} p h = show (simp reify tt) (omega (arith, mul-lt-mul_of_pos_left {k = n} (of_lt h) (omega (arith, of_lt p))))
*ℤ_mono< (negsuc n) p h = absurd p.lt

-- a positive factor on both sides can be left out
pub *ℤ_cancel≤ : (k : ℤ) {x y : ℤ} → pos 0 <ℤ k → (k *ℤ x) ≤ℤ (k *ℤ y) → x ≤ℤ y
*ℤ_cancel≤ k {x} {y} p h = ⊎_elim (λ l. l) (λ l. clash_ℤ (*ℤ_mono< k p l) h) (≤ℤ_or_>ℤ x y)

pub *ℤ_cancel : (k : ℤ) {x y : ℤ} → pos 0 <ℤ k → k *ℤ x ≡ k *ℤ y → x ≡ y
*ℤ_cancel k {x} {y} p e = ≤ℤ_antisym (*ℤ_cancel≤ k p (≤ℤ_of_≡ e)) (*ℤ_cancel≤ k p (≤ℤ_of_≡ (sym e)))

pub *ℤ_nonneg : {x y : ℤ} → pos 0 ≤ℤ x → pos 0 ≤ℤ y → pos 0 ≤ℤ (x *ℤ y)
*ℤ_nonneg {x} {y} h k = subst (λ z. z ≤ℤ (x *ℤ y)) (*ℤ-zero x) (*ℤ_mono x h k)

pub square_nonneg : (x : ℤ) → pos 0 ≤ℤ (x *ℤ x)
square_nonneg (pos a) = le_of (omega arith)
square_nonneg (negsuc a) = le_of (omega arith)

-- ---- certificates: x ≤ℤ y, since y - x is a sum s that is plainly not negative
--     by_cert s (ring ρ (simp polys tt) tt) (search nonneg)      with s made of products of differences `v -ℤ u`, u ≤ℤ v, and of numbers

pub by_cert : {x y : ℤ} (s : ℤ) → y -ℤ x ≡ s → pos 0 ≤ℤ s → x ≤ℤ y
by_cert {x} {y} s = show (simp reify tt) (omega arith)

pub 0≤_diff : {x y : ℤ} → x ≤ℤ y → pos 0 ≤ℤ (y -ℤ x)
0≤_diff {x} {y} = show (simp reify tt) (omega arith)

pub 0≤_sum : {x y : ℤ} → pos 0 ≤ℤ x → pos 0 ≤ℤ y → pos 0 ≤ℤ (x +ℤ y)
0≤_sum {x} {y} = show (simp reify tt) (omega arith)

pub 0≤_nat : (n : ℕ) → pos 0 ≤ℤ pos n
0≤_nat n = show (simp reify tt) (omega arith)

pub ruleset nonneg = (0≤_diff, 0≤_sum, *ℤ_nonneg, 0≤_nat, square_nonneg)
