-- The computed b solve the equations b[k-1] + 4b[k] + b[k+1] = t[k] up to a small whole number, the residual.
-- With Q = 2^31 and the three rounding errors named, eliminating p gives QZ times the residual as a sum of four products: the errors of b[k],
-- b[k-1] and p[k], at most 2^30 each, times Q, Z and Z, and b[k] times Q² + Z² - 4QZ = 1790155657, which is small since Z / Q nearly
-- solves z² - 4z + 1 = 0. Assumes nothing.
use mathlib.Core.List.{List, [], ◌∷◌}
use mathlib.Core.Path.{◌≡◌, ap}
use Prim.Native.Nat.{ℕ, suc, ◌+◌, ◌*◌, ◌^◌, ◌≤◌, ◌<◌}
use native.Mathlib.Omega.{arith}
use lib.IntN.{ℤ, pos, nat_abs, ◌+ℤ◌, ◌-ℤ◌, ◌*ℤ◌}
use lib.ListN.{length}
use Rattle.integers.proofs.Absolute.{abs_add, abs_sub, abs_mul}
use Rattle.integers.proofs.Ring.{polys, ring}
use Rattle.bspline.specs.Bounds.{AllWithin}
use Rattle.bspline.specs.Recursions.{Z, forward, backward}
use Rattle.bspline.specs.Lists.{at}
use Rattle.bspline.proofs.Lines.{forward_length, forward_at, backward_at}
use Rattle.bspline.proofs.Steps.{Q, causal_near, anticausal_near}

-- the identity, for any Q and Z. Of three neighbouring places, b₋ and p₋ stand before and b₊ after
pub residual_identity : (Q Z b₋ b b₊ p₋ p t : ℤ) →
    Q *ℤ Z *ℤ (b₋ +ℤ pos 4 *ℤ b +ℤ b₊ -ℤ t)
    ≡ Q *ℤ (Q *ℤ b -ℤ Z *ℤ (p -ℤ b₊))
    +ℤ Z *ℤ ((Q *ℤ b₋ -ℤ Z *ℤ (p₋ -ℤ b)) -ℤ (Q *ℤ (t -ℤ p) -ℤ Z *ℤ p₋))
    -ℤ (Q *ℤ Q +ℤ Z *ℤ Z -ℤ pos 4 *ℤ Q *ℤ Z) *ℤ b
residual_identity Q Z b₋ b b₊ p₋ p t = ring (Q ∷ Z ∷ b₋ ∷ b ∷ b₊ ∷ p₋ ∷ p ∷ t ∷ []) (simp polys tt) tt

-- Q² + Z² - 4QZ = 1790155657: 0 if Z / Q were the pole itself
abbrev pole_error : ℤ
pole_error = Q *ℤ Q +ℤ Z *ℤ Z -ℤ pos 4 *ℤ Q *ℤ Z

-- where |b| ≤ B, a residual of at most ρ leaves room for the four products
pub record Residual (B ρ : ℕ) : Type 0 where
  pub room : nat_abs pole_error * B + 2 ^ 30 * (nat_abs Q + 2 * nat_abs Z) ≤ nat_abs Q * nat_abs Z * ρ

-- the bound, from the three errors
residual_small : (B ρ : ℕ) (b₋ b b₊ p₋ p t : ℤ) → Residual B ρ → nat_abs b ≤ B →
    nat_abs (Q *ℤ b -ℤ Z *ℤ (p -ℤ b₊)) ≤ 2 ^ 30 → nat_abs (Q *ℤ b₋ -ℤ Z *ℤ (p₋ -ℤ b)) ≤ 2 ^ 30 → nat_abs (Q *ℤ (t -ℤ p) -ℤ Z *ℤ p₋) ≤ 2 ^ 30 →
    nat_abs (b₋ +ℤ pos 4 *ℤ b +ℤ b₊ -ℤ t) ≤ ρ
residual_small B ρ b₋ b b₊ p₋ p t r h e f g =
    let error-b = Q *ℤ b -ℤ Z *ℤ (p -ℤ b₊) in
    let error-b₋ = Q *ℤ b₋ -ℤ Z *ℤ (p₋ -ℤ b) in
    let error-p = Q *ℤ (t -ℤ p) -ℤ Z *ℤ p₋ in
    omega (
      arith,
      abs_mul (Q *ℤ Z) (b₋ +ℤ pos 4 *ℤ b +ℤ b₊ -ℤ t),
      ap nat_abs (residual_identity Q Z b₋ b b₊ p₋ p t),
      abs_sub (Q *ℤ error-b +ℤ Z *ℤ (error-b₋ -ℤ error-p)) (pole_error *ℤ b),
      abs_add (Q *ℤ error-b) (Z *ℤ (error-b₋ -ℤ error-p)),
      abs_mul Q error-b,
      abs_mul Z (error-b₋ -ℤ error-p),
      abs_sub error-b₋ error-p,
      abs_mul pole_error b,
    )

-- at every place of a line but its first and its last, the residual is at most ρ
pub filtered_residual : (B ρ : ℕ) (l : List ℤ) → Residual B ρ → AllWithin B (backward (forward (pos 0) l)) → (k : ℕ) → suc k < length l →
    let b = at (backward (forward (pos 0) l)) in nat_abs (b k +ℤ pos 4 *ℤ b (suc k) +ℤ b (suc (suc k)) -ℤ at l (suc k)) ≤ ρ
filtered_residual B ρ l r h k g =
    let p = at (forward (pos 0) l) in let b = at (backward (forward (pos 0) l)) in
    let same : length (forward (pos 0) l) ≡ length l = forward_length (pos 0) l in
    residual_small B ρ (b k) (b (suc k)) (b (suc (suc k))) (p k) (p (suc k)) (at l (suc k)) r (h.within (suc k))
    (rw (backward_at (forward (pos 0) l) (suc k) (omega arith)) (anticausal_near (p (suc k)) (b (suc (suc k)))))
    (rw (backward_at (forward (pos 0) l) k (omega arith)) (anticausal_near (p k) (b (suc k))))
    (rw (forward_at (pos 0) l (suc k) g) (causal_near (at l (suc k)) (p k)))
