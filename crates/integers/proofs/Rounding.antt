-- Rounding to the nearest: `round` of specs/Rounding.antt. `round_near`, `round_neg` and `round_tie` are the laws whose proofs see what `round` is, with
-- `round_double` of Rounded.antt, which has what follows from them. Another rule for a tie is a change of the specification and of these proofs.
-- With a literal d, `read (round_near a d h) (simp reify tt)` gives `omega` all it needs. Assumes nothing.
use mathlib.Core.Path.{◌≡◌, refl, sym, ap, ◌∙◌}
use Prim.Native.Nat.{ℕ, zero, suc, ◌+◌, ◌*◌, ◌/◌, ◌<◌, ◌≤◌}
use native.Mathlib.Nat.{div-add-mod, div-eq_of_lt, mod-lt, mul-add, mul-div_cancel_left}
use native.Mathlib.Omega.{arith}
use lib.IntN.{ℤ, pos, negsuc, neg_ℤ, nat_abs, ◌-ℤ◌, ◌*ℤ◌, neg_ℤ-neg_ℤ}
use Rattle.integers.specs.Rounding.{nearest, round}
use Rattle.integers.proofs.Linear.{reify, show}

-- nearest(a, d) is the quotient of a + d/2, rounded down
pub nearest_between : (a d : ℕ) → 0 < d → (d * nearest a d ≤ a + d / 2) × (a + d / 2 < d * nearest a d + d)
nearest_between a d h = omega (arith, div-add-mod (a + d / 2) d, mod-lt (a + d / 2) h)

-- d·round(a, d) is at most d/2 from a
pub round_near : (a : ℤ) (d : ℕ) → 0 < d → 2 * nat_abs (pos d *ℤ round a d -ℤ a) ≤ d
unfolding round
round_near (pos a) d h = show (simp reify tt) (omega (arith, nearest_between a d h))
round_near (negsuc a) d h = show (simp reify tt) (omega (arith, nearest_between (suc a) d h))

-- zero gives zero, also by 0
nearest_zero : (d : ℕ) → nearest 0 d ≡ 0
nearest_zero zero = refl
nearest_zero (suc d) = div-eq_of_lt (omega arith)

-- the opposite number gives the opposite
pub round_neg : (a : ℤ) (d : ℕ) → round (neg_ℤ a) d ≡ neg_ℤ (round a d)
unfolding round
round_neg (pos zero) d = rw (nearest_zero d) refl
round_neg (pos (suc a)) d = refl
round_neg (negsuc a) d = sym (neg_ℤ-neg_ℤ (pos (nearest (suc a) d)))

-- halfway between k and k + 1 it is k + 1: a tie goes away from zero, by every divisor that has one
pub round_tie : (k d : ℕ) → 0 < d → round (pos (2 * d * k + d)) (2 * d) ≡ pos (suc k)
unfolding round
round_tie k d h = ap pos (ap (λ n. n / (2 * d)) whole ∙ mul-div_cancel_left (suc k) (omega arith))
  where
    whole : 2 * d * k + d + 2 * d / 2 ≡ 2 * d * suc k
    whole = omega (arith, mul-add (2 * d) k 1)
