-- The rounding to the nearest by a floor: with `half` added, the quotient rounded down is the one rounded to the nearest. Assumes nothing.
use mathlib.Core.Path.{◌≡◌, refl, sym, ◌∙◌}
use Prim.Native.Nat.{ℕ, suc, ◌+◌, ◌<◌}
use native.Mathlib.Omega.{arith}
use lib.IntN.{ℤ, pos, negsuc, neg_ℤ, nat_abs, ◌+ℤ◌}
use lib.Signed.{◌<ℤ◌}
use mir.Facts.{to_z-of_z}
use mir.Syntax.{Width, w64}
use mir.Val.{SFits, to_z, of_z}
use Rattle.integers.specs.Division.{floor}
use Rattle.integers.specs.Rounding.{nearest, round}
use Rattle.integers.proofs.Absolute.{abs_add}
use Rattle.integers.proofs.Division.{floor_unique}
use Rattle.integers.proofs.Linear.{reify, show}
use Rattle.integers.proofs.Parts.{of_lt}
use Rattle.integers.proofs.Rounding.{nearest_between}
use Rattle.rounding.specs.Half.{half}

-- the machine reads what a function f of the code has answered, r, as that of the numbers which it was given
pub answer_read : (f : ℤ → ℕ → ℤ) {w : Width} {a d r : ℤ} → SFits w64 a → SFits w64 d → SFits w r
    → r ≡ f (to_z w64 (of_z w64 a)) (nat_abs (to_z w64 (of_z w64 d))) → to_z w (of_z w r) ≡ f a (nat_abs d)
answer_read f g h k e = to_z-of_z k ∙ (simp to_z-of_z at e)

pub half_read : {a d r : ℤ} → SFits w64 a → SFits w64 d → SFits w64 r → r ≡ pos (half (to_z w64 (of_z w64 a)) (nat_abs (to_z w64 (of_z w64 d)))) →
    to_z w64 (of_z w64 r) ≡ pos (half a (nat_abs d))
half_read = answer_read (λ a d. pos (half a d))

-- a with its half added
abbrev pub before_floor : ℤ → ℤ → ℤ
before_floor a d = a +ℤ pos (half a (nat_abs d))

-- its floor is a / d rounded to the nearest
pub before_floor_rounds : (a d : ℤ) → pos 0 <ℤ d → floor (before_floor a d) (nat_abs d) ≡ round a (nat_abs d)
unfolding round
before_floor_rounds a (negsuc n) h = absurd h.lt
before_floor_rounds (pos a) (pos n) h = refl
before_floor_rounds (negsuc a) (pos n) h =
    let between = nearest_between (suc a) n (omega (arith, of_lt h)) in
    sym
    (floor_unique (before_floor (negsuc a) (pos n)) (neg_ℤ (pos (nearest (suc a) n))) n
    (show (simp reify tt) (omega (arith, between)))
    (show (simp reify tt) (omega (arith, between))))

-- what is added is less than d
pub before_floor_size : (a d : ℤ) → pos 0 <ℤ d → nat_abs (before_floor a d) < nat_abs a + nat_abs d
before_floor_size a (negsuc n) h = absurd h.lt
before_floor_size a (pos n) h = omega (arith, abs_add a (pos (half a n)), below a (omega (arith, of_lt h)))
  where
    below : (a : ℤ) → 0 < n → half a n < n
    below (pos a) k = omega arith
    below (negsuc a) k = omega arith
