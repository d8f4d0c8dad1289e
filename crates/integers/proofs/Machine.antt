-- What the machine asks and gives of signed numbers: a number from its bits, and `/` and `%`, which round toward zero.
-- `div_asks` is what the two operations ask, `rem_fits` and std's `quot_fits` strip the bits off their results. The floor is the quotient, less one
-- where the remainder is negative (`floor_quotient`, `floor_quotient_less`); or it is the exact quotient of what is left without the
-- remainder from 0 up (`modulo_remainder`, `modulo_remainder_less`, `floor_exact`); or, for a number that a multiple of d brings to 0 or above, an
-- unsigned quotient less that multiple (`floor_moved`). Assumes nothing.
use mathlib.Core.Logic.{◌⊎◌, inl, inr}
use mathlib.Core.Path.{◌≡◌, ◌∙◌, ap}
use Prim.Native.Nat.{ℕ, ◌*◌, ◌/◌, ◌^◌, ◌<◌}
use native.Mathlib.Nat.{mul-le-mul_left}
use native.Mathlib.Omega.{arith}
use lib.IntN.{ℤ, pos, negsuc, nat_abs, ◌+ℤ◌, ◌-ℤ◌, ◌*ℤ◌, *ℤ_comm}
use lib.Signed.{◌≤ℤ◌, ◌<ℤ◌, quot_z, rem_z, mag_rem}
use mir.Facts.{to_z-of_z}
use mir.Syntax.{Width}
use mir.Val.{SFits, hbits, to_z, of_z}
use mir.ValLaws.{sfits_le}
use Rattle.std.proofs.lemmas.Int.{quot-rem, quot_fits, rem_below}
use Rattle.integers.specs.Division.{floor, modulo}
use Rattle.integers.proofs.Absolute.{abs_mul, abs_fits, fits_abs}
use Rattle.integers.proofs.Parts.{of_lt}
use Rattle.integers.proofs.Laws.{≤ℤ_or_>ℤ}
use Rattle.integers.proofs.Linear.{reify, show}
use Rattle.integers.proofs.Division.{floor_unique, floor_add, floor_multiple, modulo_equation}

-- a number of one width times a natural number, at a width that holds the product
pub product_widens : {v : Width} (w : Width) (m : ℕ) (x : ℤ) → SFits v x → m * 2 ^ hbits v < 2 ^ hbits w → SFits w (pos m *ℤ x)
product_widens {v} w m x f h = fits_abs w (pos m *ℤ x) (omega (arith, abs_mul (pos m) x, mul-le-mul_left m (abs_fits x f)))

-- ---- the quotient and the remainder toward zero

pub rem_fits : {w : Width} (a d : ℤ) → SFits w a → SFits w (rem_z a d)
rem_fits a d f = sfits_le (mag_rem a d) f

-- what the machine asks of `a / d` and of `a % d`, with a positive d
pub div_asks : (w : Width) (a d : ℤ) → pos 0 <ℤ d → SFits w a → SFits w d
    → (0 < of_z w d) × SFits w (quot_z (to_z w (of_z w a)) (to_z w (of_z w d)))
div_asks w a d h f g = (bits d h, simp (to_z-of_z f, to_z-of_z g) (quot_fits w a d f h))
  where
    bits : (d : ℤ) → pos 0 <ℤ d → 0 < of_z w d
    bits (pos d) h = omega (arith, of_lt h)
    bits (negsuc d) h = absurd h.lt

-- ---- the floor: the quotient, less one where the remainder is negative

-- a = q·n + r with 0 ≤ r < n
exact : (a q r : ℤ) (n : ℕ) → q *ℤ pos n +ℤ r ≡ a → pos 0 ≤ℤ r → nat_abs r < n → q ≡ floor a n
exact a q r n e k b = let l = between e k b in floor_unique a q n l.0 l.1
  where
    between : q *ℤ pos n +ℤ r ≡ a → pos 0 ≤ℤ r → nat_abs r < n → ((pos n *ℤ q) ≤ℤ a) × (a <ℤ (pos n *ℤ q +ℤ pos n))
    between = show (simp reify tt) (omega arith)

-- a = q·n + r with -n < r < 0: a = (q - 1)·n + (r + n)
less : (a q r : ℤ) (n : ℕ) → q *ℤ pos n +ℤ r ≡ a → r <ℤ pos 0 → nat_abs r < n → q -ℤ pos 1 ≡ floor a n
less a q r n e k b = let l = shift e k b in exact a (q -ℤ pos 1) (r +ℤ pos n) n l.0 l.1.0 l.1.1
  where
    shift : q *ℤ pos n +ℤ r ≡ a → r <ℤ pos 0 → nat_abs r < n
        → ((q -ℤ pos 1) *ℤ pos n +ℤ (r +ℤ pos n) ≡ a) × ((pos 0 ≤ℤ (r +ℤ pos n)) × (nat_abs (r +ℤ pos n) < n))
    shift = show (simp reify tt) (omega arith)

pub floor_quotient : (a d : ℤ) → pos 0 <ℤ d → pos 0 ≤ℤ rem_z a d → quot_z a d ≡ floor a (nat_abs d)
floor_quotient a (pos n) h k =
    exact a (quot_z a (pos n)) (rem_z a (pos n)) n (quot-rem a (pos n)) k (rem_below a (pos n) (omega (arith, of_lt h)))
floor_quotient a (negsuc n) h k = absurd h.lt

pub floor_quotient_less : (a d : ℤ) → pos 0 <ℤ d → rem_z a d <ℤ pos 0 → quot_z a d -ℤ pos 1 ≡ floor a (nat_abs d)
floor_quotient_less a (pos n) h k =
    less a (quot_z a (pos n)) (rem_z a (pos n)) n (quot-rem a (pos n)) k (rem_below a (pos n) (omega (arith, of_lt h)))
floor_quotient_less a (negsuc n) h k = absurd h.lt

-- ---- from the remainder toward zero to the remainder from 0 up: d more where it is negative
pub modulo_remainder : (a d : ℤ) → pos 0 <ℤ d → pos 0 ≤ℤ rem_z a d → rem_z a d ≡ pos (modulo a (nat_abs d))
modulo_remainder a (negsuc d) h k = absurd h.lt
modulo_remainder a (pos n) h k =
    rest (quot_z a (pos n)) (rem_z a (pos n)) (floor a n) (pos (modulo a n)) (quot-rem a (pos n)) (floor_quotient a (pos n) h k) (modulo_equation a n (omega (arith, of_lt h)))
  where
    rest : (q r f m : ℤ) → q *ℤ pos n +ℤ r ≡ a → q ≡ f → a ≡ pos n *ℤ f +ℤ m → r ≡ m
    rest q r f m e g k = same (rw g at e) k
      where
        same : f *ℤ pos n +ℤ r ≡ a → a ≡ pos n *ℤ f +ℤ m → r ≡ m
        same = show (simp reify tt) (omega arith)

pub modulo_remainder_less : (a d : ℤ) → pos 0 <ℤ d → rem_z a d <ℤ pos 0 → rem_z a d +ℤ d ≡ pos (modulo a (nat_abs d))
modulo_remainder_less a (negsuc d) h k = absurd h.lt
modulo_remainder_less a (pos n) h k =
    rest (quot_z a (pos n)) (rem_z a (pos n)) (floor a n) (pos (modulo a n)) (quot-rem a (pos n)) (floor_quotient_less a (pos n) h k) (modulo_equation a n (omega (arith, of_lt h)))
  where
    rest : (q r f m : ℤ) → q *ℤ pos n +ℤ r ≡ a → q -ℤ pos 1 ≡ f → a ≡ pos n *ℤ f +ℤ m → r +ℤ pos n ≡ m
    rest q r f m e g k = same e (rw (← g) at k)
      where
        same : q *ℤ pos n +ℤ r ≡ a → a ≡ pos n *ℤ (q -ℤ pos 1) +ℤ m → r +ℤ pos n ≡ m
        same = show (simp reify tt) (omega arith)

-- without its remainder, a number is divided exactly
pub floor_exact : (a d : ℤ) → pos 0 <ℤ d → quot_z (a -ℤ pos (modulo a (nat_abs d))) d ≡ floor a (nat_abs d)
floor_exact a (negsuc d) h = absurd h.lt
floor_exact a (pos n) h = rw whole (multiple (floor a n))
  where
    whole : a -ℤ pos (modulo a n) ≡ pos n *ℤ floor a n
    whole = taken (floor a n) (pos (modulo a n)) (modulo_equation a n (omega (arith, of_lt h)))
      where
        taken : (f m : ℤ) → a ≡ pos n *ℤ f +ℤ m → a -ℤ m ≡ pos n *ℤ f
        taken f m = show (simp reify tt) (omega arith)

    multiple : (q : ℤ) → quot_z (pos n *ℤ q) (pos n) ≡ q
    multiple q = by_sign (≤ℤ_or_>ℤ (pos 0) (rem_z (pos n *ℤ q) (pos n)))
      where
        n-above : 0 < n
        n-above = omega (arith, of_lt h)

        too_far : (z r : ℤ) → z *ℤ pos n +ℤ r ≡ pos n *ℤ q → z -ℤ pos 1 ≡ q → nat_abs r < n → ⊥
        too_far z r e g l = far (rw (← g) at e) l
          where
            far : z *ℤ pos n +ℤ r ≡ pos n *ℤ (z -ℤ pos 1) → nat_abs r < n → ⊥
            far = show (simp reify tt) (omega arith)

        by_sign : (pos 0 ≤ℤ rem_z (pos n *ℤ q) (pos n)) ⊎ (rem_z (pos n *ℤ q) (pos n) <ℤ pos 0) → quot_z (pos n *ℤ q) (pos n) ≡ q
        by_sign (inl k) = floor_quotient (pos n *ℤ q) (pos n) h k ∙ floor_multiple q n n-above
        by_sign (inr k) =
            absurd (too_far (quot_z (pos n *ℤ q) (pos n)) (rem_z (pos n *ℤ q) (pos n)) (quot-rem (pos n *ℤ q) (pos n))
            (floor_quotient_less (pos n *ℤ q) (pos n) h k ∙ floor_multiple q n n-above) (rem_below (pos n *ℤ q) (pos n) n-above))

-- a number moved up by k times d to 0 or above: the unsigned quotient less k is the floor
pub floor_moved : (a : ℤ) (d k : ℕ) → 0 < d → pos 0 ≤ℤ (a +ℤ pos k *ℤ pos d) → pos (nat_abs (a +ℤ pos k *ℤ pos d) / d) -ℤ pos k ≡ floor a d
floor_moved a d k h l = back (a +ℤ pos k *ℤ pos d) (floor a d) l (ap (λ (x : ℤ). floor x d) (swapped k d) ∙ floor_add a (pos k) d h)
  where
    swapped : (k d : ℕ) → a +ℤ pos k *ℤ pos d ≡ a +ℤ pos d *ℤ pos k
    swapped k d = ap (λ (x : ℤ). a +ℤ x) (*ℤ_comm (pos k) (pos d))

    less_k : (q f : ℤ) → q ≡ f +ℤ pos k → q -ℤ pos k ≡ f
    less_k q f = show (simp reify tt) (omega arith)

    back : (x f : ℤ) → pos 0 ≤ℤ x → floor x d ≡ f +ℤ pos k → pos (nat_abs x / d) -ℤ pos k ≡ f
    back (pos n) f l e = less_k (pos (n / d)) f e
    back (negsuc n) f l e = absurd l.le
