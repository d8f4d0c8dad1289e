-- The difference of two fractions over one of the five factors is exact. Assumes nothing.
use mathlib.Core.Bool.{Bool, true, false}
use mathlib.Core.Path.{◌≡◌, refl, ap, sym, ◌∙◌}
use Prim.Native.Nat.{ℕ, zero, suc, ◌+◌, ◌-◌, ◌*◌, ◌^◌, ◌≤◌, ◌<◌}
use native.Mathlib.Decide.{dec_lt}
use native.Mathlib.Nat.{mul_comm, mul_assoc, mul_left_comm, zero-mul, sub-le, le_of_lt, lt_of_lt_of_le, lt_of_le_of_lt, mul-le-mul_right, mul-lt-mul_of_pos_right}
use native.Mathlib.Omega.{arith}
use borrow.Author.Tests.{lt-ltb, le-ltb}
use lib.Dec.{lit<, lit≤}
use lib.IntN.{pos, negsuc, ◌-ℤ◌}
use lib.Ieee.{Float, fin, binary64, round, sub}
use lib.Ieee.Exact.{HasValue, round_exact}
use Rattle.floats.specs.Fractions.{Exactly}
use Rattle.delay.proofs.Differences.{gap, gap_less, gap_more, gap_none, sub_gap}

-- a fraction over a divisor of 16 is rounded to itself, if the sixteenths of it are fewer than 2^53
sixteenths : (s : Bool) (n d k : ℕ) → 0 < d → 16 ≡ k * d → n * k < 2 ^ 53 → HasValue (round binary64 s n d) s n d
sixteenths s n d k some e small =
    let room : n * k * 2 ^ 1070 < 2 ^ (1074 + suc 1023) = lt_of_lt_of_le (mul-lt-mul_of_pos_right small (lit< tt)) (lit≤ tt) in
    round_exact binary64 s n d (n * k) 1070 some small room
    (ap (λ (z : ℕ). n * (z * 2 ^ 1070)) e ∙ simp (mul_assoc, mul_comm, mul_left_comm))

-- the difference of two whole numbers
minus_less : (a b : ℕ) → a < b → pos a -ℤ pos b ≡ negsuc (b - suc a)
minus_less a zero h = absurd (omega arith)
minus_less a (suc b) h = rw (lt-ltb a (suc b) h) refl

minus_more : (a b : ℕ) → b ≤ a → pos a -ℤ pos b ≡ pos (a - b)
minus_more a zero h = ap pos (omega arith)
minus_more a (suc b) h = rw (le-ltb a (suc b) h) refl

-- ---- a / d - b / d
module _ (a b d k : ℕ) (some : 0 < d) (parts : 16 ≡ k * d) (low : a * k < 2 ^ 53) (low' : b * k < 2 ^ 53) where
  few : (m n : ℕ) → m * k < 2 ^ 53 → (m - n) * k < 2 ^ 53
  few m n h = lt_of_le_of_lt (mul-le-mul_right k (sub-le m n)) h

  gap_exact : Dec (a < b) → Dec (b < a) → Exactly (gap binary64 false d a b) (pos a -ℤ pos b) d
  gap_exact (yes h) e =
      let z : b - a ≡ suc (b - suc a) = omega arith in
      rw (gap_less binary64 false d a b h, minus_less a b h, z) (rw z at (sixteenths true (b - a) d k some parts (few b a low')))
  gap_exact (no g) (yes h) = rw (gap_more binary64 false d a b h, minus_more a b (le_of_lt h)) (sixteenths false (a - b) d k some parts (few a b low))
  gap_exact (no g) (no h) =
      let z : a - b ≡ 0 = omega arith in
      rw (gap_none binary64 false d a b some (omega arith), minus_more a b (omega arith), z)
      (refl, ap (λ (n : ℕ). n * d) (zero-mul 1) ∙ zero-mul d ∙ sym (zero-mul 1))

module _ (x y : Float) (a b d : ℕ) (some : 0 < d) (v : HasValue x false a d) (w : HasValue y false b d) where
  -- it is +0 of equal fractions
  pub sub_zero : a ≡ b → sub binary64 x y ≡ fin false 0 (pos 0)
  sub_zero e = sub_gap binary64 x y a b d some v w ∙ gap_none binary64 false d a b some e

  pub sub_exact : (k : ℕ) → 16 ≡ k * d → a * k < 2 ^ 53 → b * k < 2 ^ 53 → Exactly (sub binary64 x y) (pos a -ℤ pos b) d
  sub_exact k parts low low' = rw (sub_gap binary64 x y a b d some v w) (gap_exact a b d k some parts low low' (dec_lt a b) (dec_lt b a))
