-- Differences of floating-point numbers: by which rounding each is made, and that of two fractions over one denominator it is the rounding of their
-- difference. Assumes nothing.
use mathlib.Core.Bool.{Bool, true, false, cond, not, ◌&&◌, and-true, and-false}
use mathlib.Core.Path.{◌≡◌, refl, ap, ap₂, sym, subst, ◌∙◌}
use Prim.Native.Nat.{ℕ, ◌-◌, ◌*◌, ◌<◌}
use native.Mathlib.Decide.{dec_lt}
use native.Mathlib.Nat.{mul_comm, mul_assoc, mul_right_comm, mul-pos, mul-sub, zero-mul, le_of_lt, le_of_eq, lt_of_mul-lt-mul_right, mul-lt-mul_of_pos_right, eq_of_mul-eq-mul_right}
use native.Mathlib.Omega.{arith}
use borrow.Author.Tests.{lt-ltb, le-ltb}
use lib.Dec.{ltb, lit<}
use lib.IntN.{pos}
use lib.Ieee.{Float, nan, inf, fin, Format, binary32, binary64, up, down, odd, units, round, neg, sum, add, sub}
use lib.Ieee.Exact.{HasValue}
use lib.Ieee.Fits.{down_pos}
use lib.Ieee.Scale.{round_same}

-- ---- two numbers of one sign over one denominator: which of the two is greater gives the sign
-- ±a / c - ±b / c
abbrev pub gap : Format → Bool → ℕ → ℕ → ℕ → Float
gap f s c a b = cond (ltb a b) (round f (not s) (b - a) c) (round f (s && ltb b a) (a - b) c)

-- 0 over anything is 0
zero_over_one : (f : Format) (s : Bool) → round f s 0 1 ≡ fin s 0 (pos 0)
unfolding round units odd
zero_over_one binary32 s = refl
zero_over_one binary64 s = refl

round_zero : (f : Format) (s : Bool) (c : ℕ) → 0 < c → round f s 0 c ≡ fin s 0 (pos 0)
round_zero f s c some = round_same f s 0 c 0 1 some (lit< tt) (zero-mul 1 ∙ sym (zero-mul c)) ∙ zero_over_one f s

module _ (f : Format) (s : Bool) (c a b : ℕ) where
  pub gap_less : a < b → gap f s c a b ≡ round f (not s) (b - a) c
  gap_less h = rw (lt-ltb a b h) refl

  pub gap_more : b < a → gap f s c a b ≡ round f s (a - b) c
  gap_more h = rw (le-ltb a b (le_of_lt h), lt-ltb b a h) (ap (λ (t : Bool). round f t (a - b) c) (and-true s))

  -- it is +0 of equal numbers
  pub gap_none : 0 < c → a ≡ b → gap f s c a b ≡ fin false 0 (pos 0)
  gap_none some e =
      rw (le-ltb a b (le_of_eq (sym e)), le-ltb b a (le_of_eq e))
      (ap₂ (λ (t : Bool) (n : ℕ). round f t n c) (and-false s) (omega arith) ∙ round_zero f false c some)

-- ---- A / C is a / d, and B / C is b / d
module _ (C d : ℕ) (one : 0 < C) (other : 0 < d) (A B a b : ℕ) (p : A * d ≡ a * C) (q : B * d ≡ b * C) where
  in_order : a < b → A < B
  in_order h = lt_of_mul-lt-mul_right d (subst (λ (z : ℕ). z < B * d) (sym p) (subst (λ (z : ℕ). a * C < z) (sym q) (mul-lt-mul_of_pos_right h one)))

  alike : a ≡ b → A ≡ B
  alike e = eq_of_mul-eq-mul_right d other A B (p ∙ ap (λ (z : ℕ). z * C) e ∙ sym q)

  subtracted : (B - A) * d ≡ (b - a) * C
  subtracted =
      mul_comm (B - A) d
      ∙ mul-sub d B A
      ∙ ap₂ ◌-◌ (mul_comm d B ∙ q ∙ mul_comm b C) (mul_comm d A ∙ p ∙ mul_comm a C)
      ∙ sym (mul-sub C b a)
      ∙ mul_comm C (b - a)

-- so that they have the same difference
gap_same : (f : Format) (s : Bool) (C d : ℕ) → 0 < C → 0 < d → (A B a b : ℕ) → A * d ≡ a * C → B * d ≡ b * C → gap f s C A B ≡ gap f s d a b
gap_same f s C d one other A B a b p q = go (dec_lt a b) (dec_lt b a)
  where
    go : Dec (a < b) → Dec (b < a) → gap f s C A B ≡ gap f s d a b
    go (yes h) e =
        gap_less f s C A B (in_order C d one other A B a b p q h)
        ∙ round_same f (not s) (B - A) C (b - a) d one other (subtracted C d one other A B a b p q)
        ∙ sym (gap_less f s d a b h)
    go (no g) (yes h) =
        gap_more f s C A B (in_order C d one other B A b a q p h)
        ∙ round_same f s (A - B) C (a - b) d one other (subtracted C d one other B A b a q p)
        ∙ sym (gap_more f s d a b h)
    go (no g) (no h) =
        let e : a ≡ b = omega arith in
        gap_none f s C A B one (alike C d one other A B a b p q e) ∙ sym (gap_none f s d a b other e)

-- ---- of x = a / d and y = b / d, neither of which is negative
over : (m u e k a d : ℕ) → m * u * d ≡ a * e → m * u * k * d ≡ a * (e * k)
over m u e k a d h = mul_right_comm (m * u) k d ∙ ap (λ (z : ℕ). z * k) h ∙ mul_assoc a e k

pub sub_gap : (f : Format) (x y : Float) (a b d : ℕ) → 0 < d → HasValue x false a d → HasValue y false b d → sub f x y ≡ gap f false d a b
unfolding sub add neg sum
sub_gap f nan y a b d some v w = absurd v
sub_gap f (inf s) y a b d some v w = absurd v
sub_gap f (fin s m e) nan a b d some v w = absurd w
sub_gap f (fin s m e) (inf t) a b d some v w = absurd w
sub_gap f (fin true m e) (fin t n k) a b d some v w = let z : ◌≡◌ {A = ℕ} 0 1 = cc v.0 in absurd (omega arith)
sub_gap f (fin false m e) (fin true n k) a b d some v w = let z : ◌≡◌ {A = ℕ} 0 1 = cc w.0 in absurd (omega arith)
sub_gap f (fin false m e) (fin false n k) a b d some v w =
    gap_same f false (down e * down k) d (mul-pos (down_pos e) (down_pos k)) some (m * up e * down k) (n * up k * down e) a b
    (over m (up e) (down e) (down k) a d v.1)
    (over n (up k) (down k) (down e) b d w.1 ∙ ap (λ (z : ℕ). b * z) (mul_comm (down k) (down e)))
