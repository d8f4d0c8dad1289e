-- ℤ read in ℕ. An integer z is `positive z - negative z`, where one of the two is 0. What a sum, a negation and a product do to
-- these two parts is an equation of ℕ, and what a statement of ℤ says of them is a statement of ℕ: `omega` reads both.
-- proofs/Linear.antt finds the reading of a whole statement. Used alone, with atoms and literals on the two sides:
--     le_of (omega linear)      proves x ≤ℤ y; `lt_of` and `eq_of` are for <ℤ and ≡
--     omega linear              is `omega arith` that also reads the orders, equations and bounds of integers in reach
-- Assumes nothing.
use mathlib.Core.Path.{◌≡◌, refl, sym, ap, subst}
use mathlib.Core.Bool.{Bool, true, false, not, cond}
use mathlib.Core.Logic.{◌↔◌}
use Prim.Native.Nat.{ℕ, zero, suc, ◌+◌, ◌*◌, ◌-◌, ◌^◌, ◌≤◌, ◌<◌}
use native.Mathlib.Omega.{arith, by_contra}
use lib.Dec.{T, T_not, ltb, ltb→lt, nltb→le, leb→le, le→leb}
use lib.IntN.{ℤ, pos, negsuc, ◌+ℤ◌, ◌*ℤ◌, neg_ℤ, sub_ℕ, nat_abs}
use lib.Signed.{◌≤ℤ◌, ◌<ℤ◌, le_z, lt_z, le_z_yes, lt_z_yes, lt_z_no, clash_ℤ, non_neg}
use mir.Syntax.{Width}
use mir.Val.{Fits, SFits, bits, hbits}
use Rattle.integers.specs.Bound.{Within}
use Rattle.integers.proofs.Choices.{by_test}

-- z, or 0 where z is negative
abbrev pub positive : ℤ → ℕ
positive (pos n) = n
positive (negsuc n) = 0

-- -z, or 0 where z is positive
abbrev pub negative : ℤ → ℕ
negative (pos n) = 0
negative (negsuc n) = suc n

-- ---- the operations

-- a - b, of two naturals
sub_nat : (a b : ℕ) → positive (sub_ℕ a b) + b ≡ a + negative (sub_ℕ a b)
sub_nat a b = at (ltb a b) (ltb→lt a b) (nltb→le a b)
  where
    at : (c : Bool) → (T c → a < b) → (T (not c) → b ≤ a)
        → positive (cond c (negsuc (b - suc a)) (pos (a - b))) + b ≡ a + negative (cond c (negsuc (b - suc a)) (pos (a - b)))
    at true f g = let h = f tt in omega arith
    at false f g = let h = g tt in omega arith

pub add_nat : (x y : ℤ) → positive (x +ℤ y) + (negative x + negative y) ≡ positive x + positive y + negative (x +ℤ y)
add_nat (pos a) (pos b) = omega arith
add_nat (pos a) (negsuc b) = omega (arith, sub_nat a (suc b))
add_nat (negsuc a) (pos b) = omega (arith, sub_nat b (suc a))
add_nat (negsuc a) (negsuc b) = omega arith

pub positive_neg : (x : ℤ) → positive (neg_ℤ x) ≡ negative x
positive_neg (pos zero) = refl
positive_neg (pos (suc n)) = refl
positive_neg (negsuc n) = refl

pub negative_neg : (x : ℤ) → negative (neg_ℤ x) ≡ positive x
negative_neg (pos zero) = refl
negative_neg (pos (suc n)) = refl
negative_neg (negsuc n) = refl

pub positive_mul : (x y : ℤ) → positive (x *ℤ y) ≡ positive x * positive y + negative x * negative y
positive_mul (pos a) (pos b) = omega arith
positive_mul (pos a) (negsuc b) = omega (arith, positive_neg (pos (a * suc b)))
positive_mul (negsuc a) (pos b) = omega (arith, positive_neg (pos (suc a * b)))
positive_mul (negsuc a) (negsuc b) = omega arith

pub negative_mul : (x y : ℤ) → negative (x *ℤ y) ≡ positive x * negative y + negative x * positive y
negative_mul (pos a) (pos b) = omega arith
negative_mul (pos a) (negsuc b) = omega (arith, negative_neg (pos (a * suc b)))
negative_mul (negsuc a) (pos b) = omega (arith, negative_neg (pos (suc a * b)))
negative_mul (negsuc a) (negsuc b) = omega arith

pub nat_abs_nat : (z : ℤ) → nat_abs z ≡ positive z + negative z
nat_abs_nat (pos n) = omega arith
nat_abs_nat (negsuc n) = omega arith

abs_times : (k : ℕ) (z : ℤ) → nat_abs (pos k *ℤ z) ≡ k * nat_abs z
abs_times k z =
    omega (arith, nat_abs_nat (pos k *ℤ z), nat_abs_nat z, positive_mul (pos k) z, negative_mul (pos k) z, ap (λ t. k * t) (nat_abs_nat z))

-- ---- equations and orders

pub of_eq : {x y : ℤ} → x ≡ y → positive x + negative y ≡ positive y + negative x
of_eq {x} {y} e = subst (λ z. positive x + negative z ≡ positive z + negative x) e refl

pub eq_of : {x y : ℤ} → positive x + negative y ≡ positive y + negative x → x ≡ y
eq_of {x} {y} = go x y
  where
    go : (x y : ℤ) → positive x + negative y ≡ positive y + negative x → x ≡ y
    go (pos a) (pos b) e = ap pos (omega arith)
    go (pos a) (negsuc b) e = absurd (omega arith)
    go (negsuc a) (pos b) e = absurd (omega arith)
    go (negsuc a) (negsuc b) e = ap negsuc (omega arith)

pub of_le : {x y : ℤ} → x ≤ℤ y → positive x + negative y ≤ positive y + negative x
of_le {x} {y} h = go x y h.le
  where
    go : (x y : ℤ) → T (le_z x y) → positive x + negative y ≤ positive y + negative x
    go (pos a) (pos b) t = omega (arith, leb→le a b t)
    go (pos a) (negsuc b) t = absurd t
    go (negsuc a) (pos b) t = omega arith
    go (negsuc a) (negsuc b) t = omega (arith, leb→le b a t)

pub le_of : {x y : ℤ} → positive x + negative y ≤ positive y + negative x → x ≤ℤ y
le_of {x} {y} h = le_z_yes (go x y h)
  where
    go : (x y : ℤ) → positive x + negative y ≤ positive y + negative x → T (le_z x y)
    go (pos a) (pos b) h = le→leb a b (omega arith)
    go (pos a) (negsuc b) h = omega arith
    go (negsuc a) (pos b) h = tt
    go (negsuc a) (negsuc b) h = le→leb b a (omega arith)

-- x <ℤ y is that y ≤ℤ x fails
pub of_lt : {x y : ℤ} → x <ℤ y → positive x + negative y < positive y + negative x
of_lt {x} {y} h = by_contra (suc (positive x + negative y)) (positive y + negative x) (λ k. clash_ℤ h (le_of (omega arith)))

pub lt_of : {x y : ℤ} → positive x + negative y < positive y + negative x → x <ℤ y
lt_of {x} {y} h = by_test (lt_z x y) lt_z_yes (λ t. let k : y ≤ℤ x = lt_z_no t in absurd (omega (arith, of_le k)))

pub eq_nat : (x y : ℤ) → (x ≡ y) ↔ (positive x + negative y ≡ positive y + negative x)
eq_nat x y = (of_eq, eq_of)

pub le_nat : (x y : ℤ) → (x ≤ℤ y) ↔ (positive x + negative y ≤ positive y + negative x)
le_nat x y = (of_le, le_of)

pub lt_nat : (x y : ℤ) → (x <ℤ y) ↔ (positive x + negative y < positive y + negative x)
lt_nat x y = (of_lt, lt_of)

-- ---- bounds

-- p - n is at least t - B and at most B - s
abbrev pub Between : (s t B : ℕ) → ℕ → ℕ → Type 0
Between s t B p n = (p + s ≤ B + n) × (n + t ≤ B + p)

pub abs≤_nat : (B : ℕ) (z : ℤ) → (nat_abs z ≤ B) ↔ Between 0 0 B (positive z) (negative z)
abs≤_nat B (pos n) = omega arith
abs≤_nat B (negsuc n) = omega arith

pub abs<_nat : (B : ℕ) (z : ℤ) → (nat_abs z < B) ↔ Between 1 1 B (positive z) (negative z)
abs<_nat B (pos n) = omega arith
abs<_nat B (negsuc n) = omega arith

pub sfits_nat : (w : Width) (z : ℤ) → SFits w z ↔ Between 1 0 (2 ^ hbits w) (positive z) (negative z)
sfits_nat w (pos n) = omega arith
sfits_nat w (negsuc n) = omega arith

pub times≤_abs : (k B : ℕ) (z : ℤ) → (k * nat_abs z ≤ B) ↔ (nat_abs (pos k *ℤ z) ≤ B)
times≤_abs k B z = omega (arith, abs_times k z)

pub times<_abs : (k B : ℕ) (z : ℤ) → (k * nat_abs z < B) ↔ (nat_abs (pos k *ℤ z) < B)
times<_abs k B z = omega (arith, abs_times k z)

pub within_abs : (B : ℕ) (z : ℤ) → Within B z ↔ (nat_abs z ≤ B)
within_abs B z = omega arith

pub fits_abs_below : (w : Width) (z : ℤ) → Fits w (nat_abs z) ↔ (nat_abs z < 2 ^ bits w)
fits_abs_below w z = omega arith

-- ---- the machine's tests, as orders

-- a test b that passes where P holds, and fails where its opposite, Q, holds
module _ (b : Bool) {P Q : Type 0} (passed : T b ↔ P) (failed : T (not b) → Q) (never : P → Q → ⊥) where
  test_true : (b ≡ true) ↔ P
  test_true = ((λ e. passed.0 (subst T (sym e) tt)), (λ p. is_true b (passed.1 p)))
    where
      is_true : (b : Bool) → T b → b ≡ true
      is_true true t = refl
      is_true false t = absurd t

  test_false : (b ≡ false) ↔ Q
  test_false = ((λ e. failed (subst (λ c. T (not c)) (sym e) tt)), (λ q. is_false b (λ t. never (passed.0 t) q)))
    where
      is_false : (b : Bool) → (T b → ⊥) → b ≡ false
      is_false true f = absurd (f tt)
      is_false false f = refl

pub lt_z_true : (x y : ℤ) → (lt_z x y ≡ true) ↔ (x <ℤ y)
lt_z_true x y = test_true (lt_z x y) (lt_z_yes, λ h. h.lt) lt_z_no clash_ℤ

pub lt_z_false : (x y : ℤ) → (lt_z x y ≡ false) ↔ (y ≤ℤ x)
lt_z_false x y = test_false (lt_z x y) (lt_z_yes, λ h. h.lt) lt_z_no clash_ℤ

le_z_no : {x y : ℤ} → T (not (le_z x y)) → y <ℤ x
le_z_no {x} {y} t = by_test (lt_z y x) lt_z_yes (λ u. let k : x ≤ℤ y = lt_z_no u in absurd (T_not (le_z x y) t k.le))

pub le_z_true : (x y : ℤ) → (le_z x y ≡ true) ↔ (x ≤ℤ y)
le_z_true x y = test_true (le_z x y) (le_z_yes, λ h. h.le) le_z_no (λ h k. clash_ℤ k h)

pub le_z_false : (x y : ℤ) → (le_z x y ≡ false) ↔ (y <ℤ x)
le_z_false x y = test_false (le_z x y) (le_z_yes, λ h. h.le) le_z_no (λ h k. clash_ℤ k h)

pub non_neg_le : (z : ℤ) → T (non_neg z) ↔ (pos 0 ≤ℤ z)
non_neg_le (pos n) = ((λ t. le_of (omega arith)), (λ h. tt))
non_neg_le (negsuc n) = ((λ t. absurd t), (λ h. h.le))

-- ---- what `omega linear` finds in reach

pub of_within : {B : ℕ} {x : ℤ} → Within B x → positive x + negative x ≤ B
of_within {B} {x} h = omega (arith, nat_abs_nat x, h.within)

-- both bounds of a width in one statement, since `omega` applies one rule to a hypothesis. It lacks that z is not 2 ^ hbits w
-- itself: `read f (simp reify tt)` of proofs/Linear.antt has that too
pub of_width : {w : Width} {z : ℤ} → SFits w z → positive z + negative z ≤ 2 ^ hbits w
of_width {w} {z} f = go z ((sfits_nat w z).0 f)
  where
    go : (z : ℤ) → Between 1 0 (2 ^ hbits w) (positive z) (negative z) → positive z + negative z ≤ 2 ^ hbits w
    go (pos n) h = omega arith
    go (negsuc n) h = omega arith

pub ruleset linear = (arith, of_le, of_lt, of_eq, of_within, of_width)
