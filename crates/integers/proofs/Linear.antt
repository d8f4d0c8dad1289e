-- Linear arithmetic of ℤ by `omega`. An integer is read as a difference of two naturals, a statement of ℤ as a statement of ℕ,
-- and `simp reify tt` finds the reading:
--     show (simp reify tt) (omega arith)      proves a statement of ℤ; what it assumes may stand in it, `x ≤ℤ y → (x +ℤ z) ≤ℤ ..`
--     read h (simp reify tt)                  is what h says in ℕ, for the list of an `omega`
-- With `?` for the `omega` the statement of ℕ is printed. What is read is what the rules below name; a product of two numbers that
-- are no literals is one unknown to `omega`, multiplied out. docs/INTEGERS.md says what to do where it fails.
-- Assumes nothing.
use mathlib.Core.Path.{◌≡◌, refl, sym, ap, subst}
use mathlib.Core.Bool.{true, false}
use mathlib.Core.List.{List, []}
use mathlib.Core.Logic.{◌↔◌}
use Prim.Native.Nat.{ℕ, ◌+◌, ◌*◌, ◌^◌, ◌≤◌, ◌<◌}
use native.Mathlib.Omega.{arith}
use lib.Dec.{T}
use lib.IntN.{ℤ, pos, ◌+ℤ◌, ◌*ℤ◌, neg_ℤ, nat_abs}
use lib.Signed.{◌≤ℤ◌, ◌<ℤ◌, lt_z, le_z, non_neg, pos-nat_abs}
use mir.Facts.{to_z-of_z, to_z_pos}
use mir.Syntax.{Width}
use mir.Val.{Fits, SFits, bits, hbits, to_z, of_z}
use Rattle.integers.specs.Bound.{Within}
use Rattle.integers.proofs.Parts.{positive, negative, add_nat, positive_neg, negative_neg, positive_mul, negative_mul}
use Rattle.integers.proofs.Parts.{Between, eq_nat, le_nat, lt_nat, abs≤_nat, abs<_nat, sfits_nat}
use Rattle.integers.proofs.Parts.{times≤_abs, times<_abs, within_abs, fits_abs_below}
use Rattle.integers.proofs.Parts.{lt_z_true, lt_z_false, le_z_true, le_z_false, non_neg_le}

-- Linear arithmetic is over no list of unknowns, `[]`; proofs/Ring.antt reads polynomials over one. The mark keeps the two apart
pub data Over (ρ : List ℤ) : Type 0 where
  over : Over ρ

-- z is plus - minus
pub record Number (ρ : List ℤ) (z : ℤ) : Type 0 where
  pub plus : ℕ
  pub minus : ℕ
  pub ok : positive z + minus ≡ plus + negative z
  pub mark : Over ρ

-- A says what `Says` says
pub record Statement (ρ : List ℤ) (A : Type 0) : Type 1 where
  pub Says : Type 0
  pub to : A → Says
  pub from : Says → A
  pub mark : Over ρ

pub read : {A : Type 0} → A → (f : Statement [] A) → f.Says
read h f = f.to h

pub show : {A : Type 0} (f : Statement [] A) → f.Says → A
show f s = f.from s

-- ---- rules for `simp`: to read A, read its parts. `simp` asks for both halves of an ↔ and uses the second, which makes the
-- reading of A; the first gives any reading of the parts
abbrev pub no_part {ℓ} : {A : Type ℓ} → A → A ↔ Unit {0}
no_part a = ((λ _. tt), (λ _. a))

abbrev pub one_part {ℓ ℓ'} : {A : Type ℓ} {B : Type ℓ'} → B → (B → A) → A ↔ B
one_part b make = ((λ _. b), make)

abbrev pub two_parts {ℓ ℓ'} : {A : Type ℓ} {B C : Type ℓ'} → B → C → (B → C → A) → A ↔ (B × C)
two_parts b c make = ((λ _. (b, c)), (λ q. make q.0 q.1))

-- what has no part leaves nothing to read
abbrev pub unit_left {ℓ} : (A : Type ℓ) → (Unit {0} × A) ↔ A
unit_left A = ((λ q. q.1), (λ a. (tt, a)))

-- ---- numbers

-- a number that is not taken apart is the difference of its own parts
abbrev pub atom : (ρ : List ℤ) (z : ℤ) → Number ρ z
atom ρ z = record { plus = positive z; minus = negative z; ok = refl; mark = over }

mul_nat : (u d p n u' d' q m : ℕ) → u + n ≡ p + d → u' + m ≡ q + d'
    → u * u' + d * d' + (p * m + n * q) ≡ p * q + n * m + (u * d' + d * u')
mul_nat u d p n u' d' q m e f = omega (arith, ap (λ t. t * u') e, ap (λ t. t * d') e, ap (λ t. p * t) f, ap (λ t. n * t) f)

pub ok_add : (x y : ℤ) (a : Number [] x) (b : Number [] y)
    → positive (x +ℤ y) + (a.minus + b.minus) ≡ a.plus + b.plus + negative (x +ℤ y)
ok_add x y a b = omega (arith, add_nat x y, a.ok, b.ok)

pub ok_neg : (x : ℤ) (a : Number [] x) → positive (neg_ℤ x) + a.plus ≡ a.minus + negative (neg_ℤ x)
ok_neg x a = omega (arith, positive_neg x, negative_neg x, a.ok)

pub ok_mul : (x y : ℤ) (a : Number [] x) (b : Number [] y)
    → positive (x *ℤ y) + (a.plus * b.minus + a.minus * b.plus) ≡ a.plus * b.plus + a.minus * b.minus + negative (x *ℤ y)
ok_mul x y a b =
    simp (positive_mul, negative_mul)
    (mul_nat (positive x) (negative x) a.plus a.minus (positive y) (negative y) b.plus b.minus a.ok b.ok)

pub ok_equal : {x y : ℤ} → y ≡ x → (a : Number [] x) → positive y + a.minus ≡ a.plus + negative y
ok_equal e a = subst (λ z. positive z + a.minus ≡ a.plus + negative z) (sym e) a.ok

-- y, read as x, to which it is equal
abbrev equal : {x y : ℤ} → y ≡ x → Number [] x → Number [] y
equal e a = record { plus = a.plus; minus = a.minus; ok = ok_equal e a; mark = over }

abbrev pub number_add : (x y : ℤ) → Number [] (x +ℤ y) ↔ (Number [] x × Number [] y)
number_add x y =
    two_parts (atom [] x) (atom [] y)
    (λ a b. record { plus = a.plus + b.plus; minus = a.minus + b.minus; ok = ok_add x y a b; mark = over })

abbrev pub number_neg : (x : ℤ) → Number [] (neg_ℤ x) ↔ Number [] x
number_neg x = one_part (atom [] x) (λ a. record { plus = a.minus; minus = a.plus; ok = ok_neg x a; mark = over })

abbrev pub number_mul : (x y : ℤ) → Number [] (x *ℤ y) ↔ (Number [] x × Number [] y)
number_mul x y =
    two_parts (atom [] x) (atom [] y)
    (λ a b. record {
      plus = a.plus * b.plus + a.minus * b.minus;
      minus = a.plus * b.minus + a.minus * b.plus;
      ok = ok_mul x y a b;
      mark = over;
    })

-- the bits of a number that fits are that number
abbrev pub number_bits : (w : Width) (z : ℤ) → SFits w z → Number [] (to_z w (of_z w z)) ↔ Number [] z
number_bits w z f = one_part (atom [] z) (equal (to_z-of_z f))

-- bits with no sign are a natural number
abbrev pub number_upper : (w : Width) (n : ℕ) → n < 2 ^ hbits w → Number [] (to_z w n) ↔ Unit {0}
number_upper w n h = no_part (equal (to_z_pos w h) (atom [] (pos n)))

-- the absolute value of a number that is not negative
abbrev pub number_size : (z : ℤ) → T (non_neg z) → Number [] (pos (nat_abs z)) ↔ Number [] z
number_size z t = one_part (atom [] z) (equal (pos-nat_abs z t))

abbrev pub number_atom : (z : ℤ) → Number [] z ↔ Unit {0}
number_atom z = no_part (atom [] z)

-- ---- statements

-- S p n depends on p - n alone
abbrev Steady : (ℕ → ℕ → Type 0) → Type 0
Steady S = (p n q m : ℕ) → p + m ≡ q + n → S p n → S q m

pub steady_≡ : Steady ◌≡◌
steady_≡ p n q m e h = omega arith

pub steady_≤ : Steady ◌≤◌
steady_≤ p n q m e h = omega arith

pub steady_< : Steady ◌<◌
steady_< p n q m e h = omega arith

pub steady_between : (s t B : ℕ) → Steady (Between s t B)
steady_between s t B p n q m e h = omega arith

module _ (ρ : List ℤ) where
  -- A as it stands
  abbrev same : (A : Type 0) → Statement ρ A
  same A = record { Says = A; to = λ h. h; from = λ h. h; mark = over }

  pub ok_two : (x y : ℤ) (a : Number ρ x) (b : Number ρ y)
      → positive x + negative y + (b.plus + a.minus) ≡ a.plus + b.minus + (positive y + negative x)
  ok_two x y a b = omega (arith, a.ok, b.ok)

  -- A states S of p - n, and hence of q - m, which is the same number
  abbrev says : (S : ℕ → ℕ → Type 0) → Steady S → {A : Type 0} (p n q m : ℕ) → A ↔ S p n → p + m ≡ q + n → Statement ρ A
  says S steady p n q m e ok =
      record { Says = S q m; to = λ h. steady p n q m ok (e.0 h); from = λ s. e.1 (steady q m p n (sym ok) s); mark = over }

  abbrev of_one : (S : ℕ → ℕ → Type 0) → Steady S → {A : Type 0} (x : ℤ) → A ↔ S (positive x) (negative x) → Statement ρ A ↔ Number ρ x
  of_one S steady x e = one_part (atom ρ x) (λ a. says S steady (positive x) (negative x) a.plus a.minus e a.ok)

  abbrev of_two : (S : ℕ → ℕ → Type 0) → Steady S → {A : Type 0} (x y : ℤ)
      → A ↔ S (positive x + negative y) (positive y + negative x) → Statement ρ A ↔ (Number ρ x × Number ρ y)
  of_two S steady x y e =
      two_parts (atom ρ x) (atom ρ y)
      (λ a b. says S steady (positive x + negative y) (positive y + negative x) (a.plus + b.minus) (b.plus + a.minus) e (ok_two x y a b))

  abbrev pub statement_eq : (x y : ℤ) → Statement ρ (x ≡ y) ↔ (Number ρ x × Number ρ y)
  statement_eq x y = of_two ◌≡◌ steady_≡ x y (eq_nat x y)

  abbrev pub statement_le : (x y : ℤ) → Statement ρ (x ≤ℤ y) ↔ (Number ρ x × Number ρ y)
  statement_le x y = of_two ◌≤◌ steady_≤ x y (le_nat x y)

  abbrev pub statement_lt : (x y : ℤ) → Statement ρ (x <ℤ y) ↔ (Number ρ x × Number ρ y)
  statement_lt x y = of_two ◌<◌ steady_< x y (lt_nat x y)

  abbrev pub statement_abs≤ : (B : ℕ) (x : ℤ) → Statement ρ (nat_abs x ≤ B) ↔ Number ρ x
  statement_abs≤ B x = of_one (Between 0 0 B) (steady_between 0 0 B) x (abs≤_nat B x)

  abbrev pub statement_abs< : (B : ℕ) (x : ℤ) → Statement ρ (nat_abs x < B) ↔ Number ρ x
  statement_abs< B x = of_one (Between 1 1 B) (steady_between 1 1 B) x (abs<_nat B x)

  abbrev pub statement_sfits : (w : Width) (x : ℤ) → Statement ρ (SFits w x) ↔ Number ρ x
  statement_sfits w x = of_one (Between 1 0 (2 ^ hbits w)) (steady_between 1 0 (2 ^ hbits w)) x (sfits_nat w x)

  -- what says the same is read the same
  abbrev via : {A B : Type 0} → A ↔ B → Statement ρ A ↔ Statement ρ B
  via {A} {B} e = one_part (same B) (λ f. record { Says = f.Says; to = λ a. f.to (e.0 a); from = λ s. e.1 (f.from s); mark = over })

  abbrev pub statement_times≤ : (k B : ℕ) (x : ℤ) → Statement ρ (k * nat_abs x ≤ B) ↔ Statement ρ (nat_abs (pos k *ℤ x) ≤ B)
  statement_times≤ k B x = via (times≤_abs k B x)

  abbrev pub statement_times< : (k B : ℕ) (x : ℤ) → Statement ρ (k * nat_abs x < B) ↔ Statement ρ (nat_abs (pos k *ℤ x) < B)
  statement_times< k B x = via (times<_abs k B x)

  abbrev pub statement_within : (B : ℕ) (x : ℤ) → Statement ρ (Within B x) ↔ Statement ρ (nat_abs x ≤ B)
  statement_within B x = via (within_abs B x)

  abbrev pub statement_fits : (w : Width) (x : ℤ) → Statement ρ (Fits w (nat_abs x)) ↔ Statement ρ (nat_abs x < 2 ^ bits w)
  statement_fits w x = via (fits_abs_below w x)

  abbrev pub statement_non_neg : (x : ℤ) → Statement ρ (T (non_neg x)) ↔ Statement ρ (pos 0 ≤ℤ x)
  statement_non_neg x = via (non_neg_le x)

  abbrev pub statement_lt_z_true : (x y : ℤ) → Statement ρ (lt_z x y ≡ true) ↔ Statement ρ (x <ℤ y)
  statement_lt_z_true x y = via (lt_z_true x y)

  abbrev pub statement_lt_z_false : (x y : ℤ) → Statement ρ (lt_z x y ≡ false) ↔ Statement ρ (y ≤ℤ x)
  statement_lt_z_false x y = via (lt_z_false x y)

  abbrev pub statement_le_z_true : (x y : ℤ) → Statement ρ (le_z x y ≡ true) ↔ Statement ρ (x ≤ℤ y)
  statement_le_z_true x y = via (le_z_true x y)

  abbrev pub statement_le_z_false : (x y : ℤ) → Statement ρ (le_z x y ≡ false) ↔ Statement ρ (y <ℤ x)
  statement_le_z_false x y = via (le_z_false x y)

  -- what is of ℕ already stays as it is
  abbrev pub statement_nat≤ : (m n : ℕ) → Statement ρ (m ≤ n) ↔ Unit {0}
  statement_nat≤ m n = no_part (same (m ≤ n))

  abbrev pub statement_nat≡ : (m n : ℕ) → Statement ρ (m ≡ n) ↔ Unit {0}
  statement_nat≡ m n = no_part (same (m ≡ n))

  abbrev pub statement_⊥ : Statement ρ ⊥ ↔ Unit {0}
  statement_⊥ = no_part (same ⊥)

  abbrev pub statement_implies : (A B : Type 0) → Statement ρ (A → B) ↔ (Statement ρ A × Statement ρ B)
  statement_implies A B =
      two_parts (same A) (same B)
      (λ f g. record { Says = f.Says → g.Says; to = λ h s. g.to (h (f.from s)); from = λ h a. g.from (h (f.to a)); mark = over })

  abbrev pub statement_both : (A B : Type 0) → Statement ρ (A × B) ↔ (Statement ρ A × Statement ρ B)
  statement_both A B =
      two_parts (same A) (same B)
      (λ f g. record {
        Says = f.Says × g.Says;
        to = λ h. (f.to h.0, g.to h.1);
        from = λ h. (f.from h.0, g.from h.1);
        mark = over;
      })

pub ruleset orders = (statement_eq, statement_le, statement_lt)

pub ruleset tests = (statement_lt_z_true, statement_lt_z_false, statement_le_z_true, statement_le_z_false, statement_non_neg)

pub ruleset bounds = (statement_abs≤, statement_abs<, statement_sfits, statement_times≤, statement_times<, statement_within, statement_fits)

-- one reading for each statement, over any list of unknowns
pub ruleset statements = (orders, tests, bounds, statement_nat≤, statement_nat≡, statement_⊥, statement_implies, statement_both, unit_left)

pub ruleset reify = (statements, number_add, number_neg, number_mul, number_bits, number_upper, number_size, number_atom)
