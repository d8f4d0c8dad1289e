-- Polynomials of ℤ over a list ρ of unknowns, multiplied out by computing:
--     ring ρ (simp polys tt) tt                      proves an identity, of any size
--     show_poly ρ (simp polys tt) (omega arith)      proves a statement, as `show`, with each monomial one number to `omega`
--     read_poly ρ h (simp polys tt)                  is what h says, as `read`
-- ρ is every number that is no literal and no sum, product or negation of others: `let ρ = x ∷ y ∷ pos d ∷ [] in ..`
-- Where one is left out, what is left to prove says `Listed [] x`. Assumes nothing.
use mathlib.Core.Path.{◌≡◌, refl, sym, ◌∙◌, ap, ap₂, subst}
use mathlib.Core.Bool.{Bool, true, false}
use mathlib.Core.List.{List, [], ◌∷◌}
use mathlib.Core.Logic.{◌↔◌}
use Prim.Native.Nat.{ℕ, zero, suc, ◌+◌}
use native.Mathlib.Omega.{arith}
use lib.Dec.{T}
use lib.IntN.{ℤ, pos, negsuc, ◌+ℤ◌, ◌*ℤ◌, neg_ℤ, zero-*ℤ, +ℤ_idl}
use mir.Facts.{to_z-of_z}
use mir.Syntax.{Width}
use mir.Val.{SFits, to_z, of_z}
use Rattle.integers.proofs.Parts.{positive, negative}
use Rattle.integers.proofs.Linear.{Number, Statement, Over, over, no_part, one_part, two_parts, statements, reify, show}
use Rattle.integers.proofs.Laws.{diff_zero}
use Rattle.integers.proofs.Polynomials.{Polynomial, none, term, value, add, scale, multiply, parts}
use Rattle.integers.proofs.Polynomials.{value_add, value_scale, value_multiply, value_parts}

-- z is the value of a polynomial in ρ
pub record Expression (ρ : List ℤ) (z : ℤ) : Type 0 where
  pub polynomial : Polynomial
  pub ok : value ρ polynomial ≡ z

-- ---- literals and unknowns

pub ok_literal : (ρ : List ℤ) (z : ℤ) → value ρ (term z [] none) ≡ z
ok_literal ρ z = constant z
  where
    constant : (z : ℤ) → z *ℤ pos 1 +ℤ pos 0 ≡ z
    constant z = show (simp reify tt) (omega arith)

abbrev pub literal : (ρ : List ℤ) (z : ℤ) → Expression ρ z
literal ρ z = record { polynomial = term z [] none; ok = ok_literal ρ z }

-- where z stands in ρ; what stands nowhere is a literal
pub data Place : Type 0 where
  at : ℕ → Place
  nowhere : ℤ → Place

abbrev pub next : Place → Place
next (at i) = at (suc i)
next (nowhere z) = nowhere z

abbrev pub unit : Place → Polynomial
unit (at i) = term (pos 1) (i ∷ []) none
unit (nowhere z) = term z [] none

-- z stands in ρ, or is a literal
pub record Listed (ρ : List ℤ) (z : ℤ) : Type 0 where
  pub place : Place
  pub ok : value ρ (unit place) ≡ z

abbrev pub outside : (ρ : List ℤ) (z : ℤ) → Listed ρ z
outside ρ z = record { place = nowhere z; ok = ok_literal ρ z }

pub ok_here : (ρ : List ℤ) (x : ℤ) → value (x ∷ ρ) (unit (at 0)) ≡ x
ok_here ρ x = once x
  where
    once : (x : ℤ) → pos 1 *ℤ x +ℤ pos 0 ≡ x
    once x = show (simp reify tt) (omega arith)

pub ok_there : (ρ : List ℤ) (x y : ℤ) (i : Listed ρ x) → value (y ∷ ρ) (unit (next i.place)) ≡ x
ok_there ρ x y i = moved i.place ∙ i.ok
  where
    moved : (q : Place) → value (y ∷ ρ) (unit (next q)) ≡ value ρ (unit q)
    moved (at i) = refl
    moved (nowhere z) = refl

abbrev pub listed_here : (ρ : List ℤ) (x : ℤ) → Listed (x ∷ ρ) x ↔ Unit {0}
listed_here ρ x = no_part (record { place = at 0; ok = ok_here ρ x })

abbrev pub listed_there : (ρ : List ℤ) (x y : ℤ) → Listed (y ∷ ρ) x ↔ Listed ρ x
listed_there ρ x y = one_part (outside ρ x) (λ i. record { place = next i.place; ok = ok_there ρ x y i })

abbrev pub listed_pos : (n : ℕ) → Listed [] (pos n) ↔ Unit {0}
listed_pos n = no_part (outside [] (pos n))

abbrev pub listed_negsuc : (n : ℕ) → Listed [] (negsuc n) ↔ Unit {0}
listed_negsuc n = no_part (outside [] (negsuc n))

-- ---- sums, products and negations

abbrev negate : Polynomial → Polynomial
negate p = scale (negsuc 0) [] p

module _ (ρ : List ℤ) where
  pub ok_add : (x y : ℤ) (a : Expression ρ x) (b : Expression ρ y) → value ρ (add a.polynomial b.polynomial) ≡ x +ℤ y
  ok_add x y a b = value_add ρ a.polynomial b.polynomial ∙ ap₂ ◌+ℤ◌ a.ok b.ok

  pub ok_multiply : (x y : ℤ) (a : Expression ρ x) (b : Expression ρ y) → value ρ (multiply a.polynomial b.polynomial) ≡ x *ℤ y
  ok_multiply x y a b = value_multiply ρ a.polynomial b.polynomial ∙ ap₂ ◌*ℤ◌ a.ok b.ok

  pub ok_negate : (x : ℤ) (a : Expression ρ x) → value ρ (negate a.polynomial) ≡ neg_ℤ x
  ok_negate x a = value_scale ρ (negsuc 0) [] a.polynomial ∙ ap (λ y. negsuc 0 *ℤ pos 1 *ℤ y) a.ok ∙ minus_one x
    where
      minus_one : (z : ℤ) → negsuc 0 *ℤ pos 1 *ℤ z ≡ neg_ℤ z
      minus_one z = show (simp reify tt) (omega arith)

  abbrev pub expression_add : (x y : ℤ) → Expression ρ (x +ℤ y) ↔ (Expression ρ x × Expression ρ y)
  expression_add x y =
      two_parts (literal ρ x) (literal ρ y) (λ a b. record { polynomial = add a.polynomial b.polynomial; ok = ok_add x y a b })

  abbrev pub expression_mul : (x y : ℤ) → Expression ρ (x *ℤ y) ↔ (Expression ρ x × Expression ρ y)
  expression_mul x y =
      two_parts (literal ρ x) (literal ρ y)
      (λ a b. record { polynomial = multiply a.polynomial b.polynomial; ok = ok_multiply x y a b })

  abbrev pub expression_neg : (x : ℤ) → Expression ρ (neg_ℤ x) ↔ Expression ρ x
  expression_neg x = one_part (literal ρ x) (λ a. record { polynomial = negate a.polynomial; ok = ok_negate x a })

  -- the bits of a number that fits are that number
  abbrev pub expression_bits : (w : Width) (z : ℤ) → SFits w z → Expression ρ (to_z w (of_z w z)) ↔ Expression ρ z
  expression_bits w z f = one_part (literal ρ z) (λ a. record { polynomial = a.polynomial; ok = a.ok ∙ sym (to_z-of_z f) })

  abbrev pub expression_in : (z : ℤ) → Expression ρ z ↔ Listed ρ z
  expression_in z = one_part (outside ρ z) (λ i. record { polynomial = unit i.place; ok = i.ok })

-- ---- statements, whose numbers are polynomials in ρ

pub read_poly : (ρ : List ℤ) {A : Type 0} → A → (f : Statement ρ A) → f.Says
read_poly ρ h f = f.to h

pub show_poly : (ρ : List ℤ) {A : Type 0} (f : Statement ρ A) → f.Says → A
show_poly ρ f s = f.from s

pub ok_parts : (ρ : List ℤ) (z : ℤ) (a : Expression ρ z) → positive z + (parts ρ a.polynomial).1 ≡ (parts ρ a.polynomial).0 + negative z
ok_parts ρ z a =
    subst (λ y. positive y + (parts ρ a.polynomial).1 ≡ (parts ρ a.polynomial).0 + negative y) a.ok
    (value_parts ρ a.polynomial)

abbrev pub number_polynomial : (v : ℤ) (ρ : List ℤ) (z : ℤ) → Number (v ∷ ρ) z ↔ Expression (v ∷ ρ) z
number_polynomial v ρ z =
    one_part (literal (v ∷ ρ) z)
    (λ a. record {
      plus = (parts (v ∷ ρ) a.polynomial).0;
      minus = (parts (v ∷ ρ) a.polynomial).1;
      ok = ok_parts (v ∷ ρ) z a;
      mark = over;
    })

-- ---- identities: two numbers are equal if the difference of their polynomials has no coefficient but 0

abbrev pub zeros : Polynomial → Bool
zeros none = true
zeros (term (pos zero) m p) = zeros p
zeros (term (pos (suc k)) m p) = false
zeros (term (negsuc k) m p) = false

zeros_value : (ρ : List ℤ) (p : Polynomial) → T (zeros p) → value ρ p ≡ pos 0
zeros_value ρ none t = refl
zeros_value ρ (term (pos zero) m p) t = simp (zero-*ℤ, +ℤ_idl) (zeros_value ρ p t)
zeros_value ρ (term (pos (suc k)) m p) t = absurd t
zeros_value ρ (term (negsuc k) m p) t = absurd t

-- A holds if a test of polynomials in ρ passes
pub record Test (ρ : List ℤ) (A : Type 0) : Type 1 where
  pub Passes : Type 0
  pub holds : Passes → A
  pub mark : Over ρ

pub ring : (ρ : List ℤ) {A : Type 0} (f : Test ρ A) → f.Passes → A
ring ρ f t = f.holds t

pub ok_test : (ρ : List ℤ) (x y : ℤ) (a : Expression ρ x) (b : Expression ρ y)
    → T (zeros (add a.polynomial (negate b.polynomial))) → x ≡ y
ok_test ρ x y a b t = diff_zero (sym (ok_add ρ x (neg_ℤ y) a negated) ∙ zeros_value ρ (add a.polynomial (negate b.polynomial)) t)
  where
    negated : Expression ρ (neg_ℤ y)
    negated = record { polynomial = negate b.polynomial; ok = ok_negate ρ y b }

abbrev pub test_eq : (ρ : List ℤ) (x y : ℤ) → Test ρ (x ≡ y) ↔ (Expression ρ x × Expression ρ y)
test_eq ρ x y =
    two_parts (literal ρ x) (literal ρ y)
    (λ a b. record {
      Passes = T (zeros (add a.polynomial (negate b.polynomial)));
      holds = ok_test ρ x y a b;
      mark = over;
    })

pub ruleset expressions = (expression_add, expression_mul, expression_neg, expression_bits, expression_in)

pub ruleset polys = (statements, test_eq, number_polynomial, expressions, listed_here, listed_there, listed_pos, listed_negsuc)
