-- Polynomials over ℤ, multiplied out: a sum of terms, each a coefficient and the sorted places, in a list ρ of unknowns, of its
-- factors. Sums and products of them compute, so that two expressions are equal if their polynomials' difference has no
-- coefficient but 0. Here: the operations, that they mean what they are called, and what a polynomial is in ℕ.
-- proofs/Ring.antt is what is used. Assumes nothing.
use mathlib.Core.Path.{◌≡◌, refl, sym, ap₂}
use mathlib.Core.List.{List, [], ◌∷◌}
use Prim.Native.Nat.{ℕ, zero, suc, ◌+◌, ◌*◌, compare, Ordering}
use native.Mathlib.Omega.{arith}
use lib.Dec.{T, compare_is_eq, eqb→eq}
use lib.IntN.{ℤ, pos, negsuc, ◌+ℤ◌, ◌*ℤ◌, +ℤ_idl, +ℤ_assoc, zero-*ℤ, *ℤ-zero}
use Rattle.integers.proofs.Parts.{positive, negative, add_nat, positive_mul, negative_mul}
use Rattle.integers.proofs.Laws.{*ℤ_idl, *ℤ_idr, *ℤ_assoc, *ℤ_left_comm, +ℤ_left_comm, *ℤ_+ℤ, +ℤ_*ℤ}

pub data Polynomial : Type 0 where
  none : Polynomial
  term : ℤ → List ℕ → Polynomial → Polynomial

-- ---- what they are worth

abbrev pub unknown : List ℤ → ℕ → ℤ
unknown [] i = pos 0
unknown (x ∷ ρ) zero = x
unknown (x ∷ ρ) (suc i) = unknown ρ i

abbrev pub monomial : List ℤ → List ℕ → ℤ
monomial ρ [] = pos 1
monomial ρ (i ∷ []) = unknown ρ i
monomial ρ (i ∷ j ∷ m) = unknown ρ i *ℤ monomial ρ (j ∷ m)

abbrev pub value : List ℤ → Polynomial → ℤ
value ρ none = pos 0
value ρ (term c m p) = c *ℤ monomial ρ m +ℤ value ρ p

-- ---- the order of monomials, by which terms are sorted

abbrev then : Ordering → Ordering → Ordering
then Ordering.lt o = Ordering.lt
then Ordering.eq o = o
then Ordering.gt o = Ordering.gt

abbrev order : List ℕ → List ℕ → Ordering
order [] [] = Ordering.eq
order [] (j ∷ n) = Ordering.lt
order (i ∷ m) [] = Ordering.gt
order (i ∷ m) (j ∷ n) = then (compare i j) (order m n)

-- one of three, by an order
abbrev pick {ℓ} : {A : Type ℓ} → Ordering → A → A → A → A
pick Ordering.lt x y z = x
pick Ordering.eq x y z = y
pick Ordering.gt x y z = z

pick_all {ℓ} : {A : Type ℓ} (o : Ordering) (x y z : A) (Q : A → Type 0) → Q x → (T (compare_is_eq o) → Q y) → Q z → Q (pick o x y z)
pick_all Ordering.lt x y z Q f g h = f
pick_all Ordering.eq x y z Q f g h = g tt
pick_all Ordering.gt x y z Q f g h = h

order_equal : (m n : List ℕ) → T (compare_is_eq (order m n)) → m ≡ n
order_equal [] [] t = refl
order_equal [] (j ∷ n) t = absurd t
order_equal (i ∷ m) [] t = absurd t
order_equal (i ∷ m) (j ∷ n) t = go (compare i j) (eqb→eq i j) (order_equal m n) t
  where
    go : (o : Ordering) → (T (compare_is_eq o) → i ≡ j) → (T (compare_is_eq (order m n)) → m ≡ n) → T (compare_is_eq (then o (order m n))) → (i ∷ m) ≡ (j ∷ n)
    go Ordering.lt e f t = absurd t
    go Ordering.eq e f t = ap₂ ◌∷◌ (e tt) (f t)
    go Ordering.gt e f t = absurd t

-- ---- the operations

-- c·m + p
abbrev pub insert : ℤ → List ℕ → Polynomial → Polynomial
insert c m none = term c m none
insert c m (term d n p) = pick (order m n) (term c m (term d n p)) (term (c +ℤ d) n p) (term d n (insert c m p))

abbrev pub add : Polynomial → Polynomial → Polynomial
add none q = q
add (term c m p) q = insert c m (add p q)

-- the factors of a product of monomials, sorted
abbrev put : ℕ → List ℕ → List ℕ
put i [] = i ∷ []
put i (j ∷ m) = pick (compare i j) (i ∷ j ∷ m) (i ∷ j ∷ m) (j ∷ put i m)

abbrev join : List ℕ → List ℕ → List ℕ
join [] n = n
join (i ∷ m) n = put i (join m n)

-- c·m·p
abbrev pub scale : ℤ → List ℕ → Polynomial → Polynomial
scale c m none = none
scale c m (term d n p) = insert (c *ℤ d) (join m n) (scale c m p)

abbrev pub multiply : Polynomial → Polynomial → Polynomial
multiply none q = none
multiply (term c m p) q = add (scale c m q) (multiply p q)

-- ---- and what they mean

monomial_cons : (ρ : List ℤ) (i : ℕ) (m : List ℕ) → monomial ρ (i ∷ m) ≡ unknown ρ i *ℤ monomial ρ m
monomial_cons ρ i [] = sym (*ℤ_idr (unknown ρ i))
monomial_cons ρ i (j ∷ m) = refl

value_insert : (ρ : List ℤ) (c : ℤ) (m : List ℕ) (p : Polynomial) → value ρ (insert c m p) ≡ c *ℤ monomial ρ m +ℤ value ρ p
value_insert ρ c m none = refl
value_insert ρ c m (term d n p) = step (value_insert ρ c m p)
  where
    step : value ρ (insert c m p) ≡ c *ℤ monomial ρ m +ℤ value ρ p
        → value ρ (insert c m (term d n p)) ≡ c *ℤ monomial ρ m +ℤ value ρ (term d n p)
    step e =
        pick_all (order m n) (term c m (term d n p)) (term (c +ℤ d) n p) (term d n (insert c m p))
        (λ q. value ρ q ≡ c *ℤ monomial ρ m +ℤ value ρ (term d n p))
        refl
        (λ t. simp (order_equal m n t, +ℤ_*ℤ, +ℤ_assoc))
        (simp (e, +ℤ_left_comm))

pub value_add : (ρ : List ℤ) (p q : Polynomial) → value ρ (add p q) ≡ value ρ p +ℤ value ρ q
value_add ρ none q = sym (+ℤ_idl (value ρ q))
value_add ρ (term c m p) q = simp (value_insert, value_add ρ p q, +ℤ_assoc)

monomial_put : (ρ : List ℤ) (i : ℕ) (m : List ℕ) → monomial ρ (put i m) ≡ unknown ρ i *ℤ monomial ρ m
monomial_put ρ i [] = monomial_cons ρ i []
monomial_put ρ i (j ∷ m) = step (monomial_put ρ i m)
  where
    step : monomial ρ (put i m) ≡ unknown ρ i *ℤ monomial ρ m → monomial ρ (put i (j ∷ m)) ≡ unknown ρ i *ℤ monomial ρ (j ∷ m)
    step e =
        pick_all (compare i j) (i ∷ j ∷ m) (i ∷ j ∷ m) (j ∷ put i m) (λ k. monomial ρ k ≡ unknown ρ i *ℤ monomial ρ (j ∷ m))
        refl
        (λ t. refl)
        (simp (monomial_cons, e, *ℤ_left_comm))

monomial_join : (ρ : List ℤ) (m n : List ℕ) → monomial ρ (join m n) ≡ monomial ρ m *ℤ monomial ρ n
monomial_join ρ [] n = sym (*ℤ_idl (monomial ρ n))
monomial_join ρ (i ∷ m) n = simp (monomial_put, monomial_cons, monomial_join ρ m n, *ℤ_assoc)

pub value_scale : (ρ : List ℤ) (c : ℤ) (m : List ℕ) (p : Polynomial) → value ρ (scale c m p) ≡ c *ℤ monomial ρ m *ℤ value ρ p
value_scale ρ c m none = sym (*ℤ-zero (c *ℤ monomial ρ m))
value_scale ρ c m (term d n p) = step (value_scale ρ c m p)
  where
    step : value ρ (scale c m p) ≡ c *ℤ monomial ρ m *ℤ value ρ p
        → value ρ (scale c m (term d n p)) ≡ c *ℤ monomial ρ m *ℤ value ρ (term d n p)
    step e = simp (value_insert, monomial_join, e, *ℤ_+ℤ, *ℤ_assoc, *ℤ_left_comm)

pub value_multiply : (ρ : List ℤ) (p q : Polynomial) → value ρ (multiply p q) ≡ value ρ p *ℤ value ρ q
value_multiply ρ none q = sym (zero-*ℤ (value ρ q))
value_multiply ρ (term c m p) q = simp (value_add, value_scale, value_multiply ρ p q, +ℤ_*ℤ)

-- ---- in ℕ: the terms with a positive coefficient against those with a negative one, each monomial by its two parts

abbrev pub parts : List ℤ → Polynomial → ℕ × ℕ
parts ρ none = (0, 0)
parts ρ (term (pos zero) m p) = parts ρ p
parts ρ (term (pos (suc k)) m p) = (suc k * positive (monomial ρ m) + (parts ρ p).0, suc k * negative (monomial ρ m) + (parts ρ p).1)
parts ρ (term (negsuc k) m p) = (suc k * negative (monomial ρ m) + (parts ρ p).0, suc k * positive (monomial ρ m) + (parts ρ p).1)

term_parts : (c x y : ℤ)
    → positive (c *ℤ x +ℤ y) + (positive c * negative x + negative c * positive x + negative y)
    ≡ positive c * positive x + negative c * negative x + positive y + negative (c *ℤ x +ℤ y)
term_parts c x y = omega (arith, add_nat (c *ℤ x) y, positive_mul c x, negative_mul c x)

pub value_parts : (ρ : List ℤ) (p : Polynomial) → positive (value ρ p) + (parts ρ p).1 ≡ (parts ρ p).0 + negative (value ρ p)
value_parts ρ none = refl
value_parts ρ (term (pos zero) m p) = simp (zero-*ℤ, +ℤ_idl) (value_parts ρ p)
value_parts ρ (term (pos (suc k)) m p) = omega (arith, term_parts (pos (suc k)) (monomial ρ m) (value ρ p), value_parts ρ p)
value_parts ρ (term (negsuc k) m p) = omega (arith, term_parts (negsuc k) (monomial ρ m) (value ρ p), value_parts ρ p)
