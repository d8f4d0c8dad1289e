-- Examples, one for each form that docs/INTEGERS.md names: linear arithmetic, polynomials, certificates, bounds, division and
-- rounding. The last ones say what `floor`, `modulo` and `round` give at chosen numbers, on both sides of 0 and at ties: another
-- definition of them is refused there. Assumes nothing.
use mathlib.Core.Path.{◌≡◌, refl}
use mathlib.Core.List.{[], ◌∷◌}
use Prim.Native.Nat.{ℕ, ◌*◌, ◌≤◌, ◌^◌}
use native.Mathlib.Omega.{arith}
use lib.IntN.{ℤ, pos, negsuc, ◌+ℤ◌, ◌-ℤ◌, ◌*ℤ◌, nat_abs}
use lib.Signed.{◌≤ℤ◌, ◌<ℤ◌}
use mir.Syntax.{w32, w64}
use mir.Val.{SFits}
use Rattle.integers.specs.Bound.{Within}
use Rattle.integers.specs.Division.{floor, modulo}
use Rattle.integers.specs.Rounding.{round}
use Rattle.integers.proofs.Parts.{le_of, linear}
use Rattle.integers.proofs.Linear.{reify, read, show}
use Rattle.integers.proofs.Laws.{times, by_cert, nonneg}
use Rattle.integers.proofs.Ring.{polys, ring, read_poly, show_poly}
use Rattle.integers.proofs.Absolute.{abs_mul≤}
use Rattle.integers.proofs.Division.{floor_between}
use Rattle.integers.proofs.Rounding.{round_near}

-- ---- linear arithmetic

-- a statement with its assumptions in it
sum_below : (x y : ℤ) → x ≤ℤ pos 5 → y <ℤ x → (x +ℤ y) <ℤ pos 10
sum_below x y = show (simp reify tt) (omega arith)

-- assumptions that are in reach, with no word of them
sum_below_in_reach : (x y : ℤ) → x ≤ℤ pos 5 → y ≤ℤ x → (x +ℤ y) ≤ℤ pos 10
sum_below_in_reach x y h k = show (simp reify tt) (omega linear)

-- bounds that are in reach, in the fields of records too
fits_in_reach : (x y : ℤ) → SFits w32 x → Within 1000 y × (x <ℤ y) → SFits w64 (pos 3 *ℤ x +ℤ y -ℤ pos 7)
fits_in_reach x y h k = show (simp reify tt) (omega linear)

-- a fact that is no atom on each side is read
sum_at_most : (x y z : ℤ) → (x +ℤ y) ≤ℤ (z -ℤ pos 1) → pos 0 ≤ℤ y → x <ℤ z
sum_at_most x y z h k = show (simp reify tt) (omega (linear, read h (simp reify tt)))

-- the rules alone, where each side is an atom or a literal
at_most : (x y : ℤ) → x ≤ℤ y → y ≤ℤ pos 5 → x ≤ℤ pos 7
at_most x y h k = le_of (omega linear)

-- a constant factor of ten digits, and bounds on absolute values
difference_bound : (t p r : ℤ) → nat_abs p ≤ 2 ^ 60 → nat_abs t ≤ 2 ^ 61
    → 2 * nat_abs (pos 2147483648 *ℤ r -ℤ pos 575416509 *ℤ p) ≤ 2147483648
    → nat_abs (t -ℤ r) ≤ 2614767395180380160
difference_bound t p r = show (simp reify tt) (omega arith)

-- the bounds as orders, and a width as the goal
difference_fits : (t p r : ℤ)
    → negsuc 999999 ≤ℤ p → p ≤ℤ pos 1000000
    → negsuc 4611686018427387903 ≤ℤ t → t <ℤ pos 4611686018427387904
    → (pos 2147483648 *ℤ r) ≤ℤ (pos 575416509 *ℤ p +ℤ pos 1073741824)
    → (pos 575416509 *ℤ p -ℤ pos 1073741824) ≤ℤ (pos 2147483648 *ℤ r)
    → SFits w64 (t -ℤ r)
difference_fits t p r = show (simp reify tt) (omega arith)

-- a product of two unknowns is bounded by a law of its own
product_fits : (t p r z : ℤ) → nat_abs p ≤ 2 ^ 58 → nat_abs t ≤ 2 ^ 61 → nat_abs z ≤ 2 ^ 31
    → nat_abs (pos 2147483648 *ℤ r -ℤ z *ℤ p) ≤ 1073741824
    → SFits w64 (t -ℤ r)
product_fits t p r z hp ht hz hr =
    show (simp reify tt) (omega (arith, read ht (simp reify tt), read (abs_mul≤ z p hz hp) (simp reify tt), read hr (simp reify tt)))

-- ---- polynomials

-- an identity
squares : (x y : ℤ) → (x +ℤ y) *ℤ (x -ℤ y) ≡ x *ℤ x -ℤ y *ℤ y
squares x y = ring (x ∷ y ∷ []) (simp polys tt) tt

-- an unknown may be a natural number
natural_unknown : (d : ℕ) (q : ℤ) → pos d *ℤ (q +ℤ pos 1) -ℤ pos d ≡ q *ℤ pos d
natural_unknown d q = ring (pos d ∷ q ∷ []) (simp polys tt) tt

-- large constants
constants : (x y : ℤ) → pos 2147483648 *ℤ (x +ℤ pos 575416509 *ℤ y)
    ≡ pos 2147483648 *ℤ x +ℤ pos 1235697543866744832 *ℤ y +ℤ pos 9007199254740993 *ℤ y -ℤ y *ℤ pos 9007199254740993
constants x y = ring (x ∷ y ∷ []) (simp polys tt) tt

-- many unknowns: a product of two sums of four squares is one
four_squares : (a b c d e f g h : ℤ) →
    (a *ℤ a +ℤ b *ℤ b +ℤ c *ℤ c +ℤ d *ℤ d) *ℤ (e *ℤ e +ℤ f *ℤ f +ℤ g *ℤ g +ℤ h *ℤ h) ≡
    (a *ℤ e -ℤ b *ℤ f -ℤ c *ℤ g -ℤ d *ℤ h) *ℤ (a *ℤ e -ℤ b *ℤ f -ℤ c *ℤ g -ℤ d *ℤ h) +ℤ
    (a *ℤ f +ℤ b *ℤ e +ℤ c *ℤ h -ℤ d *ℤ g) *ℤ (a *ℤ f +ℤ b *ℤ e +ℤ c *ℤ h -ℤ d *ℤ g) +ℤ
    (a *ℤ g -ℤ b *ℤ h +ℤ c *ℤ e +ℤ d *ℤ f) *ℤ (a *ℤ g -ℤ b *ℤ h +ℤ c *ℤ e +ℤ d *ℤ f) +ℤ
    (a *ℤ h +ℤ b *ℤ g -ℤ c *ℤ f +ℤ d *ℤ e) *ℤ (a *ℤ h +ℤ b *ℤ g -ℤ c *ℤ f +ℤ d *ℤ e)
four_squares a b c d e f g h = ring (a ∷ b ∷ c ∷ d ∷ e ∷ f ∷ g ∷ h ∷ []) (simp polys tt) tt

-- an equation from others, each times a factor
combined : (q z b₁ b₂ b₀ t e₀ e₁ d u v : ℤ)
    → z *ℤ b₁ +ℤ q *ℤ b₀ ≡ z *ℤ u +ℤ e₀
    → q *ℤ b₂ +ℤ z *ℤ b₀ ≡ q *ℤ v +ℤ (e₁ -ℤ d)
    → u +ℤ v ≡ t
    → q *ℤ z *ℤ (b₁ +ℤ b₂) +ℤ (q *ℤ q +ℤ z *ℤ z) *ℤ b₀ ≡ q *ℤ z *ℤ t +ℤ q *ℤ e₀ +ℤ z *ℤ (e₁ -ℤ d)
combined q z b₁ b₂ b₀ t e₀ e₁ d u v r₁ r₂ r₃ =
    let ρ = q ∷ z ∷ b₁ ∷ b₂ ∷ b₀ ∷ t ∷ e₀ ∷ e₁ ∷ d ∷ u ∷ v ∷ [] in
    let h₁ = read_poly ρ (times q r₁) (simp polys tt) in
    let h₂ = read_poly ρ (times z r₂) (simp polys tt) in
    let h₃ = read_poly ρ (times (q *ℤ z) r₃) (simp polys tt) in
    show_poly ρ (simp polys tt) (omega arith)

-- ---- certificates

-- a product of two facts
product_mono : (z p b : ℤ) → pos 0 ≤ℤ z → p ≤ℤ b → (z *ℤ p) ≤ℤ (z *ℤ b)
product_mono z p b h k = by_cert (z *ℤ (b -ℤ p)) (ring (z ∷ p ∷ b ∷ []) (simp polys tt) tt) (search nonneg)

-- a square
mean : (x y : ℤ) → (pos 2 *ℤ x *ℤ y) ≤ℤ (x *ℤ x +ℤ y *ℤ y)
mean x y = by_cert ((x -ℤ y) *ℤ (x -ℤ y)) (ring (x ∷ y ∷ []) (simp polys tt) tt) (search nonneg)

-- numbers past the digits of `omega`
large : (x y : ℤ) → (pos 1000000000000000000000000000000 *ℤ x) ≤ℤ y
    → (pos 1000000000000000000000000000000000000000000000000000000000000 *ℤ x) ≤ℤ (pos 1000000000000000000000000000000 *ℤ y +ℤ pos 3)
large x y h =
    by_cert (pos 1000000000000000000000000000000 *ℤ (y -ℤ pos 1000000000000000000000000000000 *ℤ x) +ℤ pos 3)
    (ring (x ∷ y ∷ []) (simp polys tt) tt)
    (search nonneg)

-- ---- division and rounding

-- a bound through a floor
floor_bound : (a : ℤ) → nat_abs a ≤ 2 ^ 62 → nat_abs (floor a 2147483648) ≤ 2 ^ 31
floor_bound a h =
    show (simp reify tt) (omega (arith, read h (simp reify tt), read (floor_between a 2147483648 (omega arith)) (simp reify tt)))

-- a bound through a rounding
round_bound_by_near : (p : ℤ) → Within 1000000000 p → Within 267949192 (round (pos 575416509 *ℤ p) 2147483648)
round_bound_by_near p h =
    show (simp reify tt) (omega (linear, read (round_near (pos 575416509 *ℤ p) 2147483648 (omega arith)) (simp reify tt)))

-- the floor goes down on both sides of 0: 7/2, -7/2, -8/2, -1/2
floor_values : (floor (pos 7) 2 ≡ pos 3) × (floor (negsuc 6) 2 ≡ negsuc 3) × (floor (negsuc 7) 2 ≡ negsuc 3) × (floor (negsuc 0) 2 ≡ negsuc 0)
floor_values = (refl, refl, refl, refl)

-- and the remainder is not negative
modulo_values : (modulo (pos 7) 2 ≡ 1) × (modulo (negsuc 6) 2 ≡ 1) × (modulo (negsuc 7) 2 ≡ 0) × (modulo (negsuc 6) 5 ≡ 3)
modulo_values = (refl, refl, refl, refl)

-- a tie goes away from zero: 1/2, -1/2, 3/2, -3/2
round_ties : (round (pos 1) 2 ≡ pos 1) × (round (negsuc 0) 2 ≡ negsuc 0) × (round (pos 3) 2 ≡ pos 2) × (round (negsuc 2) 2 ≡ negsuc 1)
unfolding round
round_ties = (refl, refl, refl, refl)

-- beside a tie the nearest is taken: 1/4, 3/4, -1/4, -3/4
round_beside_ties : (round (pos 1) 4 ≡ pos 0) × (round (pos 3) 4 ≡ pos 1) × (round (negsuc 0) 4 ≡ pos 0) × (round (negsuc 2) 4 ≡ negsuc 0)
unfolding round
round_beside_ties = (refl, refl, refl, refl)

-- by an odd number there is no tie: 1/3, 2/3, -1/3, -2/3
round_odd : (round (pos 1) 3 ≡ pos 0) × (round (pos 2) 3 ≡ pos 1) × (round (negsuc 0) 3 ≡ pos 0) × (round (negsuc 1) 3 ≡ negsuc 0)
unfolding round
round_odd = (refl, refl, refl, refl)
