-- The stability of the equations c[k-1] + 4c[k] + c[k+1] = 6s[k] of "The mirrored row", for every length from 1 on.
-- By the comparison principle with the two mirrored neighbours: where u|d[k-1] + 4d[k] + d[k+1]| is at most g at every place, u|d[k]| is at
-- most g/2. So a solution is at most three times as large as its data. Besides: continued past both ends a solution satisfies the equations at every
-- whole index, since the neighbours of an index read the neighbours of its place. Assumes nothing.
use mathlib.Core.List.{[], ◌∷◌}
use mathlib.Core.Logic.{inr}
use mathlib.Core.Path.{◌≡◌, sym, ap, ◌∙◌}
use Prim.Native.Nat.{ℕ, ◌+◌, ◌*◌, ◌≤◌, ◌<◌}
use native.Mathlib.Nat.{le_refl, mul-le-mul_left, le_of_mul-le-mul_left}
use native.Mathlib.Omega.{arith}
use lib.IntN.{ℤ, pos, negsuc, nat_abs, ◌+ℤ◌, ◌-ℤ◌, ◌*ℤ◌}
use Rattle.integers.proofs.Absolute.{abs_mul}
use Rattle.integers.proofs.Laws.{times}
use Rattle.integers.proofs.Linear.{reify, read, show}
use Rattle.integers.proofs.Parts.{nat_abs_nat}
use Rattle.integers.proofs.Ring.{polys, ring}
use Rattle.bspline.specs.Exact.{Fractions, tridiagonal, Solves}
use Rattle.bspline.specs.Mirror.{mirror}
use Rattle.bspline.proofs.Comparison.{Held, compare}
use Rattle.bspline.proofs.Mirror.{mirror_below, mirror_own, Beside, alike, swapped, beside}

-- ---- the three numbers c[k-1], c[k], c[k+1] and their sum
-- by the places that they are read from
pub tridiagonal_at : (n : ℕ) (c : ℕ → ℤ) (k : ℤ) (i m j : ℕ) → mirror n (k -ℤ pos 1) ≡ i → mirror n k ≡ m → mirror n (k +ℤ pos 1) ≡ j →
    tridiagonal n c k ≡ c i +ℤ pos 4 *ℤ c m +ℤ c j
unfolding tridiagonal
tridiagonal_at n c k i m j p q r = rw (p, q, r)

swap_ends : (x y z : ℤ) → x +ℤ y +ℤ z ≡ z +ℤ y +ℤ x
swap_ends x y z = show (simp reify tt) (omega arith)

-- the sum at an index is the sum at the place that it reads
pub tridiagonal_mirror : (n : ℕ) (c : ℕ → ℤ) (k : ℤ) → 0 < n → tridiagonal n c k ≡ tridiagonal n c (pos (mirror n k))
unfolding tridiagonal
tridiagonal_mirror n c k h = go (beside n k h)
  where
    m : ℤ
    m = pos (mirror n k)

    before : ℕ
    before = mirror n (m -ℤ pos 1)

    own : ℕ
    own = mirror n m

    after : ℕ
    after = mirror n (m +ℤ pos 1)

    here : mirror n k ≡ own
    here = sym (mirror_own n (mirror n k) (mirror_below n k h))

    go : Beside n k m → tridiagonal n c k ≡ tridiagonal n c m
    go (alike f) = tridiagonal_at n c k before own after (f (negsuc 0)) here (f (pos 1))
    go (swapped f) = tridiagonal_at n c k after own before (f (negsuc 0)) here (f (pos 1)) ∙ swap_ends (c after) (pos 4 *ℤ c own) (c before)

-- the sum is linear in c
pub tridiagonal_linear : (n : ℕ) (a b : ℤ) (x y : ℕ → ℤ) (k : ℤ) →
    tridiagonal n (λ i. a *ℤ x i -ℤ b *ℤ y i) k ≡ a *ℤ tridiagonal n x k -ℤ b *ℤ tridiagonal n y k
unfolding tridiagonal
tridiagonal_linear n a b x y k = go (mirror n (k -ℤ pos 1)) (mirror n k) (mirror n (k +ℤ pos 1))
  where
    go : (i m j : ℕ) →
        (a *ℤ x i -ℤ b *ℤ y i) +ℤ pos 4 *ℤ (a *ℤ x m -ℤ b *ℤ y m) +ℤ (a *ℤ x j -ℤ b *ℤ y j) ≡
        a *ℤ (x i +ℤ pos 4 *ℤ x m +ℤ x j) -ℤ b *ℤ (y i +ℤ pos 4 *ℤ y m +ℤ y j)
    go i m j = ring (a ∷ b ∷ x i ∷ x m ∷ x j ∷ y i ∷ y m ∷ y j ∷ []) (simp polys tt) tt

-- a solution, continued past both ends, satisfies the equations at every whole index
pub continued : (n : ℕ) (s c : Fractions) → 0 < n → Solves n s c →
    (k : ℤ) → pos s.den *ℤ tridiagonal n c.num k ≡ pos c.den *ℤ (pos 6 *ℤ s.num (mirror n k))
continued n s c h f k = times (pos s.den) (tridiagonal_mirror n c.num k h) ∙ f.equation (mirror n k) (mirror_below n k h)

-- ---- stability
-- four times the middle number is held down by the two others and by the sum of the three
pub middle : (x y z : ℤ) (g : ℕ) → nat_abs (x +ℤ pos 4 *ℤ y +ℤ z) ≤ g → 4 * nat_abs y ≤ nat_abs x + nat_abs z + g
middle x y z g h = omega (arith, abs_mul (pos 4) y, four)
  where
    four : nat_abs (pos 4 *ℤ y) ≤ nat_abs x + nat_abs z + g
    four = show (simp reify tt) (omega (arith, read h (simp reify tt), nat_abs_nat x, nat_abs_nat z))

-- so v times the number at a place is held down by v times its neighbours and v times the sum, where a bound leaves room for that
pub held_at : (n v : ℕ) (x : ℕ → ℤ) (h : ℕ → ℕ) (k : ℕ) → k < n →
    h (mirror n (pos k -ℤ pos 1)) + h (mirror n (pos k +ℤ pos 1)) + v * nat_abs (tridiagonal n x (pos k)) ≤ 4 * h k →
    Held n (λ k. v * nat_abs (x k)) h (v * nat_abs (tridiagonal n x (pos k))) k
unfolding tridiagonal
held_at n v x h k l room = record {
  i = mirror n (pos k -ℤ pos 1);
  j = mirror n (pos k +ℤ pos 1);
  i_below = mirror_below n (pos k -ℤ pos 1) (omega arith);
  j_below = mirror_below n (pos k +ℤ pos 1) (omega arith);
  held = rw (mirror_own n k l) (omega (arith, mul-le-mul_left v (middle (x (mirror n (pos k -ℤ pos 1))) (x k) (x (mirror n (pos k +ℤ pos 1))) _ (le_refl _))));
  room = room;
}

-- numbers whose 1-4-1 sums are all at most g / u in size are at most g / 2u themselves
pub stable : (n u : ℕ) (d : ℕ → ℤ) (g : ℕ) → ((k : ℕ) → k < n → u * nat_abs (tridiagonal n d (pos k)) ≤ g) → (k : ℕ) → k < n → 2 * (u * nat_abs (d k)) ≤ g
stable n u d g f k l = omega (
  arith,
  compare n (λ k. 2 * u * nat_abs (d k)) (λ k. g) (λ k. 2 * u * nat_abs (tridiagonal n d (pos k)))
      (λ k l. inr (held_at n (2 * u) d (λ k. g) k l (omega (arith, f k l)))) k l,
)

-- the sizes of the two sides of an equation
pub equation_sizes : (n : ℕ) (s c : Fractions) → Solves n s c →
    (k : ℕ) → k < n → s.den * nat_abs (tridiagonal n c.num (pos k)) ≡ c.den * (6 * nat_abs (s.num k))
equation_sizes n s c f k l =
    sym (abs_mul (pos s.den) (tridiagonal n c.num (pos k)))
    ∙ ap nat_abs (f.equation k l)
    ∙ abs_mul (pos c.den) (pos 6 *ℤ s.num k)
    ∙ ap (λ v. c.den * v) (abs_mul (pos 6) (s.num k))

-- a solution is at most three times as large as its data: of data up to S / u it is at most 3S / u. (1, -1) has the solution (3, -3)
pub bounded : (n : ℕ) (s c : Fractions) → Solves n s c → (u S : ℕ) → ((k : ℕ) → k < n → u * nat_abs (s.num k) ≤ S * s.den) →
    (k : ℕ) → k < n → u * nat_abs (c.num k) ≤ 3 * S * c.den
bounded n s c f u S b k l = omega (arith, stable n u c.num (6 * S * c.den) small k l)
  where
    small : (k : ℕ) → k < n → u * nat_abs (tridiagonal n c.num (pos k)) ≤ 6 * S * c.den
    small k l =
        let e = equation_sizes n s c f k l in
        le_of_mul-le-mul_left {k = s.den} (omega (arith, ap (λ v. u * v) e, mul-le-mul_left c.den (b k l))) s.above
