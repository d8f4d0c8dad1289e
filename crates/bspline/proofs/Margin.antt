-- Inside the window, M places or more from both its ends, the computed line is near the exact solution, whatever it is at the ends.
-- Let G be the gap between 6b and 65536 times the solution, times the solution's denominator. G[i-1] + 4G[i] + G[i+1] is small inside the window, and
-- at its ends G is no larger than the ranges of b and of the solution allow. By the comparison principle |G| is at most a constant plus, for each
-- end, a number that is decay M there, falls off along .., 41, 11, 3, 1 and is 1 from M places on: each of these is at least a quarter of the
-- sum of the two beside it. Assumes nothing.
use mathlib.Core.List.{[], ◌∷◌}
use mathlib.Core.Logic.{◌⊎◌, inl, inr}
use mathlib.Core.Path.{◌≡◌, refl, sym, ap, ◌∙◌}
use Prim.Native.Nat.{ℕ, zero, suc, ◌+◌, ◌-◌, ◌*◌, ◌≤◌, ◌<◌}
use native.Mathlib.Decide.{dec_lt}
use native.Mathlib.Nat.{le_refl, mul-le-mul_left, le_of_mul-le-mul_left}
use native.Mathlib.Omega.{arith}
use lib.Dec.{lit≤}
use lib.IntN.{ℤ, pos, nat_abs, ◌+ℤ◌, ◌-ℤ◌, ◌*ℤ◌}
use Rattle.integers.proofs.Absolute.{abs_add, abs_sub, abs_mul, abs_mul≤}
use Rattle.integers.proofs.Laws.{times}
use Rattle.integers.proofs.Linear.{reify, read, show}
use Rattle.integers.proofs.Parts.{nat_abs_nat}
use Rattle.integers.proofs.Ring.{polys, read_poly, show_poly}
use Rattle.bspline.specs.Exact.{Fractions, Solves, Near}
use Rattle.bspline.specs.Mirror.{mirror}
use Rattle.bspline.proofs.Comparison.{Held, compare}
use Rattle.bspline.proofs.Mirror.{mirror_below, mirror_is}
use Rattle.bspline.proofs.Stability.{tridiagonal_at, continued, middle, bounded}

-- ---- the numbers 1, 3, 11, 41, 153, ..: each and the next but one add up to 4 times the one between
-- the number j, and half its difference to the next
abbrev steps : ℕ → ℕ × ℕ
steps zero = (1, 1)
steps (suc j) = ((steps j).0 + 2 * (steps j).1, (steps j).0 + 3 * (steps j).1)

-- the number j
unfoldable pub decay : ℕ → ℕ
decay j = (steps j).0

-- past the margin it is 1
decay_zero : decay 0 ≡ 1
unfolding decay
decay_zero = refl

-- towards the middle, place after place, where `-` stops at 0
decay_mean : (a b c : ℕ) → b ≡ a - 1 → c ≡ b - 1 → decay a + decay c ≤ 4 * decay b
unfolding decay
decay_mean zero b c p q = let e : b ≡ 0 = omega arith in let f : c ≡ 0 = omega arith in rw (e, f) (lit≤ tt)
decay_mean (suc zero) b c p q = let e : b ≡ 0 = omega arith in let f : c ≡ 0 = omega arith in rw (e, f) (lit≤ tt)
decay_mean (suc (suc a)) b c p q = let e : b ≡ suc a = omega arith in let f : c ≡ a = omega arith in rw (e, f) (omega arith)

-- ---- the window law, over any margin M and a window of the places 0 to L
-- if G[i-1] + 4G[i] + G[i+1] is at most S inside, and 4G at most D × decay M at both ends, then M places from both ends 4G is at most 2S + 2D
pub window_small : (M L D S : ℕ) (G : ℕ → ℤ) → 4 * nat_abs (G 0) ≤ D * decay M → 4 * nat_abs (G L) ≤ D * decay M →
    ((i : ℕ) → suc i < L → nat_abs (G i +ℤ pos 4 *ℤ G (suc i) +ℤ G (suc (suc i))) ≤ S) →
    (i : ℕ) → M ≤ i → i + M ≤ L → 4 * nat_abs (G i) ≤ 2 * S + 2 * D
window_small M L D S G at_first at_last source i l u = away (compare (suc L) size bound (λ i. 4 * S) each i (omega arith))
  where
    size : ℕ → ℕ
    size i = 4 * nat_abs (G i)

    bound : ℕ → ℕ
    bound i = 2 * S + D * (decay (M - i) + decay (M - (L - i)))

    inside : (i : ℕ) → suc i < L → Held (suc L) size bound (4 * S) (suc i)
    inside i l = record {
      i = i;
      j = suc (suc i);
      i_below = omega arith;
      j_below = omega arith;
      held = omega (arith, middle (G i) (G (suc i)) (G (suc (suc i))) S (source i l));
      room = omega (
        arith,
        mul-le-mul_left D (decay_mean (M - i) (M - suc i) (M - suc (suc i)) (omega arith) (omega arith)),
        mul-le-mul_left D (decay_mean (M - (L - suc (suc i))) (M - (L - suc i)) (M - (L - i)) (omega arith) (omega arith)),
      );
    }

    first : size 0 ≤ bound 0
    first = let e : M - 0 ≡ M = omega arith in rw e (omega arith)

    last : size L ≤ bound L
    last = let e : M - (L - L) ≡ M = omega arith in rw e (omega arith)

    later : (i : ℕ) → i < L → Dec (suc i < L) → (size (suc i) ≤ bound (suc i)) ⊎ Held (suc L) size bound (4 * S) (suc i)
    later i l (yes d) = inr (inside i d)
    later i l (no d) = let e : suc i ≡ L = omega arith in inl (rw e last)

    each : (i : ℕ) → i < suc L → (size i ≤ bound i) ⊎ Held (suc L) size bound (4 * S) i
    each zero l = inl first
    each (suc i) l = later i (omega arith) (dec_lt (suc i) L)

    away : size i ≤ bound i → size i ≤ 2 * S + 2 * D
    away h =
        let e : M - i ≡ 0 = omega arith in let f : M - (L - i) ≡ 0 = omega arith in
        omega (arith, rw (e, f, decay_zero) at h)

-- ---- a line of n numbers with a margin of M at each end, place i of the window being the index i - M
-- t is within τ of 65536 times the data s, b solves the equations of t up to ρ, and neither is out of range
pub record Line (M n : ℕ) (s : Fractions) (t b : ℕ → ℤ) (T B ρ τ : ℕ) : Type 0 where
  pub loaded : (i : ℕ) → i < n + 2 * M → Near τ 1 65536 s.den (s.num (mirror n (pos i -ℤ pos M))) (t i)
  pub residual : (i : ℕ) → suc (suc i) < n + 2 * M → nat_abs (b i +ℤ pos 4 *ℤ b (suc i) +ℤ b (suc (suc i)) -ℤ t (suc i)) ≤ ρ
  pub t_range : (i : ℕ) → i < n + 2 * M → nat_abs (t i) ≤ T
  pub b_range : (i : ℕ) → i < n + 2 * M → nat_abs (b i) ≤ B

-- the equation of the data s over E and of its solution x, y and z over D, taken from that of b and t
gap_identity : (E D b₋ b b₊ x y z s t : ℤ) → E *ℤ (x +ℤ pos 4 *ℤ y +ℤ z) ≡ D *ℤ (pos 6 *ℤ s) →
    E *ℤ ((D *ℤ (pos 6 *ℤ b₋) -ℤ pos 65536 *ℤ x) +ℤ pos 4 *ℤ (D *ℤ (pos 6 *ℤ b) -ℤ pos 65536 *ℤ y) +ℤ (D *ℤ (pos 6 *ℤ b₊) -ℤ pos 65536 *ℤ z))
    ≡ pos 6 *ℤ D *ℤ (E *ℤ (b₋ +ℤ pos 4 *ℤ b +ℤ b₊ -ℤ t) +ℤ (E *ℤ t -ℤ pos 65536 *ℤ s))
gap_identity E D b₋ b b₊ x y z s t e =
    let ρ = E ∷ D ∷ b₋ ∷ b ∷ b₊ ∷ x ∷ y ∷ z ∷ s ∷ t ∷ [] in
    show_poly ρ (simp polys tt) (omega (arith, read_poly ρ (times (pos 65536) e) (simp polys tt)))

-- where the residual r and the error u of t are small, so is the sum g of the three gaps
gap_small : (E D ρ τ : ℕ) (g r u : ℤ) → 0 < E → pos E *ℤ g ≡ pos (6 * D) *ℤ (pos E *ℤ r +ℤ u) → nat_abs r ≤ ρ → 1 * nat_abs u ≤ τ * E →
    nat_abs g ≤ 6 * D * (ρ + τ)
gap_small E D ρ τ g r u h e p q = le_of_mul-le-mul_left {k = E} (omega (arith, size, mul-le-mul_left (6 * D) both)) h
  where
    both : nat_abs (pos E *ℤ r +ℤ u) ≤ E * (ρ + τ)
    both = omega (arith, abs_add (pos E *ℤ r) u, abs_mul (pos E) r, mul-le-mul_left E p)

    size : E * nat_abs g ≡ 6 * D * nat_abs (pos E *ℤ r +ℤ u)
    size = sym (abs_mul (pos E) g) ∙ ap nat_abs e ∙ abs_mul (pos (6 * D)) (pos E *ℤ r +ℤ u)

-- data that t is near are not much larger than t
data_range : (E T τ : ℕ) (s t : ℤ) → nat_abs t ≤ T → Near τ 1 65536 E s t → 65536 * nat_abs s ≤ (T + τ) * E
data_range E T τ s t h g = omega (
  arith,
  abs_mul (pos 65536) s,
  abs_from (pos E *ℤ t) (pos 65536 *ℤ s),
  g.near,
  abs_mul (pos E) t,
  mul-le-mul_left E h,
)
  where
    abs_from : (x y : ℤ) → nat_abs y ≤ nat_abs x + nat_abs (x -ℤ y)
    abs_from x y = show (simp reify tt) (omega (arith, nat_abs_nat x, read (le_refl (nat_abs (x -ℤ y))) (simp reify tt)))

-- where decay M covers the ranges, 6b is within (6(ρ + τ) + 1) / 2 of 65536 times every exact solution, at each of the n places
pub line_near : (M n : ℕ) (s c : Fractions) (t b : ℕ → ℤ) (T B ρ τ : ℕ) → Solves n s c → Line M n s t b T B ρ τ → 24 * B + 12 * (T + τ) ≤ decay M →
    (k : ℕ) → k < n → Near (6 * (ρ + τ) + 1) 2 65536 c.den (c.num k) (pos 6 *ℤ b (k + M))
line_near M n s c t b T B ρ τ solves line covers k l =
    let small =
    window_small M last c.den (6 * c.den * (ρ + τ)) G (end 0 (omega arith)) (end last (omega arith)) inside (k + M) (omega arith) (omega arith) in
    record { near = omega (arith, rw (own k l) at small) }
  where
    last : ℕ
    last = n + 2 * M - 1

    -- the place of the line that place i of the window reads
    reads : ℕ → ℕ
    reads i = mirror n (pos i -ℤ pos M)

    G : ℕ → ℤ
    G i = pos c.den *ℤ (pos 6 *ℤ b i) -ℤ pos 65536 *ℤ c.num (reads i)

    own : (k : ℕ) → k < n → reads (k + M) ≡ k
    own k l = mirror_is n (pos (k + M) -ℤ pos M) k l (show (simp reify tt) (omega arith))

    s_range : (k : ℕ) → k < n → 65536 * nat_abs (s.num k) ≤ (T + τ) * s.den
    s_range k u =
        data_range s.den T τ (s.num k) (t (k + M)) (line.t_range (k + M) (omega arith)) (rw (own k u) at (line.loaded (k + M) (omega arith)))

    end : (i : ℕ) → i < n + 2 * M → 4 * nat_abs (G i) ≤ c.den * decay M
    end i u = omega (
      arith,
      abs_sub (pos c.den *ℤ (pos 6 *ℤ b i)) (pos 65536 *ℤ c.num (reads i)),
      abs_mul (pos c.den) (pos 6 *ℤ b i),
      mul-le-mul_left c.den (abs_mul≤ (pos 6) (b i) (le_refl 6) (line.b_range i u)),
      abs_mul (pos 65536) (c.num (reads i)),
      bounded n s c solves 65536 (T + τ) s_range (reads i) (mirror_below n (pos i -ℤ pos M) (omega arith)),
      mul-le-mul_left c.den covers,
    )

    equation : (i : ℕ) → pos s.den *ℤ (c.num (reads i) +ℤ pos 4 *ℤ c.num (reads (suc i)) +ℤ c.num (reads (suc (suc i))))
        ≡ pos c.den *ℤ (pos 6 *ℤ s.num (reads (suc i)))
    equation i =
        let k = pos (suc i) -ℤ pos M in
        times (pos s.den) (sym (tridiagonal_at n c.num k (reads i) (reads (suc i)) (reads (suc (suc i))) (ap (mirror n) before) refl (ap (mirror n) after)))
        ∙ continued n s c (omega arith) solves k
      where
        before : pos (suc i) -ℤ pos M -ℤ pos 1 ≡ pos i -ℤ pos M
        before = show (simp reify tt) (omega arith)

        after : pos (suc i) -ℤ pos M +ℤ pos 1 ≡ pos (suc (suc i)) -ℤ pos M
        after = show (simp reify tt) (omega arith)

    inside : (i : ℕ) → suc i < last → nat_abs (G i +ℤ pos 4 *ℤ G (suc i) +ℤ G (suc (suc i))) ≤ 6 * c.den * (ρ + τ)
    inside i u =
        gap_small s.den c.den ρ τ (G i +ℤ pos 4 *ℤ G (suc i) +ℤ G (suc (suc i)))
        (b i +ℤ pos 4 *ℤ b (suc i) +ℤ b (suc (suc i)) -ℤ t (suc i))
        (pos s.den *ℤ t (suc i) -ℤ pos 65536 *ℤ s.num (reads (suc i)))
        s.above
        (gap_identity (pos s.den) (pos c.den) (b i) (b (suc i)) (b (suc (suc i)))
        (c.num (reads i)) (c.num (reads (suc i))) (c.num (reads (suc (suc i)))) (s.num (reads (suc i))) (t (suc i)) (equation i))
        (line.residual i (omega arith)) (line.loaded (suc i) (omega arith)).near
