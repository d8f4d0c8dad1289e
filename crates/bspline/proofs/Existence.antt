-- Every row and every picture has an exact solution: "The mirrored row" and "The two recursions". By the shooting method: after
-- two numbers each next one is chosen so that the equation before it holds. `driven` starts from 0 and takes the data, `free` starts from 1
-- with 0 for the data; both satisfy every equation but the last. Let m be what `free` makes of the last equation, and r what `driven` makes
-- of it too much: then (m² driven - m r free) / m² is the solution. m is not 0: else `free` would solve the equations of data that are 0,
-- and by stability it would be 0, while its first number is 1. m depends on the length alone, so that all rows of a picture have one
-- denominator, and all columns too. Assumes nothing.
use mathlib.Core.List.{[], ◌∷◌}
use mathlib.Core.Path.{◌≡◌, refl, ap, ◌∙◌}
use Prim.Native.Nat.{ℕ, zero, suc, ◌*◌, ◌≤◌, ◌<◌}
use native.Mathlib.Nat.{mul-pos}
use native.Mathlib.Omega.{arith, by_contra}
use borrow.Author.Count.{below_more}
use lib.Dec.{lit<}
use lib.IntN.{ℤ, pos, negsuc, nat_abs, ◌+ℤ◌, ◌-ℤ◌, ◌*ℤ◌}
use Rattle.integers.proofs.Laws.{times}
use Rattle.integers.proofs.Linear.{reify, show}
use Rattle.integers.proofs.Ring.{polys, ring}
use Rattle.bspline.specs.Exact.{Fractions, tridiagonal, Solves, Grid, SolvesPicture, row, column}
use Rattle.bspline.proofs.Mirror.{mirror_is, mirror_own, mirror_unique, reflected}
use Rattle.bspline.proofs.Stability.{tridiagonal_at, tridiagonal_linear, stable}

-- ---- the shooting method
-- from c[0] = a and c[1] = b, with the equation at k + 1 solved for c[k+2]
shoot : (s : ℕ → ℤ) (a b : ℤ) → ℕ → ℤ
shoot s a b zero = a
shoot s a b (suc zero) = b
shoot s a b (suc (suc k)) = pos 6 *ℤ s (suc k) -ℤ pos 4 *ℤ shoot s a b (suc k) -ℤ shoot s a b k

-- where the first equation holds, 2b + 4a = 6s[0], all but the last of a row of n hold
shoot_solves : (n : ℕ) (s : ℕ → ℤ) (a b : ℤ) → b +ℤ pos 4 *ℤ a +ℤ b ≡ pos 6 *ℤ s 0 →
    (k : ℕ) → suc k < n → tridiagonal n (shoot s a b) (pos k) ≡ pos 6 *ℤ s k
unfolding shoot
shoot_solves n s a b e zero l =
    tridiagonal_at n (shoot s a b) (pos 0) 1 0 1
    (mirror_unique n (negsuc 0) 1 l (reflected (pos 0) (show (simp reify tt) (omega arith))))
    (mirror_own n 0 (omega arith))
    (mirror_own n 1 l)
    ∙ e
shoot_solves n s a b e (suc k) l =
    tridiagonal_at n (shoot s a b) (pos (suc k)) k (suc k) (suc (suc k))
    (mirror_is n (pos (suc k) -ℤ pos 1) k (omega arith) (show (simp reify tt) (omega arith)))
    (mirror_own n (suc k) (omega arith))
    (mirror_is n (pos (suc k) +ℤ pos 1) (suc (suc k)) l (show (simp reify tt) (omega arith)))
    ∙ next (shoot s a b k) (shoot s a b (suc k)) (pos 6 *ℤ s (suc k))
  where
    next : (x y t : ℤ) → x +ℤ pos 4 *ℤ y +ℤ (t -ℤ pos 4 *ℤ y -ℤ x) ≡ t
    next x y t = show (simp reify tt) (omega arith)

-- with the data, from 0
driven : (ℕ → ℤ) → ℕ → ℤ
driven s = shoot s (pos 0) (pos 3 *ℤ s 0)

-- without data, from 1
free : ℕ → ℤ
free = shoot (λ k. pos 0) (pos 1) (negsuc 1)

driven_solves : (n : ℕ) (s : ℕ → ℤ) (k : ℕ) → suc k < n → tridiagonal n (driven s) (pos k) ≡ pos 6 *ℤ s k
unfolding driven
driven_solves n s = shoot_solves n s (pos 0) (pos 3 *ℤ s 0) (show (simp reify tt) (omega arith))

free_solves : (n k : ℕ) → suc k < n → tridiagonal n free (pos k) ≡ pos 0
unfolding free
free_solves n k l = shoot_solves n (λ k. pos 0) (pos 1) (negsuc 1) refl k l

-- ---- the last equation of a row of j + 1, at place j
-- m: what `free` makes of it
determinant : ℕ → ℤ
determinant j = tridiagonal (suc j) free (pos j)

-- r: what `driven` makes of it too much
excess : ℕ → (ℕ → ℤ) → ℤ
excess j s = tridiagonal (suc j) (driven s) (pos j) -ℤ pos 6 *ℤ s j

-- m is not 0
determinant_above : (j : ℕ) → 0 < nat_abs (determinant j)
unfolding determinant free shoot
determinant_above j = by_contra 1 (nat_abs (determinant j)) (λ none. omega (arith, stable (suc j) 1 free 0 (flat none) 0 (omega arith)))
  where
    flat : nat_abs (determinant j) < 1 → (k : ℕ) → k < suc j → 1 * nat_abs (tridiagonal (suc j) free (pos k)) ≤ 0
    flat none k l =
        below_more (λ k. 1 * nat_abs (tridiagonal (suc j) free (pos k)) ≤ 0) j
        (λ k l. rw (free_solves (suc j) k (omega arith)) (omega arith))
        (omega arith) k (omega arith)

-- ---- the solution of a row of n
-- m² driven - m r free
numerators : ℕ → (ℕ → ℤ) → ℕ → ℤ
numerators zero s k = s k
numerators (suc j) s k = determinant j *ℤ determinant j *ℤ driven s k -ℤ determinant j *ℤ excess j s *ℤ free k

-- m², which the denominator of the data is multiplied by
scale : ℕ → ℕ
scale zero = 1
scale (suc j) = nat_abs (determinant j) * nat_abs (determinant j)

scale_above : (n : ℕ) → 0 < scale n
unfolding scale
scale_above zero = lit< tt
scale_above (suc j) = mul-pos (determinant_above j) (determinant_above j)

square : (z : ℤ) → z *ℤ z ≡ pos (nat_abs z * nat_abs z)
square (pos n) = refl
square (negsuc n) = refl

-- every equation holds: before the last one the second term is 0, and in the last one it takes away what is too much
numerators_solve : (n : ℕ) (s : ℕ → ℤ) (k : ℕ) → k < n → tridiagonal n (numerators n s) (pos k) ≡ pos (scale n) *ℤ (pos 6 *ℤ s k)
unfolding numerators scale determinant excess
numerators_solve zero s k l = absurd (omega arith)
numerators_solve (suc j) s k l =
    tridiagonal_linear (suc j) (m *ℤ m) (m *ℤ excess j s) (driven s) free (pos k)
    ∙ below_more Solved j inner last k (omega arith)
    ∙ ap (λ z. z *ℤ (pos 6 *ℤ s k)) (square m)
  where
    m : ℤ
    m = determinant j

    Solved : ℕ → Type 0
    Solved k = m *ℤ m *ℤ tridiagonal (suc j) (driven s) (pos k) -ℤ m *ℤ excess j s *ℤ tridiagonal (suc j) free (pos k) ≡ m *ℤ m *ℤ (pos 6 *ℤ s k)

    kept : (m r t : ℤ) → m *ℤ m *ℤ t -ℤ m *ℤ r *ℤ pos 0 ≡ m *ℤ m *ℤ t
    kept m r t = ring (m ∷ r ∷ t ∷ []) (simp polys tt) tt

    inner : (k : ℕ) → k < j → Solved k
    inner k l = rw (driven_solves (suc j) s k (omega arith), free_solves (suc j) k (omega arith)) (kept m (excess j s) (pos 6 *ℤ s k))

    hit : (m a t : ℤ) → m *ℤ m *ℤ a -ℤ m *ℤ (a -ℤ t) *ℤ m ≡ m *ℤ m *ℤ t
    hit m a t = ring (m ∷ a ∷ t ∷ []) (simp polys tt) tt

    last : Solved j
    last = hit m (tridiagonal (suc j) (driven s) (pos j)) (pos 6 *ℤ s j)

-- an exact solution of a row of n
pub solution : ℕ → Fractions → Fractions
solution n s = record { num = numerators n s.num; den = scale n * s.den; above = mul-pos (scale_above n) s.above }

-- every row has an exact solution
pub solution_solves : (n : ℕ) (s : Fractions) → Solves n s (solution n s)
unfolding solution
solution_solves n s = record {
  equation = λ k l. times (pos s.den) (numerators_solve n s.num k l) ∙ regroup (pos s.den) (pos (scale n)) (pos 6 *ℤ s.num k);
}
  where
    regroup : (E D t : ℤ) → E *ℤ (D *ℤ t) ≡ D *ℤ E *ℤ t
    regroup E D t = ring (E ∷ D ∷ t ∷ []) (simp polys tt) tt

-- ---- the solution of a picture
-- all rows, over one denominator
across : ℕ → Grid → Grid
across w p = record { num = λ x y. (solution w (row y p)).num x; den = scale w * p.den; above = mul-pos (scale_above w) p.above }

-- all columns, over one denominator
down : ℕ → Grid → Grid
down h p = record { num = λ x y. (solution h (column x p)).num y; den = scale h * p.den; above = mul-pos (scale_above h) p.above }

-- an exact solution of a picture: of the rows, and then of the columns of the picture between
pub picture_solution : ℕ → ℕ → Grid → Grid
picture_solution w h p = down h (across w p)

-- every picture has an exact solution
pub picture_solves : (w h : ℕ) (p : Grid) → SolvesPicture w h p (picture_solution w h p)
unfolding picture_solution across down solution
picture_solves w h p = record {
  between = across w p;
  rows = λ y u. solution_solves w (row y p);
  columns = λ x l. solution_solves h (column x (across w p));
}
