-- The accuracy of the direct filter: each coefficient of a row is within 3/2 of 4096 times every exact solution, and each of a picture within 7.
-- One theorem serves both passes, over the bound T of the line's numbers, the residual ρ and the error τ with which the line was loaded.
-- Inside the window 6b is within (6(ρ + τ) + 1) / 2 of 65536 times the solution, and rounding adds at most 8. Divided by 16, that is 47/32 for a row,
-- which is loaded without an error, and 215/32 for a column, whose numbers are 16 times coefficients within 3/2, so that τ = 24.
-- Of the margin it uses the last condition of `Suits`, and of the rounding `round_near`. Assumes nothing.
use mathlib.Core.List.{List, [], ◌∷◌}
use mathlib.Core.Path.{◌≡◌, ap}
use Prim.Native.Nat.{ℕ, ◌+◌, ◌*◌, ◌/◌, ◌^◌, ◌≤◌, ◌<◌}
use native.Mathlib.Nat.{mul-le-mul_left}
use native.Mathlib.Omega.{arith}
use lib.Dec.{lit≤, lit<}
use lib.IntN.{ℤ, pos, nat_abs, ◌+ℤ◌, ◌-ℤ◌, ◌*ℤ◌}
use lib.ListN.{length}
use Rattle.integers.proofs.Absolute.{abs_add, abs_mul}
use Rattle.integers.proofs.Linear.{reify, show}
use Rattle.integers.proofs.Ring.{polys, ring}
use Rattle.bspline.specs.Bounds.{AllWithin, RowWithin, PictureWithin}
use Rattle.bspline.specs.Exact.{Fractions, Solves, Grid, SolvesPicture, row, column, whole_grid, Near, RowAccurate, PictureAccurate}
use Rattle.bspline.specs.Mirror.{mirror}
use Rattle.bspline.specs.Recursions.{margin, window, filtered, coefficient, coefficients}
use Rattle.bspline.specs.PictureLayout.{Shape, pixel}
use Rattle.bspline.specs.Lists.{at}
use Rattle.bspline.specs.Transforms.{row_coefficients, first_pass, second_pass, picture_coefficients}
use Rattle.bspline.proofs.Lines.{window_at, window_count, coefficients_at}
use Rattle.bspline.proofs.Margin.{decay, Line, line_near}
use Rattle.bspline.proofs.Mirror.{mirror_below}
use Rattle.bspline.proofs.Ranges.{window_within, filtered_within, loaded_range, first_pass_within}
use Rattle.bspline.proofs.Residual.{Residual, filtered_residual}
use Rattle.bspline.proofs.Steps.{coefficient_near}
use Rattle.bspline.proofs.PictureLayout.{raster_at}

-- ---- one line
-- T, ρ and τ suit one another and the margin M: T is large enough for the ranges, ρ for the residual, and decay M for the gap at the window's ends
pub record Suits (M T ρ τ : ℕ) : Type 0 where
  pub large : 100 ≤ T
  pub residual : Residual (9 * T / 16) ρ
  pub ends : 24 * (9 * T / 16) + 12 * (T + τ) ≤ decay M

-- 16 times a coefficient's distance is what its rounding adds, and the distance of 6b
rounding_identity : (D C b c : ℤ) → pos 16 *ℤ (D *ℤ C -ℤ pos 4096 *ℤ c) ≡ D *ℤ (pos 16 *ℤ C -ℤ pos 6 *ℤ b) +ℤ (D *ℤ (pos 6 *ℤ b) -ℤ pos 65536 *ℤ c)
rounding_identity D C b c = ring (D ∷ C ∷ b ∷ c ∷ []) (simp polys tt) tt

-- where 6b is near 65536 times a solution, the coefficient of b is near 4096 times it
rounded : (D q : ℕ) (c b : ℤ) → Near (q + 1) 2 65536 D c (pos 6 *ℤ b) → Near (q + 17) 32 4096 D c (coefficient b)
rounded D q c b h =
    let C = coefficient b in
    let r = pos 16 *ℤ C -ℤ pos 6 *ℤ b in
    let g = pos D *ℤ (pos 6 *ℤ b) -ℤ pos 65536 *ℤ c in
    record {
      near = omega (
        arith,
        abs_mul (pos 16) (pos D *ℤ C -ℤ pos 4096 *ℤ c),
        ap nat_abs (rounding_identity (pos D) C b c),
        abs_add (pos D *ℤ r) g,
        abs_mul (pos D) r,
        mul-le-mul_left D (coefficient_near b),
        h.near,
      );
    }

-- where t is within τ of 65536 times the data, each coefficient is within (6(ρ + τ) + 17) / 32 of 4096 times every exact solution
pub line_accurate : (T ρ τ : ℕ) → Suits margin T ρ τ → (n : ℕ) (t : ℕ → ℤ) (s c : Fractions) → 0 < n → ((k : ℕ) → k < n → nat_abs (t k) ≤ T) →
    ((k : ℕ) → k < n → Near τ 1 65536 s.den (s.num k) (t k)) → Solves n s c →
    (k : ℕ) → k < n → Near (6 * (ρ + τ) + 17) 32 4096 c.den (c.num k) (at (coefficients n t) k)
line_accurate T ρ τ suits n t s c some range loaded solves k h =
    rw (coefficients_at n t k h) (rounded c.den (6 * (ρ + τ)) (c.num k) (at (filtered n t) (k + margin))
    (line_near margin n s c (at (window n t)) (at (filtered n t)) T (9 * T / 16) ρ τ solves line suits.ends k h))
  where
    t_within : AllWithin T (window n t)
    t_within = window_within T suits.large n t some range

    b_within : AllWithin (9 * T / 16) (filtered n t)
    b_within = filtered_within T suits.large n t some range

    reads : ℕ → ℕ
    reads i = mirror n (pos i -ℤ pos margin)

    line : Line margin n s (at (window n t)) (at (filtered n t)) T (9 * T / 16) ρ τ
    line = record {
      loaded = λ i l. rw (window_at n t i l) (loaded (reads i) (mirror_below n (pos i -ℤ pos margin) some));
      residual = λ i l. filtered_residual (9 * T / 16) ρ (window n t) suits.residual b_within i (omega (arith, window_count n t));
      t_range = λ i l. t_within.within i;
      b_range = λ i l. b_within.within i;
    }

-- ---- rows
-- |t| is at most 2^31, loaded without an error, and the residual at most 5
row_suits : Suits margin (2 ^ 31) 5 0
unfolding decay
row_suits = record { large = lit≤ tt; residual = record { room = lit≤ tt }; ends = lit≤ tt }

-- n samples, wherever they stand: within 47/32
samples_accurate : (n : ℕ) (s : ℕ → ℤ) (c : Fractions) → 0 < n → RowWithin (2 ^ 15) n s →
    Solves n (record { num = s; den = 1; above = lit< tt }) c →
    (k : ℕ) → k < n → Near 47 32 4096 c.den (c.num k) (at (coefficients n (λ k. pos 65536 *ℤ s k)) k)
samples_accurate n s c some range solves =
    line_accurate (2 ^ 31) 5 0 row_suits n (λ k. pos 65536 *ℤ s k) _ c some
    (λ k h. loaded_range 65536 (2 ^ 15) (s k) (range.within k h)) (λ k h. exact (s k)) solves
  where
    none : (x : ℤ) → nat_abs (pos 1 *ℤ (pos 65536 *ℤ x) -ℤ pos 65536 *ℤ x) ≤ 0
    none x = show (simp reify tt) (omega arith)

    exact : (x : ℤ) → Near 0 1 65536 1 x (pos 65536 *ℤ x)
    exact x = record { near = omega (arith, none x) }

-- demand 3 for a row of samples
pub row_accurate : (s : List ℤ) → 0 < length s → RowWithin (2 ^ 15) (length s) (at s) → RowAccurate s (row_coefficients s)
unfolding row_coefficients
row_accurate s some range = record {
  accurate = λ c solves k h. record { near = omega (arith, (samples_accurate (length s) (at s) c some range solves k h).near) };
}

-- ---- pictures
-- a column's |t| is at most 16 × 27 × 2^24, loaded with an error of at most 16 × 3/2, and the residual at most 9
column_suits : Suits margin (27 * 2 ^ 28) 9 24
unfolding decay
column_suits = record { large = lit≤ tt; residual = record { room = lit≤ tt }; ends = lit≤ tt }

-- the same factor, 16, on both sides of a distance
loading_identity : (D x c : ℤ) → D *ℤ (pos 16 *ℤ x) -ℤ pos 65536 *ℤ c ≡ pos 16 *ℤ (D *ℤ x -ℤ pos 4096 *ℤ c)
loading_identity D x c = ring (D ∷ x ∷ c ∷ []) (simp polys tt) tt

-- 16 times a coefficient that is within 47/32 of 4096 times a solution is within 24 of 65536 times it
loaded_near : (D : ℕ) (c x : ℤ) → Near 47 32 4096 D c x → Near 24 1 65536 D c (pos 16 *ℤ x)
loaded_near D c x h = record {
  near = omega (arith, ap nat_abs (loading_identity (pos D) x c), abs_mul (pos 16) (pos D *ℤ x -ℤ pos 4096 *ℤ c), h.near);
}

module _ (d : Shape) (p : List ℤ) (wide : 0 < d.width) (high : 0 < d.height) (range : PictureWithin (2 ^ 15) d (pixel d p))
    (c : Grid) (solves : SolvesPicture d.width d.height (whole_grid d p) c) where
  -- the first pass: within 47/32 of 4096 times the picture between
  first_pass_accurate : (x y : ℕ) → x < d.width → y < d.height → Near 47 32 4096 solves.between.den (solves.between.num x y) (first_pass d p x y)
  unfolding first_pass
  first_pass_accurate x y h g =
      samples_accurate d.width (λ k. pixel d p k y) (row y solves.between) wide
      (record { within = λ k l. range.within k y l g }) (solves.rows y g) x h

  -- the second: within 215/32 of 4096 times the exact solution
  second_pass_accurate : (x y : ℕ) → x < d.width → y < d.height → Near 215 32 4096 c.den (c.num x y) (second_pass d p x y)
  unfolding second_pass
  second_pass_accurate x y h g =
      line_accurate (27 * 2 ^ 28) 9 24 column_suits d.height (λ k. pos 16 *ℤ first_pass d p x k) (column x solves.between) (column x c) high
      (λ k l. loaded_range 16 (27 * 2 ^ 24) (first_pass d p x k) (first_pass_within d p wide range x k l))
      (λ k l. loaded_near solves.between.den (solves.between.num x k) (first_pass d p x k) (first_pass_accurate x k h l))
      (solves.columns x h) y g

-- demand 3 for a picture of pixels
pub picture_accurate : (d : Shape) (p : List ℤ) → 0 < d.width → 0 < d.height → PictureWithin (2 ^ 15) d (pixel d p) →
    PictureAccurate d p (picture_coefficients d p)
unfolding picture_coefficients
picture_accurate d p wide high range = record {
  accurate = λ c solves x y h g.
      rw (raster_at d (second_pass d p) x y h g) (record { near = omega (arith, (second_pass_accurate d p wide high range c solves x y h g).near) });
}
