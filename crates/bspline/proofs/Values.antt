-- The accuracy of the values of "Values between samples", and the return of the samples, from demand 3 alone: whatever coefficients are within 3/2 of
-- 4096 times the exact solution give values within 19/32 of 256 times the exact spline, and in a picture 7 gives 15/16.
-- One argument serves both, over the sum W of the weights, 6m³ or 36m⁶, and the distance a / b of the coefficients: the weighted sums are at most
-- W × a / b apart, the value is the sum over 16W, and rounding adds at most 1/2, in all 1/2 + a / 16b. At a sample the exact spline is the sample,
-- a whole number, and both distances are below 1, so that the value is 256 times the sample. Of the rounding it uses `round_near`. Assumes nothing.
use mathlib.Core.List.{List, [], ◌∷◌}
use mathlib.Core.Path.{◌≡◌, ap, ◌∙◌}
use Prim.Native.Nat.{ℕ, ◌+◌, ◌*◌, ◌^◌, ◌≤◌, ◌<◌}
use native.Mathlib.Nat.{one-le-pow, mul-pos, mul-le-mul_left, le_of_mul-le-mul_left}
use native.Mathlib.Omega.{arith, by_contra}
use lib.IntN.{ℤ, pos, nat_abs, ◌+ℤ◌, ◌-ℤ◌, ◌*ℤ◌}
use lib.ListN.{length}
use Rattle.integers.specs.Rounding.{round}
use Rattle.integers.proofs.Absolute.{abs_add, abs_mul, abs_zero}
use Rattle.integers.proofs.Laws.{*ℤ_cancel, times, diff_zero}
use Rattle.integers.proofs.Linear.{reify, show}
use Rattle.integers.proofs.Ring.{polys, ring, read_poly, show_poly}
use Rattle.integers.proofs.Rounding.{round_near}
use Rattle.bspline.specs.Exact.{Fractions, tridiagonal, Solves, Grid, row, column, SolvesPicture, whole, whole_grid, Near, RowAccurate, PictureAccurate}
use Rattle.bspline.specs.PictureLayout.{Shape, packed, pixel}
use Rattle.bspline.specs.Lists.{at}
use Rattle.bspline.specs.Values.{Position, row_sum, block, picture_sum, value_in_row, value_in_picture, RowValueAccurate, PictureValueAccurate}
use Rattle.bspline.proofs.Existence.{solution, solution_solves, picture_solution, picture_solves}
use Rattle.bspline.proofs.Weights.{sixth, picture_sum_rows, sum_near, picture_sum_near, sum_same, sum_at_sample, sums_exchanged}

-- ---- one value
-- a distance with its divisor b in the factors, as the laws of sums take it
spread : (a b X D : ℕ) (x v : ℤ) → Near a b X D x v → nat_abs (pos (b * D) *ℤ v -ℤ pos (b * X) *ℤ x) ≤ a * D
spread a b X D x v h = omega (arith, ap nat_abs (factor (pos b) (pos D) (pos X)), abs_mul (pos b) (pos D *ℤ v -ℤ pos X *ℤ x), h.near)
  where
    -- b taken out
    factor : (b D X : ℤ) → b *ℤ D *ℤ v -ℤ b *ℤ X *ℤ x ≡ b *ℤ (D *ℤ v -ℤ X *ℤ x)
    factor b D X = ring (b ∷ D ∷ X ∷ v ∷ x ∷ []) (simp polys tt) tt

-- a sum N within W × a / b of 4096 times an exact one, x / D, and divided by 16W: within 1/2 + a / 16b of 256 times x / WD
rounded : (W a b D : ℕ) → 0 < W → (x N : ℤ) → nat_abs (pos (b * D) *ℤ N -ℤ pos (b * 4096) *ℤ x) ≤ W * (a * D) →
    Near (8 * b + a) (16 * b) 256 (W * D) x (round N (16 * W))
rounded W a b D some x N h = record {
  near = omega (
    arith,
    abs_mul (pos (16 * b)) (pos (W * D) *ℤ v -ℤ pos 256 *ℤ x),
    ap nat_abs (split (pos W) (pos b) (pos D)),
    abs_add (pos (b * D) *ℤ r) (pos (b * D) *ℤ N -ℤ pos (b * 4096) *ℤ x),
    abs_mul (pos (b * D)) r,
    mul-le-mul_left (b * D) (round_near N (16 * W) (omega arith)),
    h,
  );
}
  where
    -- the value
    v : ℤ
    v = round N (16 * W)

    -- what its rounding adds, times 16W
    r : ℤ
    r = pos (16 * W) *ℤ v -ℤ N

    -- 16b times the distance is what the rounding adds and the distance of the sums
    split : (W b D : ℤ) →
        pos 16 *ℤ b *ℤ (W *ℤ D *ℤ v -ℤ pos 256 *ℤ x) ≡ b *ℤ D *ℤ (pos 16 *ℤ W *ℤ v -ℤ N) +ℤ (b *ℤ D *ℤ N -ℤ b *ℤ pos 4096 *ℤ x)
    split W b D = ring (W ∷ b ∷ D ∷ v ∷ x ∷ N ∷ []) (simp polys tt) tt

-- where x / D is a whole number t, a number less than 1 from X times it is X × t
whole_near : (a b X D : ℕ) → a < b → 0 < D → (x t v : ℤ) → pos 1 *ℤ x ≡ pos D *ℤ t → Near a b X D x v → v ≡ pos X *ℤ t
whole_near a b X D l some x t v e h = diff_zero (abs_zero (omega (arith, none)))
  where
    -- the difference, a whole number
    z : ℤ
    z = v -ℤ pos X *ℤ t

    -- D taken out
    factor : (D X : ℤ) → pos 1 *ℤ x ≡ D *ℤ t → D *ℤ v -ℤ X *ℤ x ≡ D *ℤ (v -ℤ X *ℤ t)
    factor D X e =
        let ρ = D ∷ X ∷ v ∷ t ∷ x ∷ [] in
        show_poly ρ (simp polys tt) (omega (arith, read_poly ρ (times X e) (simp polys tt)))

    -- its size, with both sides divided by D
    small : b * nat_abs z ≤ a
    small = le_of_mul-le-mul_left {k = D} (omega (arith, ap (λ u. b * u) (ap nat_abs (factor (pos D) (pos X) e) ∙ abs_mul (pos D) z), h.near)) some

    -- it is below 1
    none : nat_abs z ≤ 0
    none = by_contra (nat_abs z) 0 (λ u. omega (arith, small, mul-le-mul_left b u))

-- ---- the accuracy of values
-- a row's value is within 1/2 + (3/2) / 16 = 19/32 of 256 times the exact spline
pub row_value_accurate : (m : ℕ) → 0 < m → (s C : List ℤ) (p : Position) → p.j ≤ m → 0 < length s → length C ≡ length s → RowAccurate s C →
    RowValueAccurate m s p (value_in_row m C p)
unfolding value_in_row
row_value_accurate m h s C p l some same near = record {
  accurate = λ c solves.
      let n = length s in
      rw (same, sixteen) (rounded (6 * m ^ 3) 3 2 c.den (omega (arith, one-le-pow 3 m h)) (row_sum m n c.num p) (row_sum m n (at C) p)
      (sum_near m n p l some (at C) c.num (2 * c.den) 8192 (3 * c.den)
      (λ k u. spread 3 2 4096 c.den (c.num k) (at C k) (near.accurate c solves k u))));
}
  where
    -- the divisor is 16 times the sum of the weights
    sixteen : 96 * m ^ 3 ≡ 16 * (6 * m ^ 3)
    sixteen = omega arith

-- a picture's is within 1/2 + 7/16 = 15/16
pub picture_value_accurate : (m : ℕ) → 0 < m → (d : Shape) (pixels C : List ℤ) (px py : Position) → px.j ≤ m → py.j ≤ m →
    0 < d.width → 0 < d.height → PictureAccurate d pixels C →
    PictureValueAccurate m d pixels px py (value_in_picture m (packed d) C px py)
unfolding value_in_picture picture_sum block
picture_value_accurate m h d pixels C px py lx ly wide high near = record {
  accurate = λ c solves.
      let at-pixel = pixel (packed d) C in
      let N = picture_sum m d at-pixel px py in
      rw sixteen (rounded (36 * m ^ 6) 7 1 c.den (omega (arith, one-le-pow 6 m h)) (picture_sum m d c.num px py) N
      (picture_sum_near m d px py lx ly wide high at-pixel c.num (1 * c.den) 4096 (7 * c.den)
      (λ x y u v. spread 7 1 4096 c.den (c.num x y) (at-pixel x y) (near.accurate c solves x y u v))));
}
  where
    -- the divisor is 16 times the sum of the weights
    sixteen : 576 * m ^ 6 ≡ 16 * (36 * m ^ 6)
    sixteen = omega arith

-- ---- the exact spline at a sample
-- the position of a sample
abbrev sample : ℕ → Position
sample k = record { k = k; j = 0 }

-- the weighted sum of a solution at a sample is 6m³ times the sample, as the equation there says
solution_at_sample : (m n : ℕ) (s c : Fractions) → Solves n s c → (k : ℕ) → k < n →
    pos s.den *ℤ row_sum m n c.num (sample k) ≡ pos (6 * m ^ 3 * c.den) *ℤ s.num k
solution_at_sample m n s c solves k l =
    times (pos s.den) (sum_at_sample m n c.num k)
    ∙ scaled (pos (m ^ 3)) (pos s.den) (pos c.den) (tridiagonal n c.num (pos k)) (s.num k) (solves.equation k l)
  where
    -- the equation times m³
    scaled : (a E D t x : ℤ) → E *ℤ t ≡ D *ℤ (pos 6 *ℤ x) → E *ℤ (a *ℤ t) ≡ pos 6 *ℤ a *ℤ D *ℤ x
    scaled a E D t x e =
        let ρ = a ∷ E ∷ D ∷ t ∷ x ∷ [] in
        show_poly ρ (simp polys tt) (omega (arith, read_poly ρ (times a e) (simp polys tt)))

-- the weighted sum of a picture's solution at a pixel is 36m⁶ times the pixel: by the equations of the columns, and of a row of the picture between
solution_at_pixel : (m : ℕ) (d : Shape) (p c : Grid) → SolvesPicture d.width d.height p c → (x y : ℕ) → x < d.width → y < d.height →
    pos p.den *ℤ picture_sum m d c.num (sample x) (sample y) ≡ pos (36 * m ^ 6 * c.den) *ℤ p.num x y
solution_at_pixel m d p c solves x y l u =
    rw (picture_sum_rows m d c.num (sample x) (sample y), sums_exchanged m d.width d.height c.num (sample x) (sample y), sixth m)
    (*ℤ_cancel (pos b.den) (show (simp reify tt) (omega (arith, b.above)))
    (joined (pos (m ^ 3)) (pos b.den) (pos c.den) (pos p.den)
    (row_sum m d.width down (sample x)) (row_sum m d.width across (sample x)) (p.num x y)
    (sum_same m d.width (sample x) (omega arith) (omega arith) down across b.den (6 * m ^ 3 * c.den)
    (λ k v. solution_at_sample m d.height (column k b) (column k c) (solves.columns k v) y u))
    (solution_at_sample m d.width (row y p) (row y b) (solves.rows y u) x l)))
  where
    -- the picture between
    b : Grid
    b = solves.between

    -- the sums along the columns of the solution
    down : ℕ → ℤ
    down k = row_sum m d.height (λ l. c.num k l) (sample y)

    -- row y of the picture between
    across : ℕ → ℤ
    across k = b.num k y

    -- both equations, with the denominator of the picture between on both sides
    joined : (M B D E s t z : ℤ) → B *ℤ s ≡ pos 6 *ℤ M *ℤ D *ℤ t → E *ℤ t ≡ pos 6 *ℤ M *ℤ B *ℤ z →
        B *ℤ (E *ℤ s) ≡ B *ℤ (pos 36 *ℤ (M *ℤ M) *ℤ D *ℤ z)
    joined M B D E s t z e f =
        let ρ = M ∷ B ∷ D ∷ E ∷ s ∷ t ∷ z ∷ [] in
        show_poly ρ (simp polys tt) (omega (arith, read_poly ρ (times E e) (simp polys tt), read_poly ρ (times (pos 6 *ℤ M *ℤ D) f) (simp polys tt)))

-- ---- the return of samples
-- a row's value at a sample is 256 times the sample
pub sample_returns : (m : ℕ) → 0 < m → (s C : List ℤ) → length C ≡ length s → RowAccurate s C →
    (k : ℕ) → k < length s → value_in_row m C (record { k = k; j = 0 }) ≡ pos 256 *ℤ at s k
sample_returns m h s C same near k l =
    whole_near 19 32 256 (6 * m ^ 3 * c.den) (omega arith) (mul-pos (omega (arith, one-le-pow 3 m h)) c.above)
    (row_sum m (length s) c.num (sample k)) (at s k) (value_in_row m C (sample k))
    (solution_at_sample m (length s) (whole s) c solves k l)
    ((row_value_accurate m h s C (sample k) (omega arith) (omega arith) same near).accurate c solves)
  where
    c : Fractions
    c = solution (length s) (whole s)

    solves : Solves (length s) (whole s) c
    solves = solution_solves (length s) (whole s)

-- a picture's value at a pixel is 256 times the pixel
pub pixel_returns : (m : ℕ) → 0 < m → (d : Shape) (pixels C : List ℤ) → PictureAccurate d pixels C →
    (x y : ℕ) → x < d.width → y < d.height →
    value_in_picture m (packed d) C (record { k = x; j = 0 }) (record { k = y; j = 0 }) ≡ pos 256 *ℤ pixel d pixels x y
pixel_returns m h d pixels C near x y l u =
    whole_near 15 16 256 (36 * m ^ 6 * c.den) (omega arith) (mul-pos (omega (arith, one-le-pow 6 m h)) c.above)
    (picture_sum m d c.num (sample x) (sample y)) (pixel d pixels x y) (value_in_picture m (packed d) C (sample x) (sample y))
    (solution_at_pixel m d (whole_grid d pixels) c solves x y l u)
    ((picture_value_accurate m h d pixels C (sample x) (sample y) (omega arith) (omega arith) (omega arith) (omega arith) near).accurate c solves)
  where
    c : Grid
    c = picture_solution d.width d.height (whole_grid d pixels)

    solves : SolvesPicture d.width d.height (whole_grid d pixels) c
    solves = picture_solves d.width d.height (whole_grid d pixels)
