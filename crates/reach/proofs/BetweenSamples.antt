-- The spline between two samples. Its weighted sum is made of the 1-4-1 sums at both, which are the samples, each with a cube of the distance to the other,
-- and of the two coefficients there (`between`): the four weights, put together in another way. So the sum is at most as large as these allow, and where
-- both fall off by half from one place to the next, 4/3 is enough for all positions (`most`): what is left is a square. Assumes nothing.
use mathlib.Core.List.{[], ◌∷◌}
use mathlib.Core.Path.{◌≡◌, refl, sym, ap, ◌∙◌}
use Prim.Native.Nat.{ℕ, suc, ◌+◌, ◌*◌, ◌≤◌, ◌<◌}
use native.Mathlib.Nat.{mul-le-mul_left}
use native.Mathlib.Omega.{arith}
use lib.IntN.{ℤ, pos, nat_abs, ◌+ℤ◌, ◌-ℤ◌, ◌*ℤ◌}
use lib.Signed.{◌≤ℤ◌}
use Rattle.integers.proofs.Absolute.{abs_add, abs_mul}
use Rattle.integers.proofs.Laws.{by_cert, 0≤_nat, nonneg}
use Rattle.integers.proofs.Linear.{reify, show}
use Rattle.integers.proofs.Parts.{of_le}
use Rattle.integers.proofs.Ring.{polys, ring}
use Rattle.bspline.specs.Exact.{tridiagonal}
use Rattle.bspline.specs.Mirror.{mirror}
use Rattle.bspline.specs.Values.{dot, support, row_sum}
use Rattle.bspline.proofs.Mirror.{mirror_is, mirror_own}
use Rattle.bspline.proofs.Stability.{tridiagonal_at}
use Rattle.bspline.proofs.Weights.{weights_of, weights_products, support_is}

-- the weighted sum at k + j/m, where m = j + b, of the 1-4-1 sums at k and k + 1 and of the numbers there
pub between : (j b n : ℕ) (c : ℕ → ℤ) (k : ℕ) → suc k < n →
    row_sum (j + b) n c (record { k = k; j = j })
    ≡ pos (b * b * b) *ℤ tridiagonal n c (pos k) +ℤ pos (j * j * j) *ℤ tridiagonal n c (pos (suc k))
    +ℤ pos (6 * (j * b)) *ℤ (pos (2 * b + j) *ℤ c k +ℤ pos (b + 2 * j) *ℤ c (suc k))
unfolding row_sum
between j b n c k l =
    ap (λ w. dot w (support n c k)) (weights_products (j + b) j)
    ∙ ap (dot (weights_of (pos (j + b)) (pos j))) (sym four)
    ∙ collected (pos j) (pos b) (c before) (c k) (c (suc k)) (c after)
    ∙ rw (sum, next_sum) refl
  where
    -- the places read by the indices k - 1 and k + 2
    before : ℕ
    before = mirror n (pos k -ℤ pos 1)

    after : ℕ
    after = mirror n (pos (suc k) +ℤ pos 1)

    -- the index before h reads the place i before it
    place : (h i : ℕ) → h ≡ suc i → i < n → mirror n (pos h -ℤ pos 1) ≡ i
    place h i e l = mirror_is n (pos h -ℤ pos 1) i l (show (simp reify tt) (omega arith))

    last : pos (suc k) +ℤ pos 1 ≡ pos (k + 3) -ℤ pos 1
    last = show (simp reify tt) (omega arith)

    four : c before ∷ c k ∷ c (suc k) ∷ c after ∷ [] ≡ support n c k
    four =
        support_is n k c refl (ap c (sym (place (k + 1) k (omega arith) (omega arith)))) (ap c (sym (place (k + 2) (suc k) (omega arith) l)))
        (ap (λ z. c (mirror n z)) last)

    sum : tridiagonal n c (pos k) ≡ c before +ℤ pos 4 *ℤ c k +ℤ c (suc k)
    sum =
        tridiagonal_at n c (pos k) before k (suc k) refl (mirror_own n k (omega arith))
        (mirror_is n (pos k +ℤ pos 1) (suc k) l (show (simp reify tt) (omega arith)))

    next_sum : tridiagonal n c (pos (suc k)) ≡ c k +ℤ pos 4 *ℤ c (suc k) +ℤ c after
    next_sum = tridiagonal_at n c (pos (suc k)) k (suc k) after (place (suc k) k refl (omega arith)) (mirror_own n (suc k) l) refl

    collected : (j b x y z t : ℤ) → dot (weights_of (j +ℤ b) j) (x ∷ y ∷ z ∷ t ∷ [])
        ≡ b *ℤ b *ℤ b *ℤ (x +ℤ pos 4 *ℤ y +ℤ z) +ℤ j *ℤ j *ℤ j *ℤ (y +ℤ pos 4 *ℤ z +ℤ t)
        +ℤ pos 6 *ℤ (j *ℤ b) *ℤ ((pos 2 *ℤ b +ℤ j) *ℤ y +ℤ (b +ℤ pos 2 *ℤ j) *ℤ z)
    collected j b x y z t = ring (j ∷ b ∷ x ∷ y ∷ z ∷ t ∷ []) (simp polys tt) tt

-- its size, times u
pub between_size : (u j b n : ℕ) (c : ℕ → ℤ) (k : ℕ) → suc k < n →
    u * nat_abs (row_sum (j + b) n c (record { k = k; j = j }))
    ≤ b * b * b * (u * nat_abs (tridiagonal n c (pos k))) + j * j * j * (u * nat_abs (tridiagonal n c (pos (suc k))))
    + 6 * (j * b) * ((2 * b + j) * (u * nat_abs (c k)) + (b + 2 * j) * (u * nat_abs (c (suc k))))
between_size u j b n c k l =
    let first = pos (b * b * b) *ℤ tridiagonal n c (pos k) in
    let second = pos (j * j * j) *ℤ tridiagonal n c (pos (suc k)) in
    let here = pos (2 * b + j) *ℤ c k in
    let next = pos (b + 2 * j) *ℤ c (suc k) in
    let sizes : nat_abs (first +ℤ second +ℤ pos (6 * (j * b)) *ℤ (here +ℤ next))
    ≤ b * b * b * nat_abs (tridiagonal n c (pos k)) + j * j * j * nat_abs (tridiagonal n c (pos (suc k)))
    + 6 * (j * b) * ((2 * b + j) * nat_abs (c k) + (b + 2 * j) * nat_abs (c (suc k))) = omega (
      arith,
      abs_add (first +ℤ second) (pos (6 * (j * b)) *ℤ (here +ℤ next)),
      abs_add first second,
      abs_mul (pos (b * b * b)) (tridiagonal n c (pos k)),
      abs_mul (pos (j * j * j)) (tridiagonal n c (pos (suc k))),
      abs_mul (pos (6 * (j * b))) (here +ℤ next),
      mul-le-mul_left (6 * (j * b)) (abs_add here next),
      ap (λ z. 6 * (j * b) * z) (abs_mul (pos (2 * b + j)) (c k)),
      ap (λ z. 6 * (j * b) * z) (abs_mul (pos (b + 2 * j)) (c (suc k))),
    ) in
    rw (between j b n c k l) (omega (arith, mul-le-mul_left u sizes))

-- ---- the number 4/3
-- 3jb² is at most 4j³ + b³: the rest is (j + b)(2j - b)²
rest : (j b : ℕ) → 3 * (j * (b * b)) ≤ 4 * (j * (j * j)) + b * (b * b)
rest j b = omega (arith, of_le (square (pos j) (pos b) (0≤_nat (j + b))))
  where
    square : (x y : ℤ) → pos 0 ≤ℤ (x +ℤ y) → (pos 3 *ℤ (x *ℤ (y *ℤ y))) ≤ℤ (pos 4 *ℤ (x *ℤ (x *ℤ x)) +ℤ y *ℤ (y *ℤ y))
    square x y h = by_cert ((x +ℤ y) *ℤ ((pos 2 *ℤ x -ℤ y) *ℤ (pos 2 *ℤ x -ℤ y))) (ring (x ∷ y ∷ []) (simp polys tt) tt) (search nonneg)

-- where the sum at the nearer end of the two, the number there and the number at the farther one are at most 6X, 2X and X
pub most : (j b X T x y N : ℕ) → N ≤ b * b * b * T + 6 * (j * b) * ((2 * b + j) * x + (b + 2 * j) * y) →
    T ≤ 6 * X → x ≤ 2 * X → y ≤ X → 3 * N ≤ 24 * X * ((j + b) * (j + b) * (j + b))
most j b X T x y N h t u v = omega (
  arith,
  mul-le-mul_left (b * b * b) t,
  mul-le-mul_left (6 * (j * b) * (2 * b + j)) u,
  mul-le-mul_left (6 * (j * b) * (b + 2 * j)) v,
  mul-le-mul_left X (rest j b),
)
