-- How far one sample moves the exact spline: at a position that is at least g places away, by at most 4/3 × |d| / 2^g. The difference of two splines is
-- the spline of a row that is 0 but at place i. At a sample it is the sample. Between two samples it is made of these and of the two coefficients there,
-- and the ones at the nearer place are at most twice as large as those at the farther. Assumes nothing.
use mathlib.Core.List.{List}
use mathlib.Core.Path.{◌≡◌, ap, subst}
use Prim.Native.Nat.{ℕ, zero, suc, ◌+◌, ◌-◌, ◌*◌, ◌^◌, ◌≤◌, ◌<◌}
use native.Mathlib.Decide.{dec_le, ℕ_discrete}
use native.Mathlib.Nat.{mul-le-mul_left, mul-le-mul_right, le_of_mul-le-mul_right, lt_of_mul-lt-mul_right, two-pow-succ}
use native.Mathlib.Omega.{arith}
use lib.IntN.{ℤ, pos, nat_abs}
use lib.ListN.{length}
use lib.Pow.{pow_mono}
use Rattle.integers.proofs.Absolute.{abs_mul}
use Rattle.bspline.specs.Exact.{Fractions, tridiagonal, Solves, whole}
use Rattle.bspline.specs.Values.{Position, row_sum}
use Rattle.bspline.proofs.Stability.{equation_sizes}
use Rattle.bspline.proofs.Differences.{difference}
use Rattle.bspline.proofs.Weights.{cubed, sum_linear, sum_at_sample}
use Rattle.reach.specs.Reach.{DifferAt, apart, Away, SplinesNear}
use Rattle.reach.proofs.BetweenSamples.{between_size, most}
use Rattle.reach.proofs.Places.{apart_is, places_after, places_before, places_at}
use Rattle.reach.proofs.Solutions.{Only, no_sum, solution_falls, gap, gap_only, gap_there, gap_solved}

-- ---- the spline of a row of fractions that is 0 but at place i
module _ (n i : ℕ) (s c : Fractions) (only : Only n i s) (solves : Solves n s c) where
  -- |s[i]| times the denominator of c
  abbrev X : ℕ
  X = nat_abs (s.num i) * c.den

  -- the sums and the numbers of the solution, g places from i or more
  sum_scaled : (k g : ℕ) → k < n → g ≤ apart k i → 2 ^ g * (s.den * nat_abs (tridiagonal n c.num (pos k))) ≤ 6 * X
  sum_scaled k g l h = go (ℕ_discrete k i)
    where
      go : Dec (k ≡ i) → 2 ^ g * (s.den * nat_abs (tridiagonal n c.num (pos k))) ≤ 6 * X
      go (no other) = omega (arith, ap (λ z. 2 ^ g * z) (no_sum n i s c only solves k l other))
      go (yes own) =
          let none : g ≡ 0 = omega (arith, apart_is k i) in
          rw (none, ← own) (omega (arith, equation_sizes n s c solves k l))

  number_scaled : (k g : ℕ) → k < n → g ≤ apart k i → 2 ^ g * (s.den * nat_abs (c.num k)) ≤ 2 * X
  number_scaled k g l h = omega (arith, solution_falls n i s c only solves k l, mul-le-mul_right (s.den * nat_abs (c.num k)) (pow_mono h))

  -- at a sample it is the sample
  at_sample : (m k g : ℕ) → 0 < m → k < n → g * m ≤ apart (k * m + 0) (i * m) →
      s.den * (3 * (2 ^ g * nat_abs (row_sum m n c.num (record { k = k; j = 0 })))) ≤ 24 * X * (m * m * m)
  at_sample m k g some l a = rw (sum_at_sample m n c.num k) (omega (
    arith,
    ap (λ z. s.den * (3 * (2 ^ g * z))) (abs_mul (pos (m ^ 3)) (tridiagonal n c.num (pos k))),
    ap (λ z. s.den * (3 * (2 ^ g * (z * nat_abs (tridiagonal n c.num (pos k)))))) (cubed m),
    mul-le-mul_left (m * m * m) (sum_scaled k g l (places_at m k i g some a)),
  ))

  -- between two samples, of which that at a is g places from i or more and that at z one more
  nearer : (g a z : ℕ) → a < n → z < n → g ≤ apart a i → g < apart z i → (j b N : ℕ) →
      let u = 2 ^ g * s.den in
      N ≤ b * b * b * (u * nat_abs (tridiagonal n c.num (pos a))) + j * j * j * (u * nat_abs (tridiagonal n c.num (pos z)))
      + 6 * (j * b) * ((2 * b + j) * (u * nat_abs (c.num a)) + (b + 2 * j) * (u * nat_abs (c.num z))) →
      3 * N ≤ 24 * X * ((j + b) * (j + b) * (j + b))
  nearer g a z la lz ha hz j b N h =
      most j b X (u * nat_abs (tridiagonal n c.num (pos a))) (u * nat_abs (c.num a)) (u * nat_abs (c.num z)) N
      (omega (arith, ap (λ v. j * j * j * (2 ^ g * v)) (no_sum n i s c only solves z lz other)))
      (omega (arith, sum_scaled a g la ha))
      (omega (arith, number_scaled a g la ha))
      (omega (arith, number_scaled z (suc g) lz hz, ap (λ v. v * (s.den * nat_abs (c.num z))) (two-pow-succ g)))
    where
      u : ℕ
      u = 2 ^ g * s.den

      other : z ≡ i → ⊥
      other e = omega (arith, apart_is z i)

  -- the nearer one is that at k where i is k or before it, and else that at k + 1
  between_samples : (j b k g : ℕ) → 0 < j → 0 < b → suc k < n → g * (j + b) ≤ apart (k * (j + b) + j) (i * (j + b)) → Dec (i ≤ k) →
      s.den * (3 * (2 ^ g * nat_abs (row_sum (j + b) n c.num (record { k = k; j = j })))) ≤ 24 * X * ((j + b) * (j + b) * (j + b))
  between_samples j b k g some more l a (yes h) =
      let near : g ≤ k - i = places_after (j + b) k j i g (omega arith) h a in
      omega (
        arith,
        nearer g k (suc k) (omega arith) l (omega (arith, apart_is k i)) (omega (arith, apart_is (suc k) i)) j b _ (between_size (2 ^ g * s.den) j b n c.num k l),
      )
  between_samples j b k g some more l a (no h) =
      let near : g ≤ i - suc k = places_before (j + b) k j i g some (omega arith) (omega arith) a in
      omega (
        arith,
        nearer g (suc k) k l (omega arith) (omega (arith, apart_is (suc k) i)) (omega (arith, apart_is k i)) b j
            (2 ^ g * s.den * nat_abs (row_sum (j + b) n c.num (record { k = k; j = j })))
            (omega (arith, between_size (2 ^ g * s.den) j b n c.num k l)),
      )

  -- so at every position on the row
  at_position : (m k j g : ℕ) → 0 < n → j < m → k * m + j ≤ (n - 1) * m → g * m ≤ apart (k * m + j) (i * m) →
      s.den * (3 * (2 ^ g * nat_abs (row_sum m n c.num (record { k = k; j = j })))) ≤ 24 * X * (m * m * m)
  at_position m k zero g some h on a =
      let l : k ≤ n - 1 = le_of_mul-le-mul_right {k = m} (omega arith) h in
      at_sample m k g h (omega arith) a
  at_position m k (suc j) g some h on a =
      let l : k < n - 1 = lt_of_mul-lt-mul_right m (omega arith) in
      let e : suc j + (m - suc j) ≡ m = omega arith in
      subst (λ (m : ℕ). g * m ≤ apart (k * m + suc j) (i * m) →
      s.den * (3 * (2 ^ g * nat_abs (row_sum m n c.num (record { k = k; j = suc j })))) ≤ 24 * X * (m * m * m)) e
      (λ a. between_samples (suc j) (m - suc j) k g (omega arith) (omega arith) (omega arith) a (dec_le i k)) a

  -- it is at most 4/3 × |s[i]| / 2^g
  pub spline_falls : (m : ℕ) (p : Position) (g : ℕ) → 0 < n → p.j < m → p.k * m + p.j ≤ (n - 1) * m → Away m p i g →
      s.den * (3 * (2 ^ g * nat_abs (row_sum m n c.num p))) ≤ 4 * nat_abs (s.num i) * (6 * m ^ 3 * c.den)
  spline_falls m p g some h on a = omega (arith, at_position m p.k p.j g some h on a, ap (λ z. 24 * X * z) (cubed m))

-- ---- two rows of samples: their splines differ by at most 4/3 × |d| / 2^g
pub splines_near : (i : ℕ) (d : ℤ) (s t : List ℤ) → DifferAt i d s t →
    (c e : Fractions) → Solves (length s) (whole s) c → Solves (length t) (whole t) e →
    (m : ℕ) (p : Position) → 0 < length s → p.j < m → p.k * m + p.j ≤ (length s - 1) * m →
    (g : ℕ) → Away m p i g → SplinesNear g d m (length s) c e p
splines_near i d s t differ c e f f' m p some h on g a = omega (
  arith,
  spline_falls (length s) i (gap i d s t differ) (difference c e) (gap_only i d s t differ) (gap_solved i d s t differ c e f f') m p g some h on a,
  ap (λ z. 3 * (2 ^ g * nat_abs z)) (sum_linear m (length s) (pos e.den) (pos c.den) c.num e.num p),
  ap (λ z. 4 * z * (6 * m ^ 3 * (c.den * e.den))) (gap_there i d s t differ),
)
