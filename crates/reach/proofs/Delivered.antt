-- What is delivered of two rows that differ at one sample: coefficients and values that are near the exact solutions and splines, which are near each other.
-- One argument serves both (`delivered_near`): the distances of the two delivered numbers, and that of the exact ones, add up. Assumes nothing.
use mathlib.Core.List.{List, [], ◌∷◌}
use mathlib.Core.Path.{◌≡◌, ap}
use Prim.Native.Nat.{ℕ, ◌+◌, ◌-◌, ◌*◌, ◌^◌, ◌≤◌, ◌<◌}
use native.Mathlib.Nat.{mul-pos, one-le-pow, mul-le-mul_left, le_of_mul-le-mul_left}
use native.Mathlib.Omega.{arith}
use lib.IntN.{ℤ, pos, nat_abs, ◌+ℤ◌, ◌-ℤ◌, ◌*ℤ◌}
use lib.ListN.{length}
use Rattle.integers.proofs.Absolute.{abs_add, abs_sub, abs_mul}
use Rattle.integers.proofs.Ring.{polys, ring}
use Rattle.bspline.specs.Exact.{Fractions, Solves, whole, Near, RowAccurate}
use Rattle.bspline.specs.Lists.{at}
use Rattle.bspline.specs.Values.{Position, row_sum, RowValueAccurate}
use Rattle.bspline.proofs.Existence.{solution, solution_solves}
use Rattle.reach.specs.Reach.{DifferAt, apart, Away, CoefficientsNear, ValuesNear}
use Rattle.reach.proofs.Solutions.{solutions_near}
use Rattle.reach.proofs.Splines.{splines_near}

-- two numbers v and w that are within a/b of M times x/D and of M times y/E, where these are at most r/q apart, over G
delivered_near : (a b M D E G q r : ℕ) (x y v w : ℤ) → 0 < D → 0 < E → Near a b M D x v → Near a b M E y w →
    q * (G * nat_abs (pos E *ℤ x -ℤ pos D *ℤ y)) ≤ r * (D * E) → q * b * (G * nat_abs (v -ℤ w)) ≤ b * M * r + 2 * a * q * G
delivered_near a b M D E G q r x y v w some more near near' h =
    combined (D * E) (nat_abs (v -ℤ w)) (nat_abs (pos E *ℤ x -ℤ pos D *ℤ y)) (mul-pos some more)
    (omega (arith, mul-le-mul_left b sizes, mul-le-mul_left E near.near, mul-le-mul_left D near'.near)) h
  where
    -- the two distances are at most 2a/b together, and the third at most M × r/q, over G
    combined : (P y z : ℕ) → 0 < P → b * (P * y) ≤ 2 * a * P + b * (M * z) → q * (G * z) ≤ r * P → q * b * (G * y) ≤ b * M * r + 2 * a * q * G
    combined P y z some h g = le_of_mul-le-mul_left {k = P} (omega (arith, mul-le-mul_left (q * G) h, mul-le-mul_left (b * M) g)) some

    -- D × E times the difference is made of the two distances and of that of the fractions
    split : (D E M : ℤ) → D *ℤ E *ℤ (v -ℤ w) ≡ E *ℤ (D *ℤ v -ℤ M *ℤ x) -ℤ D *ℤ (E *ℤ w -ℤ M *ℤ y) +ℤ M *ℤ (E *ℤ x -ℤ D *ℤ y)
    split D E M = ring (D ∷ E ∷ M ∷ x ∷ y ∷ v ∷ w ∷ []) (simp polys tt) tt

    -- so its size is at most that of the three
    sizes : D * E * nat_abs (v -ℤ w) ≤ E * nat_abs (pos D *ℤ v -ℤ pos M *ℤ x) + D * nat_abs (pos E *ℤ w -ℤ pos M *ℤ y) + M * nat_abs (pos E *ℤ x -ℤ pos D *ℤ y)
    sizes =
        let p = pos D *ℤ v -ℤ pos M *ℤ x in
        let p' = pos E *ℤ w -ℤ pos M *ℤ y in
        let z = pos E *ℤ x -ℤ pos D *ℤ y in
        omega (
          arith,
          abs_mul (pos (D * E)) (v -ℤ w),
          ap nat_abs (split (pos D) (pos E) (pos M)),
          abs_add (pos E *ℤ p -ℤ pos D *ℤ p') (pos M *ℤ z),
          abs_sub (pos E *ℤ p) (pos D *ℤ p'),
          abs_mul (pos E) p,
          abs_mul (pos D) p',
          abs_mul (pos M) z,
        )

-- ---- two rows that differ at place i by d
module _ (i : ℕ) (d : ℤ) (s t : List ℤ) (differ : DifferAt i d s t) where
  -- their exact solutions
  c : Fractions
  c = solution (length s) (whole s)

  e : Fractions
  e = solution (length t) (whole t)

  solved : Solves (length s) (whole s) c
  unfolding c
  solved = solution_solves (length s) (whole s)

  solved' : Solves (length t) (whole t) e
  unfolding e
  solved' = solution_solves (length t) (whole t)

  -- coefficients that are accurate
  pub accurate_near : (C C' : List ℤ) → RowAccurate s C → RowAccurate t C' → (k : ℕ) → k < length s → CoefficientsNear i d C C' k
  accurate_near C C' near near' k l = omega (
    arith,
    delivered_near 3 2 4096 c.den e.den (2 ^ apart k i) 1 (2 * nat_abs d) (c.num k) (e.num k) (at C k) (at C' k) c.above e.above
        (near.accurate c solved k l) (near'.accurate e solved' k (omega (arith, differ.long)))
        (omega (arith, solutions_near i d s t differ c e solved solved' k l)),
  )

  -- values that are accurate, at a position that is at least g places from i
  pub accurate_values_near : (m : ℕ) (p : Position) (v v' : ℤ) → 0 < length s → p.j < m → p.k * m + p.j ≤ (length s - 1) * m →
      RowValueAccurate m s p v → RowValueAccurate m t p v' → (g : ℕ) → Away m p i g → ValuesNear g d v v'
  accurate_values_near m p v v' some below on near near' g away = omega (
    arith,
    delivered_near 19 32 256 (W * c.den) (W * e.den) (2 ^ g) 3 (4 * nat_abs d) x y v v' (mul-pos above c.above) (mul-pos above e.above)
        (near.accurate c solved) (rw differ.long at (near'.accurate e solved'))
        (omega (
          arith,
          ap (λ z. 3 * (2 ^ g * nat_abs z)) (factor (pos W) (pos c.den) (pos e.den)),
          ap (λ z. 3 * (2 ^ g * z)) (abs_mul (pos W) (pos e.den *ℤ x -ℤ pos c.den *ℤ y)),
          mul-le-mul_left W (splines_near i d s t differ c e solved solved' m p some below on g away),
        )),
  )
    where
      -- the sum of the weights
      W : ℕ
      W = 6 * m ^ 3

      above : 0 < W
      above = omega (arith, one-le-pow 3 m (omega arith))

      -- the weighted sums of the solutions
      x : ℤ
      x = row_sum m (length s) c.num p

      y : ℤ
      y = row_sum m (length s) e.num p

      -- their difference, with that sum taken out
      factor : (a D E : ℤ) → a *ℤ E *ℤ x -ℤ a *ℤ D *ℤ y ≡ a *ℤ (E *ℤ x -ℤ D *ℤ y)
      factor a D E = ring (a ∷ D ∷ E ∷ x ∷ y ∷ []) (simp polys tt) tt
