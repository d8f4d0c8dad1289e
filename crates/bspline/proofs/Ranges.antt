-- How far from 0 the numbers of a line can be: where |t| ≤ T, also |p| ≤ 3T/2, |b| ≤ 9T/16 and |C| ≤ (27T + 64) / 128.
-- A step multiplies by Z / 2^31, which is below 27/100, and adds at most 1/2 by rounding: T + 27/100 × 3T/2 + 1/2 ≤ 3T/2, and
-- 27/100 × (3T/2 + 9T/16) + 1/2 ≤ 9T/16, from T = 100 on. So the bounds hold along the whole line, by induction over the lists, and every product fits
-- 64 bits. A bound is the whole number at or below the fraction: |p| ≤ 3T/2 is the same as nat_abs p ≤ 3 * T / 2. Assumes nothing.
use mathlib.Core.List.{List, [], ◌∷◌}
use Prim.Native.Nat.{ℕ, ◌+◌, ◌*◌, ◌/◌, ◌^◌, ◌≤◌, ◌<◌}
use native.Mathlib.Nat.{le_refl}
use native.Mathlib.Omega.{arith}
use lib.Dec.{lit≤}
use lib.IntN.{ℤ, pos, nat_abs, ◌-ℤ◌, ◌*ℤ◌}
use Rattle.integers.proofs.Absolute.{abs_sub, abs_mul, abs_mul≤}
use Rattle.integers.proofs.Linear.{reify, read, show}
use Rattle.bspline.specs.Bounds.{AllWithin, PictureWithin}
use Rattle.bspline.specs.Mirror.{mirror}
use Rattle.bspline.specs.Recursions.{margin, Z, window, causal, forward, anticausal, first, backward, filtered, coefficient, coefficients}
use Rattle.bspline.specs.PictureLayout.{Shape, pixel}
use Rattle.bspline.specs.Lists.{at}
use Rattle.bspline.specs.Transforms.{first_pass}
use Rattle.bspline.proofs.Bounds.{nil_within, cons_within, rest_within, tabulate_within, places_within}
use Rattle.bspline.proofs.Lines.{coefficients_length, coefficients_at}
use Rattle.bspline.proofs.Mirror.{mirror_below}
use Rattle.bspline.proofs.Steps.{causal_near, anticausal_near, coefficient_near}

first_within : {B : ℕ} (l : List ℤ) → AllWithin B l → nat_abs (first l) ≤ B
first_within [] h = h.within 0
first_within (b ∷ l) h = h.within 0

-- ---- one line, over any bound T of its numbers
module _ (T : ℕ) (large : 100 ≤ T) where
  -- one step of the causal recursion keeps |p| ≤ 3T/2
  pub causal_range : (t p : ℤ) → nat_abs t ≤ T → nat_abs p ≤ 3 * T / 2 → nat_abs (causal t p) ≤ 3 * T / 2
  causal_range t p h g = show (simp reify tt) (omega (arith, read h (simp reify tt), read g (simp reify tt), read (causal_near t p) (simp reify tt)))

  -- one step of the anticausal recursion keeps |b| ≤ 9T/16
  pub anticausal_range : (p b : ℤ) → nat_abs p ≤ 3 * T / 2 → nat_abs b ≤ 9 * T / 16 → nat_abs (anticausal p b) ≤ 9 * T / 16
  anticausal_range p b h g = show (simp reify tt) (omega (arith, read h (simp reify tt), read g (simp reify tt), read (anticausal_near p b) (simp reify tt)))

  -- a coefficient of such a b has |C| ≤ (27T + 64) / 128
  pub coefficient_range : (b : ℤ) → nat_abs b ≤ 9 * T / 16 → nat_abs (coefficient b) ≤ (27 * T + 64) / 128
  coefficient_range b h = show (simp reify tt) (omega (arith, read h (simp reify tt), read (coefficient_near b) (simp reify tt)))

  -- every p of a list of t
  pub forward_within : (p : ℤ) (l : List ℤ) → nat_abs p ≤ 3 * T / 2 → AllWithin T l → AllWithin (3 * T / 2) (forward p l)
  unfolding forward
  forward_within p [] g h = nil_within (3 * T / 2)
  forward_within p (t ∷ l) g h =
      let next : nat_abs (causal t p) ≤ 3 * T / 2 = causal_range t p (h.within 0) g in
      cons_within next (forward_within (causal t p) l next (rest_within h))

  -- every b of a list of p
  pub backward_within : (l : List ℤ) → AllWithin (3 * T / 2) l → AllWithin (9 * T / 16) (backward l)
  unfolding backward
  backward_within [] h = nil_within (9 * T / 16)
  backward_within (p ∷ l) h =
      let rest : AllWithin (9 * T / 16) (backward l) = backward_within l (rest_within h) in
      cons_within (anticausal_range p (first (backward l)) (h.within 0) (first_within (backward l) rest)) rest

  module _ (n : ℕ) (t : ℕ → ℤ) (some : 0 < n) (range : (k : ℕ) → k < n → nat_abs (t k) ≤ T) where
    -- every t of the window
    pub window_within : AllWithin T (window n t)
    window_within = tabulate_within T _ 0 _ (λ i h. range (mirror n (pos i -ℤ pos margin)) (mirror_below n (pos i -ℤ pos margin) some))

    -- every b of the window
    pub filtered_within : AllWithin (9 * T / 16) (filtered n t)
    filtered_within = backward_within (forward (pos 0) (window n t)) (forward_within (pos 0) (window n t) (omega arith) window_within)

    -- every coefficient
    pub coefficients_within : AllWithin ((27 * T + 64) / 128) (coefficients n t)
    coefficients_within =
        places_within ((27 * T + 64) / 128) (coefficients n t)
        (λ k h. each k (omega (arith, coefficients_length n t)))
      where
        each : (k : ℕ) → k < n → nat_abs (at (coefficients n t) k) ≤ (27 * T + 64) / 128
        each k h = rw (coefficients_at n t k h) (coefficient_range (at (filtered n t) (k + margin)) (filtered_within.within (k + margin)))

-- the greatest number of all: Z × (p - b) of a column fits 64 bits, with room for twice the 2^31 that it is divided by
pub product_fits : (p b : ℤ) → nat_abs p ≤ 81 * 2 ^ 27 → nat_abs b ≤ 243 * 2 ^ 24 → nat_abs (Z *ℤ (p -ℤ b)) + 2 ^ 32 ≤ 2 ^ 63
product_fits p b h g = omega (arith, abs_mul Z (p -ℤ b), abs_sub p b)

-- ---- the two transforms
-- a number within B, loaded as m times itself
pub loaded_range : (m B : ℕ) (x : ℤ) → nat_abs x ≤ B → nat_abs (pos m *ℤ x) ≤ m * B
loaded_range m B x h = abs_mul≤ (pos m) x (le_refl m) h

-- every coefficient of a picture after its first pass, the rows
pub first_pass_within : (d : Shape) (p : List ℤ) → 0 < d.width → PictureWithin (2 ^ 15) d (pixel d p) →
    (x y : ℕ) → y < d.height → nat_abs (first_pass d p x y) ≤ 27 * 2 ^ 24
unfolding first_pass
first_pass_within d p wide h x y g =
    (coefficients_within (2 ^ 31) (lit≤ tt) d.width _ wide (λ k l. loaded_range 65536 (2 ^ 15) (pixel d p k y) (h.within k y l g))).within x
