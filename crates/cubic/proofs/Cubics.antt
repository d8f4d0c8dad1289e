-- The differences of a cubic: at the numerator 0, from a numerator to the next, and how great they are. Assumes nothing.
use mathlib.Core.List.{[], ◌∷◌}
use mathlib.Core.Path.{◌≡◌, ap₂, ◌∙◌}
use Prim.Native.Nat.{ℕ, ◌≤◌}
use native.Mathlib.Nat.{le_refl}
use native.Mathlib.Omega.{arith}
use lib.IntN.{ℤ, pos, ◌+ℤ◌, ◌-ℤ◌, ◌*ℤ◌}
use Rattle.integers.specs.Bound.{Within}
use Rattle.integers.proofs.Absolute.{within_weaken, within_add, within_mul}
use Rattle.integers.proofs.Ring.{polys, ring}
use Rattle.cubic.specs.declared.Cubic.{Cubic}
use Rattle.cubic.specs.declared.Differences.{Differences}
use Rattle.cubic.specs.Cubics.{CubicSmall, DifferencesAt, DifferencesSmall, Stepped, cubic_sum, growth}

-- at the numerator 0
pub differences_start : (f : Cubic) → DifferencesAt f (pos 0) (record {
  value = f.zero;
  first = f.one +ℤ f.two +ℤ f.three;
  second = pos 2 *ℤ f.two +ℤ pos 6 *ℤ f.three;
  third = pos 6 *ℤ f.three;
})
differences_start f =
    let ρ = f.zero ∷ f.one ∷ f.two ∷ f.three ∷ [] in
    record {
      value = ring ρ (simp polys tt) tt;
      first = ring ρ (simp polys tt) tt;
      second = ring ρ (simp polys tt) tt;
      third = ring ρ (simp polys tt) tt;
    }

-- what is from x and by y - x more is y
grown : {p q r x y : ℤ} → r ≡ p +ℤ q → p ≡ x → q ≡ y -ℤ x → r ≡ y
grown {p} {q} {r} {x} {y} sum from by = sum ∙ ap₂ ◌+ℤ◌ from by ∙ ring (x ∷ y ∷ []) (simp polys tt) tt

-- the third growth of a cubic is the same everywhere
constant : (f : Cubic) (j : ℤ) → growth (growth (growth (cubic_sum f))) j ≡ growth (growth (growth (cubic_sum f))) (j +ℤ pos 1)
constant f j = ring (f.zero ∷ f.one ∷ f.two ∷ f.three ∷ j ∷ []) (simp polys tt) tt

pub differences_next : {f : Cubic} {j : ℤ} {d r : Differences} → DifferencesAt f j d → Stepped d r → DifferencesAt f (j +ℤ pos 1) r
differences_next {f} {j} at s = record {
  value = grown s.value at.value at.first;
  first = grown s.first at.first at.second;
  second = grown s.second at.second at.third;
  third = s.third ∙ at.third ∙ constant f j;
}

-- ---- how great they are at a numerator up to 16
-- the growths as polynomials of the numerator
first_is : (f : Cubic) (j : ℤ) →
    growth (cubic_sum f) j ≡ (pos 3 *ℤ (j *ℤ j) +ℤ pos 3 *ℤ j +ℤ pos 1) *ℤ f.three +ℤ (pos 2 *ℤ j +ℤ pos 1) *ℤ f.two +ℤ f.one
first_is f j = ring (f.zero ∷ f.one ∷ f.two ∷ f.three ∷ j ∷ []) (simp polys tt) tt

second_is : (f : Cubic) (j : ℤ) → growth (growth (cubic_sum f)) j ≡ (pos 6 *ℤ j +ℤ pos 6) *ℤ f.three +ℤ pos 2 *ℤ f.two
second_is f j = ring (f.zero ∷ f.one ∷ f.two ∷ f.three ∷ j ∷ []) (simp polys tt) tt

third_is : (f : Cubic) (j : ℤ) → growth (growth (growth (cubic_sum f))) j ≡ pos 6 *ℤ f.three
third_is f j = ring (f.zero ∷ f.one ∷ f.two ∷ f.three ∷ j ∷ []) (simp polys tt) tt

-- the sizes of the coefficients times the powers of 16 add up to 2^17 times the greatest sum, and so on for the growths
pub differences_small : {f : Cubic} {d : Differences} → CubicSmall f → (j : ℕ) → j ≤ 16 → DifferencesAt f (pos j) d → DifferencesSmall d
differences_small {f} s j h at =
    let numerator : Within 16 (pos j) = record { within = h } in
    let linear = within_add (within_mul s.three numerator) s.two in
    let quadratic = within_add (within_mul linear numerator) s.one in
    let square = within_mul numerator numerator in
    record {
      value = rw at.value (within_weaken (omega arith) (within_add (within_mul quadratic numerator) s.zero));
      first = rw (at.first, first_is f (pos j)) (within_weaken (omega arith)
          (within_add (within_add (within_mul (within_add (within_add (within_mul (count 3) square) (within_mul (count 3) numerator)) (count 1)) s.three)
          (within_mul (within_add (within_mul (count 2) numerator) (count 1)) s.two)) s.one));
      second = rw (at.second, second_is f (pos j)) (within_weaken (omega arith)
          (within_add (within_mul (within_add (within_mul (count 6) numerator) (count 6)) s.three) (within_mul (count 2) s.two)));
      third = rw (at.third, third_is f (pos j)) (within_weaken (omega arith) (within_mul (count 6) s.three));
    }
  where
    count : (n : ℕ) → Within n (pos n)
    count n = record { within = le_refl n }
