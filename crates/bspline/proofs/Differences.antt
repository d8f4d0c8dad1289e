-- The difference of two solutions of the equations of "The mirrored row" solves the difference of their data, so it is at most three times as large as that.
-- Assumes nothing.
use mathlib.Core.List.{[], ◌∷◌}
use mathlib.Core.Path.{◌≡◌, ◌∙◌}
use Prim.Native.Nat.{ℕ, ◌*◌, ◌≤◌, ◌<◌}
use native.Mathlib.Nat.{mul-pos}
use native.Mathlib.Omega.{arith}
use lib.IntN.{ℤ, pos, nat_abs, ◌-ℤ◌, ◌*ℤ◌}
use Rattle.integers.proofs.Laws.{times}
use Rattle.integers.proofs.Ring.{polys, read_poly, show_poly}
use Rattle.bspline.specs.Exact.{Fractions, tridiagonal, Solves}
use Rattle.bspline.proofs.Stability.{tridiagonal_linear, bounded}

-- s - t, over the product of the denominators
abbrev pub difference : Fractions → Fractions → Fractions
difference s t = record {
  num = λ k. pos t.den *ℤ s.num k -ℤ pos s.den *ℤ t.num k;
  den = s.den * t.den;
  above = mul-pos s.above t.above;
}

-- the difference of two solutions is a solution of the difference of their data
pub difference_solves : (n : ℕ) (s t x y : Fractions) → Solves n s x → Solves n t y → Solves n (difference s t) (difference x y)
difference_solves n s t x y f g = record {
  equation = λ k l.
      times (pos (s.den * t.den)) (tridiagonal_linear n (pos y.den) (pos x.den) x.num y.num (pos k))
      ∙ subtracted (pos s.den) (pos t.den) (pos x.den) (pos y.den)
      (tridiagonal n x.num (pos k)) (tridiagonal n y.num (pos k)) (s.num k) (t.num k)
      (f.equation k l) (g.equation k l);
}
  where
    subtracted : (E F D G a b p q : ℤ) → E *ℤ a ≡ D *ℤ (pos 6 *ℤ p) → F *ℤ b ≡ G *ℤ (pos 6 *ℤ q) →
        E *ℤ F *ℤ (G *ℤ a -ℤ D *ℤ b) ≡ D *ℤ G *ℤ (pos 6 *ℤ (F *ℤ p -ℤ E *ℤ q))
    subtracted E F D G a b p q e d =
        let ρ = E ∷ F ∷ D ∷ G ∷ a ∷ b ∷ p ∷ q ∷ [] in
        show_poly ρ (simp polys tt) (omega (arith, read_poly ρ (times (F *ℤ G) e) (simp polys tt), read_poly ρ (times (E *ℤ D) d) (simp polys tt)))

-- the solutions of data that differ by at most S / u differ by at most 3S / u
pub difference_bounded : (n : ℕ) (s t x y : Fractions) → Solves n s x → Solves n t y →
    (u S : ℕ) → ((k : ℕ) → k < n → u * nat_abs ((difference s t).num k) ≤ S * (s.den * t.den)) →
    (k : ℕ) → k < n → u * nat_abs ((difference x y).num k) ≤ 3 * S * (x.den * y.den)
difference_bounded n s t x y f g = bounded n (difference s t) (difference x y) (difference_solves n s t x y f g)
