-- The coefficient, at most 3/8 of b, fits 32 bits.
use Rattle.std.proofs.Common.{◌≡◌, sym, ap, ◌∙◌, ◌*◌, ◌≤◌, ◌^◌, ℤ, pos, nat_abs, ◌-ℤ◌, ◌*ℤ◌, w32, w64, FitsSigned, arith}
use borrow.Author.Rules.{sfits_of}
use lib.Dec.{lit<}
use mir.Facts.{to_z-of_z}
use Rattle.bspline.specs.Recursions.{coefficient}
use Rattle.integers.specs.Rounding.{round}
use Rattle.integers.proofs.Laws.{*ℤ_assoc}
use Rattle.integers.proofs.Linear.{reify, read, show}
use Rattle.integers.proofs.Rounding.{round_near}
use Rattle.integers.proofs.Rounded.{round_double}
use Rattle.filter.proofs.steps.coefficient_of.Goals as goal

module _ (b : ℤ) (h : nat_abs b ≤ 243 * 2 ^ 24) where
  product_fits : FitsSigned w64 (pos 3 *ℤ b)
  product_fits = show (simp reify tt) (omega (arith, read h (simp reify tt)))

  coefficient_fits : FitsSigned w32 (coefficient b)
  unfolding coefficient
  coefficient_fits = near_fits (round (pos 6 *ℤ b) 16) (round_near (pos 6 *ℤ b) 16 (lit< tt))
    where
      near_fits : (r : ℤ) → 2 * nat_abs (pos 16 *ℤ r -ℤ pos 6 *ℤ b) ≤ 16 → FitsSigned w32 r
      near_fits r k = let l : nat_abs (pos 16 *ℤ r -ℤ pos 6 *ℤ b) ≤ 8 = omega arith in show (simp reify tt) (omega (arith, read h (simp reify tt), read l (simp reify tt)))

-- 3 × b / 8 is rounded as 6 × b / 16 is
in_eighths : (b : ℤ) → round (pos 3 *ℤ b) 8 ≡ coefficient b
unfolding coefficient
in_eighths b = sym (round_double (pos 3 *ℤ b) 8) ∙ ap (λ a. round a 16) (sym (*ℤ_assoc (pos 2) (pos 3) b))

module _ (c : goal.After-round_div) where
  rounded : c.round_div.result ≡ coefficient c.args.b
  rounded =
      let f = c.ranges.b in
      let g = product_fits c.args.b c.requires in
      (simp to_z-of_z at c.round_div.ensures) ∙ in_eighths c.args.b

  wide : FitsSigned w64 c.round_div.result
  wide = sfits_of c.round_div.type_inv

  narrow : FitsSigned w32 (coefficient c.args.b)
  narrow = coefficient_fits c.args.b c.requires

pub overflow_cast-result : goal.overflow_cast-result
overflow_cast-result c = let r = wide c in simp to_z-of_z (rw (rounded c) (narrow c))

pub returns : goal.returns
returns c = let r = wide c in simp to_z-of_z (rw (rounded c, to_z-of_z (narrow c)))
