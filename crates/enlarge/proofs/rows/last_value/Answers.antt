-- The weighted sum at the numerator 0 of the last place is at most 2^27 divisors, and the only value is rounded from it.
use Rattle.std.proofs.Common.{◌≡◌, sym, ap, ◌∙◌, ℕ, ◌-◌, ◌*◌, ◌^◌, ◌<◌, List, ℤ, pos, nat_abs, w32, w64, FitsSigned, to_z, of_z, arith}
use mathlib.Core.Path.{ap₂}
use borrow.Author.Rules.{sfits_of}
use mir.Facts.{to_z-of_z}
use Rattle.integers.specs.Rounding.{round}
use Rattle.bspline.specs.Values.{Position, weights, dot, support, row_sum}
use Rattle.bspline.proofs.Bounds.{all_weaken}
use Rattle.bspline.proofs.Weights.{weights_light, weighted_within}
use Rattle.bspline.proofs.Zoom.{position_at_sample}
use Rattle.sums.specs.Sums.{listed}
use Rattle.sums.proofs.Divisors.{picture_divisible}
use Rattle.columns.specs.Bands.{sums_along}
use Rattle.enlarge.specs.Rows.{value_along}
use Rattle.enlarge.proofs.RowValues.{quotient_small}
use Rattle.enlarge.proofs.rows.last_value.Goals as goal

-- the quotient is the value at the last place
value_is : (m width : ℕ) (f : ℕ → ℤ) {z d : ℤ} {w sums : List ℤ} → 0 < m → FitsSigned w64 z → FitsSigned w64 d → z ≡ dot w sums → w ≡ weights m 0 →
    sums ≡ support width f (width - 1) → d ≡ pos (576 * m ^ 6) →
    round (to_z w64 (of_z w64 z)) (nat_abs (to_z w64 (of_z w64 d))) ≡ value_along m width f (576 * m ^ 6) ((width - 1) * m)
unfolding row_sum
value_is m width f some z_fits d_fits z_is w_is sums_are d_is =
    ap₂ (λ (x y : ℤ). round x (nat_abs y)) (to_z-of_z z_fits ∙ z_is ∙ ap₂ dot w_is sums_are) (to_z-of_z d_fits ∙ d_is)
    ∙ ap (λ (p : Position). round (row_sum m width f p) (576 * m ^ 6)) (sym (position_at_sample m (width - 1) some))

pub dot-requires : goal.dot-requires
dot-requires c =
    let p = c.requires in
    record {
      light = weights_light _ 0 c.weights_of.ensures c.args.m.within.small (omega arith);
      small = all_weaken (omega (arith, p.columns.light)) c.sums-sums.ensures.1;
    }

pub round_narrow-requires : goal.round_narrow-requires
round_narrow-requires c =
    let p = c.requires in
    let m = c.args.m.value in
    let sum_is = c.dot.ensures ∙ ap (λ w. dot w (listed c.sums-sums.result)) c.weights_of.ensures in
    let sum_fits : FitsSigned w64 c.dot.result = sfits_of c.dot.type_inv in
    let divisor_fits : FitsSigned w64 c.picture_divisor.result = sfits_of c.picture_divisor.type_inv in
    rw (to_z-of_z sum_fits, to_z-of_z divisor_fits)
    (picture_divisible m c.args.m.within.some c.args.m.within.small c.dot.result c.picture_divisor.ensures
    (omega (arith, ap nat_abs sum_is, weighted_within m 0 _ _ (omega arith) c.sums-sums.ensures.1, quotient_small p)))

pub returns : goal.returns
returns c =
    let a = c.args in
    let r : FitsSigned w32 c.round_narrow.result = sfits_of c.round_narrow.type_inv in
    to_z-of_z r
    ∙ c.round_narrow.ensures
    ∙ value_is a.m.value a.band.width (sums_along a.band) c.args.m.within.some (sfits_of c.dot.type_inv) (sfits_of c.picture_divisor.type_inv) c.dot.ensures
    c.weights_of.ensures c.sums-sums.ensures.0 c.picture_divisor.ensures
