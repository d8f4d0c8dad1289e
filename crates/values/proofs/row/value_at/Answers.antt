-- The sum is that of the definition, and at most 6m³ times a 32-bit number.
use Rattle.std.proofs.Common.{List, ◌≡◌, ◌^◌, ℤ, nat_abs, ap, ap₂, ◌∙◌, arith, lit≤, to_z-of_z, SFits, w32, w64}
use borrow.Author.Rules.{sfits_of}
use Rattle.integers.specs.Rounding.{round}
use Rattle.bspline.specs.Values.{weights, dot}
use Rattle.bspline.proofs.Bounds.{all_weaken}
use Rattle.bspline.proofs.Weights.{weights_light, weighted_within, value_between}
use Rattle.sums.specs.Sums.{listed}
use Rattle.sums.proofs.Divisors.{row_divisible}
use Rattle.values.proofs.row.value_at.Goals as goal

pub dot-sum-requires : goal.dot-sum-requires
dot-sum-requires c =
    record {
      light = weights_light c.args.m.value c.args.position.j c.weights_at.ensures c.args.m.within.small (omega arith);
      small = all_weaken (lit≤ tt) c.support.ensures.1;
    }

pub round_narrow-requires : goal.round_narrow-requires
round_narrow-requires c =
    let a = c.args in
    let four : List ℤ = listed c.support.result in
    let sum_fits : SFits w64 c.dot-sum.result = sfits_of c.dot-sum.type_inv in
    let divisor_fits : SFits w64 c.row_divisor.result = sfits_of c.row_divisor.type_inv in
    let sum : c.dot-sum.result ≡ dot (weights a.m.value a.position.j) four = c.dot-sum.ensures ∙ ap (λ w. dot w four) c.weights_at.ensures in
    let held =
    row_divisible a.m.value c.args.m.within.some c.args.m.within.small (dot (weights a.m.value a.position.j) four) c.row_divisor.ensures
    (weighted_within a.m.value a.position.j (2 ^ 31) four (omega arith) c.support.ensures.1) in
    rw (to_z-of_z divisor_fits) (held.0, held.1, omega (arith, ap nat_abs (to_z-of_z sum_fits ∙ sum), held.2))

pub returns : goal.returns
returns c =
    let a = c.args in
    let four : List ℤ = listed c.support.result in
    let sum_fits : SFits w64 c.dot-sum.result = sfits_of c.dot-sum.type_inv in
    let divisor_fits : SFits w64 c.row_divisor.result = sfits_of c.row_divisor.type_inv in
    let bits : SFits w32 c.round_narrow.result = sfits_of c.round_narrow.type_inv in
    let sum : c.dot-sum.result ≡ dot (weights a.m.value a.position.j) four = c.dot-sum.ensures ∙ ap (λ w. dot w four) c.weights_at.ensures in
    to_z-of_z bits
    ∙ c.round_narrow.ensures
    ∙ ap₂ (λ (x d : ℤ). round x (nat_abs d)) (to_z-of_z sum_fits ∙ sum) (to_z-of_z divisor_fits ∙ c.row_divisor.ensures)
    ∙ value_between a.m.value a.position.k a.position.j a.c.now four c.support.ensures.0
