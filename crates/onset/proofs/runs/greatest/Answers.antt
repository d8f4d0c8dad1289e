-- The best value is compared with the greater of each pair.
use Rattle.std.proofs.Common.{rules, ◌≡◌, ◌+◌, ◌/◌, length, ap, sym, subst, ◌∙◌, arith, ℤ, to_z}
use mir.Facts.{to_z-of_z}
use mir.Syntax.{w32}
use mir.Val.{SFits}
use Rattle.bspline.specs.Lists.{at}
use Rattle.onset.specs.Runs.{greater}
use Rattle.onset.proofs.GreatestValues.{Best, max_greater, best_more, best_last}
use Rattle.onset.proofs.runs.greatest.Goals as goal

pub loop-i-preserved : goal.loop-i-preserved
loop-i-preserved c =
    let values = c.args.values.now in
    let half = length values / 2 in
    let i = c.loop-i.i in
    let low : SFits w32 (at values i) = search rules in
    let high : SFits w32 (at values (half + i)) = search rules in
    let pair_fits : SFits w32 c.max-pair.result = search rules in
    let best_fits : SFits w32 c.max-best.result = search rules in
    let best = to_z w32 c.loop-i.best-bits in
    let pair : c.max-pair.result ≡ greater (at values i) (at values (half + i)) =
    (rw (to_z-of_z low, to_z-of_z high) at c.max-pair.ensures.value) ∙ max_greater (at values i) (at values (half + i)) in
    let more : c.max-best.result ≡ greater best c.max-pair.result =
    (rw (to_z-of_z pair_fits) at c.max-best.ensures.value) ∙ max_greater best c.max-pair.result in
    let same = to_z-of_z best_fits ∙ more ∙ ap (greater best) pair in
    subst (λ (b : ℤ). Best values half b (i + 1)) (sym same) (best_more c.loop-i.invariant (omega arith) (omega arith))

pub returns : goal.returns
returns c = best_last c.loop-i.invariant (omega arith) (omega arith)
