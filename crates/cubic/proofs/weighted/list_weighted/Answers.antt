-- The weights and the sum of a turn are those of its numerator.
use Rattle.std.proofs.Common.{◌≡◌, ◌∙◌, ap, arith, List, ℤ, w32, w64, FitsSigned, to_z, of_z}
use borrow.Author.Rules.{sfits_of}
use mir.Facts.{to_z-of_z}
use Rattle.bspline.specs.Values.{dot}
use Rattle.bspline.proofs.Bounds.{all_weaken}
use Rattle.bspline.proofs.Weights.{weights_light}
use Rattle.sums.specs.Sums.{listed}
use Rattle.cubic.proofs.SmallSums.{sum_small}
use Rattle.cubic.proofs.Tables.{tabled_none, tabled_more}
use Rattle.cubic.proofs.weighted.list_weighted.Goals as goal

-- the machine's sum is that of the weights
sum_is : {z : ℤ} {w u : List ℤ} (c : List ℤ) → FitsSigned w64 z → z ≡ dot w c → w ≡ u → to_z w64 (of_z w64 z) ≡ dot u c
sum_is c fits e s = to_z-of_z fits ∙ e ∙ ap (λ v. dot v c) s

pub loop-j-init : goal.loop-j-init
loop-j-init c = tabled_none _ _

pub dot-requires : goal.dot-requires
dot-requires c =
    let p = c.requires in
    record { light = weights_light _ _ c.weights_at.ensures p.factor (omega (arith, p.room)); small = all_weaken p.light p.small }

pub round-requires : goal.round-requires
round-requires c =
    let p = c.requires in
    rw (sum_is (listed c.args.c) (sfits_of c.dot.type_inv) c.dot.ensures c.weights_at.ensures)
    (record { divisor = p.divisor; size = sum_small p _ c.loop-j-test.true })

pub loop-j-preserved : goal.loop-j-preserved
loop-j-preserved c =
    let r : FitsSigned w32 c.round.result = sfits_of c.round.type_inv in
    let e = rw (sum_is (listed c.args.c) (sfits_of c.dot.type_inv) c.dot.ensures c.weights_at.ensures) at c.round.ensures in
    rw (to_z-of_z r) (tabled_more c.round.result c.loop-j.invariant c.loop-j-test.true e)
