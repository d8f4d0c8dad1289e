-- From b at place i to b at the place before it.
use Rattle.std.proofs.Common.{w64, FitsSigned, ◌-◌, arith, rules}
use borrow.Author.Rules.{sfits_of}
use mir.Facts.{to_z-of_z}
use Rattle.bspline.specs.Lists.{at}
use Rattle.filter.proofs.Recursions.{anticausal_more}
use Rattle.filter.proofs.passes.anticausal_margin.Goals as goal

pub loop-i-preserved : goal.loop-i-preserved
loop-i-preserved c =
    let j = c.loop-i.i - 1 in
    let f : FitsSigned w64 (at c.args.work.now j) = search rules in
    let g : FitsSigned w64 c.anticausal_step-b.result = sfits_of c.anticausal_step-b.type_inv in
    record {
      reached =
          rw (to_z-of_z g, rw (to_z-of_z f) at c.anticausal_step-b.ensures)
          (anticausal_more j (omega arith) c.requires.small c.loop-i.invariant.reached);
      above = omega arith;
    }
