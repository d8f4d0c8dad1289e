-- From b at place i to b at the place before it, and one coefficient more is stored.
use Rattle.std.proofs.Common.{◌≡◌, sym, ◌∙◌, ℕ, suc, ◌+◌, ◌-◌, ◌<◌, List, ℤ, length, w32, w64, FitsSigned, arith, rules}
use borrow.Author.Rules.{sfits_of}
use mir.Facts.{to_z-of_z}
use Rattle.bspline.specs.Recursions.{margin, backward, delivered}
use Rattle.bspline.specs.Lists.{at}
use Rattle.bspline.proofs.Lines.{backward_length, delivered_length}
use Rattle.filter.specs.Lines.{AnticausalAt, CausalWindow}
use Rattle.filter.proofs.Recursions.{anticausal_more, delivered_from, stored_none, stored_more}
use Rattle.filter.proofs.passes.anticausal_pass.Goals as goal

-- there are as many coefficients as the line has places
count : (n : ℕ) (work : List ℤ) → CausalWindow n work → length (delivered n (backward work)) ≡ n
count n work h = delivered_length n (backward work) (omega (arith, backward_length work, h.long))

pub loop-i-init : goal.loop-i-init
loop-i-init c =
    let C = delivered c.args.line.n (backward c.args.work.now) in
    record {
      reached = rw (to_z-of_z c.ranges.last) c.requires.1;
      done = rw (count c.args.line.n c.args.work.now c.requires.0) at (stored_none c.args.line.from c.args.line.step C c.args.c.now);
      within = omega arith;
    }

-- the new b, that of place i - 1
module _ (c : goal.After-anticausal_step-b) where
  abbrev j : ℕ
  j = c.loop-i.i - 1

  p_fits : FitsSigned w64 (at c.args.work.now (j + margin))
  p_fits = search rules

  b_fits : FitsSigned w64 c.anticausal_step-b.result
  b_fits = sfits_of c.anticausal_step-b.type_inv

  b_next : AnticausalAt c.args.work.now c.anticausal_step-b.result (j + margin)
  b_next =
      rw (rw (to_z-of_z p_fits) at c.anticausal_step-b.ensures)
      (anticausal_more (j + margin) (omega arith) c.requires.0.small c.loop-i.invariant.reached)

pub coefficient_of-requires : goal.coefficient_of-requires
coefficient_of-requires c = rw (to_z-of_z (b_fits c)) (b_next c).small

pub loop-i-preserved : goal.loop-i-preserved
loop-i-preserved c =
    let a = c.before.before in
    let k = j a in
    let e : suc k ≡ c.loop-i.i = omega arith in
    let g : FitsSigned w32 c.coefficient_of.result = sfits_of c.coefficient_of.type_inv in
    let l : k < c.args.line.n = omega arith in
    let C : c.coefficient_of.result ≡ at (delivered c.args.line.n (backward c.args.work.now)) k =
    (rw (to_z-of_z (b_fits a)) at c.coefficient_of.ensures) ∙ sym (delivered_from c.args.line.n k (b_next a) l) in
    record {
      reached = rw (to_z-of_z (b_fits a)) (b_next a);
      done = rw (to_z-of_z g, C, c.place.ensures) (stored_more {c = c.loop-i.c} k (rw e c.loop-i.invariant.done) (omega (arith, count c.args.line.n c.args.work.now c.requires.0)));
      within = omega arith;
    }
