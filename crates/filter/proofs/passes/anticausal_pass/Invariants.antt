-- b is that of place i + the margin of the window, and the coefficients from place i of the line on are stored.
use Rattle.std.proofs.Common.{◌≤◌, ◌+◌}
use Rattle.bspline.specs.Recursions.{margin, backward, delivered}
use Rattle.filter.specs.Lines.{AnticausalAt}
use Rattle.filter.proofs.Recursions.{Stored}
use Rattle.filter.proofs.passes.anticausal_pass.Given as goal

abbrev pub invariant-loop-i : goal.invariant-loop-i
invariant-loop-i l = record {
  reached : AnticausalAt l.work l.b (l.i + margin);
  done : Stored l.line.from l.line.step (delivered l.line.n (backward l.work)) l.initial.c l.c l.i;
  within : l.i ≤ l.line.n;
}
