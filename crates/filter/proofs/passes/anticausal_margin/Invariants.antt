-- b is that of place i of the window.
use Rattle.std.proofs.Common.{◌≤◌, ◌+◌}
use Rattle.bspline.specs.Recursions.{margin}
use Rattle.filter.specs.Lines.{AnticausalAt}
use Rattle.filter.proofs.passes.anticausal_margin.Given as goal

abbrev pub invariant-loop-i : goal.invariant-loop-i
invariant-loop-i l = record {
  reached : AnticausalAt l.work l.b l.i;
  above : l.n + margin ≤ l.i;
}
