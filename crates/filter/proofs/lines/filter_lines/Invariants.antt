-- The lines before line i hold their coefficients and the others what they held, so the next line can be filtered; work keeps its length.
use Rattle.std.proofs.Common.{◌≡◌, length, ◌+◌, ◌*◌}
use Rattle.bspline.specs.Recursions.{margin}
use Rattle.filter.proofs.LineLoop.{FirstLines}
use Rattle.filter.proofs.lines.filter_lines.Given as goal

abbrev pub invariant-loop-i : goal.invariant-loop-i
invariant-loop-i l = record {
  first : FirstLines l.count l.between l.step l.n l.initial.c l.c l.i;
  long : length l.work ≡ l.n + 2 * margin;
}
