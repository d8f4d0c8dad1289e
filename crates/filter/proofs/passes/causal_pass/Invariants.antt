-- The first i numbers of work are those of the recursion, p is the last of them, and the rest of the window is still to do.
use Rattle.std.proofs.Common.{pos, ◌+◌, ◌*◌, ◌-ℤ◌}
use Rattle.bspline.specs.Mirror.{mirror}
use Rattle.bspline.specs.Recursions.{margin}
use Rattle.filter.specs.Lines.{loaded_line}
use Rattle.filter.proofs.Recursions.{Causal}
use Rattle.filter.proofs.passes.causal_pass.Given as goal

abbrev pub invariant-loop-i : goal.invariant-loop-i
invariant-loop-i l =
    Causal (λ i. loaded_line l.line.from l.line.step l.c (mirror l.line.n (pos i -ℤ pos margin))) (l.line.n + 2 * margin) l.work l.p l.i
