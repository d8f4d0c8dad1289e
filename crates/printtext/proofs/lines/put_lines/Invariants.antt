-- The lines of the values before this one are put, each in at most as many bytes as the longest line has, and p is this one's position.
use Rattle.printtext.proofs.DoneLines.{Done}
use Rattle.printtext.specs.Lines.{between}
use Rattle.printtext.proofs.lines.put_lines.Given as goal

abbrev pub invariant-loop-v : goal.invariant-loop-v
invariant-loop-v l = Done (between l.from l.to l.values) l.from l.m l.fn.out l.out l.end l.p l.v-index
