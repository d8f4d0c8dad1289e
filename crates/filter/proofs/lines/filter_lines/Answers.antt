-- One line more holds its coefficients.
use Rattle.std.proofs.Common.{◌∙◌}
use Rattle.filter.proofs.LineLoop.{lines_more}
use Rattle.filter.proofs.lines.filter_lines.Goals as goal

pub loop-i-preserved : goal.loop-i-preserved
loop-i-preserved c = record {
  first = rw c.filter_line.ensures (lines_more c.requires.0 c.loop-i.invariant.first c.loop-i-test.true);
  long = c.filter_line.auto.work ∙ c.loop-i.invariant.long;
}
