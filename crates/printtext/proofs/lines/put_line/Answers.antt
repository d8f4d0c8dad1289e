-- The three fields are the line of a value.
use Rattle.std.proofs.Common.{arith}
use mir.Facts.{to_z-of_z}
use Rattle.printtext.proofs.LineFields.{line_put}
use Rattle.printtext.proofs.lines.put_line.Goals as goal

pub returns-clause-put : goal.returns-clause-put
returns-clause-put c =
    line_put c.args.p.k c.args.p.j c.args.v c.put_field-at.ensures c.put_field-at-2.ensures (rw (to_z-of_z c.ranges.v) at c.put_signed.ensures)
    (omega arith) (omega arith) (omega arith)
