-- The first part of a row is its header, and each other one its lines.
use native.Mathlib.Nat.{pos_of_ne-zero}
use lib.Seq.{length-take-le}
use Rattle.printtext.specs.Output.{part}
use Rattle.printtext.proofs.PartLines.{Span, part_lines}
use Rattle.printtext.proofs.parts.put_row_part.Goals as goal

pub returns-then-part-eq0 : goal.returns-then-part-eq0
unfolding part
returns-then-part-eq0 c = rw (c.if-part-eq0.true, length-take-le c.args.s.values c.args.values.now c.requires.1) c.put_header.ensures.put

pub returns : goal.returns
returns c =
    let s = c.args.s in
    let span : Span c.args.part s.values c.first_line-from.result c.first_line-to.result = record {
      later = pos_of_ne-zero c.if-part-eq0.false;
      begins = c.first_line-from.ensures;
      ends = c.first_line-to.ensures;
    } in
    rw (part_lines span c.args.values.now c.requires.1 s.samples s.factor) c.put_lines.ensures
