-- A refusal is one line in the first part, and there are no others.
use Rattle.std.proofs.Common.{arith}
use Rattle.decimal.proofs.Buffers.{put_none}
use Rattle.printtext.specs.Output.{refusal_line, part}
use Rattle.printtext.proofs.LineFields.{refusal_short}
use Rattle.printtext.proofs.PartLines.{none_later}
use Rattle.printtext.proofs.parts.put_refusal_part.Goals as goal

pub put_word-requires : goal.put_word-requires
put_word-requires c = let short = refusal_short c.from-then-part-eq0.result (omega arith) in omega arith

pub returns-then-part-eq0 : goal.returns-then-part-eq0
unfolding part refusal_line
returns-then-part-eq0 c = rw c.if-part-eq0.true (rw (c.from-then-part-eq0.ensures, c.from.ensures) at c.put_word.ensures)

pub returns : goal.returns
returns c = rw (none_later c.args.part _ c.if-part-eq0.false) (put_none 0 c.args.out.now)
