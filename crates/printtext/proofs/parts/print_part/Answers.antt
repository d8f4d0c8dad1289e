-- Nothing is printed into a buffer that is too short; else it is the part of a row or of a refusal.
use Rattle.std.proofs.Common.{refl}
use Rattle.printtext.proofs.Printing.{short_block, put_held}
use Rattle.printtext.proofs.parts.print_part.Goals as goal

pub returns-then-out-lt-BLOCK : goal.returns-then-out-lt-BLOCK
returns-then-out-lt-BLOCK c = short_block _ _ _ _ c.if-out-lt-BLOCK.true

pub returns-in-Err : goal.returns-in-Err
returns-in-Err c = rw c.in-Err.is (put_held _ _ _ _ refl c.if-out-lt-BLOCK.false c.put_refusal_part.ensures)
