-- The numbers of the text are those in the buffer and then those of the rest.
use Rattle.std.proofs.Common.{length}
use Rattle.readtext.proofs.Texts.{Progress}
use Rattle.readtext.proofs.text.read_numbers.Given as goal

abbrev pub invariant-loop-rest : goal.invariant-loop-rest
invariant-loop-rest l = Progress l.text l.buffer l.rest l.count

abbrev pub decreases-loop-rest : goal.decreases-loop-rest
decreases-loop-rest l = length l.rest
