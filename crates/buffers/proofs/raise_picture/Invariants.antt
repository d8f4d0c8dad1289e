-- The first y rows are raised.
use Rattle.answers.specs.Answers.{described}
use Rattle.buffers.proofs.PictureRows.{FirstRows}
use Rattle.buffers.proofs.raise_picture.Given as goal

abbrev pub invariant-loop-y : goal.invariant-loop-y
invariant-loop-y l = FirstRows (described l.fn.shape) l.pixels l.c l.y
