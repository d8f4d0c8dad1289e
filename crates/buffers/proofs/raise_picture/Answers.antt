-- One row more is raised.
use Rattle.answers.specs.Answers.{described}
use Rattle.buffers.proofs.PictureRows.{rows_none, rows_more}
use Rattle.buffers.proofs.raise_picture.Goals as goal

pub loop-y-init : goal.loop-y-init
loop-y-init c = rows_none (described c.args.shape) c.args.pixels.now c.args.c.now c.requires.1

pub loop-y-preserved : goal.loop-y-preserved
loop-y-preserved c = rows_more c.loop-y.invariant c.loop-y-test.true c.requires.0 c.raise.new.c c.raise.ensures
