-- The first i numbers are samples.
use Rattle.bspline.proofs.FilledLists.{Filled}
use Rattle.wavefile.specs.Samples.{samples}
use Rattle.wav.proofs.samples.decode.Given as goal

abbrev pub invariant-loop-i : goal.invariant-loop-i
invariant-loop-i l = Filled (samples l.content) l.row l.i
