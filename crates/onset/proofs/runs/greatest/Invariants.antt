-- The best value so far is one of the row, and of those that were compared none is above it.
use Rattle.onset.proofs.GreatestValues.{Best}
use Rattle.onset.proofs.runs.greatest.Given as goal

abbrev pub invariant-loop-i : goal.invariant-loop-i
invariant-loop-i l = Best l.values l.half l.best l.i
