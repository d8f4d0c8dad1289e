-- The first i numbers are the raised samples, and the samples read so far are 16-bit numbers.
use Rattle.std.proofs.Common.{ℕ, map, nat_abs, ◌<◌, ◌≤◌, ◌^◌}
use Rattle.bspline.specs.Lists.{at}
use Rattle.bspline.proofs.FilledLists.{Filled}
use Rattle.buffers.specs.Raised.{raised}
use Rattle.buffers.proofs.raise.Given as goal

abbrev pub invariant-loop-i : goal.invariant-loop-i
invariant-loop-i l = record {
  filled : Filled (map raised l.samples) l.c l.i;
  small : (k : ℕ) → k < l.i → nat_abs (at l.samples k) ≤ 2 ^ 15;
}
