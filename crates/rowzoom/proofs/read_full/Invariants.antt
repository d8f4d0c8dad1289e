-- No more bytes are read than the array has; each turn but the last reads one at least.
use Rattle.std.proofs.Common.{◌≤◌, ◌-◌, length}
use Rattle.rowzoom.proofs.read_full.Given as goal

abbrev pub invariant-loop-done : goal.invariant-loop-done
invariant-loop-done g l = l.done ≤ length l.bytes

abbrev pub decreases-loop-done : goal.decreases-loop-done
decreases-loop-done g l = length l.bytes - l.done
