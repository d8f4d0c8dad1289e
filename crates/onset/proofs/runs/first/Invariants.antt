-- No run starts before the place, and the values of the run that were looked at reach the threshold.
use Rattle.std.proofs.Common.{◌≡◌, ◌+◌, ◌-◌}
use Rattle.onset.proofs.Scans.{Scanned, Reached}
use Rattle.onset.proofs.runs.first.Given as goal

abbrev pub invariant-loop-left : goal.invariant-loop-left
invariant-loop-left l = (l.at ≡ l.initial.at) × Reached l.threshold l.values l.at l.left

abbrev pub invariant-scan : goal.invariant-scan
invariant-scan l = Scanned l.threshold l.values l.at

-- what is left of the row
abbrev pub decreases-scan : goal.decreases-scan
decreases-scan l = l.last + 1 - l.at
