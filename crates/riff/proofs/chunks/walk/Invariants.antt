-- All chunks are those that are left, with the format kept so far.
use Rattle.std.proofs.Common.{length}
use Rattle.riff.proofs.Walking.{Walking}
use Rattle.riff.proofs.chunks.walk.Given as goal

abbrev pub invariant-loop-chunk : goal.invariant-loop-chunk
invariant-loop-chunk l = Walking l.bytes l.rest l.format

-- what is left
abbrev pub decreases-loop-chunk : goal.decreases-loop-chunk
decreases-loop-chunk l = length l.rest
