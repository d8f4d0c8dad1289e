-- The answer of `wav`, read as that of the specification. Assumes nothing.
use Rattle.std.specs.Prelude.{Result, Ok, Err}
use Rattle.answers.specs.Answers.{number}
use Rattle.answers.specs.declared.Refusal.{Refusal}
use Rattle.wavefile.specs.Outcomes.{Answer, clip, refusal}
use Rattle.wav.specs.declared.Clip.{Clip}

-- a clip, or the refusal
abbrev pub answered : Result Clip Refusal → Answer
answered (Ok c) = clip c.count c.rate
answered (Err r) = refusal (number r)
