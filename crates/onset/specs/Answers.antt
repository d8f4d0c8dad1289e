-- The answers of `onset`, read as those of the specification. Assumes nothing.
use Rattle.std.proofs.Math.Option as maybe
use Rattle.std.specs.Prelude.{ℕ, Option, Some, None, Result, Ok, Err}
use Rattle.answers.specs.Answers.{number}
use Rattle.answers.specs.declared.Refusal.{Refusal}
use Rattle.onset.specs.Outcomes.{Answer, onset, quiet, refusal}
use Rattle.onset.specs.declared.Detection.{Detection}
use Rattle.onset.specs.declared.Detection.TheVariants.{Onset, Quiet}

-- an onset or a quiet row, or the refusal
abbrev pub detected : Result Detection Refusal → Answer
detected (Ok (Onset x h)) = onset x h
detected (Ok (Quiet h)) = quiet h
detected (Err r) = refusal (number r)

-- where a run starts
abbrev pub started : Option ℕ → maybe.Option ℕ
started (Some place) = maybe.some place
started None = maybe.none
