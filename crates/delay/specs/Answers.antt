-- The answers, the refusals and the struct of `delay`, read as the answers of the specification. Assumes nothing.
use Rattle.std.specs.Prelude.{ℕ, Result, Ok, Err}
use Rattle.answers.specs.Answers as answers
use Rattle.delay.specs.Outcomes.{Answer, delay, refusal}
use Rattle.delay.specs.declared.Delay.{Delay}
use Rattle.delay.specs.declared.Refusal.{Refusal}
use Rattle.delay.specs.declared.Refusal.TheVariants.{Search, InexactFactor, QuietRow}

-- the number of each refusal: one of the search keeps its own
abbrev pub number : Refusal → ℕ
number (Search r) = answers.number r
number InexactFactor = 19
number QuietRow = 20

-- what is answered
abbrev pub measured : Result Delay Refusal → Answer
measured (Ok d) = delay d.samples d.first_height d.second_height
measured (Err r) = refusal (number r)
