-- The structs and enums of `turns`, read as the states and answers of the specification. Assumes nothing.
use Rattle.std.proofs.Math.Option as maybe
use Rattle.std.specs.Prelude.{ℕ, Option, Some, None, Result, Ok, Err}
use Rattle.turns.specs.Outcomes as outcomes
use Rattle.turns.specs.Outcomes.{accepted, refusal}
use Rattle.turns.specs.States.{State}
use Rattle.turns.specs.declared.TurnTaker.{TurnTaker}
use Rattle.turns.specs.declared.Answered.{Answered}
use Rattle.turns.specs.declared.Refusal.{Refusal}
use Rattle.turns.specs.declared.Refusal.TheVariants.{NoStation, AlreadyWaiting}

-- the state that a struct holds
abbrev pub state : TurnTaker → State
state t = record { waiting = t.waiting; last = t.last }

-- the number of each refusal
abbrev pub number : Refusal → ℕ
number NoStation = 17
number AlreadyWaiting = 18

-- what an announcement is answered, and with the state that it leaves
abbrev pub reply : Result Unit Refusal → outcomes.Reply
reply (Ok tt) = accepted
reply (Err r) = refusal (number r)

abbrev pub announcement : Answered (Result Unit Refusal) → outcomes.Announcement
announcement a = record { answer = reply a.answer; next = state a.next }

-- whom a turn names, and with the state that it leaves
abbrev pub named : Option ℕ → maybe.Option ℕ
named (Some k) = maybe.some k
named None = maybe.none

abbrev pub turned : Answered (Option ℕ) → outcomes.Turn
turned t = record { answer = named t.answer; next = state t.next }
