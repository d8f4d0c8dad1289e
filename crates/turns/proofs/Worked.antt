-- The worked examples, and what pins the definitions: who comes next at both ends of the round, what is refused and what that leaves, a station that is never
-- quiet, and states that are not reached. The definitions compute it. Assumes nothing.
use mathlib.Core.Bool.{true, false}
use mathlib.Core.List.{List, [], ◌∷◌, ◌++◌}
use mathlib.Core.Option.{Option, none, some}
use mathlib.Core.Path.{◌≡◌, refl}
use Prim.Native.Nat.{ℕ}
use lib.ListN.{replicate}
use Rattle.turns.specs.Events.{Event, announcing, turning, after}
use Rattle.turns.specs.Outcomes.{accepted, refusal, announce, turn}
use Rattle.turns.specs.States.{State, fresh, first_waiting}
use Rattle.turns.proofs.Waits.{announcements}

-- whom a turn names after some events from the fresh state on
named : List Event → Option ℕ
named events = (turn (after fresh events)).answer

-- nobody waits at first, and a turn changes nothing
nobody_at_first : turn fresh ≡ record { answer = none; next = fresh }
unfolding turn first_waiting
nobody_at_first = refl

-- a turn begins with 0
begins_with_0 : named (announcing 15 ∷ announcing 0 ∷ []) ≡ some 0
unfolding named after announce turn first_waiting
begins_with_0 = refl

-- the station just served comes last, after the one before it
served_comes_last : named (announcing 3 ∷ turning ∷ announcing 3 ∷ announcing 2 ∷ []) ≡ some 2
unfolding named after announce turn first_waiting
served_comes_last = refl

-- but it comes
served_comes_again : named (announcing 3 ∷ turning ∷ announcing 3 ∷ []) ≡ some 3
unfolding named after announce turn first_waiting
served_comes_again = refl

-- a turn that names nobody leaves the station served last as it was
nobody_keeps_last : named (announcing 3 ∷ turning ∷ turning ∷ announcing 2 ∷ announcing 4 ∷ []) ≡ some 4
unfolding named after announce turn first_waiting
nobody_keeps_last = refl

-- there is a station 15 and no station 16
fifteen_taken : (announce fresh 15).answer ≡ accepted
unfolding announce
fifteen_taken = refl

sixteen_refused : announce fresh 16 ≡ record { answer = refusal 17; next = fresh }
unfolding announce
sixteen_refused = refl

-- a station that waits is refused, until it has been served
abbrev three_waits : State
three_waits = after fresh (announcing 3 ∷ [])

waiting_refused : announce three_waits 3 ≡ record { answer = refusal 18; next = three_waits }
unfolding after announce
waiting_refused = refl

served_taken : (announce (turn three_waits).next 3).answer ≡ accepted
unfolding after announce turn first_waiting
served_taken = refl

-- station 7 announces before every turn: whoever waits is served between two of its clips
never_quiet : named (announcing 8 ∷ announcing 6 ∷ announcing 7 ∷ turning ∷ announcing 7 ∷ turning ∷ announcing 7 ∷ []) ≡ some 8
unfolding named after announce turn first_waiting
never_quiet = refl

-- the sixteenth turn is the one: all sixteen have announced, and fifteen turns come before
sixteenth_turn : named (announcements 16 ++ replicate 15 turning) ≡ some 15
unfolding named announcements after announce turn first_waiting
sixteenth_turn = refl

-- a number above 15 for the station served last, to which no event leads, counts as 15, and not as its remainder by 16
abbrev two_wait : ℕ → State
two_wait last = record { waiting = true ∷ replicate 14 false ++ true ∷ []; last = last }

as_after_15 : (turn (two_wait 16)).answer ≡ some 0
unfolding turn first_waiting
as_after_15 = refl
