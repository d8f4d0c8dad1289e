-- Announcements and turns in any order, the states that are reached by them, and how long a station waits: "Sixteen stations". Assumes nothing.
use Rattle.std.specs.Prelude.{Bool, true, false, ◌&&◌, cond, List, [], ◌∷◌, ◌++◌, ◌≡◌, ℕ, suc, ◌+◌, ◌≤◌, ◌<◌, eqb}
use Rattle.std.proofs.Math.Option.{Option, none, some}
use Rattle.turns.specs.Outcomes.{Reply, accepted, refusal, announce, turn}
use Rattle.turns.specs.States.{State, fresh, waits}

-- a station announces a clip, or there is a turn
pub data Event : Type 0 where
  announcing : ℕ → Event
  turning : Event

-- the state after an event
abbrev pub step : State → Event → State
step s (announcing k) = (announce s k).next
step s turning = (turn s).next

-- and after some
unfoldable pub after : State → List Event → State
after s [] = s
after s (e ∷ events) = after (step s e) events

-- a state that is reached from the fresh one by events, refused announcements and turns that name none among them
pub record Reached (s : State) : Type 0 where
  pub events : List Event
  pub leads : after fresh events ≡ s

-- ---- how long a station waits
-- how many of some events are turns
unfoldable pub turns : List Event → ℕ
turns [] = 0
turns (announcing k ∷ events) = turns events
turns (turning ∷ events) = suc (turns events)

-- one of the first n turns among the events that follow on a state names the station
pub record NamedWithin (n : ℕ) (s : State) (events : List Event) (k : ℕ) : Type 0 where
  pub earlier : List Event
  pub later : List Event
  pub split : events ≡ earlier ++ turning ∷ later
  pub soon : turns earlier < n
  pub named : (turn (after s earlier)).answer ≡ some k

-- in every state reached a station that waits is named by one of the next n turns, whatever is announced in between
abbrev pub ServedWithin : ℕ → Type 0
ServedWithin n = (s : State) → Reached s → (k : ℕ) → waits s k ≡ true → (events : List Event) → n ≤ turns events → NamedWithin n s events k

-- ---- how often it is announced and served
-- whether an answer is that an announcement is accepted
abbrev pub is_accepted : Reply → Bool
is_accepted accepted = true
is_accepted (refusal r) = false

-- whether an event is an accepted announcement of a station
abbrev pub accepts : ℕ → State → Event → Bool
accepts k s (announcing j) = eqb j k && is_accepted (announce s j).answer
accepts k s turning = false

-- whether an answer names a station
abbrev pub is_named : ℕ → Option ℕ → Bool
is_named k none = false
is_named k (some j) = eqb j k

-- whether an event is a turn that names it
abbrev pub serves : ℕ → State → Event → Bool
serves k s (announcing j) = false
serves k s turning = is_named k (turn s).answer

-- a test as a number
abbrev pub one : Bool → ℕ
one b = cond b 1 0

-- how many of the events that follow on a state are such, each in the state before it
unfoldable pub count : (State → Event → Bool) → State → List Event → ℕ
count test s [] = 0
count test s (e ∷ events) = one (test s e) + count test (step s e) events
