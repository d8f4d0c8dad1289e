-- What an announcement and a turn answer, and the state that each leaves, for every state: "Sixteen stations". Assumes nothing.
use Rattle.std.specs.Prelude.{true, false, [], ◌∷◌, ℕ, leb, set}
use Rattle.std.proofs.Math.Option.{Option, none, some}
use Rattle.bspline.specs.Refusals.{Test, ◌when◌, judged}
use Rattle.turns.specs.States.{State, stations, waits, station_after, first_waiting}

-- ---- an announcement: the answer, which is a refusal by its number or that it is accepted, and the next state
pub data Reply : Type 0 where
  accepted : Reply
  refusal : ℕ → Reply

pub record Announcement : Type 0 where
  pub answer : Reply
  pub next : State

-- a station above 15
abbrev pub refusal_17 : ℕ → Test
refusal_17 k = 17 when leb stations k

-- one that waits already
abbrev pub refusal_18 : State → ℕ → Test
refusal_18 s k = 18 when waits s k

-- it tests 17, 18. A refused one changes nothing; an accepted one marks the station
unfoldable pub announce : State → ℕ → Announcement
announce s k =
    judged (refusal_17 k ∷ refusal_18 s k ∷ [])
    (λ r. record { answer = refusal r; next = s })
    (record { answer = accepted; next = record { waiting = set s.waiting k true; last = s.last } })

-- ---- a turn: the station that it names, or none, and the next state
pub record Turn : Type 0 where
  pub answer : Option ℕ
  pub next : State

-- the mark of the station that is named is cleared; where none is, nothing changes
abbrev pub serve : State → Option ℕ → Turn
serve s (some k) = record { answer = some k; next = record { waiting = set s.waiting k false; last = k } }
serve s none = record { answer = none; next = s }

-- it names the first that waits after the one served last: that one itself is the last to be looked at
unfoldable pub turn : State → Turn
turn s = serve s (first_waiting s.waiting (station_after s.last) stations)
