-- An announcement is refused or accepted, and a turn names nobody or a station: what holds of each case holds of every event. Assumes nothing.
use mathlib.Core.Bool.{true, false}
use mathlib.Core.List.{[], ◌∷◌}
use mathlib.Core.Option.{Option, none, some}
use mathlib.Core.Path.{◌≡◌, refl}
use Prim.Native.Nat.{ℕ, ◌≤◌, ◌<◌}
use borrow.Author.Tests.{leb-false, le-leb, lt-leb}
use lib.ListN.{set}
use Rattle.bspline.proofs.Refusals.{judged_cases}
use Rattle.turns.specs.Outcomes.{Announcement, accepted, refusal, announce, Turn, serve, turn, refusal_17, refusal_18}
use Rattle.turns.specs.States.{State, stations, waits, station_after, first_waiting}

pub announce_cases : (P : Announcement → Type 0) (s : State) (k : ℕ) →
    ((r : ℕ) → P (record { answer = refusal r; next = s })) →
    (k < stations → waits s k ≡ false → P (record { answer = accepted; next = record { waiting = set s.waiting k true; last = s.last } })) →
    P (announce s k)
unfolding announce
announce_cases P s k refused accepts =
    judged_cases P (refusal_17 k ∷ refusal_18 s k ∷ []) _ _ refused (λ p. accepts (leb-false stations k p.0) p.1.0)

-- and which case it is
pub refused_17 : (s : State) (k : ℕ) → stations ≤ k → announce s k ≡ record { answer = refusal 17; next = s }
unfolding announce
refused_17 s k past = simp (le-leb stations k past)

pub refused_18 : (s : State) (k : ℕ) → k < stations → waits s k ≡ true → announce s k ≡ record { answer = refusal 18; next = s }
unfolding announce
refused_18 s k inside waiting = simp (lt-leb stations k inside, waiting)

pub taken : (s : State) (k : ℕ) → k < stations → waits s k ≡ false →
    announce s k ≡ record { answer = accepted; next = record { waiting = set s.waiting k true; last = s.last } }
unfolding announce
taken s k inside free = simp (lt-leb stations k inside, free)

-- whom the search of a turn finds
abbrev pub found : State → Option ℕ
found s = first_waiting s.waiting (station_after s.last) stations

pub turn_cases : (P : Turn → Type 0) (s : State) → (found s ≡ none → P (serve s none)) → ((k : ℕ) → found s ≡ some k → P (serve s (some k))) → P (turn s)
unfolding turn
turn_cases P s nobody somebody = go (found s) refl
  where
    go : (o : Option ℕ) → found s ≡ o → P (serve s o)
    go none e = nobody e
    go (some k) e = somebody k e
