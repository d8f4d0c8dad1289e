-- What an event changes: nothing, or one mark and with a turn the station served last. Assumes nothing.
use mathlib.Core.Bool.{true, false, false≢true}
use mathlib.Core.Option.{none, some, none-ne-some, some-injective}
use mathlib.Core.Path.{◌≡◌, refl, sym, ap}
use Prim.Native.Nat.{ℕ}
use lib.ListN.{set}
use Rattle.turns.specs.Events.{is_accepted}
use Rattle.turns.specs.Outcomes.{Announcement, accepted, refusal, announce, Turn, turn}
use Rattle.turns.specs.States.{State}
use Rattle.turns.proofs.Cases.{announce_cases, turn_cases}

-- a refused announcement changes nothing
pub refused_changes_nothing : (s : State) (k r : ℕ) → (announce s k).answer ≡ refusal r → (announce s k).next ≡ s
refused_changes_nothing s k r =
    announce_cases (λ (a : Announcement). a.answer ≡ refusal r → a.next ≡ s) s k
    (λ q e. refl)
    (λ inside free e. absurd (false≢true (sym (ap is_accepted e))))

-- an accepted one marks its station, and that is all
pub accepted_marks : (s : State) (k : ℕ) → (announce s k).answer ≡ accepted → (announce s k).next ≡ record { waiting = set s.waiting k true; last = s.last }
accepted_marks s k =
    announce_cases (λ (a : Announcement). a.answer ≡ accepted → a.next ≡ record { waiting = set s.waiting k true; last = s.last }) s k
    (λ q e. absurd (false≢true (ap is_accepted e)))
    (λ inside free e. refl)

-- a turn that names nobody changes nothing
pub nobody_changes_nothing : (s : State) → (turn s).answer ≡ none → (turn s).next ≡ s
nobody_changes_nothing s =
    turn_cases (λ (t : Turn). t.answer ≡ none → t.next ≡ s) s (λ e n. refl) (λ k e n. absurd (none-ne-some k (sym n)))

-- one that names a station clears its mark and has it served last, and that is all
pub named_cleared : (s : State) (k : ℕ) → (turn s).answer ≡ some k → (turn s).next ≡ record { waiting = set s.waiting k false; last = k }
named_cleared s k =
    turn_cases (λ (t : Turn). t.answer ≡ some k → t.next ≡ record { waiting = set s.waiting k false; last = k }) s
    (λ e n. absurd (none-ne-some k n))
    (λ j e n. ap (λ (i : ℕ). record { waiting = set s.waiting i false; last = i }) (some-injective j k n))
