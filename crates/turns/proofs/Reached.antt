-- What events keep: how many marks there are, that the station served last is one, and that a state is reached. Assumes nothing.
use mathlib.Core.Bool.{true, false, false≢true}
use mathlib.Core.List.{List, [], ◌∷◌, ◌++◌}
use mathlib.Core.Path.{◌≡◌, refl, sym, ap, subst, ◌∙◌}
use Prim.Native.Nat.{ℕ, suc, ◌<◌}
use native.Mathlib.Omega.{arith, by_contra}
use lib.ListN.{length, length-set, get_or-eq_default}
use Rattle.turns.specs.Events.{Event, announcing, turning, step, after, Reached}
use Rattle.turns.specs.Outcomes.{Announcement, Turn}
use Rattle.turns.specs.States.{State, fresh, stations, waits, station_after}
use Rattle.turns.proofs.Cases.{announce_cases, turn_cases}
use Rattle.turns.proofs.GoingRound.{after_inside, found_waits}

-- ---- the states reached have sixteen marks
pub step_length : (s : State) (e : Event) → length (step s e).waiting ≡ length s.waiting
step_length s (announcing j) =
    announce_cases (λ (a : Announcement). length a.next.waiting ≡ length s.waiting) s j (λ r. refl) (λ inside free. length-set s.waiting j true)
step_length s turning =
    turn_cases (λ (t : Turn). length t.next.waiting ≡ length s.waiting) s (λ e. refl) (λ k e. length-set s.waiting k false)

pub after_length : (events : List Event) (s : State) → length (after s events).waiting ≡ length s.waiting
unfolding after
after_length [] s = refl
after_length (e ∷ events) s = after_length events (step s e) ∙ step_length s e

pub sixteen_marks : (s : State) → Reached s → length s.waiting ≡ stations
sixteen_marks s r = sym (ap (λ (v : State). length v.waiting) r.leads) ∙ after_length r.events fresh

-- so whoever waits is one of them
pub waiting_station : (s : State) (k : ℕ) → length s.waiting ≡ stations → waits s k ≡ true → k < stations
waiting_station s k long t =
    by_contra (suc k) stations (λ past. false≢true (sym (get_or-eq_default s.waiting false {n = k} (omega arith)) ∙ t))

-- ---- and the station served last in them is one
step_last : (s : State) (e : Event) → s.last < stations → (step s e).last < stations
step_last s (announcing j) h = announce_cases (λ (a : Announcement). a.next.last < stations) s j (λ r. h) (λ inside free. h)
step_last s turning h =
    turn_cases (λ (t : Turn). t.next.last < stations) s
    (λ e. h)
    (λ k e. (found_waits s.waiting (station_after s.last) stations k (after_inside s.last) e).0)

after_last : (events : List Event) (s : State) → s.last < stations → (after s events).last < stations
unfolding after
after_last [] s h = h
after_last (e ∷ events) s h = after_last events (step s e) (step_last s e h)

pub last_station : (s : State) → Reached s → s.last < stations
last_station s r = subst (λ (v : State). v.last < stations) r.leads (after_last r.events fresh (omega arith))

-- ---- an event leads from a state that is reached to another
after_on : (events : List Event) (s : State) (e : Event) → after s (events ++ e ∷ []) ≡ step (after s events) e
unfolding after
after_on [] s e = refl
after_on (f ∷ events) s e = after_on events (step s f) e

pub reached_on : (s : State) → Reached s → (e : Event) → Reached (step s e)
reached_on s r e = record { events = r.events ++ e ∷ []; leads = after_on r.events fresh e ∙ ap (λ (v : State). step v e) r.leads }
