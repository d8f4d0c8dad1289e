-- Each announcement that is accepted is served exactly once before the station can announce again. Assumes nothing.
use mathlib.Core.Bool.{Bool, true, false, ◌&&◌, and-true, and-false, false≢true}
use mathlib.Core.List.{List, [], ◌∷◌}
use mathlib.Core.Path.{◌≡◌, refl, sym, ap, ◌∙◌}
use Prim.Native.Nat.{ℕ, ◌+◌, ◌≤◌, ◌<◌}
use native.Mathlib.Decide.{dec_lt}
use native.Mathlib.Omega.{arith}
use borrow.Author.Tests.{eqb-true, eqb-false}
use lib.Dec.{eqb}
use lib.ListN.{length, get_or, set, get_or-replicate, get_or-eq_default}
use lib.Seq.{get_or-set_same, get_or-set_other}
use Rattle.turns.specs.Events.{Event, announcing, turning, step, after, Reached, turns, NamedWithin, is_accepted, accepts, is_named, serves, one, count}
use Rattle.turns.specs.Outcomes.{Announcement, accepted, announce, Turn}
use Rattle.turns.specs.States.{State, fresh, stations, waits, station_after}
use Rattle.turns.proofs.Cases.{announce_cases, turn_cases}
use Rattle.turns.proofs.GoingRound.{after_inside, found_waits}
use Rattle.turns.proofs.Reached.{step_length, after_length, sixteen_marks, reached_on}
use Rattle.turns.proofs.Waits.{served_within_sixteen}

-- ---- one event: what it serves and what waits afterwards are together what it accepts and what waited before
-- the mark of station j is set to b: at any station k, the mark before and the mark after
marked : (w : List Bool) (j k : ℕ) (b : Bool) → j < length w → one (get_or (set w j b) k false) + one (eqb j k && get_or w j false) ≡ one (get_or w k false) + one (eqb j k && b)
marked w j k b h = go (eqb j k) refl
  where
    go : (c : Bool) → eqb j k ≡ c → one (get_or (set w j b) k false) + one (c && get_or w j false) ≡ one (get_or w k false) + one (c && b)
    go true e = let same = eqb-true j k e in rw (sym same, get_or-set_same w j b false h) (omega arith)
    go false e = rw (get_or-set_other w j k b false (λ same. eqb-false j k e (sym same))) refl

step_balance : (s : State) (e : Event) (k : ℕ) → length s.waiting ≡ stations →
    one (serves k s e) + one (waits (step s e) k) ≡ one (accepts k s e) + one (waits s k)
step_balance s (announcing j) k long =
    announce_cases (λ (a : Announcement). one false + one (waits a.next k) ≡ one (eqb j k && is_accepted a.answer) + one (waits s k)) s j
    (λ r. rw (and-false (eqb j k)) refl)
    (λ inside free. let m = marked s.waiting j k true (omega arith) in omega (arith, rw (free, and-false (eqb j k)) at m))
step_balance s turning k long =
    turn_cases (λ (t : Turn). one (is_named k t.answer) + one (waits t.next k) ≡ one false + one (waits s k)) s
    (λ e. refl)
    (λ j e.
    let w = found_waits s.waiting (station_after s.last) stations j (after_inside s.last) e in
    let m = marked s.waiting j k false (omega (arith, w.0)) in
    omega (arith, rw (w.1, and-false (eqb j k), and-true (eqb j k)) at m))

-- ---- many events
balance : (events : List Event) (s : State) (k : ℕ) → length s.waiting ≡ stations →
    count (serves k) s events + one (waits (after s events) k) ≡ count (accepts k) s events + one (waits s k)
unfolding count after
balance [] s k long = refl
balance (e ∷ events) s k long =
    let first = step_balance s e k long in
    let rest = balance events (step s e) k (step_length s e ∙ long) in
    omega (arith, first, rest)

-- ---- from the fresh state on
fresh_quiet : (k : ℕ) → waits fresh k ≡ false
fresh_quiet k = go (dec_lt k stations)
  where
    go : Dec (k < stations) → waits fresh k ≡ false
    go (yes y) = get_or-replicate stations k false false y
    go (no n) = get_or-eq_default fresh.waiting false {n = k} (omega (arith, n))

-- a station has been served as often as its announcements were accepted, but for a clip that still waits
pub served_as_announced : (events : List Event) (k : ℕ) →
    count (accepts k) fresh events ≡ count (serves k) fresh events + one (waits (after fresh events) k)
served_as_announced events k = let b = balance events fresh k refl in omega (arith, rw (fresh_quiet k) at b)

-- ---- an announcement that is accepted
-- it is of a station that did not wait, and now does
accepted_waits : (s : State) (k : ℕ) → length s.waiting ≡ stations → (announce s k).answer ≡ accepted →
    (waits s k ≡ false) × (waits (announce s k).next k ≡ true)
accepted_waits s k long =
    announce_cases (λ (a : Announcement). a.answer ≡ accepted → (waits s k ≡ false) × (waits a.next k ≡ true)) s k
    (λ r e. absurd (false≢true (ap is_accepted e)))
    (λ inside free e. (free, get_or-set_same s.waiting k true false (omega arith)))

-- it is served within sixteen turns
pub announced_served : (s : State) → Reached s → (k : ℕ) → (announce s k).answer ≡ accepted → (events : List Event) → 16 ≤ turns events →
    NamedWithin 16 (announce s k).next events k
announced_served s r k e events enough =
    served_within_sixteen (announce s k).next (reached_on s r (announcing k)) k (accepted_waits s k (sixteen_marks s r) e).1 events enough

-- and between it and the next one of the station that is accepted, exactly once
pub served_once : (s : State) → Reached s → (k : ℕ) → (announce s k).answer ≡ accepted → (events : List Event) →
    count (accepts k) (announce s k).next events ≡ 0 → (announce (after (announce s k).next events) k).answer ≡ accepted →
    count (serves k) (announce s k).next events ≡ 1
served_once s r k e events none_between again =
    let t = (announce s k).next in
    let long = step_length s (announcing k) ∙ sixteen_marks s r in
    let b = balance events t k long in
    let now = (accepted_waits s k (sixteen_marks s r) e).1 in
    let later = (accepted_waits (after t events) k (after_length events t ∙ long) again).0 in
    omega (arith, none_between, rw (now, later) at b)
