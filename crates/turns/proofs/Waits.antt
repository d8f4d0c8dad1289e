-- How long a station waits: one of the next sixteen turns names it, in every state reached, and no number below sixteen will do. Assumes nothing.
use mathlib.Core.Bool.{Bool, true, false, not, ◌&&◌, ◌||◌, and-eq-true_iff, false≢true}
use mathlib.Core.List.{List, [], ◌∷◌}
use mathlib.Core.Option.{some}
use mathlib.Core.Path.{◌≡◌, refl, sym, ap, subst, ◌∙◌}
use Prim.Native.Nat.{ℕ, zero, suc, ◌+◌, ◌≤◌, ◌<◌}
use native.Mathlib.Omega.{arith, by_contra}
use borrow.Author.Count.{below_none, below_more}
use borrow.Author.Tests.{leb-true, eqb-true, eqb-false}
use lib.Dec.{leb, eqb}
use lib.ListN.{length, take, replicate, length-append}
use lib.Seq.{get_or-set_other, take-append_seam}
use Rattle.turns.specs.Events.{Event, announcing, turning, after, turns, NamedWithin, ServedWithin, is_named}
use Rattle.turns.specs.Outcomes.{Announcement, announce, Turn, serve, turn}
use Rattle.turns.specs.States.{State, fresh, stations, waits, station_after, first_waiting}
use Rattle.turns.proofs.Cases.{announce_cases}
use Rattle.turns.proofs.GoingRound.{onward, after_inside, ahead, Found, first_waits}
use Rattle.turns.proofs.Naming.{found_named}
use Rattle.turns.proofs.Reached.{sixteen_marks, waiting_station}

-- ---- how an announcement leaves the others
-- a station that waits still does after any announcement, and the station served last is the same
announce_keeps : (s : State) (j k : ℕ) → waits s k ≡ true → (waits (announce s j).next k ≡ true) × ((announce s j).next.last ≡ s.last)
announce_keeps s j k t =
    announce_cases (λ (a : Announcement). (waits a.next k ≡ true) × (a.next.last ≡ s.last)) s j
    (λ r. (t, refl))
    (λ inside free. (get_or-set_other s.waiting j k true false (λ same. false≢true (sym free ∙ ap (waits s) (sym same) ∙ t)) ∙ t, refl))

-- ---- the turns that follow
-- a turn that names the station
named_now : (s : State) (d j k : ℕ) (events : List Event) → turn s ≡ serve s (some j) → j ≡ k → NamedWithin (suc d) s (turning ∷ events) k
unfolding turns after
named_now s d j k events q same = record { earlier = []; later = events; split = refl; soon = omega arith; named = ap (λ o. o.answer) q ∙ ap some same }

-- and one that names another, after which the station comes sooner
named_later : (s : State) (d e j k : ℕ) (events : List Event) → turn s ≡ serve s (some j) → e < d → NamedWithin (suc e) (serve s (some j)).next events k →
    NamedWithin (suc d) s (turning ∷ events) k
unfolding turns after
named_later s d e j k events q h rest =
    record {
      earlier = turning ∷ rest.earlier;
      later = rest.later;
      split = ap {B = List Event} (λ l. turning ∷ l) rest.split;
      soon = omega (arith, rest.soon);
      named = ap (λ (t : Turn). (turn (after t.next rest.earlier)).answer) q ∙ rest.named;
    }

-- a station that waits d stations on is named by one of the next d + 1 turns
within : (events : List Event) (s : State) (d k : ℕ) → waits s k ≡ true → onward d (station_after s.last) ≡ k → d < stations → d < turns events →
    NamedWithin (suc d) s events k
unfolding turns after
within [] s d k t e h enough = absurd (omega arith)
within (announcing j ∷ events) s d k t e h enough =
    let kept = announce_keeps s j k t in
    let r = within events (announce s j).next d k kept.0 (ap (λ (l : ℕ). onward d (station_after l)) kept.1 ∙ e) h enough in
    record { earlier = announcing j ∷ r.earlier; later = r.later; split = ap {B = List Event} (λ l. announcing j ∷ l) r.split; soon = r.soon; named = r.named }
within (turning ∷ events) s d k t e h enough =
    let f = first_waits s.waiting d (station_after s.last) stations k e h t in
    go f (found_named s f.station f.first) (eqb f.station k) refl (within events (serve s (some f.station)).next)
  where
    go : (f : Found s.waiting d (station_after s.last) stations k) → turn s ≡ serve s (some f.station) → (b : Bool) → eqb f.station k ≡ b →
        ((c j : ℕ) → waits (serve s (some f.station)).next j ≡ true → onward c (station_after f.station) ≡ j → c < stations → c < turns events →
        NamedWithin (suc c) (serve s (some f.station)).next events j) →
        NamedWithin (suc d) s (turning ∷ events) k
    go f q true same rest = named_now s d f.station k events q (eqb-true f.station k same)
    go f q false other rest =
        let apart = eqb-false f.station k other in
        let r = f.nearer apart in
        let still = get_or-set_other s.waiting f.station k false false (λ same. apart (sym same)) ∙ t in
        named_later s d r.0 f.station k events q r.1 (rest r.0 k still r.2 (omega (arith, r.1)) (omega (arith, r.1)))

-- ---- sixteen turns are enough, in every state with sixteen marks
pub named_within_sixteen : (s : State) → length s.waiting ≡ stations → (k : ℕ) → waits s k ≡ true → (events : List Event) → 16 ≤ turns events → NamedWithin 16 s events k
named_within_sixteen s long k t events enough =
    let a = ahead k (station_after s.last) (waiting_station s k long t) (after_inside s.last) in
    let w = within events s a.d k t a.comes a.near (omega (arith, a.near)) in
    record { earlier = w.earlier; later = w.later; split = w.split; soon = omega (arith, w.soon, a.near); named = w.named }

-- and so in every state reached
pub served_within_sixteen : ServedWithin 16
served_within_sixteen s r = named_within_sixteen s (sixteen_marks s r)

-- ---- and fewer are not: where all have announced, station 15 waits for the others
-- so many stations announce, the last of them first
unfoldable pub announcements : ℕ → List Event
announcements zero = []
announcements (suc n) = announcing n ∷ announcements n

abbrev all_wait : State
all_wait = after fresh (announcements stations)

abbrev sixteen_turns : List Event
sixteen_turns = replicate stations turning

-- fifteen turns come before the one that names it, as is seen by trying every turn
every : (ℕ → Bool) → ℕ → Bool
every test zero = true
every test (suc n) = test n && every test n

every_below : (test : ℕ → Bool) (n : ℕ) → every test n ≡ true → (i : ℕ) → i < n → test i ≡ true
unfolding every
every_below test zero e i h = below_none (λ j. test j ≡ true) i h
every_below test (suc n) e i h =
    let both = (and-eq-true_iff (test n) (every test n)).0 e in
    below_more (λ j. test j ≡ true) n (every_below test n both.1) both.0 i (omega arith)

fifteen_before : ℕ → Bool
fifteen_before i = not (is_named 15 (turn (after all_wait (take i sixteen_turns))).answer) || leb 15 (turns (take i sixteen_turns))

fifteen_before_lem : every fifteen_before stations ≡ true
unfolding every fifteen_before announcements after turns announce turn first_waiting
fifteen_before_lem = refl

named_late : (n : ℕ) (r : NamedWithin n all_wait sixteen_turns 15) → 15 ≤ turns r.earlier
unfolding fifteen_before
named_late n r =
    let i = length r.earlier in
    let long : length sixteen_turns ≡ i + length (turning ∷ r.later) = ap length r.split ∙ length-append r.earlier (turning ∷ r.later) in
    let same : take i sixteen_turns ≡ r.earlier = ap (take i) r.split ∙ take-append_seam r.earlier (turning ∷ r.later) in
    let named : is_named 15 (turn (after all_wait (take i sixteen_turns))).answer ≡ true =
    ap (λ (l : List Event). is_named 15 (turn (after all_wait l)).answer) same ∙ ap (is_named 15) r.named in
    let tried : fifteen_before i ≡ true = every_below fifteen_before stations fifteen_before_lem i (omega arith) in
    subst (λ (l : List Event). 15 ≤ turns l) same (leb-true 15 (turns (take i sixteen_turns)) (rw named at tried))

pub no_fewer_than_sixteen : (n : ℕ) → ServedWithin n → 16 ≤ n
unfolding announcements after turns announce
no_fewer_than_sixteen n served =
    by_contra 16 n (λ few.
    let r = served all_wait (record { events = announcements stations; leads = refl }) 15 refl sixteen_turns (omega arith) in
    omega (arith, named_late n r, r.soon))
