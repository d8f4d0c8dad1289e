-- Which station comes how many stations after another, going round, and the first that waits in that order. Assumes nothing.
use mathlib.Core.Bool.{Bool, true, false, cond}
use mathlib.Core.List.{List}
use mathlib.Core.Option.{none, some, none-ne-some, some-injective}
use mathlib.Core.Path.{◌≡◌, refl, sym, ap, subst, ◌∙◌}
use Prim.Native.Nat.{ℕ, zero, suc, ◌+◌, ◌-◌, ◌%◌, ◌≤◌, ◌<◌}
use native.Mathlib.Decide.{dec_le, dec_lt}
use native.Mathlib.Omega.{arith}
use borrow.Author.Tests.{lt-ltb, le-ltb}
use lib.ListN.{get_or}
use Rattle.turns.specs.States.{stations, station_after, first_waiting}

-- the station that comes d stations after one
abbrev pub onward : ℕ → ℕ → ℕ
onward zero k = k
onward (suc d) k = onward d (station_after k)

-- ---- every station comes less than sixteen stations after any other
after_below : (k : ℕ) → k < stations - 1 → station_after k ≡ k + 1
after_below k h = simp (lt-ltb k (stations - 1) h)

after_last : (k : ℕ) → stations - 1 ≤ k → station_after k ≡ 0
after_last k h = simp (le-ltb k (stations - 1) h)

pub after_inside : (k : ℕ) → station_after k < stations
after_inside k = go (dec_lt k (stations - 1))
  where
    go : Dec (k < stations - 1) → station_after k < stations
    go (yes y) = omega (arith, after_below k y)
    go (no n) = omega (arith, after_last k (omega (arith, n)))

-- before it goes round
onward_up : (d k : ℕ) → k + d < stations → onward d k ≡ k + d
onward_up zero k h = omega arith
onward_up (suc d) k h = ap (onward d) (after_below k (omega arith)) ∙ onward_up d (k + 1) (omega arith) ∙ omega arith

-- and after
onward_round : (d k j : ℕ) → k < stations → j < stations → k + d ≡ stations + j → onward d k ≡ j
onward_round zero k j h b e = absurd (omega arith)
onward_round (suc d) k j h b e = go (dec_lt k (stations - 1)) (λ y. onward_round d (k + 1) j (omega (arith, y)) b (omega arith))
  where
    go : Dec (k < stations - 1) → (k < stations - 1 → onward d (k + 1) ≡ j) → onward d (station_after k) ≡ j
    go (yes y) rest = ap (onward d) (after_below k y) ∙ rest y
    go (no n) rest = ap (onward d) (after_last k (omega (arith, n))) ∙ onward_up d 0 (omega (arith, n)) ∙ omega (arith, n)

-- so it is the sum modulo 16
onward_modulo : (d k : ℕ) → d < stations → k < stations → onward d k ≡ (k + d) % stations
onward_modulo d k h b = go (dec_lt (k + d) stations)
  where
    go : Dec (k + d < stations) → onward d k ≡ (k + d) % stations
    go (yes y) = onward_up d k y ∙ omega arith
    go (no n) = onward_round d k (k + d - stations) b (omega (arith, n)) (omega (arith, n)) ∙ omega (arith, n)

pub after_modulo : (d k : ℕ) → d < stations → k < stations → onward d (station_after k) ≡ (k + 1 + d) % stations
after_modulo d k h b = onward_modulo d (station_after k) h (after_inside k) ∙ go (dec_lt k (stations - 1))
  where
    go : Dec (k < stations - 1) → (station_after k + d) % stations ≡ (k + 1 + d) % stations
    go (yes y) = ap (λ (j : ℕ). (j + d) % stations) (after_below k y)
    go (no n) = ap (λ (j : ℕ). (j + d) % stations) (after_last k (omega (arith, n))) ∙ omega (arith, n)

-- a station comes d stations after another
pub record Ahead (k from : ℕ) : Type 0 where
  pub d : ℕ
  pub near : d < stations
  pub comes : onward d from ≡ k

pub ahead : (k from : ℕ) → k < stations → from < stations → Ahead k from
ahead k from h f = go (dec_le from k)
  where
    go : Dec (from ≤ k) → Ahead k from
    go (yes y) = record { d = k - from; near = omega arith; comes = onward_up (k - from) from (omega arith) ∙ omega arith }
    go (no n) =
        record { d = stations + k - from; near = omega (arith, n); comes = onward_round (stations + k - from) from k f h (omega arith) }

-- ---- the first that waits
-- where a station waits d stations on, one is found, and if it is another the station comes less than d stations after the next
pub record Found (waiting : List Bool) (d from n k : ℕ) : Type 0 where
  pub station : ℕ
  pub first : first_waiting waiting from n ≡ some station
  pub nearer : (station ≡ k → ⊥) → (e : ℕ) × (e < d) × (onward e (station_after station) ≡ k)

-- one station is looked at, and waits or does not
found_more : (waiting : List Bool) (d from n k : ℕ) (b : Bool) → get_or waiting from false ≡ b → onward d (station_after from) ≡ k →
    Found waiting d (station_after from) n k → Found waiting (suc d) from (suc n) k
unfolding first_waiting
found_more waiting d from n k true w e rest = record { station = from; first = rw w; nearer = λ other. (d, omega arith, e) }
found_more waiting d from n k false w e rest =
    record {
      station = rest.station;
      first = rw (w, rest.first);
      nearer = λ other. let r = rest.nearer other in (r.0, omega (arith, r.1), r.2);
    }

pub first_waits : (waiting : List Bool) (d from n k : ℕ) → onward d from ≡ k → d < n → get_or waiting k false ≡ true → Found waiting d from n k
unfolding first_waiting
first_waits waiting d from zero k e h t = absurd (omega arith)
first_waits waiting zero from (suc n) k e h t = record { station = from; first = rw (e, t); nearer = λ other. absurd (other e) }
first_waits waiting (suc d) from (suc n) k e h t =
    found_more waiting d from n k (get_or waiting from false) refl e (first_waits waiting d (station_after from) n k e (omega arith) t)

-- whoever is found waits, and comes some stations on, and none before it waits
pub record Place (waiting : List Bool) (from n k : ℕ) : Type 0 where
  pub d : ℕ
  pub near : d < n
  pub comes : onward d from ≡ k
  pub waits : get_or waiting k false ≡ true
  pub skipped : (e : ℕ) → e < d → get_or waiting (onward e from) false ≡ false

pub found_place : (waiting : List Bool) (from n k : ℕ) → first_waiting waiting from n ≡ some k → Place waiting from n k
unfolding first_waiting
found_place waiting from zero k e = absurd (none-ne-some k e)
found_place waiting from (suc n) k e = go (get_or waiting from false) refl e (found_place waiting (station_after from) n k)
  where
    go : (b : Bool) → get_or waiting from false ≡ b → cond b (some from) (first_waiting waiting (station_after from) n) ≡ some k →
        (first_waiting waiting (station_after from) n ≡ some k → Place waiting (station_after from) n k) → Place waiting from (suc n) k
    go true w f rest =
        let same = some-injective from k f in
        record { d = 0; near = omega arith; comes = same; waits = ap (λ (j : ℕ). get_or waiting j false) (sym same) ∙ w; skipped = λ e h. absurd (omega arith) }
    go false w f rest =
        let p = rest f in record { d = suc p.d; near = omega (arith, p.near); comes = p.comes; waits = p.waits; skipped = before p }
      where
        before : (p : Place waiting (station_after from) n k) (e : ℕ) → e < suc p.d → get_or waiting (onward e from) false ≡ false
        before p zero h = w
        before p (suc e) h = p.skipped e (omega arith)

-- it is a station
onward_inside : (d k : ℕ) → k < stations → onward d k < stations
onward_inside zero k h = h
onward_inside (suc d) k h = onward_inside d (station_after k) (after_inside k)

pub found_waits : (waiting : List Bool) (from n k : ℕ) → from < stations → first_waiting waiting from n ≡ some k → (k < stations) × (get_or waiting k false ≡ true)
found_waits waiting from n k h e =
    let p = found_place waiting from n k e in
    (subst (λ (j : ℕ). j < stations) p.comes (onward_inside p.d from h), p.waits)

-- the same as the code reads it: whoever the search names is a place in the array
pub found_inside : (waiting : List Bool) (from n k : ℕ) → from < stations → some k ≡ first_waiting waiting from n → k < stations
found_inside waiting from n k h e = (found_waits waiting from n k h (sym e)).0

-- ---- one step of the search, and its end
pub first_step : (waiting : List Bool) (k n : ℕ) → 0 < n →
    first_waiting waiting k n ≡ cond (get_or waiting k false) (some k) (first_waiting waiting (station_after k) (n - 1))
unfolding first_waiting
first_step waiting k zero more = absurd (omega arith)
first_step waiting k (suc n) more = let same : suc n - 1 ≡ n = omega arith in rw same refl

pub first_none : (waiting : List Bool) (k n : ℕ) → n ≤ 0 → first_waiting waiting k n ≡ none
unfolding first_waiting
first_none waiting k zero done = refl
first_none waiting k (suc n) done = absurd (omega arith)
