-- Whom a turn names: the first station that waits after the one served last, and nobody only if none waits. Assumes nothing.
use mathlib.Core.Bool.{Bool, true, false, false≢true}
use mathlib.Core.Logic.{◌↔◌}
use mathlib.Core.Option.{Option, none, some, none-ne-some}
use mathlib.Core.Path.{◌≡◌, refl, sym, ap, ◌∙◌}
use Prim.Native.Nat.{ℕ, ◌<◌}
use native.Mathlib.Omega.{arith}
use Rattle.turns.specs.Outcomes.{Turn, serve, turn}
use Rattle.turns.specs.States.{State, stations, waits, station_after, FirstAfter}
use Rattle.turns.proofs.Cases.{found, turn_cases}
use Rattle.turns.proofs.GoingRound.{after_inside, after_modulo, ahead, first_waits, found_place, found_waits}

-- a station that is found is named
pub found_named : (s : State) (k : ℕ) → found s ≡ some k → turn s ≡ serve s (some k)
unfolding turn
found_named s k e = ap (serve s) e

-- and one that is named was found
named_found : (s : State) (k : ℕ) → (turn s).answer ≡ some k → found s ≡ some k
named_found s k =
    turn_cases (λ (t : Turn). t.answer ≡ some k → found s ≡ some k) s (λ e n. absurd (none-ne-some k n)) (λ j e n. e ∙ n)

-- whoever is named is a station and waits
pub named_waits : (s : State) (k : ℕ) → (turn s).answer ≡ some k → (k < stations) × (waits s k ≡ true)
named_waits s k e = found_waits s.waiting (station_after s.last) stations k (after_inside s.last) (named_found s k e)

-- it is the first that waits after the one served last
pub named_first : (s : State) (k : ℕ) → s.last < stations → (turn s).answer ≡ some k → FirstAfter s k
named_first s k h e =
    let p = found_place s.waiting (station_after s.last) stations k (named_found s k e) in
    record {
      steps = p.d;
      near = p.near;
      comes = sym (after_modulo p.d s.last p.near h) ∙ p.comes;
      waiting = p.waits;
      skipped = λ d b. ap (waits s) (sym (after_modulo d s.last (omega (arith, p.near)) h)) ∙ p.skipped d b;
    }

-- a turn names nobody exactly if no station waits
pub nobody_waits : (s : State) → ((turn s).answer ≡ none) ↔ ((k : ℕ) → k < stations → waits s k ≡ false)
nobody_waits s = (λ e k h. quiet e k h (waits s k) refl, λ q. nobody q (turn s).answer refl)
  where
    quiet : (turn s).answer ≡ none → (k : ℕ) → k < stations → (b : Bool) → waits s k ≡ b → waits s k ≡ false
    quiet e k h false w = w
    quiet e k h true w =
        let a = ahead k (station_after s.last) h (after_inside s.last) in
        let f = first_waits s.waiting a.d (station_after s.last) stations k a.comes a.near w in
        absurd (none-ne-some f.station (sym e ∙ ap (λ (t : Turn). t.answer) (found_named s f.station f.first)))

    nobody : ((k : ℕ) → k < stations → waits s k ≡ false) → (o : Option ℕ) → (turn s).answer ≡ o → (turn s).answer ≡ none
    nobody q none e = e
    nobody q (some k) e = let n = named_waits s k e in absurd (false≢true (sym (q k n.0) ∙ n.1))
