-- The scan for the first run. Where a value misses the threshold, no run that has this value starts, so that the scan goes on behind it.
-- Assumes nothing.
use mathlib.Core.List.{List}
use mathlib.Core.Option.{some, none}
use mathlib.Core.Path.{◌≡◌, subst}
use Prim.Native.Nat.{ℕ, ◌+◌, ◌-◌, ◌≤◌, ◌<◌, zero-le}
use native.Mathlib.Decide.{dec_le, dec_lt}
use native.Mathlib.Omega.{arith}
use lib.IntN.{ℤ}
use lib.ListN.{length}
use lib.Signed.{◌≤ℤ◌, ◌<ℤ◌, clash_ℤ}
use Rattle.bspline.specs.Lists.{at}
use Rattle.onset.specs.Runs.{run_length, first_run, Run}
use Rattle.onset.proofs.FirstRuns.{run_first, run_none}

-- no run starts before a place
pub record Scanned (t : ℤ) (l : List ℤ) (place : ℕ) : Type 0 where
  pub inside : place ≤ length l
  pub none_before : (p : ℕ) → p < place → Run t l p → ⊥

-- of the values that a run from a place on would have, those behind the first `left` reach the threshold
pub record Reached (t : ℤ) (l : List ℤ) (place left : ℕ) : Type 0 where
  pub few : left ≤ run_length
  pub reach : (i : ℕ) → left ≤ i → i < run_length → t ≤ℤ at l (place + i)

pub scanned_none : (t : ℤ) (l : List ℤ) → Scanned t l 0
scanned_none t l = record { inside = zero-le; none_before = λ p h. absurd (omega arith) }

pub reached_none : (t : ℤ) (l : List ℤ) (place : ℕ) → Reached t l place run_length
reached_none t l place = record { few = omega arith; reach = λ i h k. absurd (omega arith) }

pub reached_more : {t : ℤ} {l : List ℤ} {place left : ℕ} → Reached t l place left → 0 < left → t ≤ℤ at l (place + (left - 1)) → Reached t l place (left - 1)
reached_more {t} {l} {place} {left} r more e = record { few = omega (arith, r.few); reach = each }
  where
    each : (i : ℕ) → left - 1 ≤ i → i < run_length → t ≤ℤ at l (place + i)
    each i h k = go (dec_le left i)
      where
        go : Dec (left ≤ i) → t ≤ℤ at l (place + i)
        go (yes y) = r.reach i y k
        go (no n) = let same : left - 1 ≡ i = omega (arith, n) in subst (λ (j : ℕ). t ≤ℤ at l (place + j)) same e

-- a value misses the threshold
pub scanned_miss : {t : ℤ} {l : List ℤ} {place : ℕ} (i : ℕ) → Scanned t l place → place + run_length ≤ length l → i < run_length → at l (place + i) <ℤ t →
    Scanned t l (place + (i + 1))
scanned_miss {t} {l} {place} i s room h e = record { inside = omega arith; none_before = before }
  where
    before : (p : ℕ) → p < place + (i + 1) → Run t l p → ⊥
    before p k r = go (dec_lt p place)
      where
        go : Dec (p < place) → ⊥
        go (yes y) = s.none_before p y r
        go (no n) =
            let same : p + (place + i - p) ≡ place + i = omega (arith, n) in
            clash_ℤ e (subst (λ (j : ℕ). t ≤ℤ at l j) same (r.reach (place + i - p) (omega (arith, n))))

-- all eight values reach it
pub scan_found : {t : ℤ} {l : List ℤ} {place left : ℕ} → Scanned t l place → place + run_length ≤ length l → Reached t l place left → left ≤ 0 → first_run t l ≡ some place
scan_found {t} {l} {place} s room r done = run_first t l place (record { run = record { inside = room; reach = λ i. r.reach i (omega arith) }; none_before = s.none_before })

-- fewer than eight values are left
pub scan_ended : {t : ℤ} {l : List ℤ} {place : ℕ} → Scanned t l place → length l - place < run_length → first_run t l ≡ none
scan_ended {t} {l} {place} s few = run_none t l (record { nowhere = λ p r. s.none_before p (omega (arith, r.inside, s.inside)) r })
