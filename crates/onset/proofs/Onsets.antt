-- What the search answers for a row that is accepted, and what its answers mean. Assumes nothing.
use mathlib.Core.List.{List}
use mathlib.Core.Option.{some, none}
use mathlib.Core.Path.{◌≡◌, refl, ap, ◌∙◌}
use Prim.Native.Nat.{ℕ, ◌^◌, ◌≤◌, ◌<◌}
use native.Mathlib.Omega.{arith}
use borrow.Author.Tests.{le-ltb, ne_eqb, eqb-false, ltb-false}
use mathlib.Core.Bool.{false}
use Rattle.std.specs.Bool.{◌==◌, nat_lt}
use lib.Dec.{lit≤}
use lib.IntN.{ℤ, pos, nat_abs}
use lib.Ieee.{binary64}
use lib.ListN.{length}
use mir.Syntax.{w32}
use mir.Val.{SFits}
use Rattle.integers.proofs.Linear.{reify, read, show}
use Rattle.floats.specs.Fractions.{Exactly, Nearest}
use Rattle.floats.proofs.Nearest.{quotient_nearest}
use Rattle.floats.proofs.Quotients.{quotient_exact}
use Rattle.bspline.specs.Limits.{greatest_factor, most_values}
use Rattle.bspline.specs.Lists.{at}
use Rattle.bspline.specs.Refusals.{outside}
use Rattle.bspline.proofs.Refusals.{inside, one_to}
use Rattle.onset.specs.Measures.{position, height}
use Rattle.onset.specs.Outcomes.{onset, quiet, answer_at, find_onset, OnsetMeasured, QuietMeasured}
use Rattle.onset.specs.Runs.{first_run, greatest, Run, FirstRun, NoRun}
use Rattle.onset.proofs.FirstRuns.{first_run_lem, no_run, run_first, run_none}

-- a row and a factor that are not refused
pub record Accepted (values : List ℤ) (m : ℕ) : Type 0 where
  pub some_values : 0 < length values
  pub few_values : length values ≤ most_values
  pub some_steps : 0 < m
  pub few_steps : m ≤ greatest_factor

-- by the tests that do not refuse them
pub accepted_by : (values : List ℤ) (m : ℕ) → (length values == 0) ≡ false → nat_lt most_values (length values) ≡ false → outside greatest_factor m ≡ false →
    Accepted values m
accepted_by values m filled few factor =
    let steps = one_to greatest_factor m factor in
    record { some_values = omega (arith, eqb-false (length values) 0 filled); few_values = omega (arith, ltb-false most_values (length values) few); some_steps = steps.0; few_steps = steps.1 }

-- ---- the answer, by the place
pub accepted_answer : (values : List ℤ) (m : ℕ) (t : ℤ) → Accepted values m → find_onset values m t ≡ answer_at m values (first_run t values)
unfolding find_onset
accepted_answer values m t a =
    rw (ne_eqb (length values) 0 (λ e. omega (arith, a.some_values)), le-ltb most_values (length values) a.few_values, inside greatest_factor m a.some_steps a.few_steps)

-- an onset is answered if a first run starts at a place
pub onset_answered : (values : List ℤ) (m : ℕ) (t : ℤ) (place : ℕ) → Accepted values m → FirstRun t values place →
    find_onset values m t ≡ onset (position m place) (height (at values place))
onset_answered values m t place a f = accepted_answer values m t a ∙ ap (answer_at m values) (run_first t values place f)

-- a row is quiet if no run starts
pub quiet_answered : (values : List ℤ) (m : ℕ) (t : ℤ) → Accepted values m → NoRun t values → find_onset values m t ≡ quiet (height (greatest values))
quiet_answered values m t a f = accepted_answer values m t a ∙ ap (answer_at m values) (run_none t values f)

-- so is every row of up to seven values
pub short_quiet : (values : List ℤ) (m : ℕ) (t : ℤ) → 0 < length values → length values ≤ 7 → 0 < m → m ≤ greatest_factor →
    find_onset values m t ≡ quiet (height (greatest values))
short_quiet values m t long short steps few =
    quiet_answered values m t (record { some_values = long; few_values = omega arith; some_steps = steps; few_steps = few })
    (record { nowhere = λ p r. omega (arith, r.inside) })

-- ---- what position and height are
narrow : (v : ℤ) → SFits w32 v → nat_abs v < 2 ^ 53
narrow v f = show (simp reify tt) (omega (arith, read f (simp reify tt)))

-- a height is exactly a 256th of the value
pub height_exact : (v : ℤ) → SFits w32 v → Exactly (height v) v 256
unfolding height
height_exact v f = quotient_exact v 256 8 (narrow v f) refl (lit≤ tt)

-- a position is nearest to the place over the factor, and exactly that at a factor that is a power of two
module _ (values : List ℤ) (m : ℕ) (t : ℤ) (a : Accepted values m) (p : ℕ) (r : Run t values p) where
  pub position_nearest : Nearest binary64 (position m p) p m
  unfolding position
  position_nearest = quotient_nearest p m (omega (arith, r.inside, a.few_values)) a.some_steps (omega (arith, a.few_steps))

  pub position_exact : (j : ℕ) → m ≡ 2 ^ j → Exactly (position m p) (pos p) m
  unfolding position
  position_exact j e = quotient_exact (pos p) m j (omega (arith, r.inside, a.few_values)) e (omega (arith, a.few_steps))

-- ---- what the answers mean
-- an onset at the place of the first run, whose value has 32 bits
pub onset_measured : (values : List ℤ) (m : ℕ) (t : ℤ) (p : ℕ) → Accepted values m → first_run t values ≡ some p → SFits w32 (at values p) →
    OnsetMeasured values m t (position m p) (height (at values p))
onset_measured values m t p a e f =
    let first = first_run_lem t values p e in
    record {
      place = p;
      first = first;
      position_nearest = position_nearest values m t a p first.run;
      position_exact = position_exact values m t a p first.run;
      height_exact = height_exact (at values p) f;
    }

-- a quiet row, whose greatest value has 32 bits
pub quiet_measured : (values : List ℤ) (t : ℤ) → first_run t values ≡ none → SFits w32 (greatest values) → QuietMeasured values t (height (greatest values))
quiet_measured values t e f = record { no_run = no_run t values e; height_exact = height_exact (greatest values) f }
