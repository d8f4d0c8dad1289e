-- What the answer is where both rows have an onset, with the rows exchanged, and of a row against itself. Assumes nothing.
use mathlib.Core.Bool.{Bool, true, false}
use mathlib.Core.List.{List, [], ◌∷◌}
use mathlib.Core.Option.{Option, none, some}
use mathlib.Core.Path.{◌≡◌, refl, ap, sym, ◌∙◌}
use Prim.Native.Nat.{ℕ, ◌≤◌, ◌<◌}
use native.Mathlib.Decide.{dec_lt}
use native.Mathlib.Omega.{arith}
use borrow.Author.Tests.{le-ltb, ne_eqb}
use lib.IntN.{ℤ, pos}
use lib.Ieee.{Float, fin, binary64, sub, neg}
use lib.ListN.{length}
use Rattle.bspline.specs.Limits.{greatest_factor, most_values}
use Rattle.bspline.specs.Refusals.{Test, ◌when◌, outside, judged}
use Rattle.onset.specs.Outcomes.{Answer as Search, onset, quiet, refusal as unsearched, answer_at, find_onset}
use Rattle.onset.specs.Runs.{first_run, FirstRun}
use Rattle.delay.specs.Outcomes.{Answer, delay, refusal, exact_factor, refusal_19, find_delay, DelayMeasured, exchanged, plain}
use Rattle.delay.proofs.Opposites.{sub_opposite}
use Rattle.delay.proofs.Searches.{paired, by_searches, exact_judged}

-- ---- where both searches have found an onset, the delay is the difference of the positions, beside the heights that they have answered
pub both_found : (first second : List ℤ) (m : ℕ) (t : ℤ) (x h y g : Float) → exact_factor m ≡ true →
    find_onset first m t ≡ onset x h → find_onset second m t ≡ onset y g → find_delay first second m t ≡ delay (sub binary64 x y) h g
both_found first second m t x h y g e one two = by_searches first second m t ∙ rw (one, two) (exact_judged m (delay (sub binary64 x y) h g) e)

-- ---- a row against itself
one_first : (t : ℤ) (values : List ℤ) (p q : ℕ) → FirstRun t values p → FirstRun t values q → p ≡ q
one_first t values p q f g = go (dec_lt p q) (dec_lt q p)
  where
    go : Dec (p < q) → Dec (q < p) → p ≡ q
    go (yes h) e = absurd (g.none_before p h f.run)
    go (no e) (yes h) = absurd (f.none_before q h g.run)
    go (no e) (no h) = omega arith

-- it has the delay +0
pub itself : (values : List ℤ) (m : ℕ) (t : ℤ) (d h g : Float) → DelayMeasured values values m t d h g → d ≡ fin false 0 (pos 0)
itself values m t d h g measured = measured.delay_zero (one_first t values measured.first_place measured.second_place measured.first_run measured.second_run)

-- ---- the rows exchanged
-- behind a test that is the same for both
tested_alike : (test : Test) (a b : Answer) → plain b ≡ plain (exchanged a) →
    plain (judged (test ∷ []) refusal b) ≡ plain (exchanged (judged (test ∷ []) refusal a))
tested_alike (k when true) a b e = refl
tested_alike (k when false) a b e = e

-- of two searches, which are refused for the same reason if both are
paired_exchanged : (m : ℕ) (a b : Search) → ((k l : ℕ) → a ≡ unsearched k → b ≡ unsearched l → l ≡ k) → plain (paired m b a) ≡ plain (exchanged (paired m a b))
paired_exchanged m (onset x h) (onset y g) same =
    tested_alike (refusal_19 m) _ _ (ap (λ (d : Float). delay d g h) (sub_opposite binary64 x y))
paired_exchanged m (onset x h) (quiet g) same = tested_alike (refusal_19 m) _ _ refl
paired_exchanged m (onset x h) (unsearched l) same = refl
paired_exchanged m (quiet h) (onset y g) same = tested_alike (refusal_19 m) _ _ refl
paired_exchanged m (quiet h) (quiet g) same = tested_alike (refusal_19 m) _ _ refl
paired_exchanged m (quiet h) (unsearched l) same = refl
paired_exchanged m (unsearched k) (onset y g) same = refl
paired_exchanged m (unsearched k) (quiet g) same = refl
paired_exchanged m (unsearched k) (unsearched l) same = ap refusal (same k l refl refl)

-- and so of two rows
rows_exchanged : (first second : List ℤ) (m : ℕ) (t : ℤ) →
    ((k l : ℕ) → find_onset first m t ≡ unsearched k → find_onset second m t ≡ unsearched l → l ≡ k) →
    plain (find_delay second first m t) ≡ plain (exchanged (find_delay first second m t))
rows_exchanged first second m t same =
    ap plain (by_searches second first m t)
    ∙ paired_exchanged m (find_onset first m t) (find_onset second m t) same
    ∙ sym (ap (λ (a : Answer). plain (exchanged a)) (by_searches first second m t))

-- a row that is neither empty nor too long is refused for the factor
only_factor : (values : List ℤ) (m : ℕ) (t : ℤ) (k : ℕ) → 0 < length values → length values ≤ most_values → find_onset values m t ≡ unsearched k → k ≡ 7
unfolding find_onset
only_factor values m t k held few e =
    go (outside greatest_factor m) (first_run t values)
    (rw (ne_eqb (length values) 0 (λ z. omega (arith, held)), le-ltb most_values (length values) few) at e)
  where
    go : (c : Bool) (place : Option ℕ) → judged ((7 when c) ∷ []) unsearched (answer_at m values place) ≡ unsearched k → k ≡ 7
    go true place e = cc
    go false none e = cc
    go false (some p) e = cc

pub swapped : (first second : List ℤ) (m : ℕ) (t : ℤ) → 0 < length first → length first ≤ most_values → 0 < length second → length second ≤ most_values →
    plain (find_delay second first m t) ≡ plain (exchanged (find_delay first second m t))
swapped first second m t held few held' few' =
    rows_exchanged first second m t (λ k l e f. only_factor second m t l held' few' f ∙ sym (only_factor first m t k held few e))

-- and of two rows that have a delay nothing is asked
pub swapped_delay : (first second : List ℤ) (m : ℕ) (t : ℤ) (d h g : Float) → find_delay first second m t ≡ delay d h g →
    plain (find_delay second first m t) ≡ plain (delay (neg d) g h)
swapped_delay first second m t d h g e = rows_exchanged first second m t (λ k l p q. cc (never k p)) ∙ ap (λ (a : Answer). plain (exchanged a)) e
  where
    never : (k : ℕ) → find_onset first m t ≡ unsearched k → refusal k ≡ delay d h g
    never k p = sym (ap (λ (a : Search). paired m a (find_onset second m t)) p) ∙ sym (by_searches first second m t) ∙ e
