-- The answer is made of what the two searches answer: what a search says of the tests of its row. Assumes nothing.
use mathlib.Core.Bool.{Bool, true, false}
use mathlib.Core.List.{List, [], ◌∷◌}
use mathlib.Core.Option.{Option, none, some}
use mathlib.Core.Path.{◌≡◌, refl, sym, ap, ◌∙◌}
use Prim.Native.Nat.{ℕ, ◌≤◌}
use borrow.Author.Tests.{ltb-false}
use lib.Dec.{eqb, ltb}
use lib.IntN.{ℤ}
use lib.Ieee.{Float}
use lib.ListN.{length}
use Rattle.bspline.specs.Limits.{greatest_factor, most_values}
use Rattle.bspline.specs.Refusals.{Test, ◌when◌, refusal_1, refusal_2, refusal_7, outside, judged}
use Rattle.std.proofs.Common.{Ok}
use Rattle.onset.specs.Answers.{detected}
use Rattle.onset.specs.declared.Detection.{Detection}
use Rattle.onset.specs.declared.Detection.TheVariants.{Onset, Quiet}
use Rattle.onset.specs.Outcomes.{Answer as Search, onset, quiet, refusal as unsearched, answer_at, find_onset}
use Rattle.onset.specs.Runs.{first_run}
use Rattle.delay.specs.Outcomes.{Answer, refusal, exact_factor, refusal_19, difference, find_delay, no_delay}

-- the refusal that a search answers, or else what comes after it
abbrev pub unless : {A : Type 0} → (ℕ → A) → Search → A → A
unless refuse (onset x h) after = after
unless refuse (quiet h) after = after
unless refuse (unsearched k) after = refuse k

-- a search that is not refused goes on to what comes after it
pub not_refused : {A : Type 0} (refuse : ℕ → A) (d : Detection) (after : A) → unless refuse (detected (Ok d)) after ≡ after
not_refused refuse (Onset x h) after = refl
not_refused refuse (Quiet h) after = refl

-- what two searches come to
abbrev pub paired : ℕ → Search → Search → Answer
paired m a b = unless refusal a (unless refusal b (judged (refusal_19 m ∷ []) refusal (difference a b)))

-- ---- the tests of one row
module _ (values : List ℤ) (m : ℕ) (t : ℤ) where
  pub search_tests : {A : Type 0} (refuse : ℕ → A) (after : A) →
      judged (refusal_1 (length values) ∷ refusal_2 most_values (length values) ∷ refusal_7 m ∷ []) refuse after ≡ unless refuse (find_onset values m t) after
  unfolding find_onset
  search_tests refuse after = go (eqb (length values) 0) (ltb most_values (length values)) (outside greatest_factor m) (first_run t values)
    where
      go : (a b c : Bool) (place : Option ℕ) →
          judged ((1 when a) ∷ (2 when b) ∷ (7 when c) ∷ []) refuse after
          ≡ unless refuse (judged ((1 when a) ∷ (2 when b) ∷ (7 when c) ∷ []) unsearched (answer_at m values place)) after
      go true b c place = refl
      go false true c place = refl
      go false false true place = refl
      go false false false none = refl
      go false false false (some p) = refl

-- a row in which an onset is found is not too long
pub found_short : (values : List ℤ) (m : ℕ) (t : ℤ) (x h : Float) → onset x h ≡ find_onset values m t → length values ≤ most_values
found_short values m t x h e =
    ltb-false most_values (length values)
    (go (eqb (length values) 0) (ltb most_values (length values)) (outside greatest_factor m)
    (search_tests values m t (λ (k : ℕ). true) false ∙ sym (ap (λ (a : Search). unless (λ (k : ℕ). true) a false) e)))
  where
    go : (a b c : Bool) → judged ((1 when a) ∷ (2 when b) ∷ (7 when c) ∷ []) (λ (k : ℕ). true) false ≡ false → b ≡ false
    go true b c e = cc
    go false true c e = cc
    go false false c e = refl

-- ---- the tests of both rows
pub by_searches : (first second : List ℤ) (m : ℕ) (t : ℤ) → find_delay first second m t ≡ paired m (find_onset first m t) (find_onset second m t)
unfolding find_delay
by_searches first second m t =
    go (eqb (length first) 0) (ltb most_values (length first)) (outside greatest_factor m) (eqb (length second) 0) (ltb most_values (length second)) (refusal_19 m)
    (difference (find_onset first m t) (find_onset second m t))
    ∙ search_tests first m t refusal _
    ∙ ap (unless refusal (find_onset first m t)) (search_tests second m t refusal _)
  where
    go : (a b c d e : Bool) (f : Test) (after : Answer) →
        judged ((1 when a) ∷ (2 when b) ∷ (7 when c) ∷ (1 when d) ∷ (2 when e) ∷ f ∷ []) refusal after
        ≡ judged ((1 when a) ∷ (2 when b) ∷ (7 when c) ∷ []) refusal (judged ((1 when d) ∷ (2 when e) ∷ (7 when c) ∷ []) refusal (judged (f ∷ []) refusal after))
    go true b c d e f after = refl
    go false true c d e f after = refl
    go false false true d e f after = refl
    go false false false true e f after = refl
    go false false false false true f after = refl
    go false false false false false f after = refl

-- an exact factor passes its test
pub exact_judged : (m : ℕ) (after : Answer) → exact_factor m ≡ true → judged (refusal_19 m ∷ []) refusal after ≡ after
exact_judged m after e = simp e

-- ---- where there is no delay
passed_on : (test : Test) → judged (test ∷ []) refusal (refusal 20) ≡ refusal (judged (test ∷ []) (λ (k : ℕ). k) 20)
passed_on (k when true) = refl
passed_on (k when false) = refl

-- a quiet first row
pub quiet_paired : (m : ℕ) (h : Float) (b : Search) → paired m (quiet h) b ≡ refusal (unless (λ (k : ℕ). k) b (no_delay m))
quiet_paired m h (onset y g) = passed_on (refusal_19 m)
quiet_paired m h (quiet g) = passed_on (refusal_19 m)
quiet_paired m h (unsearched k) = refl

-- an inexact factor
pub inexact_paired : (m : ℕ) (x h : Float) (b : Search) → exact_factor m ≡ false → paired m (onset x h) b ≡ refusal (unless (λ (k : ℕ). k) b (no_delay m))
inexact_paired m x h (onset y g) e = simp e
inexact_paired m x h (quiet g) e = simp e
inexact_paired m x h (unsearched k) e = refl
