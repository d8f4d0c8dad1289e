-- The answer is made of what the two searches answer.
use Rattle.std.proofs.Common.{List, ◌≡◌, ℕ, ℤ, to_z, of_z, sym, ap, subst, ◌∙◌, true, false, Ok}
use Rattle.std.proofs.lemmas.Result.{err_from_is_err_and}
use mir.Facts.{to_z-of_z}
use mir.Syntax.{w32}
use mir.Val.{SFits}
use lib.Ieee.{Float, binary64, sub}
use Rattle.onset.specs.Answers.{detected}
use Rattle.onset.specs.declared.Detection.{Detection}
use Rattle.onset.specs.declared.Detection.TheVariants.{Onset, Quiet}
use Rattle.onset.specs.Outcomes.{Answer as Search, onset, refusal as unsearched, find_onset, Measured as SearchMeasured}
use Rattle.delay.specs.Outcomes.{refusal, exact_factor, difference, find_delay, no_delay, unmeasured, DelayMeasured}
use Rattle.delay.proofs.Measured.{delay_measured}
use Rattle.delay.proofs.Searches.{unless, not_refused, paired, search_tests, found_short, by_searches, exact_judged, quiet_paired, inexact_paired}
use Rattle.delay.proofs.between.Goals as goal

-- a threshold as it is handed to the search, by its bits
abbrev handed : ℤ → ℤ
handed t = to_z w32 (of_z w32 t)

-- what a search of a row has answered, for the threshold itself
module _ (values : List ℤ) (m : ℕ) (t : ℤ) (f : SFits w32 t) where
  found : {a : Search} → a ≡ find_onset values m (handed t) → a ≡ find_onset values m t
  found e = e ∙ ap (find_onset values m) (to_z-of_z f)

  -- by the case that it is, and what that case means
  found_case : {d d' : Detection} → d ≡ d' → detected (Ok d) ≡ find_onset values m (handed t) → detected (Ok d') ≡ find_onset values m t
  found_case same e = sym (ap (λ (d : Detection). detected (Ok d)) same) ∙ found e

  measured_case : {d d' : Detection} → d ≡ d' → SearchMeasured values m (handed t) (detected (Ok d)) → SearchMeasured values m t (detected (Ok d'))
  measured_case {d} {d'} same e =
      subst (λ (z : ℤ). SearchMeasured values m z (detected (Ok d'))) (to_z-of_z f)
      (subst (λ (d : Detection). SearchMeasured values m (handed t) (detected (Ok d))) same e)

-- the answer by what the searches have answered
module _ (first second : List ℤ) (m : ℕ) (t : ℤ) (f : SFits w32 t) where
  after_first : {a : Search} → a ≡ find_onset first m t → paired m a (find_onset second m t) ≡ find_delay first second m t
  after_first e = ap (λ (a : Search). paired m a (find_onset second m t)) e ∙ sym (by_searches first second m t)

  after_both : {a b : Search} → a ≡ find_onset first m t → b ≡ find_onset second m t → paired m a b ≡ find_delay first second m t
  after_both {a} one two = ap (paired m a) two ∙ after_first one

  -- the refusal where the second row is only judged
  judged_second : {k : ℕ} → k ≡ unmeasured second m → refusal k ≡ refusal (unless (λ (k : ℕ). k) (find_onset second m t) (no_delay m))
  judged_second e = ap refusal (e ∙ search_tests second m t (λ (k : ℕ). k) (no_delay m))

  first_refused : {k : ℕ} → unsearched k ≡ find_onset first m (handed t) → refusal k ≡ find_delay first second m t
  first_refused e = after_first (found first m t f e)

  first_quiet : {d : Detection} {h : Float} {k : ℕ} → d ≡ Quiet h → detected (Ok d) ≡ find_onset first m (handed t) →
      k ≡ unmeasured second m → refusal k ≡ find_delay first second m t
  first_quiet {d} {h} is e judge = judged_second judge ∙ sym (quiet_paired m h (find_onset second m t)) ∙ after_first (found_case first m t f is e)

  -- the first row has an onset
  module _ {d : Detection} {x h : Float} (is : d ≡ Onset x h) (one : detected (Ok d) ≡ find_onset first m (handed t)) where
    inexact : {k : ℕ} → exact_factor m ≡ false → k ≡ unmeasured second m → refusal k ≡ find_delay first second m t
    inexact e judge = judged_second judge ∙ sym (inexact_paired m x h (find_onset second m t) e) ∙ after_first (found_case first m t f is one)

    second_refused : {k : ℕ} → unsearched k ≡ find_onset second m (handed t) → refusal k ≡ find_delay first second m t
    second_refused two = after_both (found_case first m t f is one) (found second m t f two)

    -- at an exact factor
    both : {b b' : Detection} → exact_factor m ≡ true → b ≡ b' → detected (Ok b) ≡ find_onset second m (handed t) →
        difference (onset x h) (detected (Ok b')) ≡ find_delay first second m t
    both {b} {b'} e is' two = sym (not_refused refusal b' _ ∙ exact_judged m _ e) ∙ after_both (found_case first m t f is one) (found_case second m t f is' two)

    both_measured : {b : Detection} {y g : Float} → exact_factor m ≡ true → b ≡ Onset y g → detected (Ok b) ≡ find_onset second m (handed t) →
        SearchMeasured first m (handed t) (detected (Ok d)) → SearchMeasured second m (handed t) (detected (Ok b)) →
        DelayMeasured first second m t (sub binary64 x y) h g
    both_measured {b} {y} {g} e is' two p q =
        delay_measured first second m t x h y g e
        (found_short first m t x h (found_case first m t f is one)) (found_short second m t y g (found_case second m t f is' two))
        (measured_case first m t f is p) (measured_case second m t f is' q)

pub returns-in_err-x-clause-result_value : goal.returns-in_err-x-clause-result_value
returns-in_err-x-clause-result_value c =
    let p = err_from_is_err_and c.from_residual.result c.from_residual.ensures.1 in
    rw (p.1, p.2) (first_refused _ _ _ _ c.ranges.threshold c.in_err-x.ensures.result_value)

pub returns-in_default-clause-result_value : goal.returns-in_default-clause-result_value
returns-in_default-clause-result_value c = first_quiet _ _ _ _ c.ranges.threshold c.in_default.is c.in_ok-x.ensures.result_value c.unmeasured.ensures

pub returns-then-not-exact-clause-result_value : goal.returns-then-not-exact-clause-result_value
returns-then-not-exact-clause-result_value c =
    inexact _ _ _ _ c.ranges.threshold c.in-Onset.is c.in_ok-x.ensures.result_value (sym c.if-not-exact.ensures) c.unmeasured-then-not-exact.ensures

pub returns-in_err-y-clause-result_value : goal.returns-in_err-y-clause-result_value
returns-in_err-y-clause-result_value c =
    let p = err_from_is_err_and c.from_residual-in_err-y.result c.from_residual-in_err-y.ensures.1 in
    rw (p.1, p.2) (second_refused _ _ _ _ c.ranges.threshold c.in-Onset.is c.in_ok-x.ensures.result_value c.in_err-y.ensures.result_value)

pub returns-in_default-2-clause-result_value : goal.returns-in_default-2-clause-result_value
returns-in_default-2-clause-result_value c =
    both _ _ _ _ c.ranges.threshold c.in-Onset.is c.in_ok-x.ensures.result_value (sym c.if-not-exact.ensures) c.in_default-2.is c.in_ok-y.ensures.result_value

pub returns-clause-result_value : goal.returns-clause-result_value
returns-clause-result_value c =
    both _ _ _ _ c.ranges.threshold c.in-Onset.is c.in_ok-x.ensures.result_value (sym c.if-not-exact.ensures) c.in-Onset-2.is c.in_ok-y.ensures.result_value

pub returns-clause-measured : goal.returns-clause-measured
returns-clause-measured c =
    both_measured _ _ _ _ c.ranges.threshold c.in-Onset.is c.in_ok-x.ensures.result_value (sym c.if-not-exact.ensures) c.in-Onset-2.is c.in_ok-y.ensures.result_value
    c.in_ok-x.ensures.measured c.in_ok-y.ensures.measured
