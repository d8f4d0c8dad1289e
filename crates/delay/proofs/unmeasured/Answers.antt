-- Whether a row is refused does not depend on the threshold.
use Rattle.std.proofs.Common.{List, ◌≡◌, ℕ, ℤ, sym, ap, ◌∙◌}
use Rattle.onset.specs.Outcomes.{Answer, find_onset}
use Rattle.delay.specs.Answers.{number}
use Rattle.delay.specs.Outcomes.{no_delay, unmeasured}
use Rattle.delay.proofs.Searches.{unless, search_tests, not_refused}
use Rattle.delay.proofs.unmeasured.Goals as goal

-- what comes of the search's answer
after_search : (second : List ℤ) (m : ℕ) (t : ℤ) (a : Answer) → a ≡ find_onset second m t → unless (λ (k : ℕ). k) a (no_delay m) ≡ unmeasured second m
after_search second m t a e =
    ap (λ (a : Answer). unless (λ (k : ℕ). k) a (no_delay m)) e ∙ sym (search_tests second m t (λ (k : ℕ). k) (no_delay m))

pub returns-in-Ok : goal.returns-in-Ok
returns-in-Ok c =
    c.no_delay.ensures
    ∙ sym (not_refused (λ (k : ℕ). k) c.in-Ok.field-0 (no_delay c.args.m))
    ∙ after_search c.args.second.now c.args.m _ _ c.in-Ok.ensures.result_value

pub returns-in-Err : goal.returns-in-Err
returns-in-Err c = ap number c.from.ensures ∙ after_search c.args.second.now c.args.m _ _ c.in-Err.ensures.result_value
