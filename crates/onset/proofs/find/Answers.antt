-- An onset is measured at the place where the first run starts, and a quiet row by its greatest value.
use Rattle.std.proofs.Common.{rules, ◌≡◌, sym, subst, ◌∙◌, w32, SFits, to_z-of_z}
use mathlib.Core.Option.{some, none}
use Rattle.answers.proofs.Passed.{passed}
use Rattle.bspline.specs.Lists.{at}
use Rattle.onset.specs.Runs.{first_run}
use Rattle.onset.proofs.Onsets.{accepted_by, onset_measured, quiet_measured}
use Rattle.onset.proofs.find.Goals as goal

pub returns-in-Some-clause-measured : goal.returns-in-Some-clause-measured
returns-in-Some-clause-measured c =
    let a = c.args in
    let values = a.values.now in
    let fits : SFits w32 (at values c.in-Some.place) = search rules in
    let filled = sym c.is_empty.ensures ∙ passed _ _ _ tt c.refuse_if.ensures c.in_ok-refuse_if.was in
    let few = passed _ _ _ tt c.refuse_if-2.ensures c.in_ok-refuse_if-2.was in
    let factor = sym c.bad_factor.ensures ∙ passed _ _ _ tt c.refuse_if-3.ensures c.in_ok-refuse_if-3.was in
    let starts : first_run a.threshold values ≡ some c.in-Some.place = sym (rw (to_z-of_z c.ranges.threshold) at c.in-Some.ensures.first) in
    rw (c.position.ensures, c.height.ensures, to_z-of_z fits)
    (onset_measured values a.m a.threshold c.in-Some.place (accepted_by values a.m filled few factor) starts fits)

pub returns-in-None-clause-measured : goal.returns-in-None-clause-measured
returns-in-None-clause-measured c =
    let a = c.args in
    let values = a.values.now in
    let nowhere : first_run a.threshold values ≡ none = sym (rw (to_z-of_z c.ranges.threshold) at c.in-None.ensures.first) in
    let fits : SFits w32 c.greatest.result = search rules in
    let same = to_z-of_z fits ∙ c.greatest.ensures in
    rw (c.height-in-None.ensures, same) (quiet_measured values a.threshold nowhere (subst (SFits w32) c.greatest.ensures fits))
