-- Numbers without a first one are refused for the text.
use Rattle.std.proofs.Common.{◌≡◌}
use Rattle.std.proofs.lemmas.Result.{err_from_is_err_and}
use Rattle.answers.specs.declared.Refusal.TheVariants.{BadText}
use Rattle.zoomtext.specs.Kept.{kept}
use Rattle.zoomtext.proofs.NumbersOutcome.{none_first}
use Rattle.zoomtext.proofs.zoom_numbers.Goals as goal

pub returns-in_err-first : goal.returns-in_err-first
unfolding kept
returns-in_err-first c =
    let p = err_from_is_err_and c.from_residual.result c.from_residual.ensures.1 in
    let e = c.in_err-first.ensures in
    let text : c.in_err-first.field-0.0 ≡ BadText = let v = rw e.ok_part at e.value in cc in
    rw (p.1, p.2, text, none_first c.args.numbers.now (rw e.ok_part at c.split_first.ensures.cases))
