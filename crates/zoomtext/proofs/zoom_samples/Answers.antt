-- The coefficients stand at the start of their buffer, and the values come of them.
use Rattle.std.proofs.Common.{◌∙◌, sym}
use Rattle.std.proofs.lemmas.Result.{err_from_is_err_and}
use lib.Seq.{length-take-le}
use Rattle.zoomtext.proofs.SamplesOutcome.{Coefficients, told_room, begin_inside, listed_kept}
use Rattle.zoomtext.proofs.zoom_samples.Goals as goal

pub slice_bounds-coefficients-end : goal.slice_bounds-coefficients-end
slice_bounds-coefficients-end c =
    let a = c.args in
    begin_inside (told_room a.m a.samples.now a.values.now c.in_ok-n.ensures.work_after)

pub slice_bounds-zoom_row-end : goal.slice_bounds-zoom_row-end
slice_bounds-zoom_row-end c =
    let a = c.args in
    sym (length-take-le _ _ (begin_inside (told_room a.m a.samples.now a.values.now c.in_ok-n.ensures.work_after)))

pub returns : goal.returns
returns c =
    let a = c.args in
    let row : Coefficients a.samples.now c.in_ok-n.n c.transform.new.coefficients = told_room a.m a.samples.now a.values.now c.in_ok-n.ensures.work_after in
    c.zoom_row.ensures ∙ listed_kept a.m a.samples.now a.values.now c.transform.new.coefficients c.in_ok-n.n row

pub returns-in_err-n : goal.returns-in_err-n
returns-in_err-n c =
    let a = c.args in
    let p = err_from_is_err_and c.from_residual.result c.from_residual.ensures.1 in
    rw (p.1, p.2) (told_room a.m a.samples.now a.values.now c.in_err-n.ensures.work_after)
