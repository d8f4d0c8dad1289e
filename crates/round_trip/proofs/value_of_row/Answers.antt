-- A count is at most the buffer's length, so that many numbers of the buffer can be lent.
use Rattle.std.proofs.Common.{sym}
use lib.Seq.{length-take-le}
use Rattle.bspline.proofs.Operations.{row_left}
use Rattle.round_trip.proofs.value_of_row.Goals as goal

pub slice_bounds-value-end : goal.slice_bounds-value-end
slice_bounds-value-end c =
    let a = c.args in
    let new = c.transform.new in
    (row_left a.samples.now a.coefficients.now a.work.now new.coefficients new.work c.in_ok-n.n c.in_ok-n.ensures.work_after).3

pub slice_bounds-value-end-2 : goal.slice_bounds-value-end-2
slice_bounds-value-end-2 c = sym (length-take-le _ _ (slice_bounds-value-end c))
