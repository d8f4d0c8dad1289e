-- A text that is not read, or that has more numbers than a row may have with its factor, is refused, and the values are left.
use Rattle.std.proofs.Common.{◌≡◌, ◌<◌, ◌+◌, arith}
use Rattle.std.proofs.lemmas.Result.{err_from_is_err_and}
use Rattle.answers.specs.declared.Refusal.TheVariants.{BadText, LongRow}
use Rattle.bspline.specs.Limits.{longest_row}
use Rattle.zoomtext.specs.Kept.{kept}
use Rattle.zoomtext.proofs.NumbersOutcome.{too_many, zooms_held}
use Rattle.zoomtext.proofs.zoom_text.Goals as goal

pub returns-in_err-n : goal.returns-in_err-n
unfolding kept
returns-in_err-n c =
    let p = err_from_is_err_and c.from_residual.result c.from_residual.ensures.1 in
    let e = c.in_err-n.ensures in
    let text : c.in_err-n.field-0.0 ≡ BadText = let v = rw e.ok_part at e.value in cc in
    let unread = rw e.ok_part at c.read_text.ensures in
    rw (p.1, p.2, text, unread)

pub returns-in_err-numbers : goal.returns-in_err-numbers
unfolding kept
returns-in_err-numbers c =
    let p = err_from_is_err_and c.from_residual-in_err-numbers.result c.from_residual-in_err-numbers.ensures.1 in
    let e = c.in_err-numbers.ensures in
    let long : c.in_err-numbers.field-0.0 ≡ LongRow = let v = rw e.ok_part at e.value in cc in
    let read = rw c.in_ok-n.ensures.ok_part at c.read_text.ensures in
    let past = (rw e.ok_part at c.get.ensures.lookup).0 in
    let more : longest_row + 1 < c.in_ok-n.n = omega arith in
    rw (p.1, p.2, long, read.outcome, too_many read.all (omega (arith, read.begun.count)))

pub returns : goal.returns
returns c =
    let read = rw c.in_ok-n.ensures.ok_part at c.read_text.ensures in
    let part = (rw c.in_ok-numbers.ensures.ok_part at c.get.ensures.lookup).0 in
    rw read.outcome (zooms_held c.args.values.now part.1 part.2 c.zoom_numbers.ensures read.all read.begun)
