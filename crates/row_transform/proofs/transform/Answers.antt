-- The buffer begins with the row's coefficients, and these are near the exact solution.
use Rattle.std.proofs.Common.{◌<◌, length, drop, arith}
use borrow.Author.Tests.{eqb-false}
use Rattle.bspline.specs.Transforms.{row_coefficients}
use Rattle.bspline.proofs.Accuracy.{row_accurate}
use Rattle.bspline.proofs.Transforms.{row_length, row_begins}
use Rattle.answers.proofs.Passed.{passed}
use Rattle.row_transform.proofs.transform.Goals as goal

pub returns-clause-promised : goal.returns-clause-promised
returns-clause-promised c =
    let l = c.args.samples.now in
    let rest = drop (length l) c.args.coefficients.now in
    let filtered = c.filter_row.ensures in
    let some : 0 < length l = omega (arith, eqb-false (length l) 0 (passed _ _ _ tt c.refuse_if.ensures c.in_ok-refuse_if.was)) in
    rw filtered.coefficients (row_begins l (row_coefficients l) rest (row_length l) (row_accurate l some filtered.small))
