-- The row that the index reads lies in the buffer, the four numbers read from it are 32-bit numbers, and so their weighted sum is at most 2^31 times
-- the weights' sizes.
use Rattle.std.proofs.Common.{rules, ◌+◌, ◌*◌, ◌^◌, ◌≤◌, length, arith, ap, ◌∙◌, to_z-of_z, SFits, w64}
use borrow.Author.Rules.{sfits_of}
use Rattle.bspline.specs.Lists.{at}
use Rattle.bspline.specs.Values.{dot, support}
use Rattle.bspline.proofs.Weights.{dot_size}
use Rattle.sums.specs.Sums.{listed}
use Rattle.sums.proofs.Supports.{support_of_part}
use Rattle.sums.proofs.pictures.row_sum.Goals as goal

pub returns-clause-value : goal.returns-clause-value
returns-clause-value c =
    let a = c.args in
    let start = c.mirrored.result * a.width in
    let inside : start + a.width ≤ length a.c.now = search rules in
    let bits : SFits w64 c.dot.result = sfits_of c.dot.type_inv in
    to_z-of_z bits
    ∙ c.dot.ensures
    ∙ ap (dot (listed a.w)) (c.support.ensures.0 ∙ support_of_part a.width start a.k a.c.now (omega (arith, c.requires.0.inside)) inside)
    ∙ ap (λ y. dot (listed a.w) (support a.width (λ x. at a.c.now (y * a.width + x)) a.k)) c.mirrored.ensures.0

pub returns-clause-within : goal.returns-clause-within
returns-clause-within c =
    let bits : SFits w64 c.dot.result = sfits_of c.dot.type_inv in
    rw (to_z-of_z bits)
    (record { within = rw c.dot.ensures (dot_size (listed c.args.w) (listed c.support.result) (2 ^ 31) c.support.ensures.1) })
