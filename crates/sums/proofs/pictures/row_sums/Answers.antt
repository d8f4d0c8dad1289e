-- The four indices are those of the definition, and each sum is as small as its own contract says.
use Rattle.std.proofs.Common.{rules, ℕ, ℤ}
use Rattle.bspline.specs.PictureLayout.{pixel, sides}
use Rattle.bspline.specs.Lists.{tabulate}
use Rattle.bspline.specs.Values.{dot, support}
use Rattle.sums.specs.Sums.{listed}
use Rattle.sums.proofs.Supports.{supported}
use Rattle.sums.proofs.pictures.row_sums.Goals as goal

pub returns : goal.returns
unfolding tabulate
returns c =
    let a = c.args in
    let along : ℕ → ℤ = λ y. dot (listed a.w) (support a.width (λ x. pixel (sides a.width a.height) a.c.now x y) a.k) in
    let all = supported a.height a.l along c.map.result (search rules) (search rules) (search rules) (search rules) in
    record { sums_of = all.0; small = all.1 }
