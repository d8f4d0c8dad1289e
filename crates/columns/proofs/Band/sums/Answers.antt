-- The four indices are those of the definition, and each sum is as small as its own contract says.
use Rattle.std.proofs.Common.{rules}
use Rattle.bspline.specs.Lists.{tabulate}
use Rattle.sums.proofs.Supports.{supported}
use Rattle.columns.specs.Bands.{sums_along}
use Rattle.columns.proofs.Band.sums.Goals as goal

pub returns : goal.returns
unfolding tabulate
returns c =
    let a = c.args in
    supported a.self.width a.k (sums_along a.self) c.map.result (search rules) (search rules) (search rules) (search rules)
