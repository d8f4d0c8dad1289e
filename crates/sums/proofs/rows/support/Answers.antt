-- The numbers at the places k to k + 3, counted from the index -1, are those of the indices k - 1 to k + 2, and 32-bit numbers.
use Rattle.std.proofs.Common.{rules, length}
use Rattle.bspline.specs.Lists.{at}
use Rattle.sums.proofs.Supports.{supported}
use Rattle.sums.proofs.rows.support.Goals as goal

pub returns : goal.returns
returns c =
    let a = c.args in
    supported (length a.c.now) a.k (at a.c.now) c.map.result (search rules) (search rules) (search rules) (search rules)
