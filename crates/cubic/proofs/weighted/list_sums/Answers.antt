-- Both ways list the same quotients, since the cubic at a numerator is the weighted sum there.
use Rattle.std.proofs.Common.{◌∙◌, ap, arith, nat_abs}
use Rattle.integers.specs.Rounding.{round}
use Rattle.bspline.proofs.Lists.{tabulate_same}
use Rattle.cubic.proofs.SmallSums.{sum_small}
use Rattle.cubic.proofs.weighted.list_sums.Goals as goal

pub list_quotients-requires : goal.list_quotients-requires
list_quotients-requires c =
    let p = c.requires in
    record {
      small = c.cubic_of.ensures.1;
      divisor = p.divisor;
      room = omega (arith, p.room, p.factor);
      size = λ j h. rw (c.cubic_of.ensures.0.sums j) (sum_small p j h);
    }

pub returns-else-m-le2 : goal.returns-else-m-le2
returns-else-m-le2 c =
    c.list_quotients.ensures
    ∙ tabulate_same _ _ 0 _ (λ j h. ap (λ x. round x (nat_abs c.args.divisor.by)) (c.cubic_of.ensures.0.sums j))
