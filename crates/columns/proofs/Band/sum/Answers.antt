-- The four numbers lie in the buffer and are 32-bit numbers, and so their weighted sum is at most 2^31 times the weights' sizes.
use Rattle.std.proofs.Common.{rules, ◌≡◌, ◌^◌, ap, ◌∙◌, arith, to_z-of_z, SFits, w64}
use borrow.Author.Rules.{sfits_of}
use Rattle.bspline.specs.Bounds.{AllWithin}
use Rattle.bspline.specs.Values.{dot}
use Rattle.bspline.proofs.Bounds.{all_weaken, four_within}
use Rattle.bspline.proofs.Weights.{dot_size}
use Rattle.sums.specs.Sums.{listed}
use Rattle.columns.specs.Columns.{column}
use Rattle.columns.proofs.Band.sum.Goals as goal

pub dot-requires : goal.dot-requires
dot-requires c = record {
  light = c.requires.light;
  small = all_weaken (omega arith) (four_within {B = 2 ^ 31} (search rules) (search rules) (search rules) (search rules));
}

pub returns : goal.returns
returns c =
    let a = c.args in
    let w = listed a.self.weights in
    let bits : SFits w64 c.dot.result = sfits_of c.dot.type_inv in
    let of_column : listed c.map.result ≡ column a.self.starts a.self.coefficients.now a.x = search rules in
    let small : AllWithin (2 ^ 31) (listed c.map.result) = four_within (search rules) (search rules) (search rules) (search rules) in
    rw (to_z-of_z bits)
    (c.dot.ensures ∙ ap (dot w) of_column, record { within = rw c.dot.ensures (dot_size w (listed c.map.result) (2 ^ 31) small) })
