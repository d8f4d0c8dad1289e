-- The entry of the table is the formula's weight, and small, since the weights add up to 6 × 16³.
use Rattle.std.proofs.Common.{List, [], ◌≡◌, ◌≤◌, ℤ, nat_abs, ap, ◌∙◌, arith, lit<, get_or, to_z, of_z, to_z-of_z, w32}
use Rattle.integers.proofs.Absolute.{within_fits}
use Rattle.bspline.specs.Lists.{at}
use Rattle.bspline.specs.Values.{weights}
use Rattle.bspline.proofs.Bounds.{sizes_within}
use Rattle.bspline.proofs.Weights.{weights_sizes}
use Rattle.sums.proofs.Sixteenths.{sixteenths, sixteenth_is}
use Rattle.sums.proofs.table.sixteenth.Goals as goal

pub returns : goal.returns
returns c =
    let a = c.args in
    let w = weights 16 a.j in
    let entry : at (get_or sixteenths a.j []) a.i ≡ at w a.i = ap (λ (l : List ℤ). at l a.i) (sixteenth_is a.j c.requires.0) in
    let small : nat_abs (at w a.i) ≤ 24576 = omega (arith, (sizes_within w).within a.i, weights_sizes 16 a.j (omega arith)) in
    ap (λ (z : ℤ). to_z w32 (of_z w32 z)) entry ∙ to_z-of_z (within_fits w32 {B = 24576} (lit< tt) (record { within = small }))
