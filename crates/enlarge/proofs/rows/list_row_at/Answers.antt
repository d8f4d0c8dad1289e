-- The sums along columns with the weights of the row's numerator, zoomed along the width, are the picture values.
use Rattle.std.proofs.Common.{◌≡◌, ap, ◌∙◌, ℕ, ◌*◌, ◌%◌, ◌^◌, ◌≤◌, ℤ, arith}
use mathlib.Core.Path.{ap₂, fun_ext}
use native.Mathlib.Nat.{mod-lt}
use Rattle.integers.specs.Rounding.{round}
use Rattle.bspline.specs.Bounds.{sizes}
use Rattle.bspline.specs.PictureLayout.{sides, pixel}
use Rattle.bspline.specs.Values.{support, dot, row_sum, zoom_position, weights}
use Rattle.bspline.proofs.Enlargement.{value_of_columns}
use Rattle.bspline.proofs.Lists.{tabulate_same}
use Rattle.bspline.proofs.Weights.{weights_light, weights_sizes}
use Rattle.sums.specs.Sums.{listed}
use Rattle.columns.specs.Columns.{column_sum}
use Rattle.columns.proofs.ColumnSums.{column_is}
use Rattle.enlarge.proofs.rows.list_row_at.Goals as goal

pub list_row-requires : goal.list_row-requires
list_row-requires c =
    let m = c.args.m.value in
    let y = c.args.y in
    let p = c.requires.0 in
    let w = c.weights_of.ensures in
    let inside : y % m ≤ m = omega (arith, mod-lt y c.args.m.within.some) in (
      record {
        some = p.good.wide;
        narrow = p.good.narrow;
        columns = record { reaches = rw p.count c.row_starts.ensures.1; light = weights_light m (y % m) w c.args.m.within.small inside };
        total = ap sizes w ∙ weights_sizes m (y % m) inside;
      },
      c.requires.2,
    )

pub returns : goal.returns
returns c =
    let a = c.args in
    let d = sides a.width a.height in
    let row = zoom_position a.m.value a.y in
    let numbers : column_sum (listed c.weights_of.result) c.row_starts.result a.c.now
    ≡ (λ x. dot (weights a.m.value row.j) (support d.height (pixel d a.c.now x) row.k)) =
    fun_ext (λ x. ap₂ dot c.weights_of.ensures (column_is d row.k c.row_starts.result a.c.now c.row_starts.ensures.0 x)) in
    c.list_row.ensures
    ∙ tabulate_same _ _ 0 _ (λ x h.
    ap (λ (f : ℕ → ℤ). round (row_sum a.m.value a.width f (zoom_position a.m.value x)) (576 * a.m.value ^ 6)) numbers
    ∙ value_of_columns a.m.value d a.c.now (zoom_position a.m.value x) row)
