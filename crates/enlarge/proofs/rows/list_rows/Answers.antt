-- The values of all rows are one row after the other, and those of row y stand behind those of the rows before it.
use Rattle.std.proofs.Common.{◌≡◌, sym, ap, ◌∙◌, ℕ, ◌+◌, ◌*◌, ◌≤◌, ◌<◌, List, length, ℤ, arith}
use native.Mathlib.Nat.{zero-mul, one-mul, add-mul, mul_comm, mul-le-mul}
use borrow.Rule.Slice.PartMut.{mid_len}
use Rattle.bspline.specs.Lists.{tabulate, at}
use Rattle.bspline.specs.PictureLayout.{Shape, sides}
use Rattle.bspline.specs.Values.{value_in_picture, zoom_position, zoom_count, enlarged_values}
use Rattle.bspline.proofs.Enlargement.{enlarged_length, enlarged_at}
use Rattle.bspline.proofs.FilledLists.{Filled, filled_none, filled_table}
use Rattle.enlarge.proofs.rows.list_rows.Goals as goal

-- row y ends within the values
inside : (m : ℕ) (d : Shape) (c values : List ℤ) (y across down i : ℕ) → Filled (enlarged_values m d c) values i → across ≤ zoom_count m d.width →
    down ≤ zoom_count m d.height → y < down → y * across + across ≤ length values
inside m d c values y across down i filled a b h =
    let long : length values ≡ zoom_count m d.width * zoom_count m d.height = filled.long ∙ enlarged_length m d c in
    let rows : (y + 1) * across ≤ zoom_count m d.height * zoom_count m d.width = mul-le-mul (omega arith) a in
    omega (arith, add-mul y 1 across, mul_comm (zoom_count m d.width) (zoom_count m d.height))

pub loop-y-init : goal.loop-y-init
loop-y-init c =
    let a = c.args in rw zero-mul (filled_none _ _ (c.requires.1 ∙ sym (enlarged_length _ (sides a.width a.height) a.c.now)))

pub slice_bounds-list_row_at-end : goal.slice_bounds-list_row_at-end
slice_bounds-list_row_at-end c =
    let a = c.args in
    let each = c.zoom_count-across.result in
    inside _ (sides a.width a.height) a.c.now c.loop-y.values c.loop-y.y each c.zoom_count-down.result _ c.loop-y.invariant (omega arith) (omega arith)
    c.loop-y-test.true

pub loop-y-preserved : goal.loop-y-preserved
loop-y-preserved c =
    let a = c.args in
    let m = a.m.value in
    let d = sides a.width a.height in
    let all = enlarged_values m d a.c.now in
    let y = c.loop-y.y in
    let across = c.zoom_count-across.result in
    let wide : across ≡ zoom_count m a.width = omega arith in
    let room = inside m d a.c.now c.loop-y.values y across c.zoom_count-down.result _ c.loop-y.invariant (omega arith) (omega arith) c.loop-y-test.true in
    let value : ℕ → ℤ = λ x. value_in_picture m d a.c.now (zoom_position m x) (zoom_position m y) in
    let row : (x : ℕ) → x < across → value x ≡ at all (y * across + x) =
    λ x b.
    sym (enlarged_at m d a.c.now x y (omega (arith, wide)) (omega arith))
    ∙ ap (λ n. at all (y * n + x)) (sym wide) in
    rw (add-mul y 1 across, one-mul across)
    (filled_table (y * across + across) _ _ c.loop-y.invariant (omega arith) room (λ x b. row x (omega arith))
    (c.list_row_at.ensures ∙ ap (λ n. tabulate value 0 n) (sym (mid_len (y * across) (y * across + across) c.loop-y.values room ∙ omega (arith, wide)))))
