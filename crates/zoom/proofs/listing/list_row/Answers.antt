-- The values from a place on are put behind those before it, and with the one at the last place all are there.
use Rattle.std.proofs.Common.{◌≡◌, sym, ◌∙◌, ◌+◌, ◌-◌, ◌*◌, arith, length}
use native.Mathlib.Nat.{zero-mul, one-mul, add-mul}
use Rattle.bspline.specs.Values.{zoom_values}
use Rattle.bspline.proofs.FilledLists.{filled_none, filled_all}
use Rattle.bspline.proofs.Zoom.{zoom_length}
use Rattle.zoom.proofs.RowParts.{part_more, part_inside}
use Rattle.zoom.proofs.listing.list_row.Goals as goal

pub loop-k-init : goal.loop-k-init
loop-k-init c =
    let a = c.args in
    rw (zero-mul a.m.value) (filled_none (zoom_values a.m.value a.c.now) a.values.now (c.requires.2 ∙ sym (zoom_length a.m.value a.c.now)))

pub loop-k-preserved : goal.loop-k-preserved
loop-k-preserved c =
    let l = c.loop-k in
    let m = c.args.m.value in
    let row = c.args.c.now in
    let inside = part_inside m l.k (length row - 1) c.loop-k-test.true in
    rw (add-mul l.k 1 m, one-mul m)
    (part_more m row l.values l.k (l.k * m + m) _ l.invariant
    (omega arith) (omega arith) (omega (arith, l.invariant.long, zoom_length m row)) c.list_between.ensures)

pub returns : goal.returns
returns c =
    let l = c.loop-k in
    let m = c.args.m.value in
    let row = c.args.c.now in
    let last : l.k ≡ length row - 1 = omega arith in
    let long = l.invariant.long ∙ zoom_length m row in
    filled_all
    (part_more m row l.values (length row - 1) (length l.values) _ (rw last at l.invariant)
    (omega (arith, long)) (omega (arith, long)) (omega arith) c.list_between-2.ensures)
    (omega (arith, l.invariant.long))
