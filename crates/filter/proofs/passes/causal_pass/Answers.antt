-- The coefficient that is read is that of place i of the window, and in its range.
use Rattle.std.proofs.Common.{◌≡◌, ap, ◌∙◌, ℕ, ◌+◌, ◌*◌, ◌^◌, ◌≤◌, pos, nat_abs, ◌-ℤ◌, w32, w64, FitsSigned, arith, rules}
use borrow.Author.Rules.{sfits_of}
use mir.Facts.{to_z-of_z}
use Rattle.bspline.specs.Mirror.{mirror}
use Rattle.bspline.specs.Recursions.{margin}
use Rattle.bspline.specs.Lists.{at}
use Rattle.bspline.proofs.Mirror.{mirror_below}
use Rattle.bspline.proofs.Ranges.{loaded_range}
use Rattle.filter.proofs.Recursions.{causal_more}
use Rattle.filter.proofs.passes.causal_pass.Goals as goal

pub loop-i-preserved : goal.loop-i-preserved
loop-i-preserved c =
    let a = c.args in
    let v = c.loop-i.invariant in
    let number = λ (k : ℕ). at a.c.now (a.line.from + a.line.step * k) in
    let place = mirror a.line.n (pos c.loop-i.i -ℤ pos margin) in
    let f : FitsSigned w32 (at a.c.now c.place.result) = search rules in
    let e : at a.c.now c.place.result ≡ number place = ap (at a.c.now) c.place.ensures ∙ ap number c.mirrored-k.ensures.0 in
    let small : nat_abs (number place) ≤ 27 * 2 ^ 24 = c.requires.0.small place (mirror_below a.line.n _ c.requires.0.some) in
    let g : FitsSigned w64 c.causal_step-p.result = sfits_of c.causal_step-p.type_inv in
    rw (to_z-of_z g, rw (to_z-of_z f, e) at c.causal_step-p.ensures)
    (causal_more v (omega (arith, v.long)) (loaded_range 16 (27 * 2 ^ 24) (number place) small))
