-- There are half as many samples as bytes, and each is that of its two bytes.
use Rattle.std.proofs.Common.{rules, ◌≡◌, ◌+◌, ◌*◌, ◌<◌, length, get_or, sym, ◌∙◌, arith, to_z-of_z, SFits, w16}
use Rattle.bspline.proofs.FilledLists.{filled_none, filled_more}
use Rattle.wavefile.specs.Samples.{samples}
use Rattle.wavefile.proofs.Samples.{samples_length, samples_at}
use Rattle.wav.proofs.Signs.{signed_bytes}
use Rattle.wav.proofs.samples.decode.Goals as goal

pub loop-i-init : goal.loop-i-init
loop-i-init c = filled_none _ _ (sym (samples_length _ c.args.content.now c.requires))

pub loop-i-preserved : goal.loop-i-preserved
loop-i-preserved c =
    let content = c.args.content.now in
    let l = c.loop-i in
    let long : length (samples content) ≡ length c.args.row.now = samples_length _ content c.requires in
    let f : SFits w16 c.from_le_bytes.result = search rules in
    let low : get_or content (2 * l.i) 0 < 256 = omega (arith, c.type_inv.content (2 * l.i)) in
    let high : get_or content (2 * l.i + 1) 0 < 256 = omega (arith, c.type_inv.content (2 * l.i + 1)) in
    let v = to_z-of_z f ∙ c.from_le_bytes.ensures ∙ signed_bytes _ _ low high ∙ sym (samples_at l.i content (omega arith)) in
    filled_more _ l.invariant (omega (arith, l.invariant.long)) v
