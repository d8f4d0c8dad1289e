-- One number more is a raised sample, which is a 16-bit number.
use Rattle.std.proofs.Common.{◌≡◌, ◌∙◌, ◌≤◌, ◌^◌, map, nat_abs, pos, sym, w16, w32, FitsSigned, arith, below_more, rules}
use borrow.Author.Rules.{sfits_of}
use lib.ListN.{get_or-map}
use mir.Facts.{to_z-of_z}
use Rattle.bspline.specs.Lists.{at}
use Rattle.integers.proofs.Absolute.{abs_fits}
use Rattle.buffers.specs.Raised.{raised}
use Rattle.bspline.proofs.FilledLists.{filled_more}
use Rattle.buffers.proofs.raise.Goals as goal

pub loop-i-preserved : goal.loop-i-preserved
loop-i-preserved c =
    let l = c.loop-i in
    let s = c.args.samples.now in
    let f : FitsSigned w16 (at s l.i) = search rules in
    let g : FitsSigned w32 c.raised_sample.result = sfits_of c.raised_sample.type_inv in
    let e : c.raised_sample.result ≡ at (map raised s) l.i =
    (rw (to_z-of_z f) at c.raised_sample.ensures) ∙ sym (get_or-map raised s l.i (pos 0)) in
    record {
      filled = rw (to_z-of_z g) (filled_more c.raised_sample.result l.invariant.filled (omega (arith, l.invariant.filled.long)) e);
      small = below_more (λ k. nat_abs (at s k) ≤ 2 ^ 15) l.i l.invariant.small (abs_fits (at s l.i) f);
    }
