-- The invariant is followed past each chunk.
use Rattle.std.proofs.Common.{sym, ◌∙◌, arith, drop, ◌≡◌}
use Rattle.std.proofs.lemmas.Grind.{common_steps}
use Rattle.riff.proofs.Walking.{walking_start, walking_cut, walked_data, walking_format, walking_other}
use Rattle.riff.proofs.chunks.walk.Goals as goal
use Rattle.riff.proofs.chunks.walk.Goals.{then-named-2, else-named-2}

pub loop-chunk-init : goal.loop-chunk-init
loop-chunk-init c =
    let e : c.in_ok-rest.rest.now ≡ drop 12 c.args.bytes.now = grind (arith, common_steps) in
    walking_start _ _ c.in_ok-rest.ensures.lookup.0.0 e

pub returns-then-named : goal.returns-then-named
returns-then-named c = walked_data c.loop-chunk.invariant c.in-Some.ensures (sym c.if-named.ensures)

pub loop-chunk-preserved : goal.loop-chunk-preserved
loop-chunk-preserved c =
    let w = c.loop-chunk.invariant in
    let other = sym c.if-named.ensures in
    elim c.if-named-2.branch [
      | then-named-2 b ↦ walking_format w c.in-Some.ensures other (sym b.if-named-2.ensures) (b.format-is ∙ b.or-format.ensures)
      | else-named-2 b ↦ rw b.format-is (walking_other w c.in-Some.ensures other (sym b.if-named-2.ensures))
    ]

pub returns : goal.returns
returns c = walking_cut c.loop-chunk.invariant c.in_default.ensures
