-- The lines before one stand in the buffer, and one more line is put behind them.
use Rattle.std.proofs.Common.{rules, get_or}
use lib.IntN.{pos}
use mir.Facts.{to_z-of_z}
use mir.Syntax.{w32}
use mir.Val.{SFits}
use Rattle.printtext.specs.Lines.{between}
use Rattle.printtext.proofs.DoneLines.{done_none, done_more}
use Rattle.printtext.proofs.lines.put_lines.Goals as goal

pub loop-v-init : goal.loop-v-init
loop-v-init c = let a = c.args in done_none (between a.from a.to a.values.now) a.from a.m a.out.now

pub loop-v-preserved : goal.loop-v-preserved
loop-v-preserved c =
    let a = c.args in
    let l = c.loop-v in
    let fits : SFits w32 (get_or (between a.from a.to a.values.now) l.v-index (pos 0)) = search rules in
    done_more a.values.now a.to c.requires l.invariant c.loop-v-test.true
    (rw (to_z-of_z fits) at c.put_line-end.ensures.put) c.put_line-end.ensures.upper_bound c.put_line-end.auto.out c.next-p.ensures
