-- What the numbers of a text are judged as is what the text is judged as.
use Rattle.std.proofs.Common.{◌∙◌, rules, arith, sym, get_or}
use lib.IntN.{pos}
use mir.Facts.{to_z-of_z}
use mir.Syntax.{w16}
use mir.Val.{SFits}
use Rattle.judgetext.proofs.Judging.{text_judged}
use Rattle.judgetext.proofs.judge_text.Goals as goal

pub returns : goal.returns
returns c =
    let f : SFits w16 (get_or c.read_text.new.buffer 0 (pos 0)) = search rules in
    let read = rw c.in_ok-n.ensures.ok_part at c.read_text.ensures in
    (rw (to_z-of_z f) at c.judge_numbers.ensures) ∙ sym (text_judged read (omega arith))
