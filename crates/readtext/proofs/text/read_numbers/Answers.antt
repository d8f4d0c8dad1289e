-- A line ends where `find` says: before its line feed, or at the end of a text that is cut off.
use Rattle.std.proofs.Common.{◌≡◌, ◌<◌, length, rules, arith}
use Rattle.std.proofs.lemmas.Grind.{common_steps}
use mir.Facts.{to_z-of_z}
use mir.Syntax.{w16}
use mir.Val.{SFits}
use Rattle.readtext.proofs.Places.{found_place, no_place}
use Rattle.readtext.proofs.Texts.{progress_all, progress_cut, progress_illegal, progress_more}
use Rattle.readtext.proofs.text.read_numbers.Goals as goal

pub returns-in_err-end : goal.returns-in_err-end
returns-in_err-end c =
    let more : 0 < length c.loop-rest.rest.now = grind (arith, common_steps) in
    rw c.from_residual.ensures (progress_cut c.loop-rest.invariant more (no_place 10 _ c.in_err-end.ensures))

pub returns-in_err-number : goal.returns-in_err-number
returns-in_err-number c =
    let place = found_place 10 _ c.in_ok-end.ensures in
    rw c.from_residual-in_err-number.ensures (progress_illegal c.loop-rest.invariant place.0 place.1 c.in_err-number.ensures)

pub loop-rest-preserved : goal.loop-rest-preserved
loop-rest-preserved c =
    let place = found_place 10 _ c.in_ok-end.ensures in
    let f : SFits w16 c.in_ok-number.number = search rules in
    rw (c.keep.ensures, to_z-of_z f) (progress_more c.loop-rest.invariant place.0 place.1 c.in_ok-number.number c.in_ok-number.ensures)

pub returns : goal.returns
returns c =
    let none : length c.loop-rest.rest.now ≡ 0 = grind (arith, common_steps) in
    progress_all c.loop-rest.rest.now c.loop-rest.invariant none
