-- A line has a number with a minus before it or without, if its digits have one and it is in the range.
use Rattle.std.proofs.Common.{true, false, ◌∙◌, ap}
use Rattle.readtext.specs.Readings.{number_read}
use Rattle.readtext.proofs.Lines.{with_minus, without_minus, no_size, of_size, from_zero_up, below_zero, negated}
use Rattle.readtext.proofs.line.line_number.Goals as goal

pub returns-in_err-size_of-in-Some : goal.returns-in_err-size_of-in-Some
returns-in_err-size_of-in-Some c =
    let minus = c.in-Some.ensures.cases in
    ap number_read c.from_residual.ensures ∙ no_size true c.in-Some.digits.now c.in_err-size_of-in-Some.ensures ∙ with_minus c.args.line.now minus.0 minus.1

pub returns-in_err-size_of-in-None : goal.returns-in_err-size_of-in-None
returns-in_err-size_of-in-None c =
    ap number_read c.from_residual-in_err-size_of-in-None.ensures ∙ no_size false c.args.line.now c.in_err-size_of-in-None.ensures ∙ without_minus c.args.line.now c.in-None.ensures.cases

pub returns-in_ok-size_of-in-Some : goal.returns-in_ok-size_of-in-Some
returns-in_ok-size_of-in-Some c =
    let minus = c.in-Some.ensures.cases in
    ap number_read c.ok.ensures.value
    ∙ below_zero c.in_ok-size_of-in-Some.field-0 _ (negated _ c.from.ensures (record { sfits = c.from.type_inv })) c.try_from.ensures
    ∙ of_size true c.in-Some.digits.now c.in_ok-size_of-in-Some.ensures
    ∙ with_minus c.args.line.now minus.0 minus.1

pub returns-in_ok-size_of-in-None : goal.returns-in_ok-size_of-in-None
returns-in_ok-size_of-in-None c =
    ap number_read c.ok-in-None.ensures.value
    ∙ from_zero_up c.in_ok-size_of-in-None.field-0 _ c.try_from-in-None.ensures
    ∙ of_size false c.args.line.now c.in_ok-size_of-in-None.ensures
    ∙ without_minus c.args.line.now c.in-None.ensures.cases
