-- A text that is too long is not read, and any other is what its lines say.
use Rattle.judgetext.proofs.TextOutcome.{too_long, of_reading}
use Rattle.judgetext.proofs.read_text.Goals as goal

pub returns-then-text-gt-LONGEST_TEXT : goal.returns-then-text-gt-LONGEST_TEXT
returns-then-text-gt-LONGEST_TEXT c = too_long c.args.text.now c.if-text-gt-LONGEST_TEXT.true

pub returns : goal.returns
returns c =
    of_reading c.args.text.now c.read_numbers.new.buffer c.read_numbers.result c.if-text-gt-LONGEST_TEXT.false c.read_numbers.ensures
