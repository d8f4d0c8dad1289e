-- The three fields are the first line.
use Rattle.printtext.proofs.LineFields.{header_put}
use Rattle.printtext.proofs.lines.put_header.Goals as goal

pub returns-clause-put : goal.returns-clause-put
returns-clause-put c =
    let r = c.requires in
    header_put c.put_word-at.ensures c.put_field-at.ensures c.put_field.ensures r.0 r.1 r.2 r.3
