-- The digits have room, and the byte behind them makes them the field.
use Rattle.decimal.proofs.Fields.{digits_fit, field_put}
use Rattle.decimal.proofs.put_field.Goals as goal

pub write_digits-requires : goal.write_digits-requires
write_digits-requires c = digits_fit c.args.n c.args.end c.args.at _ _ c.requires.0 c.count_places.ensures c.requires.1

pub returns : goal.returns
returns c =
    let w = c.write_digits.ensures in
    field_put c.args.n c.args.end c.args.at _ _ _ _ c.requires.0 c.count_places.ensures c.requires.1 w.start w.written w.before
