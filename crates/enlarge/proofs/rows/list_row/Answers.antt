-- The values before the last place and the one there are the row's.
use Rattle.std.proofs.Common.{◌∙◌, to_z-of_z, SFits, w32}
use borrow.Author.Rules.{sfits_of}
use Rattle.enlarge.specs.Rows.{value_in}
use Rattle.enlarge.proofs.Parts.{one_more}
use Rattle.enlarge.proofs.rows.list_row.Goals as goal

pub returns : goal.returns
returns c =
    let a = c.args in
    let bits : SFits w32 c.last_value.result = sfits_of c.last_value.type_inv in
    one_more (value_in a.m.value a.band) _ a.values.now _ _ c.requires.1 c.list_before.ensures (to_z-of_z bits ∙ c.last_value.ensures)
