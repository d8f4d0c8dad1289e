-- Bytes below 256 are the same if the numbers are that they make.
use Rattle.std.proofs.Common.{ap₂, nat_eq, ◌∙◌, arith}
use Rattle.riff.proofs.Names.{name_number}
use Rattle.riff.proofs.fields.named.Goals as goal

pub returns : goal.returns
returns c =
    let a = c.args in
    ap₂ nat_eq c.four_bytes.ensures c.from_le_bytes.ensures ∙ name_number a.bytes.now a.name.now c.requires c.told-name (λ i. omega (arith, c.type_inv.bytes i)) c.fits-name
