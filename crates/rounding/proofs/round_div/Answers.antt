-- With `half` added, the floor is the rounding.
use Rattle.std.proofs.Common.{◌∙◌, w64, FitsSigned, arith}
use borrow.Author.Rules.{sfits_of}
use mir.Facts.{to_z-of_z}
use Rattle.integers.proofs.Absolute.{fits_abs}
use Rattle.rounding.proofs.Nearest.{half_read, before_floor, before_floor_rounds, before_floor_size}
use Rattle.rounding.proofs.round_div.Goals as goal

pub returns : goal.returns
returns c =
    let a = c.args in
    let half_is = half_read c.ranges.a c.ranges.d (sfits_of c.half.type_inv) c.half.ensures in
    let fits : FitsSigned w64 (before_floor a.a a.d) =
    fits_abs w64 (before_floor a.a a.d) (omega (arith, before_floor_size a.a a.d c.requires.0, c.requires.1)) in
    let r : FitsSigned w64 c.floor_div.result = sfits_of c.floor_div.type_inv in
    let f = rw (to_z-of_z c.ranges.a, half_is, to_z-of_z c.ranges.d, to_z-of_z fits) at c.floor_div.ensures in
    rw (to_z-of_z r) (f ∙ before_floor_rounds a.a a.d c.requires.0)
