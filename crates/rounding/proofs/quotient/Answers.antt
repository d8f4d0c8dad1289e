-- Where the unit divides d, a division by the unit and then by d in units is one by their product, which is d.
use Rattle.std.proofs.Common.{ap, ◌∙◌, ◌/◌}
use native.Mathlib.Nat.{div-div-eq-div-mul, dvd_of_mod-eq-zero, mul-div_cancel'}
use Rattle.rounding.proofs.quotient.Goals as goal

pub returns-then-d-unit-eq0 : goal.returns-then-d-unit-eq0
returns-then-d-unit-eq0 c =
    let s = c.args in
    c.small_quotient.ensures
    ∙ div-div-eq-div-mul s.sum s.unit (s.d / s.unit)
    ∙ ap (λ n. s.sum / n) (mul-div_cancel' s.unit (dvd_of_mod-eq-zero s.unit c.if-d-unit-eq0.true))
