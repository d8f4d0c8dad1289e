-- At a numerator below 16 the differences are small, so that nothing overflows, and the first of them is the cubic there.
use Rattle.std.proofs.Common.{◌≡◌, ℕ, ◌<◌, ◌≤◌, arith, pos, w32, w64, FitsSigned, to_z, of_z}
use borrow.Author.Rules.{sfits_of}
use lib.Dec.{lit<}
use mir.Facts.{to_z-of_z}
use Rattle.integers.proofs.Absolute.{within_fits}
use Rattle.bspline.specs.Limits.{greatest_factor}
use Rattle.cubic.specs.declared.Cubic.{Cubic}
use Rattle.cubic.specs.declared.Differences.{Differences}
use Rattle.cubic.specs.Cubics.{CubicSmall, DifferencesAt, DifferencesSmall}
use Rattle.cubic.proofs.Cubics.{differences_next, differences_small}
use Rattle.cubic.proofs.Tables.{tabled_none, tabled_more}
use Rattle.cubic.proofs.quotients.list_quotients.Goals as goal

small : {n : ℕ} {f : Cubic} {j : ℕ} {d : Differences} → CubicSmall f → n ≤ greatest_factor → j < n → DifferencesAt f (pos j) d → DifferencesSmall d
small {j = j} s room h at = differences_small s j (omega arith) at

value_is : {d : Differences} → DifferencesSmall d → to_z w64 (of_z w64 d.value) ≡ d.value
value_is s = to_z-of_z (within_fits w64 (lit< tt) s.value)

pub loop-value-init : goal.loop-value-init
loop-value-init c = record { tabled = tabled_none _ _; differences = c.differences-d.ensures }

pub round-requires : goal.round-requires
round-requires c =
    let i = c.loop-value.invariant in
    let s = small c.requires.small c.requires.room c.loop-value-test.true i.differences in
    rw (value_is s, i.differences.value)
    (record { divisor = c.requires.divisor; size = c.requires.size _ c.loop-value-test.true })

pub next-d-requires : goal.next-d-requires
next-d-requires c =
    small c.requires.small c.requires.room c.loop-value-test.true c.loop-value.invariant.differences

pub loop-value-preserved : goal.loop-value-preserved
loop-value-preserved c =
    let i = c.loop-value.invariant in
    let s = small c.requires.small c.requires.room c.loop-value-test.true i.differences in
    let r : FitsSigned w32 c.round.result = sfits_of c.round.type_inv in
    let e = rw (value_is s, i.differences.value) at c.round.ensures in
    record {
      tabled = rw (to_z-of_z r) (tabled_more c.round.result i.tabled c.loop-value-test.true e);
      differences = differences_next i.differences c.next-d.ensures;
    }
