-- The sum that is divided is the one of `Lifted`, whose quotient less the whole divisors is the rounding, and every step of the way is below
-- 2^32 units.
use Rattle.std.proofs.Common.{◌≡◌, ap, ◌∙◌, ◌/◌, ◌<◌, ◌^◌, ℤ, pos, ◌+ℤ◌, ◌-ℤ◌, w32, w64, FitsSigned, to_z, of_z, arith}
use native.Mathlib.Nat.{div-le_self}
use mir.Facts.{to_z-of_z, to_z_pos, sfits_widen}
use Rattle.integers.specs.Rounding.{round}
use Rattle.integers.proofs.Absolute.{fits_abs}
use Rattle.integers.proofs.Parts.{lt_of}
use Rattle.rounding.proofs.Lifted.{limit, times, lift, lifted, sum, whole, moved_below, sum_below, rounds}
use Rattle.rounding.proofs.Narrow.{quotient_fits}
use Rattle.rounding.proofs.round_even.Goals as goal

module _ (c : goal.After-quotient) where
  lifted_fits : FitsSigned w64 (lifted c.args.a c.args.d c.args.unit)
  lifted_fits = fits_abs w64 (lifted c.args.a c.args.d c.args.unit) (omega (arith, moved_below c.requires))

  -- the machine's sum of a and the lift
  abbrev lifting : ℤ
  lifting = to_z w64 (of_z w64 c.args.a) +ℤ to_z w64 (lift c.args.d c.args.unit)

  lifting_is : lifting ≡ lifted c.args.a c.args.d c.args.unit
  lifting_is = rw (to_z-of_z c.ranges.a, to_z_pos w64 {n = lift c.args.d c.args.unit} (omega (arith, whole c.requires)))

  stored : to_z w64 (of_z w64 lifting) ≡ lifted c.args.a c.args.d c.args.unit
  stored = rw (lifting_is, to_z-of_z lifted_fits)

  times_below : times c.args.d c.args.unit < 2 ^ 63
  times_below = omega (arith, div-le_self (limit c.args.unit) c.args.d)

  quotient_is : c.quotient.result ≡ sum c.args.a c.args.d c.args.unit / c.args.d
  quotient_is = rw stored at c.quotient.ensures

  quotient_below : c.quotient.result < 2 ^ 63
  quotient_below = rw quotient_is (omega (arith, div-le_self (sum c.args.a c.args.d c.args.unit) c.args.d, sum_below c.requires))

  narrow : FitsSigned w32 (round c.args.a c.args.d)
  narrow = quotient_fits c.args.a (pos c.args.d) (lt_of (omega arith)) c.requires.size

  wide : FitsSigned w64 (round c.args.a c.args.d)
  wide = sfits_widen tt narrow

  result_is : to_z w64 c.quotient.result -ℤ to_z w64 (times c.args.d c.args.unit) ≡ round c.args.a c.args.d
  result_is =
      rw (to_z_pos w64 quotient_below, to_z_pos w64 times_below)
      (ap (λ q. pos q -ℤ pos (times c.args.d c.args.unit)) quotient_is ∙ rounds c.requires)

pub overflow_cast-result-3 : goal.overflow_cast-result-3
overflow_cast-result-3 c = rw (result_is c, to_z-of_z (wide c)) (narrow c)

pub returns : goal.returns
returns c = rw (result_is c, to_z-of_z (wide c), to_z-of_z (narrow c))
