-- The quotient fits 32 bits.
use Rattle.std.proofs.Common.{◌≡◌, nat_abs, w32, w64, FitsSigned}
use borrow.Author.Rules.{sfits_of}
use mir.Facts.{to_z-of_z}
use Rattle.integers.specs.Rounding.{round}
use Rattle.rounding.proofs.Narrow.{quotient_fits}
use Rattle.rounding.proofs.round_narrow.Goals as goal

module _ (c : goal.After-round_div) where
  rounded : c.round_div.result ≡ round c.args.a (nat_abs c.args.d)
  rounded = rw (to_z-of_z c.ranges.a, to_z-of_z c.ranges.d) at c.round_div.ensures

  fits : FitsSigned w32 c.round_div.result
  fits = rw rounded (quotient_fits c.args.a c.args.d c.requires.0 c.requires.2)

  long_fits : FitsSigned w64 c.round_div.result
  long_fits = sfits_of c.round_div.type_inv

pub overflow_cast-result : goal.overflow_cast-result
overflow_cast-result c = rw (to_z-of_z (long_fits c)) (fits c)

pub returns : goal.returns
returns c = rw (to_z-of_z (long_fits c), to_z-of_z (fits c)) (rounded c)
