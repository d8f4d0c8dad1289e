-- 16 times a 32-bit number, the product with the pole and the difference fit 64 bits, under the greatest bounds of both passes.
use Rattle.std.proofs.Common.{◌≡◌, ◌*◌, ◌^◌, pos, ◌-ℤ◌, ◌*ℤ◌, w64, FitsSigned, arith}
use borrow.Author.Rules.{sfits_of}
use lib.Dec.{lit<, lit≤}
use mir.Facts.{to_z-of_z, sfits_widen}
use Rattle.integers.proofs.Absolute.{abs_mul, fits_abs}
use Rattle.integers.proofs.Machine.{product_widens}
use Rattle.bspline.specs.Recursions.{Z, R, causal}
use Rattle.bspline.proofs.Ranges.{causal_range, loaded_range}
use Rattle.filter.proofs.steps.causal_step.Goals as goal

module _ (c : goal.After-scale_down) where
  wide : FitsSigned w64 c.args.c
  wide = sfits_widen tt c.ranges.c

  loaded : FitsSigned w64 (pos 16 *ℤ c.args.c)
  loaded = product_widens w64 16 c.args.c c.ranges.c (lit< tt)

  product : FitsSigned w64 (Z *ℤ c.args.p)
  product = fits_abs w64 (Z *ℤ c.args.p) (omega (arith, abs_mul Z c.args.p, c.requires.1))

  -- t - R(Z × p) is the next p, which is in its range
  difference : FitsSigned w64 (pos 16 *ℤ c.args.c -ℤ R (Z *ℤ c.args.p))
  unfolding causal
  difference =
      let t-small = loaded_range 16 (27 * 2 ^ 24) c.args.c c.requires.0 in
      fits_abs w64 (causal (pos 16 *ℤ c.args.c) c.args.p)
      (omega (arith, causal_range (27 * 2 ^ 28) (lit≤ tt) (pos 16 *ℤ c.args.c) c.args.p t-small c.requires.1))

  scaled : c.scale_down.result ≡ R (Z *ℤ c.args.p)
  scaled = rw (to_z-of_z c.ranges.p, to_z-of_z product) at c.scale_down.ensures

  scaled_fits : FitsSigned w64 c.scale_down.result
  scaled_fits = sfits_of c.scale_down.type_inv

pub overflow_sub-result : goal.overflow_sub-result
overflow_sub-result c = rw (to_z-of_z c.ranges.c, to_z-of_z (wide c), to_z-of_z (loaded c), to_z-of_z (scaled_fits c), scaled c) (difference c)

pub returns : goal.returns
unfolding causal
returns c =
    rw (to_z-of_z c.ranges.c, to_z-of_z (wide c), to_z-of_z (loaded c), to_z-of_z (scaled_fits c), scaled c, to_z-of_z (difference c))
