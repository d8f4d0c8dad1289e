-- The weighted sum of the sums along four rows is that of the definition. It is at most 36m⁶ × 2^31, since the weights add up to 6m³ and coefficients
-- are 32-bit numbers.
use Rattle.std.proofs.Common.{◌≡◌, ◌*◌, ◌^◌, ◌≤◌, ℤ, nat_abs, ap, ap₂, ◌∙◌, arith, to_z-of_z, SFits, w32, w64}
use borrow.Author.Rules.{sfits_of}
use Rattle.integers.specs.Rounding.{round}
use Rattle.bspline.specs.Bounds.{sizes}
use Rattle.bspline.specs.PictureLayout.{packed, pixel}
use Rattle.bspline.specs.Values.{picture_sum, value_in_picture}
use Rattle.bspline.proofs.Bounds.{all_weaken}
use Rattle.bspline.proofs.Weights.{weights_light}
use Rattle.answers.specs.Answers.{described, placed}
use Rattle.sums.specs.Sums.{listed}
use Rattle.sums.proofs.Divisors.{picture_divisible}
use Rattle.sums.proofs.PictureSums.{picture_size, picture_sum_is}
use Rattle.values.proofs.picture.value_at.Goals as goal

pub row_sums-sums-requires : goal.row_sums-sums-requires
row_sums-sums-requires c =
    let p = c.requires.0 in (
      record {
        wide = c.args.picture.within.narrow;
        high = c.args.picture.within.low;
        above = c.args.picture.within.high;
        inside = p.along.index;
        count = c.requires.1;
        light = weights_light c.args.m.value c.args.x.j c.weights_at.ensures c.args.m.within.small (omega (arith, p.along.numerator));
      },
      p.down.index,
    )

pub dot-sum-requires : goal.dot-sum-requires
dot-sum-requires c =
    let p = c.requires.0 in
    let light : sizes (listed c.weights_at.result) ≤ 24576 =
    weights_light c.args.m.value c.args.x.j c.weights_at.ensures c.args.m.within.small (omega (arith, p.along.numerator)) in
    record {
      light = weights_light c.args.m.value c.args.y.j c.weights_at-2.ensures c.args.m.within.small (omega (arith, p.down.numerator));
      small = all_weaken (omega (arith, light)) c.row_sums-sums.ensures.small;
    }

pub round_narrow-requires : goal.round_narrow-requires
round_narrow-requires c =
    let a = c.args in
    let p = c.requires.0 in
    let sum_fits : SFits w64 c.dot-sum.result = sfits_of c.dot-sum.type_inv in
    let divisor_fits : SFits w64 c.picture_divisor.result = sfits_of c.picture_divisor.type_inv in
    let small : nat_abs c.dot-sum.result ≤ 36 * a.m.value ^ 6 * 2 ^ 31 =
    omega (
      arith,
      ap nat_abs c.dot-sum.ensures,
      picture_size a.m.value a.x.j a.y.j c.weights_at.ensures c.weights_at-2.ensures (omega (arith, p.along.numerator)) (omega (arith, p.down.numerator))
          c.row_sums-sums.ensures.small,
    ) in
    let held = picture_divisible a.m.value c.args.m.within.some c.args.m.within.small c.dot-sum.result c.picture_divisor.ensures small in
    rw (to_z-of_z divisor_fits) (held.0, held.1, omega (arith, ap nat_abs (to_z-of_z sum_fits), held.2))

pub returns : goal.returns
unfolding value_in_picture
returns c =
    let a = c.args in
    let d = packed (described a.picture.shape) in
    let sum_fits : SFits w64 c.dot-sum.result = sfits_of c.dot-sum.type_inv in
    let divisor_fits : SFits w64 c.picture_divisor.result = sfits_of c.picture_divisor.type_inv in
    let bits : SFits w32 c.round_narrow.result = sfits_of c.round_narrow.type_inv in
    let sum : c.dot-sum.result ≡ picture_sum a.m.value d (pixel d a.c.now) (placed a.x) (placed a.y) =
    c.dot-sum.ensures ∙ picture_sum_is a.m.value d (placed a.x) (placed a.y) a.c.now c.weights_at.ensures c.weights_at-2.ensures c.row_sums-sums.ensures in
    to_z-of_z bits
    ∙ c.round_narrow.ensures
    ∙ ap₂ (λ (x d : ℤ). round x (nat_abs d)) (to_z-of_z sum_fits ∙ sum) (to_z-of_z divisor_fits ∙ c.picture_divisor.ensures)
