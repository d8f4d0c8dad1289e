-- The cubic at a numerator is the weighted sum there, which is at most 2^27 divisors, and the row value is rounded from it.
use Rattle.std.proofs.Common.{ap, ◌∙◌, ℕ, ◌*◌, ◌^◌, ◌≤◌, arith, ℤ, pos, List, length, None}
use native.Mathlib.Nat.{one-le-pow, mul-le-mul}
use Rattle.integers.specs.Rounding.{round}
use Rattle.integers.proofs.Parts.{lt_of}
use Rattle.bspline.specs.Bounds.{AllWithin}
use Rattle.bspline.proofs.Lists.{tabulate_same}
use Rattle.bspline.proofs.Weights.{cubed, weighted_within, value_between}
use Rattle.answers.specs.Limits.{Factor}
use Rattle.cubic.specs.declared.Cubic.{Cubic}
use Rattle.cubic.specs.Cubics.{CubicSmall}
use Rattle.cubic.specs.Quotients.{Fillable}
use Rattle.cubic.specs.Weighted.{CubicOf}
use Rattle.zoom.proofs.listing.list_between.Goals as goal

-- the cubic of four coefficients is at most 2^27 divisors at each numerator that there is room for
fillable : {m : ℕ} {four : List ℤ} {f : Cubic} {values : List ℤ} → Factor m → AllWithin (2 ^ 31) four → CubicOf m four f → CubicSmall f → length values ≤ m →
    Fillable f (record { by = pos (96 * m ^ 3); unit = None }) values
fillable {m} {four} {f} {values} factor within of small room = record {
  small = small;
  divisor = record {
    above = lt_of (omega (arith, one-le-pow 3 m factor.some));
    unit = omega (arith, cubed m, mul-le-mul (mul-le-mul factor.small factor.small) factor.small);
  };
  room = omega (arith, factor.small);
  size = λ j h. rw (of.sums j) (omega (arith, weighted_within m j (2 ^ 31) four (omega arith) within));
}

pub list_cubic-requires : goal.list_cubic-requires
list_cubic-requires c =
    let p = c.requires in
    fillable c.args.m.within c.support.ensures.1 c.cubic_of-f.ensures.0 c.cubic_of-f.ensures.1 p.room

pub returns : goal.returns
returns c =
    let m = c.args.m.value in
    c.list_cubic.ensures
    ∙ tabulate_same _ _ 0 _ (λ j h.
    ap (λ (x : ℤ). round x (96 * m ^ 3)) (c.cubic_of-f.ensures.0.sums j)
    ∙ value_between m c.args.k j c.args.c.now _ c.support.ensures.0)
