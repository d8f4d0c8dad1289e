-- Of all numbers that continue the three from the start, a turn lists the m values of its place, and the next three are those at the next place.
use Rattle.std.proofs.Common.{List, ◌≡◌, ℕ, suc, ◌+◌, ◌*◌, ◌^◌, ◌≤◌, ℤ, pos, length, sym, ap, ◌∙◌, arith, lit<, to_z, of_z, to_z-of_z, SFits, w64}
use native.Mathlib.Nat.{zero-mul, one-mul, add-mul, suc-mul, mul-le-mul_right}
use borrow.Author.Rules.{sfits_of}
use borrow.Rule.Slice.PartMut.{mid_len}
use Rattle.integers.specs.Bound.{Within}
use Rattle.integers.specs.Rounding.{round}
use Rattle.integers.proofs.Absolute.{within_fits, within_weaken}
use Rattle.bspline.specs.Bounds.{AllWithin, sizes}
use Rattle.bspline.specs.Values.{weights, dot}
use Rattle.bspline.proofs.Bounds.{four_within}
use Rattle.bspline.proofs.FilledLists.{filled_none, filled_table, filled_all}
use Rattle.sums.specs.declared.four.Four.{Four}
use Rattle.sums.specs.Sums.{greatest_sum, listed}
use Rattle.places.proofs.Rolling.{FirstSmall, four_is, between_length, between_at}
use Rattle.places.proofs.list_places.Goals as goal

-- what is as small as a sum along a column fits
fits : (w : List ℤ) {z : ℤ} → sizes w ≤ 24576 → Within (sizes w * 2 ^ 31) z → SFits w64 z
fits w light h = within_fits w64 {B = greatest_sum} (lit< tt) (within_weaken (omega (arith, light)) h)

-- the first three of four numbers are as small as the four
first_of : {B : ℕ} (f : Four ℤ) → AllWithin B (listed f) → FirstSmall B f
first_of f p = record { before = record { within = p.within 0 }; here = record { within = p.within 1 }; after = record { within = p.within 2 } }

-- the values of a turn end within those that are listed
turn_inside : (k m places : ℕ) (values before : List ℤ) → suc k ≤ places → length values ≡ length before → length before ≡ places * m →
    k * m + m ≤ length values
turn_inside k m places values before h long room = omega (arith, suc-mul k m, mul-le-mul_right m h, long, room)

-- the machine's divisor
divisor_is : {z : ℤ} {d : ℕ} → SFits w64 z → z ≡ pos d → to_z w64 (of_z w64 z) ≡ pos d
divisor_is f e = to_z-of_z f ∙ e

pub loop-k-init : goal.loop-k-init
loop-k-init g c = record {
  small = first_of c.args.first c.requires.0.small;
  listed = λ s h. (
    record { before = h.zeroth; here = h.first; after = h.second },
    rw (zero-mul g.row.M) (filled_none _ _ (sym (between_length _ _ _ _))),
  );
}

pub list_sums-requires : goal.list_sums-requires
list_sums-requires g c =
    let p = c.requires.0 in
    let i = c.loop-k.invariant in
    let w = listed c.args.band.weights in
    let k = c.loop-k.k in
    let m = g.row.M in
    let beyond : SFits w64 c.sum.result = sfits_of c.sum.type_inv in
    let inside : k * m + m ≤ length c.loop-k.values = turn_inside k m _ c.loop-k.values _ c.loop-k-test.true c.loop-k.auto.values p.room in
    rw (divisor_is (sfits_of c.picture_divisor.type_inv) c.picture_divisor.ensures, to_z-of_z beyond) (record {
      bound = sizes w * 2 ^ 31;
      light = omega (arith, p.columns.light);
      small = four_within i.small.before i.small.here i.small.after c.sum.ensures.1;
      factor = p.factor;
      divisor = record { above = p.above; unit = c.requires.1 };
      size = p.size;
      room = omega (arith, mid_len (k * m) (k * m + m) c.loop-k.values inside);
    })

pub loop-k-preserved : goal.loop-k-preserved
loop-k-preserved g c =
    let p = c.requires.0 in
    let i = c.loop-k.invariant in
    let w = listed c.args.band.weights in
    let k = c.loop-k.k in
    let m = g.row.M in
    let from = k * m in
    let here : SFits w64 c.loop-k.sums.here = fits w p.columns.light i.small.here in
    let after : SFits w64 c.loop-k.sums.after = fits w p.columns.light i.small.after in
    let beyond : SFits w64 c.sum.result = sfits_of c.sum.type_inv in
    let inside : k * m + m ≤ length c.loop-k.values = turn_inside k m _ c.loop-k.values _ c.loop-k-test.true c.loop-k.auto.values p.room in
    let part = rw (divisor_is (sfits_of c.picture_divisor.type_inv) c.picture_divisor.ensures, to_z-of_z beyond) at c.list_sums.ensures in
    rw (to_z-of_z here, to_z-of_z after, to_z-of_z beyond, to_z-of_z beyond) (record {
      small = record { before = i.small.here; here = i.small.after; after = c.sum.ensures.1 };
      listed = λ s h.
          let held = i.listed s h in
          let next = c.sum.ensures.0 ∙ h.next k c.loop-k-test.true in (
            record { before = held.0.here; here = held.0.after ∙ ap s (omega arith); after = next ∙ ap s (omega arith) },
            rw (add-mul k 1 m, one-mul m)
                (filled_table (from + m) _ _ held.1 (omega arith) inside
                (λ j b.
                ap (λ (f : List ℤ). round (dot (weights m j) f) (576 * m ^ 6)) (four_is s k c.loop-k.sums _ held.0 next)
                ∙ sym (between_at m s _ _ k j (omega arith) (omega (arith, inside, c.loop-k.auto.values)))) part),
          );
    })

pub returns : goal.returns
returns g c =
    let m = g.row.M in
    let last : c.loop-k.k ≡ c.args.places = omega (arith, c.loop-k.auto.k-end, c.loop-k-test.false) in
    let all : c.loop-k.k * m ≡ c.args.places * m = ap (λ (k : ℕ). k * m) last in
    record {
      listed = λ s h. let held = c.loop-k.invariant.listed s h in filled_all held.1 (omega (arith, held.1.long, c.loop-k.auto.values, c.requires.0.room, all));
    }
