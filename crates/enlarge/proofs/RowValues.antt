-- The values of a row of numbers, part after part: from place k × m on stand those of the numbers around place k, and at the right edge the column
-- that joins is the one before the last. Assumes nothing.
use mathlib.Core.List.{List, ◌∷◌}
use mathlib.Core.Path.{◌≡◌, refl, sym, ap, ap₂, ◌∙◌}
use Prim.Native.Nat.{ℕ, suc, ◌+◌, ◌*◌, ◌/◌, ◌%◌, ◌^◌, ◌≤◌, ◌<◌}
use native.Mathlib.Nat.{add-mul, div-add-mod', mod-lt}
use native.Mathlib.Omega.{arith}
use lib.IntN.{ℤ, pos, ◌-ℤ◌}
use lib.ListN.{length}
use lib.Signed.{◌<ℤ◌}
use Rattle.integers.specs.Rounding.{round}
use Rattle.integers.proofs.Linear.{reify, show}
use Rattle.bspline.specs.Bounds.{AllWithin}
use Rattle.bspline.specs.Lists.{tabulate, at}
use Rattle.bspline.specs.Mirror.{mirror}
use Rattle.bspline.specs.Values.{Position, weights, support, dot, row_sum, zoom_position}
use Rattle.bspline.proofs.Lists.{tabulate_same}
use Rattle.bspline.proofs.Mirror.{reflected, mirror_is, mirror_unique}
use Rattle.bspline.proofs.Weights.{sixth}
use Rattle.bspline.proofs.Zoom.{position_at}
use Rattle.answers.specs.declared.factor.Factor.{Factor}
use Rattle.sums.specs.declared.four.Four.{Four}
use Rattle.sums.specs.Sums.{listed}
use Rattle.sums.proofs.Divisors.{picture_divisible}
use Rattle.columns.specs.declared.Band.{Band}
use Rattle.columns.specs.Bands.{most_of}
use Rattle.columns.proofs.ColumnSums.{columns_fewer}
use Rattle.places.specs.Places.{values_between, Continues, Listable}
use Rattle.enlarge.specs.Rows.{value_along, RowReady}

-- the numbers from the index k - 1 on, continued past both ends
abbrev pub around : ℕ → (ℕ → ℤ) → ℕ → ℕ → ℤ
around n f k i = f (mirror n (pos (k + i) -ℤ pos 1))

-- four of them are those around a place
around_four : (n : ℕ) (f : ℕ → ℤ) (k a : ℕ) → tabulate (around n f k) a 4 ≡ support n f (k + a)
unfolding tabulate
around_four n f k a =
    ap₂ ◌∷◌ (moved a 0 (omega arith))
    (ap₂ ◌∷◌ (moved (suc a) 1 (omega arith)) (ap₂ ◌∷◌ (moved (suc (suc a)) 2 (omega arith)) (ap₂ ◌∷◌ (moved (suc (suc (suc a))) 3 (omega arith)) refl)))
  where
    moved : (i j : ℕ) → k + i ≡ k + a + j → around n f k i ≡ around n f (k + a) j
    moved i j e = ap (λ i. f (mirror n (pos i -ℤ pos 1))) e

-- a value of the numbers around place k is that of the row at the place k × m further on
pub between_row : (m n : ℕ) (f : ℕ → ℤ) (k d count : ℕ) → 0 < m →
    values_between m (around n f k) d count ≡ tabulate (λ j. value_along m n f d (k * m + j)) 0 count
unfolding values_between row_sum
between_row m n f k d count some = tabulate_same _ _ 0 count (λ i h. each i)
  where
    value : Position → ℤ
    value p = round (dot (weights m p.j) (support n f p.k)) d

    each : (i : ℕ) → round (dot (weights m (i % m)) (tabulate (around n f k) (i / m) 4)) d ≡ value (zoom_position m (k * m + i))
    each i =
        let e : (k + i / m) * m + i % m ≡ k * m + i = omega (arith, add-mul k (i / m) m, div-add-mod' i m) in
        ap (λ (l : List ℤ). round (dot (weights m (i % m)) l) d) (around_four n f k (i / m))
        ∙ sym (ap value (ap (zoom_position m) (sym e) ∙ position_at m (k + i / m) (i % m) (mod-lt i some)))

-- ---- which columns join the sums
-- sums around place k are continued by the columns that the further indices read
continued : (n : ℕ) (f : ℕ → ℤ) (k x places : ℕ) (first : Four ℤ) → listed first ≡ support n f k →
    ((i : ℕ) → i < places → mirror n (pos (k + (i + 3)) -ℤ pos 1) ≡ x + i) → Continues (around n f k) first.before first.here first.after f x places
unfolding tabulate
continued n f k x places first e reads = record {
  zeroth = ap (λ l. at l 0) e;
  first = ap (λ l. at l 1) e;
  second = ap (λ l. at l 2) e;
  next = λ i h. ap f (sym (reads i h));
}

-- from place 0 on, the columns from 2 to the last
pub from_left : (n : ℕ) (f : ℕ → ℤ) (places : ℕ) (first : Four ℤ) → listed first ≡ support n f 0 → 2 + places ≤ n →
    Continues (around n f 0) first.before first.here first.after f 2 places
from_left n f places first e h =
    continued n f 0 2 places first e (λ i l. mirror_is n _ (2 + i) (omega arith) (show (simp reify tt) (omega arith)))

-- from the last place but one on, that column itself
pub at_right : (n : ℕ) (f : ℕ → ℤ) (k : ℕ) (first : Four ℤ) → listed first ≡ support n f k → k + 2 ≡ n →
    Continues (around n f k) first.before first.here first.after f k 1
at_right n f k first e h =
    continued n f k k 1 first e (λ i l. mirror_unique n _ (k + i) (omega arith) (reflected (pos 1) (show (simp reify tt) (omega arith))))

-- ---- what is asked
module _ {b : Band} {m : Factor} (ready : RowReady b m) where
  -- a sum of sums is at most 2^27 divisors
  pub quotient_small : 6 * m.value ^ 3 * most_of b ≤ 2 ^ 27 * (576 * m.value ^ 6)
  quotient_small = omega (arith, ap (λ t. 6 * m.value ^ 3 * (t * 2 ^ 31)) ready.total, sixth m.value)

  pub divisor_above : pos 0 <ℤ pos (576 * m.value ^ 6)
  divisor_above = (picture_divisible m.value m.within.some m.within.small (pos 0) refl (omega arith)).0

  pub listable : (x places : ℕ) (first : Four ℤ) (values : List ℤ) → x + places ≤ b.width → AllWithin (most_of b) (listed first) →
      length values ≡ places * m.value → Listable b x places first m.value (pos (576 * m.value ^ 6)) values
  listable x places first values h small room = record {
    columns = columns_fewer (x + places) h ready.columns;
    few = omega (arith, ready.narrow);
    small = small;
    some = m.within.some;
    factor = m.within.small;
    above = divisor_above;
    size = quotient_small;
    room = room;
  }
