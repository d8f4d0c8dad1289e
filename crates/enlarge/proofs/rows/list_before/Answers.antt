-- The values from all places but the last two on, and those from the last but one on, are two parts of the row's.
use Rattle.std.proofs.Common.{◌≡◌, sym, ap, ◌∙◌, ℕ, suc, ◌+◌, ◌-◌, ◌*◌, ◌^◌, ◌≤◌, ◌<◌, List, ◌++◌, length, drop, ℤ, arith}
use native.Mathlib.Nat.{zero-mul, suc-mul}
use borrow.Rule.Slice.PartMut.{mid_of, mid_len}
use lib.Seq.{length-take-le}
use Rattle.bspline.specs.Lists.{tabulate}
use Rattle.bspline.proofs.FilledLists.{filled_none, filled_all}
use Rattle.bspline.proofs.Lists.{tabulate_length, tabulate_same}
use Rattle.columns.specs.Bands.{sums_along}
use Rattle.places.specs.Places.{values_between}
use Rattle.enlarge.specs.Rows.{value_along}
use Rattle.enlarge.proofs.Parts.{front_long, two_parts}
use Rattle.enlarge.proofs.RowValues.{around, between_row, from_left, at_right, listable}
use Rattle.enlarge.proofs.rows.list_before.Goals as goal

-- the values from the last place but one on follow on those before it
parts : (width m : ℕ) → 0 < width → (width ≡ 1 → ⊥) → (width - 2) * m + m ≡ (width - 1) * m
parts width m some more =
    let e : suc (width - 2) ≡ width - 1 = omega arith in sym (suc-mul (width - 2) m) ∙ ap (λ k. k * m) e

-- so much room there is for them
room : (n k : ℕ) (values front : List ℤ) → length values ≡ n + k → length front ≡ n →
    length (mid_of n (length (front ++ drop n values) - n) (front ++ drop n values)) ≡ k
room n k values front size f =
    let whole = front_long n values front f (omega arith) ∙ size in
    mid_len n (length (front ++ drop n values)) (front ++ drop n values) (omega arith) ∙ omega (arith, whole)

-- the values from place 0 on
from_start : (m width : ℕ) (f : ℕ → ℤ) (d count : ℕ) → 0 < m → values_between m (around width f 0) d count ≡ tabulate (value_along m width f d) 0 count
from_start m width f d count some =
    between_row m width f 0 d count some ∙ tabulate_same _ _ 0 count (λ j h. ap (value_along m width f d) (omega (arith, zero-mul m)))

pub returns-then-band-eq1 : goal.returns-then-band-eq1
returns-then-band-eq1 c =
    let a = c.args in
    let value = value_along a.m.value a.band.width (sums_along a.band) (576 * a.m.value ^ 6) in
    let none : a.band.width - 1 ≡ 0 = omega arith in
    let long = c.requires.1 ∙ sym (tabulate_length value 0 ((a.band.width - 1) * a.m.value)) in
    filled_all (filled_none (tabulate value 0 ((a.band.width - 1) * a.m.value)) a.values.now long)
    (omega (arith, long, c.requires.1, ap (λ k. k * a.m.value) none, zero-mul a.m.value))

pub list_between-requires : goal.list_between-requires
list_between-requires c =
    let a = c.args in
    let ready = c.requires.0 in
    let m = a.m.value in
    let inside : (a.band.width - 2) * m ≤ length a.values.now = omega (arith, parts a.band.width m ready.some c.if-band-eq1.false, c.requires.1) in
    listable ready _ _ _ _ (omega (arith, ready.some, c.if-band-eq1.false)) c.sums-left.ensures.1 (length-take-le _ _ inside)

pub list_between-requires-2 : goal.list_between-requires-2
list_between-requires-2 c =
    let a = c.args in
    let ready = c.requires.0 in
    let inner = a.band.width - 2 in
    let joined = parts a.band.width a.m.value ready.some c.if-band-eq1.false in
    let inside : inner * a.m.value ≤ length a.values.now = omega (arith, joined, c.requires.1) in
    let left : length c.list_between.new.values ≡ inner * a.m.value = c.list_between.auto.values ∙ length-take-le _ _ inside in
    let right = room (inner * a.m.value) a.m.value a.values.now _ (c.requires.1 ∙ sym joined) left in
    listable ready _ _ _ _ (omega (arith, ready.some, c.if-band-eq1.false)) c.sums-right.ensures.1 (right ∙ omega arith)

pub returns : goal.returns
returns c =
    let a = c.args in
    let m = a.m.value in
    let ready = c.requires.0 in
    let inner = a.band.width - 2 in
    let numbers = sums_along a.band in
    let divisor = 576 * m ^ 6 in
    let value = value_along m a.band.width numbers divisor in
    let joined = parts a.band.width m ready.some c.if-band-eq1.false in
    let size : length a.values.now ≡ inner * m + m = c.requires.1 ∙ sym joined in
    let inside : inner * m ≤ length a.values.now = omega arith in
    let left =
    c.list_between.ensures.listed (around a.band.width numbers 0) (from_left a.band.width numbers inner _ c.sums-left.ensures.0 (omega (arith, ready.some, c.if-band-eq1.false)))
    ∙ from_start m a.band.width numbers divisor _ a.m.within.some
    ∙ ap (tabulate value 0) (length-take-le _ _ inside) in
    let right =
    c.list_between-2.ensures.listed (around a.band.width numbers inner) (at_right a.band.width numbers inner _ c.sums-right.ensures.0 (omega (arith, ready.some, c.if-band-eq1.false)))
    ∙ between_row m a.band.width numbers inner divisor _ a.m.within.some
    ∙ ap (tabulate (λ j. value (inner * m + j)) 0) (room (inner * m) m a.values.now _ size (ap length left ∙ tabulate_length value 0 (inner * m))) in
    two_parts value (inner * m) m a.values.now _ _ size left right ∙ ap (tabulate value 0) joined
