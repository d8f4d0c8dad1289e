-- The fields of a line put one after the other: they have room, since by the limits each number has so many digits at most. Assumes nothing.
use mathlib.Core.List.{List, ◌++◌}
use Prim.Native.Nat.{ℕ, ◌+◌, ◌≤◌, ◌<◌}
use native.Mathlib.Omega.{arith}
use lib.Dec.{lit≤}
use lib.IntN.{ℤ}
use lib.ListN.{length}
use Rattle.bspline.specs.Limits.{longest_row, greatest_factor, most_values}
use Rattle.decimal.specs.Buffers.{Put}
use Rattle.decimal.specs.Decimal.{field, signed_field}
use Rattle.decimal.proofs.Fields.{field_short, signed_field_short, put_three}
use Rattle.printtext.specs.Output.{name, header, longest_header, value_line, longest_line}

-- ---- how long the fields are at most
pub samples_short : (n : ℕ) → n ≤ longest_row → length (field n 32) ≤ 5
samples_short n h = field_short n 32 3 (omega arith) (lit≤ tt)

pub factor_short : (m : ℕ) → m ≤ greatest_factor → length (field m 32) ≤ 3
factor_short m h = field_short m 32 1 (omega arith) (lit≤ tt)

pub values_short : (count : ℕ) → count ≤ most_values → length (field count 10) ≤ 6
values_short count h = field_short count 10 4 (omega arith) (lit≤ tt)

pub value_short : (v : ℤ) → length (signed_field v 10) ≤ 12
value_short v = signed_field_short v 10

-- a byte's number
pub refusal_short : (k : ℕ) → k < 256 → length (field k 10) ≤ 4
refusal_short k h = field_short k 10 2 (omega arith) (lit≤ tt)

-- ---- the first line, in three steps
pub header_put : {n m count e f g : ℕ} {w x y z : List ℕ} → Put 0 (name ++ field n 32) w x e → Put e (field m 32) x y f → Put f (field count 10) y z g →
    n ≤ longest_row → m ≤ greatest_factor → count ≤ most_values → longest_header ≤ length w → Put 0 (header n m count) w z g
unfolding header
header_put {n} {m} {count} {e} {f} {g} {w} p q r h k l room =
    let a = samples_short n h in
    let b = factor_short m k in
    let c = values_short count l in
    put_three {a = name ++ field n 32} {w = w} p q r (omega arith)

-- ---- the line of a value, in three steps
pub line_put : (k j : ℕ) (v : ℤ) {at e f g : ℕ} {w x y z : List ℕ} → Put at (field k 32) w x e → Put e (field j 32) x y f → Put f (signed_field v 10) y z g →
    k ≤ longest_row → j ≤ greatest_factor → at + longest_line ≤ length w → Put at (value_line (record { k = k; j = j }) v) w z g
unfolding value_line
line_put k j v {at} {e} {f} {g} {w} p q r h i room =
    let a = samples_short k h in
    let b = factor_short j i in
    let c = value_short v in
    put_three {w = w} p q r (omega arith)
