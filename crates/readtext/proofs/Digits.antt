-- Digits byte by byte, and bounds on the number that they write. Assumes nothing.
use mathlib.Core.Bool.{◌&&◌}
use mathlib.Core.List.{List}
use mathlib.Core.Path.{◌≡◌}
use Prim.Native.Nat.{ℕ, ◌+◌, ◌-◌, ◌*◌, ◌^◌, ◌≤◌, ◌<◌}
use native.Mathlib.Nat.{pow-suc, pow-le-pow_right, lt_of_lt_of_le}
use native.Mathlib.Numerals.{add-one}
use native.Mathlib.Omega.{arith}
use lib.Dec.{lit<}
use lib.ListN.{length, get_or, drop}
use lib.Seq.{drop-cons}
use Rattle.readtext.specs.Numbers.{digit, all_digits, value_after}

-- ---- the digits from place i on
pub digits_from : (bs : List ℕ) (i : ℕ) → i < length bs → all_digits (drop i bs) ≡ (digit (get_or bs i 0) && all_digits (drop (i + 1) bs))
digits_from bs i h = rw (add-one, drop-cons bs i 0)

pub value_from : (bs : List ℕ) (i a : ℕ) → i < length bs
    → value_after a (drop i bs) ≡ value_after (10 * a + (get_or bs i 0 - 48)) (drop (i + 1) bs)
value_from bs i a h = rw (add-one, drop-cons bs i 0)

-- ---- how great the number of digits is
pub next_below : (v i d : ℕ) → v < 10 ^ i → d < 10 → 10 * v + d < 10 ^ (i + 1)
next_below v i d h k = rw (add-one, pow-suc) (omega arith)

pub five_below : (v i : ℕ) → v < 10 ^ i → i ≤ 5 → v < 100000
five_below v i h k = lt_of_lt_of_le h (pow-le-pow_right {n = 10} (lit< tt) k)
