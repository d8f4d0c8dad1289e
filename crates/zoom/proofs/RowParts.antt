-- The values that row zoom lists, part after part: from place k × m on stand those from k on, at the numerators 0, 1 and so on, since k × m + j has
-- the quotient k and the remainder j by m. Assumes nothing.
use mathlib.Core.List.{List}
use mathlib.Core.Path.{◌≡◌, sym}
use Prim.Native.Nat.{ℕ, ◌+◌, ◌-◌, ◌*◌, ◌≤◌, ◌<◌}
use native.Mathlib.Nat.{suc-mul, mul-le-mul_right}
use native.Mathlib.Omega.{arith}
use borrow.Rule.Slice.PartMut.{mid_of, put_mid, mid_len}
use lib.IntN.{ℤ}
use lib.ListN.{length}
use Rattle.bspline.specs.Limits.{longest_row}
use Rattle.bspline.specs.Lists.{tabulate}
use Rattle.bspline.specs.Values.{value_in_row, zoom_values}
use Rattle.bspline.proofs.FilledLists.{Filled, filled_table}
use Rattle.bspline.proofs.Zoom.{zoom_length, zoom_at}
use Rattle.answers.specs.declared.factor.Factor.{Factor}
use Rattle.zoom.specs.Listing.{Between}

-- the values at the first n numerators from place k on
abbrev pub between : ℕ → List ℤ → ℕ → ℕ → List ℤ
between m c k n = tabulate (λ j. value_in_row m c (record { k = k; j = j })) 0 n

-- where they are put from place k × m on, the list is filled up to where they end
pub part_more : (m : ℕ) (c l : List ℤ) (k e : ℕ) (v : List ℤ) → Filled (zoom_values m c) l (k * m) → k * m ≤ e → e ≤ k * m + m → e ≤ length l →
    v ≡ between m c k (length (mid_of (k * m) (e - k * m) l)) → Filled (zoom_values m c) (put_mid (k * m) (e - k * m) l v) e
part_more m c l k e v f h g b q =
    filled_table e v _ f h b (λ j s. sym (zoom_at m c k j (omega arith) (omega (arith, f.long, zoom_length m c)))) q

-- the part has room for at least one of them, and for no more than m
pub part_ready : (m : Factor) (c l : List ℤ) (k e : ℕ) → k < length c → length c ≤ longest_row → k * m.value < e → e ≤ k * m.value + m.value → e ≤ length l →
    Between k m c (mid_of (k * m.value) (e - k * m.value) l)
part_ready m c l k e h s a b g =
    let room = mid_len (k * m.value) e l g in
    record { inside = h; short = s; room = omega (arith, room); some = omega (arith, room) }

-- the places from each place but the last on are before the last value
pub part_inside : (m k n : ℕ) → k < n → k * m + m ≤ n * m
part_inside m k n h = rw (sym (suc-mul k m)) (mul-le-mul_right m h)
