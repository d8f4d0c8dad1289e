-- The positions that row zoom lists and the values there: the position at place k × m + j is k + j/m, since k × m + j has the quotient k and the
-- remainder j by m, and so the value there is the row value at k + j/m; how many there are. Assumes nothing.
use mathlib.Core.List.{List}
use mathlib.Core.Path.{◌≡◌, sym, ap, ap₂, ◌∙◌}
use Prim.Native.Nat.{ℕ, suc, ◌+◌, ◌-◌, ◌*◌, ◌/◌, ◌≤◌, ◌<◌}
use native.Mathlib.Nat.{add-zero, suc-mul, mul-le-mul, mul-le-mul_right, div-lt_iff_lt-mul}
use native.Mathlib.Omega.{arith}
use lib.Arith.{digits_div, digits_mod}
use lib.IntN.{ℤ}
use lib.ListN.{length}
use Rattle.bspline.specs.Limits.{longest_row, greatest_factor}
use Rattle.bspline.specs.Lists.{at}
use Rattle.bspline.specs.Values.{value_in_row, zoom_position, zoom_count, zoom_values}
use Rattle.bspline.proofs.Lists.{tabulate_length, tabulate_from_zero}

-- ---- the positions
pub position_at : (m k j : ℕ) → j < m → zoom_position m (k * m + j) ≡ record { k = k; j = j }
position_at m k j h = ap₂ (λ (a b : ℕ). record { k = a; j = b }) (digits_div k h) (digits_mod k h)

-- at place k × m it is k
pub position_at_sample : (m k : ℕ) → 0 < m → zoom_position m (k * m) ≡ record { k = k; j = 0 }
position_at_sample m k h = ap (zoom_position m) (sym (add-zero (k * m))) ∙ position_at m k 0 h

-- each one is at a place of the row
pub position_inside : (m n i : ℕ) → 0 < m → 0 < n → i < zoom_count m n → i / m < n
position_inside m n i p s h =
    let last : suc (n - 1) ≡ n = omega arith in
    (div-lt_iff_lt-mul p).1 (omega (arith, ap (λ k. k * m) last, suc-mul (n - 1) m))

-- a row has no more of them than the longest one
pub count_inside : (m n : ℕ) → n ≤ longest_row → zoom_count m n ≤ zoom_count m longest_row
count_inside m n h =
    let last : n - 1 ≤ longest_row - 1 = omega arith in
    omega (arith, mul-le-mul_right m last)

-- ---- the values
pub zoom_length : (m : ℕ) (c : List ℤ) → length (zoom_values m c) ≡ zoom_count m (length c)
unfolding zoom_values
zoom_length m c = tabulate_length _ 0 (zoom_count m (length c))

pub zoom_at : (m : ℕ) (c : List ℤ) (k j : ℕ) → j < m → k * m + j < zoom_count m (length c) →
    at (zoom_values m c) (k * m + j) ≡ value_in_row m c (record { k = k; j = j })
unfolding zoom_values
zoom_at m c k j h g =
    tabulate_from_zero _ (zoom_count m (length c)) (k * m + j) g
    ∙ ap (value_in_row m c) (position_at m k j h)

-- they are few: the last of the longest row at the greatest factor stands before place 65,536
pub zoom_few : (m n : ℕ) → m ≤ greatest_factor → n ≤ longest_row → n * m ≤ 65536
zoom_few m n h g = mul-le-mul g h
