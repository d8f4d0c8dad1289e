-- A list that a loop fills from the front with a table: as it is at the start, after a turn, and at the end. Assumes nothing.
use mathlib.Core.List.{List}
use mathlib.Core.Path.{◌≡◌, sym, ◌∙◌}
use Prim.Native.Nat.{ℕ, ◌+◌, ◌≤◌, ◌<◌}
use native.Mathlib.Omega.{arith}
use lib.IntN.{ℤ}
use lib.ListN.{length, set}
use Rattle.bspline.specs.Lists.{tabulate}
use Rattle.bspline.proofs.FilledLists.{Filled, filled_none, filled_more, filled_all}
use Rattle.bspline.proofs.Lists.{tabulate_length, tabulate_from_zero}

-- the first i numbers of the list are those of the table of f, which has n
pub record Tabled (f : ℕ → ℤ) (n : ℕ) (l : List ℤ) (i : ℕ) : Type 0 where
  pub filled : Filled (tabulate f 0 n) l i

pub tabled_none : (f : ℕ → ℤ) (l : List ℤ) → Tabled f (length l) l 0
tabled_none f l = record { filled = filled_none _ _ (sym (tabulate_length f 0 (length l))) }

-- the list has as many numbers as the table
pub tabled_long : {f : ℕ → ℤ} {n : ℕ} {l : List ℤ} {i : ℕ} → Tabled f n l i → length l ≡ n
tabled_long {f} {n} t = t.filled.long ∙ tabulate_length f 0 n

pub tabled_more : {f : ℕ → ℤ} {n : ℕ} {l : List ℤ} {i : ℕ} (v : ℤ) → Tabled f n l i → i < n → v ≡ f i → Tabled f n (set l i v) (i + 1)
tabled_more {f} {n} {l} {i} v t h e = record {
  filled = filled_more v t.filled (omega (arith, tabulate_length f 0 n)) (e ∙ sym (tabulate_from_zero f n i h));
}

pub tabled_all : {f : ℕ → ℤ} {n : ℕ} {l : List ℤ} {i : ℕ} → Tabled f n l i → n ≤ i → l ≡ tabulate f 0 n
tabled_all {f} {n} t h = filled_all t.filled (omega (arith, tabulate_length f 0 n))
