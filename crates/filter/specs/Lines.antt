-- Lines of the coefficient buffer: n numbers from `from` on, `step` apart. A row has step 1, a column the picture's width.
-- The contracts of the line filter cite these. Assumes nothing.
use Rattle.std.specs.Prelude.{List, [], ◌∷◌, ◌≡◌, ℕ, ◌+◌, ◌*◌, ◌^◌, ◌≤◌, ◌<◌, ℤ, pos, nat_abs, ◌*ℤ◌, length, drop, set}
use Rattle.bspline.specs.Bounds.{AllWithin}
use Rattle.bspline.specs.Limits.{longest_row, work_words}
use Rattle.bspline.specs.Recursions.{first, backward, coefficients}
use Rattle.bspline.specs.Lists.{at}

-- t[k] of the line: 16 times its coefficient at place k
abbrev pub loaded_line : ℕ → ℕ → List ℤ → ℕ → ℤ
loaded_line from step c k = pos 16 *ℤ at c (from + step * k)

-- a buffer with the numbers of a list written to the places of a line
unfoldable pub scatter : ℕ → ℕ → List ℤ → List ℤ → List ℤ
scatter from step [] c = c
scatter from step (v ∷ vs) c = set (scatter (from + step) step vs c) from v

-- a line that lies in a buffer, and whose numbers are no greater than a row's coefficients: 16 times them fill the range of a column
pub record Line (from step n : ℕ) (c : List ℤ) : Type 0 where
  pub some : 0 < n
  pub short : n ≤ longest_row
  pub inside : (k : ℕ) → k < n → from + step * k < length c
  pub small : (k : ℕ) → k < n → nat_abs (at c (from + step * k)) ≤ 27 * 2 ^ 24

-- what the causal recursion leaves of a line of n: the p of its whole window, each in its range
pub record CausalWindow (n : ℕ) (work : List ℤ) : Type 0 where
  pub long : length work ≡ work_words n
  pub small : AllWithin (81 * 2 ^ 27) work

-- b is that of place i of such a window, in its range: from it the anticausal recursion goes on to the places below
pub record AnticausalAt (work : List ℤ) (b : ℤ) (i : ℕ) : Type 0 where
  pub within : i ≤ length work
  pub reached : b ≡ first (backward (drop i work))
  pub small : nat_abs b ≤ 243 * 2 ^ 24

-- `count` lines of n numbers, which begin `between` apart, each as `Line` has it; no two of them share a place
pub record Lines (count between step n : ℕ) (c : List ℤ) : Type 0 where
  pub some : 0 < n
  pub short : n ≤ longest_row
  pub moves : 0 < step
  pub inside : (i k : ℕ) → i < count → k < n → i * between + step * k < length c
  pub small : (i k : ℕ) → i < count → k < n → nat_abs (at c (i * between + step * k)) ≤ 27 * 2 ^ 24
  pub apart : (i j k l : ℕ) → i < count → j < count → k < n → l < n → i * between + step * k ≡ j * between + step * l → i ≡ j

-- each of the lines of c₀ is replaced by its coefficients
pub record LinesFiltered (count between step n : ℕ) (c₀ c : List ℤ) : Type 0 where
  pub long : length c ≡ length c₀
  pub filtered : (i k : ℕ) → i < count → k < n → at c (i * between + step * k) ≡ at (coefficients n (loaded_line (i * between) step c₀)) k
