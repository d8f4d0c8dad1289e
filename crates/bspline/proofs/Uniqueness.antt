-- A row and a picture have at most one exact solution: "The mirrored row" and "The two recursions". Fractions are equal as numbers,
-- whatever their denominators. Of equal data the difference is 0, so the difference of two solutions is at most three times 0
-- (`difference_bounded`). In a picture the rows determine the picture between, and then the columns determine the solution.
-- Assumes nothing.
use mathlib.Core.Path.{◌≡◌}
use Prim.Native.Nat.{ℕ, ◌*◌, ◌≤◌, ◌<◌}
use native.Mathlib.Omega.{arith}
use lib.IntN.{nat_abs}
use Rattle.integers.proofs.Absolute.{abs_zero}
use Rattle.integers.proofs.Laws.{diff_zero, zero_diff}
use Rattle.bspline.specs.Exact.{Fractions, Same, Solves, Grid, SameGrid, SolvesPicture, row, column}
use Rattle.bspline.proofs.Differences.{difference, difference_bounded}

-- two solutions of equal rows are equal
pub unique : (n : ℕ) (s t x y : Fractions) → Same n s t → Solves n s x → Solves n t y → Same n x y
unique n s t x y e f g = record { same = λ k l. diff_zero (abs_zero (small k l)) }
  where
    none : (k : ℕ) → k < n → 1 * nat_abs ((difference s t).num k) ≤ 0 * (s.den * t.den)
    none k l = rw (zero_diff (e.same k l)) (omega arith)

    small : (k : ℕ) → k < n → nat_abs ((difference x y).num k) ≡ 0
    small k l = omega (arith, difference_bounded n s t x y f g 1 0 none k l)

-- ---- pictures
module _ (w h : ℕ) (p q c d : Grid) (e : SameGrid w h p q) (f : SolvesPicture w h p c) (g : SolvesPicture w h q d) where
  -- the pictures between of two solutions of equal pictures are equal
  pub between_unique : SameGrid w h f.between g.between
  between_unique = record { same = λ x y l u. (rows y u).same x l }
    where
      rows : (y : ℕ) → y < h → Same w (row y f.between) (row y g.between)
      rows y u = unique w (row y p) (row y q) (row y f.between) (row y g.between) (record { same = λ x l. e.same x y l u }) (f.rows y u) (g.rows y u)

  -- and so are the solutions
  pub picture_unique : SameGrid w h c d
  picture_unique = record { same = λ x y l u. (columns x l).same y u }
    where
      columns : (x : ℕ) → x < w → Same h (column x c) (column x d)
      columns x l =
          unique h (column x f.between) (column x g.between) (column x c) (column x d)
          (record { same = λ y u. between_unique.same x y l u }) (f.columns x l) (g.columns x l)
