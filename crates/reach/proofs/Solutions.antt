-- The exact solutions of two rows that differ at one sample: at place k they differ by at most 2|d| / 2^|k - i|. Their difference solves the equations of
-- a row that is 0 but at place i, whose 1-4-1 sums are 0 but there. Assumes nothing.
use mathlib.Core.List.{List}
use mathlib.Core.Path.{◌≡◌, sym, ap, ◌∙◌}
use Prim.Native.Nat.{ℕ, ◌*◌, ◌^◌, ◌≤◌, ◌<◌}
use native.Mathlib.Omega.{arith}
use lib.IntN.{ℤ, pos, neg_ℤ, nat_abs, ◌+ℤ◌, ◌-ℤ◌, ◌*ℤ◌}
use lib.ListN.{length, set, length-set}
use lib.Seq.{get_or-set_same, get_or-set_other}
use Rattle.integers.proofs.Absolute.{abs_neg}
use Rattle.integers.proofs.Laws.{zero_diff}
use Rattle.integers.proofs.Linear.{reify, show}
use Rattle.bspline.specs.Exact.{Fractions, tridiagonal, Solves, whole}
use Rattle.bspline.specs.Lists.{at}
use Rattle.bspline.proofs.Stability.{equation_sizes}
use Rattle.bspline.proofs.Differences.{difference, difference_solves}
use Rattle.reach.specs.Reach.{DifferAt, apart, SolutionsNear}
use Rattle.reach.proofs.Halving.{falls_off}

-- a row of n fractions that is 0 but at place i
abbrev pub Only : ℕ → ℕ → Fractions → Type 0
Only n i s = (k : ℕ) → k < n → (k ≡ i → ⊥) → s.num k ≡ pos 0

-- and its exact solution
module _ (n i : ℕ) (s c : Fractions) (only : Only n i s) (solves : Solves n s c) where
  -- its sums are 0 but at i
  pub no_sum : (k : ℕ) → k < n → (k ≡ i → ⊥) → s.den * nat_abs (tridiagonal n c.num (pos k)) ≡ 0
  no_sum k l other = equation_sizes n s c solves k l ∙ rw (only k l other) (omega arith)

  -- it falls off by half from place to place
  pub solution_falls : (k : ℕ) → k < n → s.den * (2 ^ apart k i * nat_abs (c.num k)) ≤ 2 * nat_abs (s.num i) * c.den
  solution_falls k l = omega (
    arith,
    falls_off n s.den c.num i (c.den * (6 * nat_abs (s.num i))) no_sum (λ l. omega (arith, equation_sizes n s c solves i l)) k l,
  )

-- ---- two rows of samples
-- a row, and the row with another sample at place i, differ there alone
pub set_differs : (s : List ℤ) (i : ℕ) (x : ℤ) → i < length s → DifferAt i (x -ℤ at s i) s (set s i x)
set_differs s i x l = record {
  long = length-set s i x;
  there = get_or-set_same s i x (pos 0) l ∙ back x (at s i);
  elsewhere = λ k other. get_or-set_other s i k x (pos 0) (λ same. omega arith);
}
  where
    back : (x y : ℤ) → x ≡ y +ℤ (x -ℤ y)
    back x y = show (simp reify tt) (omega arith)

module _ (i : ℕ) (d : ℤ) (s t : List ℤ) (differ : DifferAt i d s t) where
  -- s - t
  abbrev pub gap : Fractions
  gap = difference (whole s) (whole t)

  -- it is 0 but at i, and d there but for its sign
  pub gap_only : Only (length s) i gap
  gap_only k l other = zero_diff (ap (λ z. pos 1 *ℤ z) (sym (differ.elsewhere k other)))

  pub gap_there : nat_abs (gap.num i) ≡ nat_abs d
  gap_there = rw differ.there (ap nat_abs (left (at s i)) ∙ abs_neg d)
    where
      left : (x : ℤ) → pos 1 *ℤ x -ℤ pos 1 *ℤ (x +ℤ d) ≡ neg_ℤ d
      left x = show (simp reify tt) (omega arith)

  module _ (c e : Fractions) (f : Solves (length s) (whole s) c) (g : Solves (length t) (whole t) e) where
    -- the difference of the exact solutions solves it
    pub gap_solved : Solves (length s) gap (difference c e)
    gap_solved = difference_solves (length s) (whole s) (whole t) c e f (rw differ.long at g)

    -- so they differ by at most 2|d| / 2^|k - i|
    pub solutions_near : (k : ℕ) → k < length s → SolutionsNear i d c e k
    solutions_near k l = omega (
      arith,
      solution_falls (length s) i gap (difference c e) gap_only gap_solved k l,
      ap (λ z. 2 * z * (c.den * e.den)) gap_there,
    )
