-- A row of samples in the coefficients' unit as one line of its buffer: it can be filtered, and its coefficients are those of the row.
-- Assumes nothing.
use mathlib.Core.List.{List}
use mathlib.Core.Path.{◌≡◌, ap, ◌∙◌}
use Prim.Native.Nat.{ℕ, ◌+◌, ◌*◌, ◌≤◌, ◌<◌}
use native.Mathlib.Omega.{arith}
use lib.IntN.{ℤ, pos, ◌*ℤ◌}
use lib.ListN.{length}
use Rattle.bspline.specs.Limits.{longest_row}
use Rattle.bspline.specs.Lists.{at}
use Rattle.bspline.specs.Recursions.{coefficients}
use Rattle.bspline.specs.Transforms.{row_coefficients}
use Rattle.bspline.proofs.Lines.{coefficients_same}
use Rattle.filter.specs.Lines.{Line, loaded_line}
use Rattle.buffers.specs.Raised.{Raised}
use Rattle.buffers.proofs.Raising.{raised_at, raised_small, raised_loaded}

own_place : (k : ℕ) → 0 + 1 * k ≡ k
own_place k = omega arith

module _ {s c : List ℤ} (r : Raised s c) (some : 0 < length s) (short : length s ≤ longest_row) (long : length c ≡ length s) where
  pub row_line : Line 0 1 (length s) c
  row_line = record {
    some = some;
    short = short;
    inside = λ k h. omega arith;
    small = λ k h. rw (own_place k, raised_at r k) (raised_small (at s k) (r.small.within k h));
  }

  pub row_coefficients_lem : coefficients (length s) (loaded_line 0 1 c) ≡ row_coefficients s
  unfolding row_coefficients
  row_coefficients_lem =
      coefficients_same (length s) (loaded_line 0 1 c) (λ k. pos 65536 *ℤ at s k) some
      (λ k h. ap (λ (x : ℤ). pos 16 *ℤ x) (ap (at c) (own_place k) ∙ raised_at r k) ∙ raised_loaded (at s k))
