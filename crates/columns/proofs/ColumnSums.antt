-- Columns over four rows: which of them lie in a buffer, and that their numbers are those that the definitions read, the starts being those of the
-- rows around a place. Assumes nothing.
use mathlib.Core.List.{List}
use mathlib.Core.Path.{◌≡◌, ap}
use Prim.Native.Nat.{ℕ, ◌+◌, ◌≤◌}
use native.Mathlib.Omega.{arith}
use lib.IntN.{ℤ}
use Rattle.bspline.specs.Lists.{at}
use Rattle.bspline.specs.PictureLayout.{Shape, packed, pixel}
use Rattle.bspline.specs.Values.{support}
use Rattle.bspline.proofs.Weights.{support_is}
use Rattle.sums.specs.declared.four.Four.{Four}
use Rattle.columns.specs.Columns.{Columns, StartsOf, column}

-- of n columns that lie in a buffer fewer do too
pub columns_fewer : {s : Four ℕ} {n : ℕ} {w c : List ℤ} (k : ℕ) → k ≤ n → Columns s n w c → Columns s k w c
columns_fewer k h p =
    let r = p.reaches in
    record {
      reaches = record { before = omega (arith, r.before); here = omega (arith, r.here); after = omega (arith, r.after); beyond = omega (arith, r.beyond) };
      light = p.light;
    }

pub column_is : (d : Shape) (l : ℕ) (s : Four ℕ) (c : List ℤ) → StartsOf d l s → (x : ℕ) →
    column s c x ≡ support d.height (λ y. pixel (packed d) c x y) l
column_is d l s c e x =
    support_is d.height l (λ y. pixel (packed d) c x y) (from e.before) (from e.here) (from e.after) (from e.beyond)
  where
    from : {i j : ℕ} → i ≡ j → at c (i + x) ≡ at c (j + x)
    from e = ap (λ i. at c (i + x)) e
