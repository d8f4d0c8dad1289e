-- Three sums that are kept from place to place, the next taking the place of the first, and the values that are listed with them. Assumes nothing.
use mathlib.Core.List.{[], ◌∷◌}
use mathlib.Core.Path.{◌≡◌, refl, ap, ap₂, ◌∙◌}
use Prim.Native.Nat.{ℕ, ◌+◌, ◌*◌, ◌<◌}
use native.Mathlib.Omega.{arith}
use lib.Arith.{digits_div, digits_mod}
use lib.IntN.{ℤ}
use lib.ListN.{length}
use Rattle.integers.specs.Bound.{Within}
use Rattle.integers.specs.Rounding.{round}
use Rattle.bspline.specs.Lists.{tabulate, at}
use Rattle.bspline.specs.Values.{weights, dot}
use Rattle.bspline.proofs.Lists.{tabulate_length, tabulate_from_zero}
use Rattle.sums.specs.declared.four.Four.{Four}
use Rattle.places.specs.Places.{values_between}

-- at place k the first three of four are the numbers from s k on
pub record Rolled (s : ℕ → ℤ) (k : ℕ) (t : Four ℤ) : Type 0 where
  pub before : t.before ≡ s k
  pub here : t.here ≡ s (k + 1)
  pub after : t.after ≡ s (k + 2)

-- and as small as a sum may be
pub record FirstSmall (B : ℕ) (t : Four ℤ) : Type 0 where
  pub before : Within B t.before
  pub here : Within B t.here
  pub after : Within B t.after

-- with the next number they are the four of a value
pub four_is : (s : ℕ → ℤ) (k : ℕ) (t : Four ℤ) (x : ℤ) → Rolled s k t → x ≡ s (k + 3) → t.before ∷ t.here ∷ t.after ∷ x ∷ [] ≡ tabulate s k 4
unfolding tabulate
four_is s k t x r e =
    ap₂ ◌∷◌ r.before (ap₂ ◌∷◌ (r.here ∙ ap s (omega arith)) (ap₂ ◌∷◌ (r.after ∙ ap s (omega arith)) (ap₂ ◌∷◌ (e ∙ ap s (omega arith)) refl)))

-- ---- the values
pub between_length : (m : ℕ) (s : ℕ → ℤ) (d n : ℕ) → length (values_between m s d n) ≡ n
unfolding values_between
between_length m s d n = tabulate_length _ 0 n

-- at place k × m + j stands the value of the four from s k on, at the numerator j
pub between_at : (m : ℕ) (s : ℕ → ℤ) (d n k j : ℕ) → j < m → k * m + j < n →
    at (values_between m s d n) (k * m + j) ≡ round (dot (weights m j) (tabulate s k 4)) d
unfolding values_between
between_at m s d n k j h g =
    tabulate_from_zero _ n (k * m + j) g
    ∙ ap₂ (λ (j k : ℕ). round (dot (weights m j) (tabulate s k 4)) d) (digits_mod k h) (digits_div k h)
