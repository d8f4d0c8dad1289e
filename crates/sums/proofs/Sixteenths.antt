-- The table of the weights at factor 16 is the formula at every numerator: one computed equation over the whole table. Assumes nothing.
use mathlib.Core.List.{List, [], ◌∷◌}
use mathlib.Core.Path.{◌≡◌, refl, ap, ◌∙◌}
use Prim.Native.Nat.{ℕ, zero, suc, ◌+◌, ◌<◌}
use native.Mathlib.Omega.{arith}
use lib.IntN.{ℤ, pos}
use lib.ListN.{get_or}
use Rattle.bspline.specs.Values.{weights}

-- the numbers of the code's table
abbrev pub sixteenths : List (List ℤ)
sixteenths =
    (pos 4096 ∷ pos 16384 ∷ pos 4096 ∷ pos 0 ∷ [])
    ∷ (pos 3375 ∷ pos 16291 ∷ pos 4909 ∷ pos 1 ∷ [])
    ∷ (pos 2744 ∷ pos 16024 ∷ pos 5800 ∷ pos 8 ∷ [])
    ∷ (pos 2197 ∷ pos 15601 ∷ pos 6751 ∷ pos 27 ∷ [])
    ∷ (pos 1728 ∷ pos 15040 ∷ pos 7744 ∷ pos 64 ∷ [])
    ∷ (pos 1331 ∷ pos 14359 ∷ pos 8761 ∷ pos 125 ∷ [])
    ∷ (pos 1000 ∷ pos 13576 ∷ pos 9784 ∷ pos 216 ∷ [])
    ∷ (pos 729 ∷ pos 12709 ∷ pos 10795 ∷ pos 343 ∷ [])
    ∷ (pos 512 ∷ pos 11776 ∷ pos 11776 ∷ pos 512 ∷ [])
    ∷ (pos 343 ∷ pos 10795 ∷ pos 12709 ∷ pos 729 ∷ [])
    ∷ (pos 216 ∷ pos 9784 ∷ pos 13576 ∷ pos 1000 ∷ [])
    ∷ (pos 125 ∷ pos 8761 ∷ pos 14359 ∷ pos 1331 ∷ [])
    ∷ (pos 64 ∷ pos 7744 ∷ pos 15040 ∷ pos 1728 ∷ [])
    ∷ (pos 27 ∷ pos 6751 ∷ pos 15601 ∷ pos 2197 ∷ [])
    ∷ (pos 8 ∷ pos 5800 ∷ pos 16024 ∷ pos 2744 ∷ [])
    ∷ (pos 1 ∷ pos 4909 ∷ pos 16291 ∷ pos 3375 ∷ [])
    ∷ []

-- the weights by the formula, at n numerators from a on
unfoldable formula : ℕ → ℕ → List (List ℤ)
formula a zero = []
formula a (suc n) = weights 16 a ∷ formula (suc a) n

formula_at : (a n j : ℕ) → j < n → get_or (formula a n) j [] ≡ weights 16 (a + j)
unfolding formula
formula_at a zero j h = absurd (omega arith)
formula_at a (suc n) zero h = ap (weights 16) (omega arith)
formula_at a (suc n) (suc j) h = formula_at (suc a) n j (omega arith) ∙ ap (weights 16) (omega arith)

-- the whole table is the formula
whole : sixteenths ≡ formula 0 16
unfolding formula weights
whole = refl

pub sixteenth_is : (j : ℕ) → j < 16 → get_or sixteenths j [] ≡ weights 16 j
sixteenth_is j h = ap (λ (l : List (List ℤ)). get_or l j []) whole ∙ formula_at 0 16 j h ∙ ap (weights 16) (omega arith)
