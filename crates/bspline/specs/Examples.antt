-- The marked examples M1 to M13 of "Checked examples", as one list and one predicate. proofs/Worked.antt proves that all of them hold,
-- and that the exact solutions among them are the only ones.
-- Assumes nothing.
use Rattle.std.specs.Prelude.{List, [], ◌∷◌, ◌≡◌, ℕ, ◌-◌, ◌+◌, ◌^◌, ℤ, pos, neg_ℤ, length}
use Rattle.std.proofs.Common.{lit<}
use Rattle.bspline.specs.Exact.{Fractions, Same, Solves, Grid, SameGrid, SolvesPicture, over, whole, whole_grid}
use Rattle.bspline.specs.Mirror.{mirror}
use Rattle.bspline.specs.Recursions.{R}
use Rattle.bspline.specs.PictureLayout.{Shape, sides}
use Rattle.bspline.specs.Transforms.{row_coefficients}
use Rattle.bspline.specs.Values.{weights}

pub data Example : Type 0 where
  -- R(a) = r
  rounds : ℤ → ℤ → Example
  -- in a row of n an index reads a place
  reads : ℕ → ℤ → ℕ → Example
  -- the exact solution of a row, of a picture
  solves : List ℤ → Fractions → Example
  solves_picture : Shape → List ℤ → Grid → Example
  -- the four weights at m and j
  weighs : ℕ → ℕ → List ℤ → Example
  -- a row has these coefficients
  transforms : List ℤ → List ℤ → Example

abbrev pub Holds : Example → Type 0
Holds (rounds a r) = R a ≡ r
Holds (reads n k i) = mirror n k ≡ i
Holds (solves s c) = Solves (length s) (whole s) c
Holds (solves_picture d p c) = SolvesPicture d.width d.height (whole_grid d p) c
Holds (weighs m j ws) = weights m j ≡ ws
Holds (transforms s C) = row_coefficients s ≡ C

-- of an example that lists an exact solution: every solution equals it
abbrev pub OnlySolution : Example → Type 0
OnlySolution (solves s c) = (x : Fractions) → Solves (length s) (whole s) x → Same (length s) x c
OnlySolution (solves_picture d p c) = (x : Grid) → SolvesPicture d.width d.height (whole_grid d p) x → SameGrid d.width d.height x c
OnlySolution (rounds a r) = Unit
OnlySolution (reads n k i) = Unit
OnlySolution (weighs m j ws) = Unit
OnlySolution (transforms s C) = Unit

infixr 30 ◌also◌
-- every example of a list holds
pub data All : List Example → Type 0 where
  end : All []
  ◌also◌ : {e : Example} {es : List Example} → Holds e → All es → All (e ∷ es)

abbrev minus : ℕ → ℤ
minus n = neg_ℤ (pos n)

abbrev two_by_two : Shape
two_by_two = sides 2 2

abbrev pub examples : List Example
examples =
    -- M1, M2, M3, M4
    rounds (pos (2 ^ 30)) (pos 1)
    ∷ rounds (pos (2 ^ 30 - 1)) (pos 0)
    ∷ rounds (minus (2 ^ 30)) (minus 1)
    ∷ rounds (minus (2 ^ 30 + 1)) (minus 1)
    -- M5, three times, and M6
    ∷ reads 4 (minus 1) 1
    ∷ reads 4 (pos 4) 2
    ∷ reads 4 (minus 24) 0
    ∷ reads 2 (minus 3) 1
    -- M7, M8, M9
    ∷ solves (pos 1 ∷ pos 0 ∷ []) (whole (pos 2 ∷ minus 1 ∷ []))
    ∷ solves (pos 0 ∷ pos 1 ∷ pos 0 ∷ []) (whole (minus 1 ∷ pos 2 ∷ minus 1 ∷ []))
    ∷ solves (pos 1 ∷ pos 0 ∷ pos 0 ∷ []) (over (pos 7 ∷ minus 2 ∷ pos 1 ∷ []) 4 (lit< tt))
    -- M10, M11
    ∷ weighs 2 1 (pos 1 ∷ pos 23 ∷ pos 23 ∷ pos 1 ∷ [])
    ∷ weighs 3 1 (pos 8 ∷ pos 93 ∷ pos 60 ∷ pos 1 ∷ [])
    -- M12, M13
    ∷ transforms (pos 0 ∷ []) (pos 0 ∷ [])
    ∷ solves_picture two_by_two (pos 1 ∷ pos 0 ∷ pos 0 ∷ pos 0 ∷ []) (whole_grid two_by_two (pos 4 ∷ minus 2 ∷ minus 2 ∷ pos 1 ∷ []))
    ∷ []
