-- Lists of numbers by their places. Assumes nothing.
use Rattle.std.specs.Prelude.{List, [], ◌∷◌, ℕ, zero, suc, ℤ, pos, get_or}

-- f a, f (a + 1), and so on: n numbers
unfoldable pub tabulate : (ℕ → ℤ) → ℕ → ℕ → List ℤ
tabulate f a zero = []
tabulate f a (suc n) = f a ∷ tabulate f (suc a) n

-- the number at a place of a list; past the end 0
abbrev pub at : List ℤ → ℕ → ℤ
at l k = get_or l k (pos 0)
