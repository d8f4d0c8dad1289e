-- Where a byte first stands in a text. Assumes nothing.
use Rattle.std.specs.Prelude.{Bool, true, false, List, [], ◌∷◌, ℕ, suc, eqb}

-- one place on if the byte at the front is not it
abbrev pub index_after : Bool → ℕ → ℕ
index_after true k = 0
index_after false k = suc k

-- the first place where a list has a, or its length if it has none
unfoldable pub index_of : ℕ → List ℕ → ℕ
index_of a [] = 0
index_of a (b ∷ bs) = index_after (eqb b a) (index_of a bs)
