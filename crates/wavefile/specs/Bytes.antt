-- Bytes of a file: parts of it, little-endian numbers and names: "Clips as WAVE files". A file is the list of its bytes. Assumes nothing.
use Rattle.std.specs.Prelude.{Bool, true, false, ◌&&◌, List, [], ◌∷◌, ℕ, ◌+◌, ◌*◌, eqb, take, drop}

-- n bytes from a place on
abbrev pub part : ℕ → ℕ → List ℕ → List ℕ
part at n bytes = take n (drop at bytes)

-- the number that bytes are, the lowest first
abbrev pub little : List ℕ → ℕ
little [] = 0
little (b ∷ bs) = b + 256 * little bs

-- the number that n bytes from a place on are
abbrev pub number : ℕ → ℕ → List ℕ → ℕ
number at n bytes = little (part at n bytes)

-- whether two lists have the same bytes
abbrev pub same : List ℕ → List ℕ → Bool
same [] [] = true
same [] (b ∷ bs) = false
same (a ∷ l) [] = false
same (a ∷ l) (b ∷ bs) = eqb a b && same l bs

-- the two marks of a file
abbrev pub riff_mark : List ℕ
riff_mark = 82 ∷ 73 ∷ 70 ∷ 70 ∷ []

abbrev pub wave_mark : List ℕ
wave_mark = 87 ∷ 65 ∷ 86 ∷ 69 ∷ []

-- the names of the two chunks that are used, "fmt " with its space and "data"
abbrev pub format_name : List ℕ
format_name = 102 ∷ 109 ∷ 116 ∷ 32 ∷ []

abbrev pub data_name : List ℕ
data_name = 100 ∷ 97 ∷ 116 ∷ 97 ∷ []
