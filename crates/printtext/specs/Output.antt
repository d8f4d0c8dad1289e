-- The bytes that rowzoom prints: "The program rowzoom". Assumes nothing.
use Rattle.std.specs.Prelude.{List, [], ◌∷◌, ◌++◌, ℕ, zero, suc, ◌*◌, ℤ, length, take, drop}
use Rattle.bspline.specs.Values.{Position, zoom_position}
use Rattle.decimal.specs.Decimal.{field, signed_field}
use Rattle.judgetext.specs.Outcomes.{Outcome, row, refused, zoom_text}

-- "rowzoom "
abbrev pub name : List ℕ
name = 114 ∷ 111 ∷ 119 ∷ 122 ∷ 111 ∷ 111 ∷ 109 ∷ 32 ∷ []

-- the name, n, m and the count of values
unfoldable pub header : ℕ → ℕ → ℕ → List ℕ
header n m count = name ++ (field n 32 ++ (field m 32 ++ field count 10))

-- its bytes at most: 8 of the name, and 4, 2 and 5 digits, each with the byte after them
abbrev pub longest_header : ℕ
longest_header = 22

-- k, j and the value
unfoldable pub value_line : Position → ℤ → List ℕ
value_line p v = field p.k 32 ++ (field p.j 32 ++ signed_field v 10)

-- its bytes at most: 4 and 2 digits, and 11 of a value with its sign, each with the byte after them
abbrev pub longest_line : ℕ
longest_line = 20

-- a line for each value, from the i-th on
unfoldable pub value_lines : ℕ → ℕ → List ℤ → List ℕ
value_lines m i [] = []
value_lines m i (v ∷ vs) = value_line (zoom_position m i) v ++ value_lines m (suc i) vs

-- "refused "
abbrev pub refused_word : List ℕ
refused_word = 114 ∷ 101 ∷ 102 ∷ 117 ∷ 115 ∷ 101 ∷ 100 ∷ 32 ∷ []

-- the word and the number
unfoldable pub refusal_line : ℕ → List ℕ
refusal_line k = refused_word ++ field k 10

-- what is printed of an outcome
unfoldable pub printed : Outcome → List ℕ
printed (row n m vs) = header n m (length vs) ++ value_lines m 0 vs
printed (refused k) = refusal_line k

-- what rowzoom prints for a text
unfoldable pub output : List ℕ → List ℕ
output t = printed (zoom_text t)

-- ---- the output by parts
-- the bytes of a block, which holds every part
abbrev pub block : ℕ
block = 65536

-- how many lines of values a part has
abbrev pub lines_of_part : ℕ
lines_of_part = 3275

-- how many parts the longest output has, its first line among them
abbrev pub most_parts : ℕ
most_parts = 22

-- the first line, and then lines of values; a refusal has one part
unfoldable pub part : ℕ → Outcome → List ℕ
part zero (row n m vs) = header n m (length vs)
part (suc b) (row n m vs) = value_lines m (lines_of_part * b) (take lines_of_part (drop (lines_of_part * b) vs))
part zero (refused k) = refusal_line k
part (suc b) (refused k) = []

-- the first parts, one after the other
abbrev pub parts : ℕ → Outcome → List ℕ
parts zero o = []
parts (suc b) o = parts b o ++ part b o
