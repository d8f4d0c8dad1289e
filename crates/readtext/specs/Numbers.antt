-- Which text is legal and which numbers it means: "The program rowzoom". A text is its bytes. Assumes nothing.
use Rattle.std.specs.Prelude.{Bool, true, false, ◌&&◌, cond, List, [], ◌∷◌, ℕ, ◌+◌, ◌-◌, ◌*◌, eqb, leb, ℤ, pos, neg_ℤ, length}
use Rattle.std.proofs.Math.Option.{Option, none, some}
use lib.NonEmpty.{List⁺, one, ◌∷⁺◌}

-- ---- a line
-- the bytes 0 to 9
abbrev pub digit : ℕ → Bool
digit b = leb 48 b && leb b 57

-- whether every byte is one
abbrev pub all_digits : List ℕ → Bool
all_digits [] = true
all_digits (b ∷ bs) = digit b && all_digits bs

-- the number that digits write after a number a
abbrev pub value_after : ℕ → List ℕ → ℕ
value_after a [] = a
value_after a (b ∷ bs) = value_after (10 * a + (b - 48)) bs

-- 1 to 5 digits
abbrev pub well_formed : List ℕ → Bool
well_formed bs = leb 1 (length bs) && leb (length bs) 5 && all_digits bs

-- a number from -32768 to 32767, from its sign and its size
abbrev pub in_range : Bool → ℕ → Option ℤ
in_range true v = cond (leb v 32768) (some (neg_ℤ (pos v))) none
in_range false v = cond (leb v 32767) (some (pos v)) none

-- the number of digits after a sign
abbrev pub signed_number : Bool → List ℕ → Option ℤ
signed_number minus bs = cond (well_formed bs) (in_range minus (value_after 0 bs)) none

-- the number of a line without its line feed: an optional minus, then 1 to 5 digits
unfoldable pub line_number : List ℕ → Option ℤ
line_number [] = none
line_number (b ∷ bs) = cond (eqb b 45) (signed_number true bs) (signed_number false (b ∷ bs))

-- ---- a text
-- a byte before the first line
abbrev pub longer : ℕ → List⁺ (List ℕ) → List⁺ (List ℕ)
longer b (one l) = one (b ∷ l)
longer b (l ∷⁺ ls) = (b ∷ l) ∷⁺ ls

-- the bytes before the first line feed, those between it and the next, and so on; at the end those after the last one
unfoldable pub lines : List ℕ → List⁺ (List ℕ)
lines [] = one []
lines (b ∷ bs) = cond (eqb b 10) ([] ∷⁺ lines bs) (longer b (lines bs))

-- a number before others
abbrev pub and_then : Option ℤ → Option (List ℤ) → Option (List ℤ)
and_then none rest = none
and_then (some z) none = none
and_then (some z) (some zs) = some (z ∷ zs)

-- the numbers of lines; nothing follows the last line feed
abbrev pub line_numbers : List⁺ (List ℕ) → Option (List ℤ)
line_numbers (one []) = some []
line_numbers (one (b ∷ bs)) = none
line_numbers (l ∷⁺ ls) = and_then (line_number l) (line_numbers ls)

-- the numbers of a legal text
unfoldable pub numbers : List ℕ → Option (List ℤ)
numbers t = line_numbers (lines t)
