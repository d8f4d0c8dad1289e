-- What the functions of `readtext` find in a line and in a text, and their answers read as that. Assumes nothing.
use Rattle.std.specs.Prelude.{cond, List, ◌≡◌, ℕ, ℤ, Option, None, Some, length, take}
use Rattle.std.proofs.Math.Option as found
use Rattle.readtext.specs.Numbers.{value_after, well_formed, numbers}

-- the number that 1 to 5 digits write, and nothing of other bytes
abbrev pub size_of : List ℕ → Option ℕ
size_of bs = cond (well_formed bs) (Some (value_after 0 bs)) None

-- what was read of a line
abbrev pub number_read : Option ℤ → found.Option ℤ
number_read (Some z) = found.some z
number_read None = found.none

-- a list of n numbers, of which as many as a buffer holds are at its start
pub record Begun (l : List ℤ) (n : ℕ) (buffer : List ℤ) : Type 0 where
  pub count : length l ≡ n
  pub begin : take (length buffer) l ≡ take n buffer

-- a legal text has such numbers
pub record Holds (t : List ℕ) (buffer : List ℤ) (n : ℕ) : Type 0 where
  pub all : List ℤ
  pub legal : numbers t ≡ found.some all
  pub begun : Begun all n buffer

-- what was read of a text, into a buffer
abbrev pub Reads : List ℕ → List ℤ → Option ℕ → Type 0
Reads t buffer (Some n) = Holds t buffer n
Reads t buffer None = numbers t ≡ found.none
