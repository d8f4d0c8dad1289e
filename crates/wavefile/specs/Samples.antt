-- The samples of a "data" chunk: "Clips as WAVE files". Assumes nothing.
use Rattle.std.specs.Prelude.{cond, List, [], ◌∷◌, ℕ, ◌+◌, ◌-◌, ◌*◌, ◌/◌, ltb, ℤ, pos, neg_ℤ, length}

-- a number of 16 bits in two's complement
abbrev pub signed : ℕ → ℤ
signed v = cond (ltb v 32768) (pos v) (neg_ℤ (pos (65536 - v)))

-- two bytes to a sample, the low one first
unfoldable pub samples : List ℕ → List ℤ
samples [] = []
samples (b ∷ []) = []
samples (low ∷ high ∷ bs) = signed (low + 256 * high) ∷ samples bs

-- how many there are
abbrev pub sample_count : List ℕ → ℕ
sample_count d = length d / 2
