-- How chunks and files are written, and the plain file of a clip: "Clips as WAVE files". Assumes nothing.
use Rattle.std.specs.Prelude.{Bool, false, ◌||◌, List, [], ◌∷◌, ◌++◌, ◌≡◌, ℕ, zero, suc, ◌+◌, ◌-◌, ◌*◌, ◌/◌, ◌%◌, ◌^◌, ◌<◌, ℤ, pos, negsuc, neg_ℤ, length, replicate, ◌≤ℤ◌}
use Rattle.wavefile.specs.Bytes.{same, riff_mark, wave_mark, format_name, data_name}

-- the n lowest bytes of a number, the lowest first
abbrev pub little_bytes : ℕ → ℕ → List ℕ
little_bytes zero v = []
little_bytes (suc n) v = v % 256 ∷ little_bytes n (v / 256)

-- ---- chunks
-- a name, a body, and the byte that follows a body of odd length
pub record Chunk : Type 0 where
  pub name : List ℕ
  pub content : List ℕ
  pub pad : ℕ

-- the name has four bytes, and the length of the body fits four
pub record Writable (c : Chunk) : Type 0 where
  pub four : length c.name ≡ 4
  pub short : length c.content < 2 ^ 32

unfoldable pub chunk_bytes : Chunk → List ℕ
chunk_bytes c = c.name ++ little_bytes 4 (length c.content) ++ c.content ++ replicate (length c.content % 2) c.pad

-- one after the other
unfoldable pub chunks_bytes : List Chunk → List ℕ
chunks_bytes [] = []
chunks_bytes (c ∷ cs) = chunk_bytes c ++ chunks_bytes cs

-- whether one of them has a name
abbrev pub has : List ℕ → List Chunk → Bool
has name [] = false
has name (c ∷ cs) = same c.name name || has name cs

-- ---- files
-- the header and then the bytes of all chunks
unfoldable pub file_of : List ℕ → List ℕ
file_of chunks = riff_mark ++ little_bytes 4 (4 + length chunks) ++ wave_mark ++ chunks

-- tag 1, one channel, the rate, the bytes of a second, the bytes of a sample and its bits
abbrev pub plain_format : ℕ → List ℕ
plain_format rate = little_bytes 2 1 ++ little_bytes 2 1 ++ little_bytes 4 rate ++ little_bytes 4 (2 * rate) ++ little_bytes 2 2 ++ little_bytes 2 16

-- a sample has 16 bits
pub record Sample (z : ℤ) : Type 0 where
  pub low : neg_ℤ (pos 32768) ≤ℤ z
  pub high : z ≤ℤ pos 32767

-- its two's complement
abbrev pub unsigned : ℤ → ℕ
unsigned (pos n) = n
unsigned (negsuc n) = 65536 - suc n

-- two bytes to a sample
unfoldable pub sample_bytes : List ℤ → List ℕ
sample_bytes [] = []
sample_bytes (z ∷ zs) = little_bytes 2 (unsigned z) ++ sample_bytes zs

-- the file of samples at a rate: a "fmt " chunk and a "data" chunk
abbrev pub format_chunk : ℕ → Chunk
format_chunk rate = record { name = format_name; content = plain_format rate; pad = 0 }

abbrev pub data_chunk : List ℤ → Chunk
data_chunk s = record { name = data_name; content = sample_bytes s; pad = 0 }

unfoldable pub written : ℕ → List ℤ → List ℕ
written rate s = file_of (chunk_bytes (format_chunk rate) ++ chunk_bytes (data_chunk s))
