-- Examples of the definitions, by computing: the file of the samples 0, 1, 0 at 96,000 a second, and files that are refused. Assumes nothing.
use mathlib.Core.List.{List, [], ◌∷◌, ◌++◌, map}
use mathlib.Core.Path.{◌≡◌, refl}
use Prim.Native.Nat.{ℕ}
use lib.IntN.{ℤ, pos}
use lib.ListN.{take, set}
use Rattle.wavefile.specs.Bytes.{format_name}
use Rattle.wavefile.specs.Chunks.{walk, found, to_end, data_end}
use Rattle.wavefile.specs.Outcomes.{clip, refusal, wav_read}
use Rattle.wavefile.specs.Samples.{samples}
use Rattle.wavefile.specs.Writing.{Chunk, chunk_bytes, file_of, plain_format, sample_bytes, format_chunk, data_chunk, written}

-- 50 bytes: the header, the "fmt " chunk and the "data" chunk, each with its mark or name first
abbrev pub example : List ℕ
example =
    82 ∷ 73 ∷ 70 ∷ 70 ∷ 42 ∷ 0 ∷ 0 ∷ 0 ∷ 87 ∷ 65 ∷ 86 ∷ 69 ∷
    102 ∷ 109 ∷ 116 ∷ 32 ∷ 16 ∷ 0 ∷ 0 ∷ 0 ∷ 1 ∷ 0 ∷ 1 ∷ 0 ∷ 0 ∷ 119 ∷ 1 ∷ 0 ∷ 0 ∷ 238 ∷ 2 ∷ 0 ∷ 2 ∷ 0 ∷ 16 ∷ 0 ∷
    100 ∷ 97 ∷ 116 ∷ 97 ∷ 6 ∷ 0 ∷ 0 ∷ 0 ∷ 0 ∷ 0 ∷ 1 ∷ 0 ∷ 0 ∷ 0 ∷ []

abbrev pub click : List ℤ
click = pos 0 ∷ pos 1 ∷ pos 0 ∷ []

-- they are what is written
pub example_written : written 96000 click ≡ example
unfolding written file_of chunk_bytes sample_bytes
example_written = refl

abbrev pub nines : List ℤ
nines = pos 9 ∷ pos 9 ∷ pos 9 ∷ pos 9 ∷ []

-- they are read into a buffer of four, whose last number stays
pub example_read : wav_read example nines ≡ record { answer = clip 3 96000; samples = pos 0 ∷ pos 1 ∷ pos 0 ∷ pos 9 ∷ [] }
unfolding wav_read found walk samples
example_read = refl

-- whatever follows them, the "data" chunk ends after 50 bytes; with five bytes of data, their pad byte ends it
pub example_ends : data_end (example ++ example) ∷ data_end (set example 40 5 ++ example) ∷ [] ≡ 50 ∷ 50 ∷ []
unfolding data_end to_end
example_ends = refl

-- a buffer of two is refused 13
pub short_refused : wav_read example (take 2 nines) ≡ record { answer = refusal 13; samples = take 2 nines }
unfolding wav_read found walk samples
short_refused = refl

-- ---- wrong files
-- a small letter in either mark; one byte is cut off; the same with the size in the header lowered; the same with two channels; a "fmt " of 15 bytes; a "fmt " after the "data"
abbrev pub cut : List ℕ
cut = set (take 49 example) 4 41

abbrev pub short_format : Chunk
short_format = record { name = format_name; content = take 15 (plain_format 96000); pad = 0 }

abbrev pub broken : List (List ℕ)
broken =
    set example 0 114 ∷
    set example 11 101 ∷
    take 49 example ∷
    cut ∷
    set cut 22 2 ∷
    file_of (chunk_bytes short_format ++ chunk_bytes (data_chunk click)) ∷
    file_of (chunk_bytes (data_chunk click) ++ chunk_bytes (format_chunk 96000)) ∷
    []

-- tag 3; 8 bits; two channels; the same with five bytes of data and a pad byte; such data alone; one byte of data; no samples
abbrev pub unsuitable : List (List ℕ)
unsuitable =
    set example 20 3 ∷
    set example 34 8 ∷
    set example 22 2 ∷
    set (set example 22 2) 40 5 ∷
    set example 40 5 ∷
    set example 40 1 ∷
    written 96000 [] ∷
    []

-- they are refused by these numbers, and the buffer stays
pub wrong_refused : map (λ (bytes : List ℕ). wav_read bytes nines) (broken ++ unsuitable) ≡
    map (λ (k : ℕ). record { answer = refusal k; samples = nines }) (11 ∷ 11 ∷ 11 ∷ 11 ∷ 11 ∷ 11 ∷ 11 ∷ 12 ∷ 12 ∷ 12 ∷ 12 ∷ 13 ∷ 13 ∷ 1 ∷ [])
unfolding wav_read found walk samples written file_of chunk_bytes sample_bytes
wrong_refused = refl
