-- The header of a file and its chunks, to the first "data": "Clips as WAVE files". Assumes nothing.
use Rattle.std.specs.Prelude.{Bool, ◌&&◌, cond, List, [], ◌∷◌, ℕ, zero, suc, ◌+◌, ◌%◌, eqb, leb, length, drop}
use Rattle.std.proofs.Math.Option.{Option, none, some, get_or}
use Rattle.wavefile.specs.Bytes.{part, number, same, riff_mark, wave_mark, format_name, data_name}

-- ---- the header: two marks around the size of all that follows it
abbrev pub headed : List ℕ → Bool
headed bytes = same (part 0 4 bytes) riff_mark && eqb (number 4 4 bytes + 8) (length bytes) && same (part 8 4 bytes) wave_mark

-- ---- the chunk that bytes begin with: its name, its size, its body, and a pad byte if the size is odd
abbrev pub named : List ℕ → List ℕ → Bool
named name bytes = same (part 0 4 bytes) name

abbrev pub size : List ℕ → ℕ
size bytes = number 4 4 bytes

abbrev pub body : List ℕ → List ℕ
body bytes = part 8 (size bytes) bytes

abbrev pub padded : ℕ → ℕ
padded n = n + n % 2

-- whether the bytes go so far
abbrev pub whole : List ℕ → Bool
whole bytes = leb (8 + padded (size bytes)) (length bytes)

-- ---- the walk from chunk to chunk
-- the bodies of the first "fmt ", if one came before, and of the first "data"
pub record Found : Type 0 where
  pub format : Option (List ℕ)
  pub content : List ℕ

-- the first "fmt " is kept, later ones and other chunks are skipped
abbrev pub kept : Option (List ℕ) → List ℕ → Option (List ℕ)
kept (some f) bytes = some f
kept none bytes = cond (named format_name bytes) (some (body bytes)) none

-- byte by byte, with the number of bytes to go to the next chunk; nothing where a chunk is not whole or none is a "data"
unfoldable pub walk : Option (List ℕ) → ℕ → List ℕ → Option Found
walk format skip [] = none
walk format (suc skip) (b ∷ bs) = walk format skip bs
walk format zero (b ∷ bs) =
    cond (whole (b ∷ bs))
    (cond (named data_name (b ∷ bs)) (some (record { format = format; content = body (b ∷ bs) })) (walk (kept format (b ∷ bs)) (7 + padded (size (b ∷ bs))) bs))
    none

-- the chunks after the header
unfoldable pub found : List ℕ → Option Found
found bytes = walk none 0 (drop 12 bytes)

-- ---- where the first "data" chunk and its pad byte end; the end of the file, if there is none
unfoldable pub to_end : ℕ → List ℕ → ℕ
to_end skip [] = 0
to_end (suc skip) (b ∷ bs) = suc (to_end skip bs)
to_end zero (b ∷ bs) =
    let next = 7 + padded (size (b ∷ bs)) in
    suc (cond (whole (b ∷ bs) && named data_name (b ∷ bs)) next (to_end next bs))

unfoldable pub data_end : List ℕ → ℕ
data_end bytes = 12 + to_end 0 (drop 12 bytes)

-- ---- what was found
-- the body of the "fmt " chunk and that of the "data" chunk; no bytes where there is none
abbrev pub nothing : Found
nothing = record { format = none; content = [] }

abbrev pub format_of : Option Found → List ℕ
format_of c = get_or (get_or c nothing).format []

abbrev pub content_of : Option Found → List ℕ
content_of c = (get_or c nothing).content

-- whether a file has its header, a first "data" chunk and, before it, a first "fmt " chunk of 16 bytes or more
abbrev pub legal : List ℕ → Bool
legal bytes = headed bytes && leb 16 (length (format_of (found bytes)))
