-- What the functions of `riff` find in a file, as parts of it and by their places. Assumes nothing.
use Rattle.std.specs.Prelude.{true, false, Option, Some, None, List, ◌≡◌, ℕ, ◌+◌, ◌≤◌, length, drop}
use Rattle.std.specs.Borrow.{Bor}
use Rattle.std.proofs.Math.Option as maybe
use Rattle.wavefile.specs.Chunks.{size, body, padded, whole, found, format_of, content_of, legal}
use Rattle.riff.specs.declared.chunks.Chunk.{Chunk}
use Rattle.riff.specs.declared.chunks.Found.{Found}
use Rattle.riff.specs.declared.chunks.Chunks.{Chunks}

-- the chunk that bytes begin with is whole and has this body, and these bytes follow it; or it is not whole
pub record BeginsWith (bytes : List ℕ) (c : Chunk) : Type 0 where
  pub whole_chunk : whole bytes ≡ true
  pub whole_body : c.body.now ≡ body bytes
  pub sized : size bytes ≡ length c.body.now
  pub followed : c.rest.now ≡ drop (8 + padded (size bytes)) bytes

abbrev pub Begins : List ℕ → Option Chunk → Type 0
Begins bytes (Some c) = BeginsWith bytes c
Begins bytes None = whole bytes ≡ false

-- a part of the file, or none
abbrev pub format_read : Option (Bor (List ℕ)) → maybe.Option (List ℕ)
format_read (Some format) = maybe.some format.now
format_read None = maybe.none

-- bytes that are the body of a whole chunk at a place
pub record WholeChunk (bytes content : List ℕ) : Type 0 where
  pub at : ℕ
  pub inside : at + (8 + padded (size (drop at bytes))) ≤ length bytes
  pub here : content ≡ body (drop at bytes)

-- and the same of a format, where there is one
abbrev pub WholeFormat : List ℕ → Option (Bor (List ℕ)) → Type 0
WholeFormat bytes None = Unit
WholeFormat bytes (Some format) = WholeChunk bytes format.now

-- ---- the walk: the first "data" chunk and the first "fmt " before it
pub record WalkedTo (bytes : List ℕ) (f : Found) : Type 0 where
  pub chunks : found bytes ≡ maybe.some (record { format = format_read f.format; content = f.content.now })
  pub kept : WholeFormat bytes f.format
  pub inside : WholeChunk bytes f.content.now

abbrev pub Walked : List ℕ → Option Found → Type 0
Walked bytes (Some f) = WalkedTo bytes f
Walked bytes None = found bytes ≡ maybe.none

-- ---- a legal file, with its chunks
-- the body of a "fmt " chunk of 16 bytes or more
pub record LongFormat (bytes format : List ℕ) : Type 0 where
  pub inside : WholeChunk bytes format
  pub long : 16 ≤ length format

pub record FoundAt (bytes : List ℕ) (c : Chunks) : Type 0 where
  pub accepted : legal bytes ≡ true
  pub format_chunk : format_of (found bytes) ≡ c.format.now
  pub content_chunk : content_of (found bytes) ≡ c.content.now
  pub format_long : LongFormat bytes c.format.now
  pub inside : WholeChunk bytes c.content.now

abbrev pub Finds : List ℕ → Option Chunks → Type 0
Finds bytes (Some c) = FoundAt bytes c
Finds bytes None = legal bytes ≡ false
