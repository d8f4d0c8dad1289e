-- What an outcome depends on: the header of a file and its chunks; and the header and the chunks of a file as it is written. Assumes nothing.
use mathlib.Core.Bool.{true}
use mathlib.Core.List.{List}
use mathlib.Core.Option.{none}
use mathlib.Core.Path.{◌≡◌, refl}
use Prim.Native.Nat.{ℕ, ◌+◌, ◌^◌, ◌<◌}
use native.Mathlib.Omega.{arith}
use borrow.Author.Tests.{eq-eqb}
use lib.IntN.{ℤ}
use lib.ListN.{length}
use Rattle.wavefile.specs.Bytes.{little}
use Rattle.wavefile.specs.Chunks.{headed, walk, found}
use Rattle.wavefile.specs.Outcomes.{wav_read}
use Rattle.wavefile.specs.Writing.{little_bytes, file_of}
use Rattle.wavefile.proofs.WrittenChunks.{little_of_bytes}

-- two files whose headers are both right or both wrong, with the same chunks, are read alike
pub same_outcome : (a b : List ℕ) (buffer : List ℤ) → headed a ≡ headed b → found a ≡ found b → wav_read a buffer ≡ wav_read b buffer
unfolding wav_read
same_outcome a b buffer h e = rw (h, e)

-- a header as it is written is right
pub file_headed : (chunks : List ℕ) → 4 + length chunks < 2 ^ 32 → headed (file_of chunks) ≡ true
unfolding file_of
file_headed chunks h =
    let n = 4 + length chunks in
    rw (eq-eqb (little (little_bytes 4 n) + 8) (length (file_of chunks)) (omega (arith, little_of_bytes 4 n h)))

-- and the chunks come after it
pub file_found : (chunks : List ℕ) → found (file_of chunks) ≡ walk none 0 chunks
unfolding found file_of
file_found chunks = refl
