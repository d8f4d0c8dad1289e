-- The file that is written of samples at a rate reads back as those samples and that rate. Assumes nothing.
use mathlib.Core.Bool.{true}
use mathlib.Core.List.{List, [], ◌∷◌, ◌++◌}
use mathlib.Core.Option.{none, some}
use mathlib.Core.Path.{◌≡◌, refl, sym, ap, ap₂, ◌∙◌}
use mathlib.Mathlib.Data.List.Basic.{Forall-cons}
use mathlib.Mathlib.Data.List.Defs.{Forall}
use Prim.Native.Nat.{ℕ, suc, ◌+◌, ◌-◌, ◌*◌, ◌/◌, ◌%◌, ◌^◌, ◌≤◌, ◌<◌}
use native.Mathlib.Omega.{arith}
use borrow.Author.Tests.{lt-ltb, le-ltb}
use lib.Dec.{leb→le}
use lib.IntN.{ℤ, pos, negsuc}
use lib.ListN.{length, length-append}
use Rattle.bspline.specs.Limits.{longest_row}
use Rattle.bspline.specs.Outcomes.{overwrite}
use Rattle.wavefile.specs.Bytes.{format_name}
use Rattle.wavefile.specs.Chunks.{headed, found, format_of, content_of}
use Rattle.wavefile.specs.Samples.{signed, samples}
use Rattle.wavefile.specs.Outcomes.{clip, refusal, wav_read}
use Rattle.wavefile.specs.Writing.{Writable, chunk_bytes, file_of, plain_format, Sample, unsigned, sample_bytes, format_chunk, data_chunk, written}
use Rattle.wavefile.proofs.Clips.{Legal, short_buffer, many_samples, read_clip}
use Rattle.wavefile.proofs.Outcomes.{file_headed, file_found}
use Rattle.wavefile.proofs.WrittenChunks.{little_of_bytes, name_written, body_written, length_written, walk_past, walk_to}

-- ---- samples
-- two bytes hold one
small : (z : ℤ) → Sample z → unsigned z < 65536
small (pos n) f = omega (arith, leb→le n 32767 f.high.le)
small (negsuc n) f = omega arith

-- and give it back
signed_back : (z : ℤ) → Sample z → signed (unsigned z) ≡ z
signed_back (pos n) f = rw (lt-ltb n 32768 (omega (arith, leb→le n 32767 f.high.le)))
signed_back (negsuc n) f =
    let h : n ≤ 32767 = leb→le n 32767 f.low.le in
    let back : 65536 - (65536 - suc n) ≡ suc n = omega arith in
    rw (le-ltb (65536 - suc n) 32768 (omega arith), back)

-- the bytes of samples are those samples
pub samples_back : (s : List ℤ) → Forall Sample s → samples (sample_bytes s) ≡ s
unfolding samples sample_bytes
samples_back [] f = refl
samples_back (z ∷ zs) f =
    let v = unsigned z in
    let each = (Forall-cons Sample z zs).0 f in
    let h = small z each.0 in
    let word : v % 256 + 256 * (v / 256 % 256) ≡ v = omega arith in
    ap₂ ◌∷◌ (ap signed word ∙ signed_back z each.0) (samples_back zs each.1)

-- two bytes to a sample
pub sample_bytes_length : (s : List ℤ) → length (sample_bytes s) ≡ 2 * length s
unfolding sample_bytes
sample_bytes_length [] = refl
sample_bytes_length (z ∷ zs) = omega (arith, sample_bytes_length zs)

-- ---- the file
module _ (r : ℕ) (s : List ℤ) where
  abbrev chunks : List ℕ
  chunks = chunk_bytes (format_chunk r) ++ chunk_bytes (data_chunk s)

  chunks_length : length chunks ≡ 32 + 2 * length s
  chunks_length =
      length-append (chunk_bytes (format_chunk r)) (chunk_bytes (data_chunk s))
      ∙ omega (arith, length_written (format_chunk r), length_written (data_chunk s), sample_bytes_length s)

  -- it has 44 bytes before the samples, and two for each
  pub written_length : length (written r s) ≡ 44 + 2 * length s
  unfolding written file_of
  written_length = omega (arith, chunks_length)

  -- its sizes fit four bytes
  module _ (small : 36 + 2 * length s < 2 ^ 32) where
    format_writable : Writable (format_chunk r)
    format_writable = record { four = refl; short = omega arith }

    data_writable : Writable (data_chunk s)
    data_writable = record { four = refl; short = omega (arith, sample_bytes_length s) }

    written_headed : headed (written r s) ≡ true
    unfolding written
    written_headed = file_headed chunks (omega (arith, chunks_length))

    written_found : found (written r s) ≡ some (record { format = some (plain_format r); content = sample_bytes s })
    unfolding written
    written_found =
        file_found chunks
        ∙ walk_past (format_chunk r) format_writable none (chunk_bytes (data_chunk s)) refl
        ∙ rw (name_written (format_chunk r) format_writable format_name, body_written (format_chunk r) format_writable)
        (walk_to (data_chunk s) data_writable (some (plain_format r)) refl)

    -- and it is legal, with that format and those data
    written_legal : Legal (written r s) (plain_format r) (sample_bytes s) (2 * length s)
    written_legal =
        record {
          accepted = rw (written_headed, written_found);
          format = ap format_of written_found;
          content = ap content_of written_found;
          count = sample_bytes_length s;
        }

-- 1 to 4,096 samples of 16 bits, at a rate that four bytes hold, come back with their count and rate into a buffer that they fit
pub read_back : (r : ℕ) (s buffer : List ℤ) → r < 2 ^ 32 → Forall Sample s → 1 ≤ length s → length s ≤ longest_row → length s ≤ length buffer →
    wav_read (written r s) buffer ≡ record { answer = clip (length s) r; samples = overwrite s buffer }
read_back r s buffer small-rate fits some-samples few room =
    let half : 2 * length s / 2 ≡ length s = omega arith in
    sym
    (read_clip (written r s) buffer (written_legal r s (omega arith)) refl (λ e. omega arith) (omega arith) (λ e. omega arith) (omega arith))
    ∙ rw (half, little_of_bytes 4 r small-rate, samples_back s fits)

-- if the buffer is too short they are refused 13, however many they are
pub no_room_refused : (r : ℕ) (s buffer : List ℤ) → 36 + 2 * length s < 2 ^ 32 → length buffer < length s →
    wav_read (written r s) buffer ≡ record { answer = refusal 13; samples = buffer }
no_room_refused r s buffer small short = sym (short_buffer (written r s) buffer (written_legal r s small) refl (λ e. omega arith) (omega arith))

-- more than 4,096 are refused 2 if they fit
pub many_refused : (r : ℕ) (s buffer : List ℤ) → 36 + 2 * length s < 2 ^ 32 → longest_row < length s → length s ≤ length buffer →
    wav_read (written r s) buffer ≡ record { answer = refusal 2; samples = buffer }
many_refused r s buffer small many room =
    sym (many_samples (written r s) buffer (written_legal r s small) refl (λ e. omega arith) (omega arith) (λ e. omega arith) (omega arith))
