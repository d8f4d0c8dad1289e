-- A chunk that is not used, put in before the "data" chunk with the header's size raised, changes nothing. Assumes nothing.
use mathlib.Core.Bool.{Bool, true, false, ◌||◌, false≢true}
use mathlib.Core.List.{List, [], ◌∷◌, ◌++◌, append_assoc}
use mathlib.Core.Option.{Option, none, some}
use mathlib.Core.Path.{◌≡◌, refl, sym, ap, ◌∙◌}
use mathlib.Mathlib.Data.List.Basic.{Forall-cons}
use mathlib.Mathlib.Data.List.Defs.{Forall}
use Prim.Native.Nat.{ℕ, ◌+◌, ◌^◌, ◌<◌}
use native.Mathlib.Omega.{arith}
use lib.IntN.{ℤ}
use lib.ListN.{length, length-append}
use Rattle.wavefile.specs.Bytes.{same, format_name, data_name}
use Rattle.wavefile.specs.Chunks.{body, kept, walk}
use Rattle.wavefile.specs.Outcomes.{wav_read}
use Rattle.wavefile.specs.Writing.{Chunk, Writable, chunk_bytes, chunks_bytes, has, file_of}
use Rattle.wavefile.proofs.Outcomes.{same_outcome, file_headed, file_found}
use Rattle.wavefile.proofs.WrittenChunks.{name_written, walk_past, kept_of, walk_past_all}

-- ---- the "fmt " chunk that is kept
-- a chunk of another name is not
other_not_kept : (f : Option (List ℕ)) (c : Chunk) → Writable c → same c.name format_name ≡ false → kept f (chunk_bytes c) ≡ f
other_not_kept none c w e = rw (name_written c w format_name, e)
other_not_kept (some f) c w e = refl

-- the first one stays
first_kept : (f : List ℕ) (cs : List Chunk) → kept_of (some f) cs ≡ some f
first_kept f [] = refl
first_kept f (c ∷ cs) = first_kept f cs

-- so after one no other is
later_not_kept : (cs : List Chunk) (bytes : List ℕ) → Forall Writable cs → has format_name cs ≡ true → kept (kept_of none cs) bytes ≡ kept_of none cs
later_not_kept [] bytes w e = absurd (false≢true e)
later_not_kept (c ∷ cs) bytes w e = by_name (same c.name format_name) refl e (later_not_kept cs bytes each.1)
  where
    each : Writable c × Forall Writable cs
    each = (Forall-cons Writable c cs).0 w

    by_name : (t : Bool) → same c.name format_name ≡ t → (t || has format_name cs) ≡ true →
        (has format_name cs ≡ true → kept (kept_of none cs) bytes ≡ kept_of none cs) → kept (kept_of none (c ∷ cs)) bytes ≡ kept_of none (c ∷ cs)
    by_name true n e rest = rw (name_written c each.0 format_name, n, first_kept (body (chunk_bytes c)) cs)
    by_name false n e rest = rw (other_not_kept none c each.0 n) (rest e)

-- ---- the file with the chunk and the file without it
module _ (cs : List Chunk) (u : Chunk) (rest : List ℕ) (buffer : List ℤ) (ws : Forall Writable cs) (no_data : has data_name cs ≡ false) (w : Writable u)
    (fits : 4 + length (chunks_bytes cs ++ chunk_bytes u ++ rest) < 2 ^ 32) where
  -- they are read alike if the chunk is no "data" and does not change which "fmt " is kept
  skipped : same u.name data_name ≡ false → kept (kept_of none cs) (chunk_bytes u) ≡ kept_of none cs →
      wav_read (file_of (chunks_bytes cs ++ chunk_bytes u ++ rest)) buffer ≡ wav_read (file_of (chunks_bytes cs ++ rest)) buffer
  skipped e k =
      let before = chunks_bytes cs in
      let longer = before ++ chunk_bytes u ++ rest in
      let sizes = simp length-append at fits in
      let short : 4 + length (before ++ rest) < 2 ^ 32 = simp length-append (omega arith) in
      same_outcome (file_of longer) (file_of (before ++ rest)) buffer
      (file_headed longer fits ∙ sym (file_headed (before ++ rest) short))
      (file_found longer
      ∙ ap (walk none 0) (append_assoc before (chunk_bytes u) rest)
      ∙ walk_past_all none cs (chunk_bytes u ++ rest) ws no_data
      ∙ walk_past u w (kept_of none cs) rest e
      ∙ ap (λ (f : Option (List ℕ)). walk f 0 rest) k
      ∙ sym (walk_past_all none cs rest ws no_data)
      ∙ sym (file_found (before ++ rest)))

  -- a chunk named neither "data" nor "fmt " changes nothing
  pub unknown_chunk_skipped : same u.name data_name ≡ false → same u.name format_name ≡ false →
      wav_read (file_of (chunks_bytes cs ++ chunk_bytes u ++ rest)) buffer ≡ wav_read (file_of (chunks_bytes cs ++ rest)) buffer
  unknown_chunk_skipped d f = skipped d (other_not_kept (kept_of none cs) u w f)

  -- nor does a "fmt " chunk after another
  pub later_format_skipped : u.name ≡ format_name → has format_name cs ≡ true →
      wav_read (file_of (chunks_bytes cs ++ chunk_bytes u ++ rest)) buffer ≡ wav_read (file_of (chunks_bytes cs ++ rest)) buffer
  later_format_skipped n f = skipped (ap (λ (name : List ℕ). same name data_name) n) (later_not_kept cs (chunk_bytes u) ws f)
