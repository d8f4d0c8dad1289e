-- What is read of chunks as they are written: the name, the body, and where the next one begins; and the walk over them. Assumes nothing.
use mathlib.Core.Bool.{true, false}
use mathlib.Core.List.{List, [], ◌∷◌, ◌++◌, append_assoc}
use mathlib.Core.Option.{Option, some}
use mathlib.Core.Path.{◌≡◌, refl, sym, ap, ◌∙◌}
use mathlib.Mathlib.Data.Bool.Basic.{or-eq-false-eq-eq-false-and-eq-false}
use mathlib.Mathlib.Data.List.Basic.{Forall-cons}
use mathlib.Mathlib.Data.List.Defs.{Forall}
use Prim.Native.Nat.{ℕ, zero, suc, ◌+◌, ◌*◌, ◌/◌, ◌%◌, ◌^◌, ◌≤◌, ◌<◌}
use native.Mathlib.Nat.{div-lt_iff_lt-mul, pow-suc}
use native.Mathlib.Omega.{arith}
use borrow.Author.Tests.{le-leb}
use lib.ListN.{length, take, drop, replicate, length-append, length-replicate}
use lib.Seq.{drop-drop, take_at, drop_at, take_all, take-append_seam}
use Rattle.wavefile.specs.Bytes.{little, same, data_name}
use Rattle.wavefile.specs.Chunks.{named, size, body, padded, whole, kept, walk}
use Rattle.wavefile.specs.Writing.{little_bytes, Chunk, Writable, chunk_bytes, chunks_bytes, has}
use Rattle.wavefile.proofs.Walks.{walk_on, walk_data}
use Rattle.wavefile.proofs.Alike.{named_alike, size_alike, kept_alike}

-- the bytes of a number are that number
pub little_of_bytes : (n v : ℕ) → v < 256 ^ n → little (little_bytes n v) ≡ v
little_of_bytes zero v h = omega arith
little_of_bytes (suc n) v h =
    let rest : v / 256 < 256 ^ n = (div-lt_iff_lt-mul {k = 256} {x = v} {y = 256 ^ n} (omega arith)).1 (rw pow-suc at h) in
    ap (λ (q : ℕ). v % 256 + 256 * q) (little_of_bytes n (v / 256) rest) ∙ omega arith

-- ---- one chunk
module _ (c : Chunk) where
  abbrev count : ℕ
  count = length c.content

  abbrev after : List ℕ
  after = c.content ++ replicate (count % 2) c.pad

  parts : chunk_bytes c ≡ c.name ++ (little_bytes 4 count ++ after)
  unfolding chunk_bytes
  parts = simp append_assoc

  -- how many bytes it has
  pub length_written : length (chunk_bytes c) ≡ length c.name + (4 + padded count)
  length_written = ap length parts ∙ simp (length-append, length-replicate) (omega arith)

module _ (c : Chunk) (w : Writable c) where
  from_size : drop 4 (chunk_bytes c) ≡ little_bytes 4 (count c) ++ after c
  from_size = ap (drop 4) (parts c) ∙ drop_at c.name (little_bytes 4 (count c) ++ after c) 4 w.four

  -- what is read of it
  pub name_written : (name : List ℕ) → named name (chunk_bytes c) ≡ same c.name name
  name_written name =
      ap (λ (l : List ℕ). same l name) (ap (take 4) (parts c) ∙ take_at c.name (little_bytes 4 (count c) ++ after c) 4 w.four)

  size_written : size (chunk_bytes c) ≡ count c
  size_written = ap (λ (l : List ℕ). little (take 4 l)) from_size ∙ little_of_bytes 4 (count c) w.short

  pub body_written : body (chunk_bytes c) ≡ c.content
  body_written =
      rw (size_written, ← drop-drop 4 4 (chunk_bytes c), from_size) (take-append_seam c.content (replicate (count c % 2) c.pad))

  all_bytes : length (chunk_bytes c) ≡ 8 + padded (size (chunk_bytes c))
  all_bytes = rw size_written (omega (arith, length_written c, w.four))

  pub whole_written : whole (chunk_bytes c) ≡ true
  whole_written = le-leb (8 + padded (size (chunk_bytes c))) (length (chunk_bytes c)) (omega (arith, all_bytes))

  -- if it is no "data", the walk goes on after it
  pub walk_past : (f : Option (List ℕ)) (rest : List ℕ) → same c.name data_name ≡ false →
      walk f 0 (chunk_bytes c ++ rest) ≡ walk (kept f (chunk_bytes c)) 0 rest
  walk_past f rest e =
      let b = chunk_bytes c in
      let k = 8 + padded (size b) in
      let t : take k b ≡ take k (b ++ rest) = take_all k b (omega (arith, all_bytes)) ∙ sym (take_at b rest k all_bytes) in
      let h : 8 + padded (size b) ≤ k = omega arith in
      let s = sym (size_alike k b (b ++ rest) t h) in
      let more : 8 + padded (size (b ++ rest)) ≤ length (b ++ rest) = rw s (omega (arith, all_bytes, length-append b rest)) in
      walk_on f (b ++ rest) (le-leb (8 + padded (size (b ++ rest))) (length (b ++ rest)) more) (sym (named_alike k b (b ++ rest) t h data_name) ∙ name_written data_name ∙ e)
      ∙ rw (sym (kept_alike k b (b ++ rest) t h f), s) (ap (walk (kept f b) 0) (drop_at b rest k all_bytes))

  -- if it is one, the walk ends there
  pub walk_to : (f : Option (List ℕ)) → c.name ≡ data_name → walk f 0 (chunk_bytes c) ≡ some (record { format = f; content = c.content })
  walk_to f e =
      walk_data f (chunk_bytes c) whole_written (name_written data_name ∙ ap (λ (n : List ℕ). same n data_name) e)
      ∙ ap (λ (x : List ℕ). some (record { format = f; content = x })) body_written

-- ---- chunks, none of them a "data"
-- the "fmt " body that is kept after them
abbrev pub kept_of : Option (List ℕ) → List Chunk → Option (List ℕ)
kept_of f [] = f
kept_of f (c ∷ cs) = kept_of (kept f (chunk_bytes c)) cs

-- the walk goes on after them
pub walk_past_all : (f : Option (List ℕ)) (cs : List Chunk) (rest : List ℕ) → Forall Writable cs → has data_name cs ≡ false →
    walk f 0 (chunks_bytes cs ++ rest) ≡ walk (kept_of f cs) 0 rest
unfolding chunks_bytes
walk_past_all f [] rest w e = refl
walk_past_all f (c ∷ cs) rest w e =
    let each = (Forall-cons Writable c cs).0 w in
    let both = (or-eq-false-eq-eq-false-and-eq-false (same c.name data_name) (has data_name cs)).0 e in
    ap (walk f 0) (append_assoc (chunk_bytes c) (chunks_bytes cs) rest)
    ∙ walk_past c each.0 f (chunks_bytes cs ++ rest) both.0
    ∙ walk_past_all (kept f (chunk_bytes c)) cs rest each.1 both.1
