-- Chunks by the places at which they stand. Assumes nothing.
use mathlib.Core.Bool.{true, false}
use mathlib.Core.List.{List}
use mathlib.Core.Option.{none}
use mathlib.Core.Path.{◌≡◌, refl, ap, ◌∙◌}
use Prim.Native.Nat.{ℕ, ◌+◌, ◌-◌, ◌≤◌, ◌<◌}
use native.Mathlib.Nat.{add-zero}
use native.Mathlib.Omega.{arith}
use borrow.Author.Tests.{le-leb, lt-leb, leb-true}
use lib.ListN.{length, drop, length-drop}
use lib.Seq.{length-take-le}
use Rattle.std.specs.Prelude.{Option, Some, None}
use Rattle.std.specs.Borrow.{Bor}
use Rattle.wavefile.specs.Bytes.{part, little, number, same, format_name}
use Rattle.wavefile.specs.Chunks.{named, size, body, padded, whole, kept}
use Rattle.wavefile.proofs.Parts.{part_of_drop}
use Rattle.riff.specs.Places.{format_read, WholeChunk, WholeFormat}

-- ---- the name and the size of the chunk at a place
pub name_at : (at : ℕ) (name l : List ℕ) → named name (drop at l) ≡ same (part at 4 l) name
name_at at name l = ap (λ p. same p name) (part_of_drop at 0 4 l ∙ ap (λ k. part k 4 l) (add-zero at))

pub size_at : (at : ℕ) (l : List ℕ) → size (drop at l) ≡ number (at + 4) 4 l
size_at at l = ap little (part_of_drop at 4 4 l)

-- ---- whether it is whole
module _ (at n : ℕ) (l : List ℕ) (e : size (drop at l) ≡ n) where
  pub cut_chunk : length l - at < 8 + padded n → whole (drop at l) ≡ false
  cut_chunk h = rw (e, lt-leb (8 + padded n) (length (drop at l)) (rw (length-drop at l) h))

  pub whole_chunk : 8 + padded n ≤ length l - at → (whole (drop at l) ≡ true) × (size (drop at l) ≡ n)
  whole_chunk h = (rw (e, le-leb (8 + padded n) (length (drop at l)) (rw (length-drop at l) h)), e)

-- ---- the first "fmt " chunk stays, and is the one at a place if there was none
pub kept_later : (format : Option (Bor (List ℕ))) (r : List ℕ) → (format ≡ None → ⊥) → format_read format ≡ kept (format_read format) r
kept_later None r h = absurd (h refl)
kept_later (Some f) r h = refl

pub kept_here : (at : ℕ) (l : List ℕ) (f : Bor (List ℕ)) → f.now ≡ body (drop at l) → named format_name (drop at l) ≡ true
    → format_read (Some f) ≡ kept none (drop at l)
kept_here at l f here e = rw (e, here)

pub other_chunk : (format : Option (Bor (List ℕ))) (at : ℕ) (l : List ℕ) → named format_name (drop at l) ≡ false
    → format_read format ≡ kept (format_read format) (drop at l)
other_chunk None at l e = rw e
other_chunk (Some f) at l e = refl

-- ---- a whole chunk ends within the file
pub chunk_inside : (at : ℕ) (l : List ℕ) → whole (drop at l) ≡ true → (w : WholeChunk l (body (drop at l))) × (w.at ≡ at)
chunk_inside at l e = (
  record {
    at = at;
    inside = omega (arith, length-drop at l, leb-true (8 + padded (size (drop at l))) (length (drop at l)) e);
    here = refl;
  },
  refl,
)

pub format_inside : (l : List ℕ) (f : Bor (List ℕ)) → WholeChunk l f.now → WholeFormat l (Some f)
format_inside l f w = w

-- its body stands 8 bytes on and has as many bytes as its size says
pub body_at : (at : ℕ) (l : List ℕ) → body (drop at l) ≡ part (at + 8) (size (drop at l)) l
body_at at l = part_of_drop at 8 (size (drop at l)) l

pub body_length : (l content : List ℕ) (w : WholeChunk l content) → length content ≡ size (drop w.at l)
body_length l content w =
    ap length (w.here ∙ body_at w.at l) ∙ length-take-le _ _ (rw (length-drop (w.at + 8) l) (omega (arith, w.inside)))
