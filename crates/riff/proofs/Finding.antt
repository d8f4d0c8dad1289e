-- Which files are refused 11, by what the walk came to. Assumes nothing.
use mathlib.Core.Bool.{true, false, ◌&&◌, and-false}
use mathlib.Core.List.{List}
use mathlib.Core.Option.{none}
use mathlib.Core.Path.{◌≡◌, ap, ◌∙◌}
use Prim.Native.Nat.{ℕ, ◌+◌, ◌≤◌, ◌<◌}
use native.Mathlib.Omega.{arith}
use borrow.Author.Tests.{le-leb, lt-leb}
use lib.Dec.{leb}
use lib.ListN.{length}
use Rattle.std.specs.Prelude.{Some, None}
use Rattle.std.specs.Borrow.{Bor}
use Rattle.wavefile.specs.Chunks.{headed, found, content_of, legal}
use Rattle.riff.specs.declared.chunks.Found.{Found}
use Rattle.riff.specs.Places.{WholeChunk, WalkedTo, FoundAt}

pub not_headed : (l : List ℕ) → headed l ≡ false → legal l ≡ false
not_headed l e = rw e

pub no_data : (l : List ℕ) → found l ≡ none → legal l ≡ false
no_data l e = rw (e, and-false)

module _ {l : List ℕ} {f : Found} (w : WalkedTo l f) where
  pub no_format : f.format ≡ None → legal l ≡ false
  no_format e = rw (w.chunks, e, and-false)

  -- a format
  module _ {b : Bor (List ℕ)} (e : f.format ≡ Some b) where
    kept_chunk : WholeChunk l b.now
    kept_chunk = rw e at w.kept

    -- it is the body of a chunk at a place
    pub format_room : (c : WholeChunk l b.now) × (c.at + 8 ≤ length l)
    format_room = (kept_chunk, omega (arith, kept_chunk.inside))

    long : legal l ≡ (headed l && leb 16 (length b.now))
    long = rw (w.chunks, e)

    pub short_format_lem : length b.now < 16 → legal l ≡ false
    short_format_lem h = long ∙ rw (lt-leb 16 (length b.now) h, and-false)

    pub found_at : headed l ≡ true → 16 ≤ length b.now → FoundAt l (record { format = b; content = f.content })
    found_at header h =
        record {
          accepted = long ∙ rw (header, le-leb 16 (length b.now) h);
          format_chunk = rw (w.chunks, e);
          content_chunk = ap content_of w.chunks;
          format_long = record { inside = kept_chunk; long = h };
          inside = w.inside;
        }
