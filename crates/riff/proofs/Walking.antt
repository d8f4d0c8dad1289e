-- The walk from chunk to chunk, by the bytes that are left and the body of the first "fmt " chunk. Assumes nothing.
use mathlib.Core.Bool.{true, false}
use mathlib.Core.List.{List}
use mathlib.Core.Option.{none, some}
use mathlib.Core.Path.{◌≡◌, refl, sym, ap, ap₂, ◌∙◌}
use Prim.Native.Nat.{ℕ, ◌+◌, ◌%◌, ◌≤◌, ◌<◌}
use native.Mathlib.Omega.{arith}
use borrow.Author.Tests.{leb-true}
use lib.ListN.{length, drop, length-drop, drop_of_length-le}
use lib.Seq.{drop-drop}
use Rattle.std.specs.Prelude.{Option, Some, None}
use Rattle.std.specs.Option.{option_or}
use Rattle.std.specs.Borrow.{Bor}
use Rattle.wavefile.specs.Bytes.{part, data_name, format_name}
use Rattle.wavefile.specs.Chunks.{named, size, body, padded, whole, kept, walk, found}
use Rattle.wavefile.proofs.Walks.{walk_cut, walk_data, walk_on}
use Rattle.riff.specs.declared.chunks.Chunk.{Chunk}
use Rattle.riff.specs.Places.{BeginsWith, format_read, WholeChunk, WholeFormat, WalkedTo}
use Rattle.riff.proofs.Places.{body_at}

-- all chunks are those that the rest has, with the format kept so far
pub record Walking (l rest : List ℕ) (format : Option (Bor (List ℕ))) : Type 0 where
  pub at : ℕ
  pub begun : 12 ≤ at
  pub inside : at ≤ length l
  pub left : rest ≡ drop at l
  pub to_come : found l ≡ walk (format_read format) 0 rest
  pub kept_format : WholeFormat l format

pub walking_start : (l rest : List ℕ) → 12 ≤ length l → rest ≡ drop 12 l → Walking l rest None
unfolding found
walking_start l rest h e = record { at = 12; begun = omega arith; inside = h; left = e; to_come = ap (walk none 0) (sym e); kept_format = tt }

module _ {l rest : List ℕ} {format : Option (Bor (List ℕ))} (w : Walking l rest format) where
  -- where no whole chunk begins there is no "data"
  pub walking_cut : whole rest ≡ false → found l ≡ none
  walking_cut e = w.to_come ∙ walk_cut (format_read format) rest e

  -- nor is there one at the end
  pub walking_end : length l ≤ w.at → found l ≡ none
  walking_end h = walking_cut (ap whole w.left ∙ rw (drop_of_length-le l h))

  -- at a whole chunk
  module _ {c : Chunk} (s : BeginsWith rest c) where
    pub walking_whole : WholeChunk l c.body.now
    walking_whole =
        record {
          at = w.at;
          inside = omega (arith, w.inside, length-drop w.at l, leb-true (8 + padded (size rest)) (length rest) s.whole_chunk, ap length w.left, ap size w.left);
          here = s.whole_body ∙ ap body w.left;
        }

    pub walked_data : named data_name rest ≡ true → WalkedTo l (record { format = format; content = c.body })
    walked_data d =
        record {
          chunks =
              w.to_come ∙ walk_data (format_read format) rest s.whole_chunk d
              ∙ ap (λ b. some (record { format = format_read format; content = b })) (sym s.whole_body);
          kept = w.kept_format;
          inside = walking_whole;
        }

    -- where the next one begins
    next_at : w.at + (8 + padded (size rest)) ≡ w.at + (8 + length c.body.now + length c.body.now % 2)
    next_at = ap (λ n. w.at + (8 + padded n)) s.sized ∙ omega arith

    pub walking_next : w.at + (8 + length c.body.now + length c.body.now % 2) ≤ length l
    walking_next =
        omega (arith, next_at, w.inside, length-drop w.at l, leb-true (8 + padded (size rest)) (length rest) s.whole_chunk, ap length w.left)

    -- the data is a part of the file at a place
    content_at : c.body.now ≡ part (w.at + 8) (length c.body.now) l
    content_at = s.whole_body ∙ ap body w.left ∙ body_at w.at l ∙ ap (λ n. part (w.at + 8) n l) (ap size (sym w.left) ∙ s.sized)

    pub walking_data : named data_name rest ≡ true
        → (found l ≡ some (record { format = format_read format; content = part (w.at + 8) (length c.body.now) l })) × (w.at + 8 + length c.body.now ≤ length l)
    walking_data d =
        ((walked_data d).chunks ∙ ap (λ b. some (record { format = format_read format; content = b })) content_at, omega (arith, walking_next))

    pub walking_on : {next : Option (Bor (List ℕ))} → named data_name rest ≡ false → format_read next ≡ kept (format_read format) rest → WholeFormat l next
        → Walking l c.rest.now next
    walking_on d k f =
        record {
          at = w.at + (8 + padded (size rest));
          begun = omega (arith, w.begun);
          inside = omega (arith, w.inside, length-drop w.at l, leb-true (8 + padded (size rest)) (length rest) s.whole_chunk, ap length w.left);
          left = s.followed ∙ ap (drop (8 + padded (size rest))) w.left ∙ drop-drop (8 + padded (size rest)) w.at l;
          to_come =
              w.to_come ∙ walk_on (format_read format) rest s.whole_chunk d
              ∙ ap₂ (λ f r. walk f 0 r) (sym k) (sym s.followed);
          kept_format = f;
        }

    -- the first "fmt " chunk is kept
    kept_cases : (format : Option (Bor (List ℕ))) → named format_name rest ≡ true → format_read (option_or format (Some c.body)) ≡ kept (format_read format) rest
    kept_cases None n = rw (n, s.whole_body)
    kept_cases (Some f) n = refl

    whole_cases : (format : Option (Bor (List ℕ))) → WholeFormat l format → WholeFormat l (option_or format (Some c.body))
    whole_cases None k = walking_whole
    whole_cases (Some f) k = k

    other_cases : (format : Option (Bor (List ℕ))) → named format_name rest ≡ false → format_read format ≡ kept (format_read format) rest
    other_cases None n = rw n
    other_cases (Some f) n = refl

    pub walking_format : named data_name rest ≡ false → named format_name rest ≡ true → {next : Option (Bor (List ℕ))} → next ≡ option_or format (Some c.body) → Walking l c.rest.now next
    walking_format d n e = rw e (walking_on d (kept_cases format n) (whole_cases format w.kept_format))

    pub walking_other : named data_name rest ≡ false → named format_name rest ≡ false → Walking l c.rest.now format
    walking_other d n = walking_on d (other_cases format n) w.kept_format

-- a file that ends before its first chunk has none
pub no_chunks : (l : List ℕ) → length l < 12 → found l ≡ none
unfolding found walk
no_chunks l h = let short : length l ≤ 12 = omega arith in rw (drop_of_length-le l short) refl
