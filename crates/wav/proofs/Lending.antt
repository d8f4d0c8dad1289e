-- The file that was found, by its format and its data, and the parts that are lent of it and of the buffer. Assumes nothing.
use mathlib.Core.List.{List}
use mathlib.Core.Path.{◌≡◌, refl, sym, ap, ◌∙◌}
use Prim.Native.Nat.{ℕ, ◌+◌, ◌*◌, ◌/◌, ◌%◌, ◌≤◌}
use native.Mathlib.Omega.{arith}
use lib.IntN.{ℤ}
use lib.ListN.{length, take}
use lib.Seq.{length-take-le}
use Rattle.wavefile.specs.Bytes.{part}
use Rattle.wavefile.proofs.Clips.{Legal}
use Rattle.riff.specs.declared.chunks.Chunks.{Chunks}
use Rattle.riff.specs.Places.{FoundAt}
use Rattle.riff.proofs.Places.{body_at, body_length}

module _ {bytes : List ℕ} {c : Chunks} (f : FoundAt bytes c) where
  pub legal_file : Legal bytes c.format.now c.content.now (length c.content.now)
  legal_file = record { accepted = f.accepted; format = f.format_chunk; content = f.content_chunk; count = refl }

  -- the part that is lent is the data
  pub content_lent : c.content.now ≡ part (f.inside.at + 8) (length c.content.now) bytes
  content_lent =
      f.inside.here ∙ body_at f.inside.at bytes
      ∙ ap (λ n. part (f.inside.at + 8) n bytes) (sym (body_length bytes c.content.now f.inside))

  -- and has twice as many bytes as the other part has numbers
  pub lent_lengths : (buffer : List ℤ) → (length c.content.now % 2 ≡ 1 → ⊥) → length c.content.now / 2 ≤ length buffer →
      length c.content.now ≡ 2 * length (take (length c.content.now / 2) buffer)
  lent_lengths buffer even fits = omega (arith, even, length-take-le (length c.content.now / 2) buffer fits)
