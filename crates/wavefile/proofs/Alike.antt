-- Bytes that begin alike have the same parts and the same chunk at their start. Assumes nothing.
use mathlib.Core.List.{List}
use mathlib.Core.Option.{Option, none, some}
use mathlib.Core.Path.{◌≡◌, refl, sym, ap, ap₂, ◌∙◌}
use Prim.Native.Nat.{ℕ, ◌+◌, ◌≤◌}
use native.Mathlib.Omega.{arith}
use lib.Dec.{leb}
use lib.ListN.{length, take}
use Rattle.wavefile.specs.Bytes.{part, little, same}
use Rattle.wavefile.specs.Chunks.{named, size, body, padded, whole, kept}
use Rattle.wavefile.proofs.Parts.{take_drop_take}

-- the parts within the first k bytes, if these are the same
pub part_alike : (k at n : ℕ) (a b : List ℕ) → take k a ≡ take k b → at + n ≤ k → part at n a ≡ part at n b
part_alike k at n a b t h = sym (take_drop_take at n k a h) ∙ ap (part at n) t ∙ take_drop_take at n k b h

-- whether a chunk is whole, of bytes that are as many
pub whole_alike : (a b : List ℕ) → length a ≡ length b → size a ≡ size b → whole a ≡ whole b
whole_alike a b n e = ap₂ (λ (s k : ℕ). leb (8 + padded s) k) e n

-- the chunk at the start, if it is in them
module _ (k : ℕ) (a b : List ℕ) (t : take k a ≡ take k b) (h : 8 + padded (size a) ≤ k) where
  pub named_alike : (name : List ℕ) → named name a ≡ named name b
  named_alike name = ap (λ (x : List ℕ). same x name) (part_alike k 0 4 a b t (omega arith))

  pub size_alike : size a ≡ size b
  size_alike = ap little (part_alike k 4 4 a b t (omega arith))

  pub body_alike : body a ≡ body b
  body_alike = part_alike k 8 (size a) a b t (omega arith) ∙ ap (λ (n : ℕ). part 8 n b) size_alike

  pub kept_alike : (f : Option (List ℕ)) → kept f a ≡ kept f b
  kept_alike none = rw (named_alike, body_alike)
  kept_alike (some f) = refl
