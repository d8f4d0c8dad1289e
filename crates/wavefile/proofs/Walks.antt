-- The laws of the walk from chunk to chunk: what it does at the chunk that its bytes begin with. Assumes nothing.
use mathlib.Core.Bool.{true, false}
use mathlib.Core.List.{List, [], ◌∷◌}
use mathlib.Core.Option.{Option, none, some}
use mathlib.Core.Path.{◌≡◌, refl, ap, ◌∙◌}
use Prim.Native.Nat.{ℕ, zero, suc, ◌+◌}
use native.Mathlib.Omega.{arith}
use lib.ListN.{drop}
use Rattle.wavefile.specs.Bytes.{data_name}
use Rattle.wavefile.specs.Chunks.{named, size, body, padded, whole, kept, walk}

-- no bytes are no whole chunk
pub no_bytes_not_whole : whole [] ≡ true → ⊥
no_bytes_not_whole e = let z : ◌≡◌ {A = ℕ} 0 1 = cc in omega arith

module _ (f : Option (List ℕ)) where
  -- bytes that are skipped are dropped
  pub walk_skip : (s : ℕ) (l : List ℕ) → walk f s l ≡ walk f 0 (drop s l)
  unfolding walk
  walk_skip zero l = refl
  walk_skip (suc s) [] = refl
  walk_skip (suc s) (b ∷ bs) = walk_skip s bs

  -- a whole "data" chunk is found
  pub walk_data : (l : List ℕ) → whole l ≡ true → named data_name l ≡ true → walk f 0 l ≡ some (record { format = f; content = body l })
  unfolding walk
  walk_data [] e d = absurd (no_bytes_not_whole e)
  walk_data (b ∷ bs) e d = rw (e, d)

  -- a chunk that is not whole ends the walk with nothing, and so does the end of the bytes
  pub walk_cut : (l : List ℕ) → whole l ≡ false → walk f 0 l ≡ none
  unfolding walk
  walk_cut [] e = refl
  walk_cut (b ∷ bs) e = rw e

-- after any other whole chunk the walk goes on
pub walk_on : (f : Option (List ℕ)) (l : List ℕ) → whole l ≡ true → named data_name l ≡ false →
    walk f 0 l ≡ walk (kept f l) 0 (drop (8 + padded (size l)) l)
unfolding walk
walk_on f [] e d = absurd (no_bytes_not_whole e)
walk_on f (b ∷ bs) e d =
    let n = padded (size (b ∷ bs)) in
    let next : suc (7 + n) ≡ 8 + n = omega arith in
    rw (e, d) (walk_skip (kept f (b ∷ bs)) (7 + n) bs ∙ ap (λ (k : ℕ). walk (kept f (b ∷ bs)) 0 (drop k (b ∷ bs))) next)
