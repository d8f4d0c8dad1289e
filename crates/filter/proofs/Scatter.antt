-- Numbers written to the places of a line: how long the buffer stays, what stands on the line and beside it, and that a line from the start
-- with step 1 is the start of the buffer. Assumes nothing.
use mathlib.Core.List.{List, [], ◌∷◌}
use mathlib.Core.Path.{◌≡◌, refl, ap, ◌∙◌}
use Prim.Native.Nat.{ℕ, zero, suc, ◌+◌, ◌*◌, ◌<◌}
use native.Mathlib.Omega.{arith}
use lib.Dec.{lit<}
use lib.IntN.{ℤ, pos}
use lib.ListN.{length, length-set}
use lib.Seq.{get_or-set_same, get_or-set_other, ext_get_or}
use Rattle.bspline.specs.Lists.{at}
use Rattle.filter.specs.Lines.{scatter}

-- the place after next on a line
next_place : (from step k : ℕ) → from + step * suc k ≡ from + step + step * k
next_place from step k = omega arith

pub scatter_length : (from step : ℕ) (vs c : List ℤ) → length (scatter from step vs c) ≡ length c
unfolding scatter
scatter_length from step [] c = refl
scatter_length from step (v ∷ vs) c = length-set (scatter (from + step) step vs c) from v ∙ scatter_length (from + step) step vs c

-- on the line stand the numbers written
pub scatter_put : (from step : ℕ) (vs c : List ℤ) (k : ℕ) → 0 < step → k < length vs → from + step * k < length c →
    at (scatter from step vs c) (from + step * k) ≡ at vs k
unfolding scatter
scatter_put from step [] c k s h l = absurd (omega arith)
scatter_put from step (v ∷ vs) c zero s h l =
    let e : from + step * 0 ≡ from = omega arith in
    rw e (get_or-set_same (scatter (from + step) step vs c) from v (pos 0) (omega (arith, scatter_length (from + step) step vs c)))
scatter_put from step (v ∷ vs) c (suc k) s h l =
    get_or-set_other (scatter (from + step) step vs c) from (from + step * suc k) v (pos 0) (λ e. omega arith)
    ∙ ap (at (scatter (from + step) step vs c)) (next_place from step k)
    ∙ scatter_put (from + step) step vs c k s (omega arith) (omega arith)

-- beside it what stood there
pub scatter_kept : (from step : ℕ) (vs c : List ℤ) (i : ℕ) → ((k : ℕ) → k < length vs → i ≡ from + step * k → ⊥) →
    at (scatter from step vs c) i ≡ at c i
unfolding scatter
scatter_kept from step [] c i h = refl
scatter_kept from step (v ∷ vs) c i h =
    get_or-set_other (scatter (from + step) step vs c) from i v (pos 0) (λ e. h 0 (omega arith) (omega arith))
    ∙ scatter_kept (from + step) step vs c i (λ k l e. h (suc k) (omega arith) (omega arith))

-- a line from the start with step 1 that is as long as the buffer is the whole of it
pub scatter_whole : (vs c : List ℤ) → length c ≡ length vs → scatter 0 1 vs c ≡ vs
scatter_whole vs c e = ext_get_or (pos 0) (scatter 0 1 vs c) vs (scatter_length 0 1 vs c ∙ e) each
  where
    each : (i : ℕ) → i < length (scatter 0 1 vs c) → at (scatter 0 1 vs c) i ≡ at vs i
    each i h =
        let f : 0 + 1 * i ≡ i = omega arith in
        let l : i < length vs = omega (arith, scatter_length 0 1 vs c) in
        rw f at (scatter_put 0 1 vs c i (lit< tt) l (omega arith))
