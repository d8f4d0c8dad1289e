-- The weighted sum of the sums along four rows of a picture is that of the definition, and at most 36m⁶ × 2^31. Assumes nothing.
use mathlib.Core.List.{List}
use mathlib.Core.Path.{◌≡◌, sym, ap, ap₂, ◌∙◌}
use Prim.Native.Nat.{ℕ, ◌*◌, ◌^◌, ◌≤◌}
use native.Mathlib.Omega.{arith}
use lib.IntN.{ℤ, nat_abs}
use Rattle.bspline.specs.Bounds.{AllWithin, sizes}
use Rattle.bspline.specs.PictureLayout.{Shape, pixel}
use Rattle.bspline.specs.Values.{Position, weights, support, dot, row_sum, picture_sum}
use Rattle.bspline.proofs.Weights.{sixth, weights_sizes, dot_size, picture_sum_rows}
use Rattle.sums.specs.Sums.{Sums}

-- the sum of a picture, of sums along rows of numbers of 32 bits, is at most 36m⁶ × 2^31
pub picture_size : (m i j : ℕ) {u w sums : List ℤ} → u ≡ weights m i → w ≡ weights m j → i ≤ m → j ≤ m → AllWithin (sizes u * 2 ^ 31) sums →
    nat_abs (dot w sums) ≤ 36 * m ^ 6 * 2 ^ 31
picture_size m i j {u} {w} {sums} e f h l small =
    omega (
      arith,
      ap (λ v. v * 2 ^ 31) (sixth m),
      rw (ap sizes f ∙ weights_sizes m j l) at (dot_size w sums (6 * m ^ 3 * 2 ^ 31) (rw (ap sizes e ∙ weights_sizes m i h) at small)),
    )

-- and it is the sum of the definition
pub picture_sum_is : (m : ℕ) (d : Shape) (px py : Position) (c : List ℤ) {u w sums : List ℤ} → u ≡ weights m px.j → w ≡ weights m py.j →
    Sums d px.k py.k u c sums → dot w sums ≡ picture_sum m d (pixel d c) px py
unfolding row_sum
picture_sum_is m d px py c e f s =
    ap₂ dot f (s.sums_of ∙ ap (λ u. support d.height (λ y. dot u (support d.width (λ x. pixel d c x y) px.k)) py.k) e)
    ∙ sym (picture_sum_rows m d (pixel d c) px py)
