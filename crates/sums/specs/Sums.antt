-- Four numbers or weights of a weighted sum as the list that the definitions have, and what the code of such sums asks. Assumes nothing.
use Rattle.std.specs.Prelude.{List, [], ◌∷◌, ◌≡◌, ℕ, ◌*◌, ◌^◌, ◌≤◌, ◌<◌, ℤ, length}
use Rattle.bspline.specs.Bounds.{AllWithin, sizes}
use Rattle.bspline.specs.Limits.{longest_side}
use Rattle.bspline.specs.PictureLayout.{Shape, area, pixel}
use Rattle.bspline.specs.Values.{dot, support}
use Rattle.sums.specs.declared.four.Four.{Four}

abbrev pub listed : Four ℤ → List ℤ
listed f = f.before ∷ f.here ∷ f.after ∷ f.beyond ∷ []

-- the greatest size of a weighted sum of 32-bit numbers: 24,576 is the weights' total at factor 16
abbrev pub greatest_sum : ℕ
greatest_sum = 24576 * 2 ^ 31

-- weights and numbers whose products and sums fit 64 bits: the weights' total is at most that of factor 16, the numbers are at most such sums
pub record Summable (w c : List ℤ) : Type 0 where
  pub light : sizes w ≤ 24576
  pub small : AllWithin greatest_sum c

-- a picture whose sides are not refused, with its coefficients, a column of it, and weights for sums along its rows
pub record PicturePart (d : Shape) (k : ℕ) (w c : List ℤ) : Type 0 where
  pub wide : d.width ≤ longest_side
  pub high : d.height ≤ longest_side
  pub above : 0 < d.height
  pub inside : k < d.width
  pub count : length c ≡ area d
  pub light : sizes w ≤ 24576

-- the sums along four rows of a picture, right of column k and from the row before l on, each at most what the weights' total makes of 32 bits
pub record Sums (d : Shape) (k l : ℕ) (w c sums : List ℤ) : Type 0 where
  pub sums_of : sums ≡ support d.height (λ y. dot w (support d.width (λ x. pixel d c x y) k)) l
  pub small : AllWithin (sizes w * 2 ^ 31) sums
