-- Bounds on many numbers, without their signs. Assumes nothing.
use Rattle.std.specs.Prelude.{List, [], ◌∷◌, ℕ, ◌+◌, ◌≤◌, ◌<◌, ℤ, nat_abs}
use Rattle.bspline.specs.PictureLayout.{Shape}
use Rattle.bspline.specs.Lists.{at}

-- no number of the list is further than B from 0. It holds at every place, since past the end there is 0
pub record AllWithin (B : ℕ) (l : List ℤ) : Type 0 where
  pub within : (k : ℕ) → nat_abs (at l k) ≤ B

-- none of the n numbers of a row, and none of the numbers of a picture, is. Of what stands elsewhere nothing is said
pub record RowWithin (B n : ℕ) (s : ℕ → ℤ) : Type 0 where
  pub within : (k : ℕ) → k < n → nat_abs (s k) ≤ B

pub record PictureWithin (B : ℕ) (d : Shape) (p : ℕ → ℕ → ℤ) : Type 0 where
  pub within : (x y : ℕ) → x < d.width → y < d.height → nat_abs (p x y) ≤ B

-- the sum of the sizes of a list's numbers
abbrev pub sizes : List ℤ → ℕ
sizes [] = 0
sizes (x ∷ l) = nat_abs x + sizes l
