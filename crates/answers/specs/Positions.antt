-- What is asked of a position where a value is computed; a position that is not refused has it. Assumes nothing.
use Rattle.std.specs.Prelude.{ℕ, ◌≤◌, ◌<◌}
use Rattle.bspline.specs.Limits.{longest_row}
use Rattle.bspline.specs.Values.{Position}
use Rattle.answers.specs.declared.factor.Factor.{Factor}
use Rattle.answers.specs.declared.picture.Picture.{Picture}

-- inside n data at the factor m: the numerator is below the factor, and the whole part an index of the data
pub record Inside (m n : ℕ) (p : Position) : Type 0 where
  pub numerator : p.j < m
  pub index : p.k < n

-- for a row and a factor that are not refused
pub record OnRow (m : Factor) (n : ℕ) (p : Position) : Type 0 where
  pub short : n ≤ longest_row
  pub on : Inside m.value n p

-- for a picture and a factor that are not refused, along each side
pub record OnPicture (m : Factor) (picture : Picture) (px py : Position) : Type 0 where
  pub along : Inside m.value picture.shape.width px
  pub down : Inside m.value picture.shape.height py
