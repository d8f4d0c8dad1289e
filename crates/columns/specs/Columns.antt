-- Four rows of a picture by where they start, and sums along columns over them. Assumes nothing.
use Rattle.std.specs.Prelude.{List, [], ◌∷◌, ◌≡◌, ℕ, ◌+◌, ◌*◌, ◌≤◌, ℤ, pos, ◌-ℤ◌, length}
use Rattle.bspline.specs.Bounds.{sizes}
use Rattle.bspline.specs.Lists.{at}
use Rattle.bspline.specs.Mirror.{mirror}
use Rattle.bspline.specs.PictureLayout.{Shape}
use Rattle.bspline.specs.Values.{dot}
use Rattle.sums.specs.declared.four.Four.{Four}

-- the starts of the rows around place l of a closely packed picture, continued past the top and the bottom
pub record StartsOf (d : Shape) (l : ℕ) (s : Four ℕ) : Type 0 where
  pub before : s.before ≡ mirror d.height (pos l -ℤ pos 1) * d.width
  pub here : s.here ≡ mirror d.height (pos (l + 1) -ℤ pos 1) * d.width
  pub after : s.after ≡ mirror d.height (pos (l + 2) -ℤ pos 1) * d.width
  pub beyond : s.beyond ≡ mirror d.height (pos (l + 3) -ℤ pos 1) * d.width

-- n numbers from each start on lie in a list of so many numbers
pub record Reaches (s : Four ℕ) (n long : ℕ) : Type 0 where
  pub before : s.before + n ≤ long
  pub here : s.here + n ≤ long
  pub after : s.after + n ≤ long
  pub beyond : s.beyond + n ≤ long

-- the four numbers of column x
abbrev pub column : Four ℕ → List ℤ → ℕ → List ℤ
column s c x = at c (s.before + x) ∷ at c (s.here + x) ∷ at c (s.after + x) ∷ at c (s.beyond + x) ∷ []

-- their weighted sum
abbrev pub column_sum : List ℤ → Four ℕ → List ℤ → ℕ → ℤ
column_sum w s c x = dot w (column s c x)

-- n columns of four rows that lie in a buffer, and weights for the sums along them
pub record Columns (s : Four ℕ) (n : ℕ) (w c : List ℤ) : Type 0 where
  pub reaches : Reaches s n (length c)
  pub light : sizes w ≤ 24576
