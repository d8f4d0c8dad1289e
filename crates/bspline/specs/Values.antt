-- Values of the spline between samples: "Values between samples". Assumes nothing.
use Rattle.std.specs.Prelude.{List, [], ◌∷◌, ◌++◌, map, ℕ, ◌+◌, ◌-◌, ◌*◌, ◌/◌, ◌%◌, ◌^◌, ℤ, pos, ◌+ℤ◌, ◌-ℤ◌, ◌*ℤ◌, length}
use Rattle.integers.specs.Rounding.{round}
use Rattle.bspline.specs.Exact.{Fractions, Solves, Grid, SolvesPicture, whole, whole_grid, Near}
use Rattle.bspline.specs.Mirror.{mirror}
use Rattle.bspline.specs.PictureLayout.{Shape, sides, pixel, raster}
use Rattle.bspline.specs.Lists.{tabulate, at}

-- A position: whole part k and numerator j over a factor m, meaning k + j/m
pub record Position : Type 0 where
  pub k : ℕ
  pub j : ℕ

abbrev pub cube : ℤ → ℤ
cube x = x *ℤ x *ℤ x

-- the weights on C[k-1], C[k], C[k+1], C[k+2], over 6m³
unfoldable pub weights : ℕ → ℕ → List ℤ
weights m j =
    cube (pos m -ℤ pos j)
    ∷ (pos (3 * j ^ 3) -ℤ pos (6 * j ^ 2 * m) +ℤ pos (4 * m ^ 3))
    ∷ (pos (3 * j ^ 2 * m + 3 * j * m ^ 2 + m ^ 3) -ℤ pos (3 * j ^ 3))
    ∷ pos (j ^ 3)
    ∷ []

-- C[k-1], C[k], C[k+1], C[k+2] of n numbers continued past both ends
abbrev pub support : ℕ → (ℕ → ℤ) → ℕ → List ℤ
support n c k = tabulate (λ i. c (mirror n (pos (k + i) -ℤ pos 1))) 0 4

-- the sum of the products of two lists, place by place
abbrev pub dot : List ℤ → List ℤ → ℤ
dot [] l = pos 0
dot (a ∷ k) [] = pos 0
dot (a ∷ k) (b ∷ l) = a *ℤ b +ℤ dot k l

-- N, the weighted sum of a row of n coefficients at a position
unfoldable pub row_sum : ℕ → ℕ → (ℕ → ℤ) → Position → ℤ
row_sum m n c p = dot (weights m p.j) (support n c p.k)

-- in a picture the weights multiply: each of the one list with each of the other
abbrev pub products : List ℤ → List ℤ → List ℤ
products [] w = []
products (a ∷ v) w = map (λ b. a *ℤ b) w ++ products v w

-- the sixteen coefficients around a position of a picture, row after row: four rows from l - 1 on, continued past the top and the bottom, and of each
-- row the four numbers from k - 1 on
unfoldable pub block : Shape → (ℕ → ℕ → ℤ) → ℕ → ℕ → List ℤ
block d c k l = four 0 ++ (four 1 ++ (four 2 ++ four 3))
  where
    four : ℕ → List ℤ
    four i = support d.width (λ x. c x (mirror d.height (pos (l + i) -ℤ pos 1))) k

-- the sum over the sixteen
unfoldable pub picture_sum : ℕ → Shape → (ℕ → ℕ → ℤ) → Position → Position → ℤ
picture_sum m d c px py = dot (products (weights m py.j) (weights m px.j)) (block d c px.k py.k)

-- the row value, N / (96m³) rounded to nearest
unfoldable pub value_in_row : ℕ → List ℤ → Position → ℤ
value_in_row m c p = round (row_sum m (length c) (at c) p) (96 * m ^ 3)

-- the picture value, the sum over 576m⁶ rounded likewise
unfoldable pub value_in_picture : ℕ → Shape → List ℤ → Position → Position → ℤ
value_in_picture m d c px py = round (picture_sum m d (pixel d c) px py) (576 * m ^ 6)

-- the positions that row zoom lists: the i-th is i/m
abbrev pub zoom_position : ℕ → ℕ → Position
zoom_position m i = record { k = i / m; j = i % m }

-- how many there are, from 0 to n - 1
abbrev pub zoom_count : ℕ → ℕ → ℕ
zoom_count m n = (n - 1) * m + 1

unfoldable pub zoom_values : ℕ → List ℤ → List ℤ
zoom_values m c = tabulate (λ i. value_in_row m c (zoom_position m i)) 0 (zoom_count m (length c))

-- the enlarged picture: along each side as many values as row zoom lists of as many numbers
abbrev pub enlarged : ℕ → Shape → Shape
enlarged m d = sides (zoom_count m d.width) (zoom_count m d.height)

-- its values, row after row: the one in column x and row y is the picture value at x/m and y/m
unfoldable pub enlarged_values : ℕ → Shape → List ℤ → List ℤ
enlarged_values m d c = raster (enlarged m d) (λ x y. value_in_picture m d c (zoom_position m x) (zoom_position m y))

-- ---- distances
-- the exact spline of a row is the weighted sum of the exact solution, over 6m³. A row value v of a row's coefficients is within 19/32 of 256 times it
pub record RowValueAccurate (m : ℕ) (s : List ℤ) (p : Position) (v : ℤ) : Type 0 where
  pub accurate : (c : Fractions) → Solves (length s) (whole s) c → Near 19 32 256 (6 * m ^ 3 * c.den) (row_sum m (length s) c.num p) v

-- in a picture it is the sum with the multiplied weights, over 36m⁶, and v is within 15/16
pub record PictureValueAccurate (m : ℕ) (d : Shape) (pixels : List ℤ) (px py : Position) (v : ℤ) : Type 0 where
  pub accurate :
      (c : Grid) → SolvesPicture d.width d.height (whole_grid d pixels) c →
      Near 15 16 256 (36 * m ^ 6 * c.den) (picture_sum m d c.num px py) v
