-- How a picture is described, and where its numbers stand in a list, row after row: "Pictures in larger slices". Another way to lay out a picture
-- changes this file. Assumes nothing.
use Rattle.std.specs.Prelude.{List, ◌≡◌, ℕ, ◌+◌, ◌-◌, ◌*◌, ◌/◌, ◌%◌, ◌<◌, ℤ}
use Rattle.bspline.specs.Lists.{tabulate, at}

-- A picture's description, wherever one is passed: its sides, "w × h" in the specification, and its pitch, how many places of the list after a row's
-- start the next one starts
pub record Shape : Type 0 where
  pub width : ℕ
  pub height : ℕ
  pub pitch : ℕ

-- a closely packed picture by its two sides: the pitch is the width
abbrev pub sides : ℕ → ℕ → Shape
sides w h = record { width = w; height = h; pitch = w }

-- the closely packed picture with the same sides, as coefficients are kept
abbrev pub packed : Shape → Shape
packed d = sides d.width d.height

-- how many numbers a picture has
abbrev pub area : Shape → ℕ
area d = d.width * d.height

-- where the number in column x and row y stands
abbrev pub place : Shape → ℕ → ℕ → ℕ
place d x y = y * d.pitch + x

-- how many numbers a list must have to hold the picture: the last row ends it
abbrev pub extent : Shape → ℕ
extent d = (d.height - 1) * d.pitch + d.width

-- the number in column x and row y of a picture that lies in a list, from its start
abbrev pub pixel : Shape → List ℤ → ℕ → ℕ → ℤ
pixel d l x y = at l (place d x y)

-- the numbers f x y of a picture, closely packed
unfoldable pub raster : Shape → (ℕ → ℕ → ℤ) → List ℤ
raster d f = tabulate (λ i. f (i % d.width) (i / d.width)) 0 (area d)

-- a picture copied out of its list, closely packed
abbrev pub copied : Shape → List ℤ → List ℤ
copied d l = raster d (pixel d l)

-- two lists, each with its description, hold the same picture. Of what stands between the rows and behind the last nothing is said
pub record SamePicture (d : Shape) (k : List ℤ) (e : Shape) (l : List ℤ) : Type 0 where
  pub wide : d.width ≡ e.width
  pub high : d.height ≡ e.height
  pub same : (x y : ℕ) → x < d.width → y < d.height → pixel d k x y ≡ pixel e l x y
