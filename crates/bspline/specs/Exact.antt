-- The exact solution of a row ("The mirrored row") and of a picture ("The two recursions"), and how far from it a number is.
-- Fractions are whole numbers over one whole number above 0. Assumes nothing.
use Rattle.std.specs.Prelude.{List, ◌≡◌, ℕ, ◌*◌, ◌≤◌, ◌<◌, ℤ, pos, nat_abs, ◌+ℤ◌, ◌-ℤ◌, ◌*ℤ◌, length}
use Rattle.std.proofs.Common.{lit<}
use Rattle.bspline.specs.Mirror.{mirror}
use Rattle.bspline.specs.PictureLayout.{Shape, packed, pixel}
use Rattle.bspline.specs.Lists.{at}

-- A row of fractions with one common denominator. Its places are k = 0 to n - 1
pub record Fractions : Type 0 where
  pub num : ℕ → ℤ
  pub den : ℕ
  pub above : 0 < den

-- equal at each of the first n places: the same number, whatever the denominators
pub record Same (n : ℕ) (c d : Fractions) : Type 0 where
  pub same : (k : ℕ) → k < n → pos d.den *ℤ c.num k ≡ pos c.den *ℤ d.num k

-- c[k-1] + 4c[k] + c[k+1], where c has n numbers and is continued past both ends: a row of the tridiagonal (1, 4, 1) system
unfoldable pub tridiagonal : ℕ → (ℕ → ℤ) → ℤ → ℤ
tridiagonal n c k = c (mirror n (k -ℤ pos 1)) +ℤ pos 4 *ℤ c (mirror n k) +ℤ c (mirror n (k +ℤ pos 1))

-- the equation at place k, c[k-1] + 4c[k] + c[k+1] = 6s[k], times both denominators
abbrev pub Equation : ℕ → Fractions → Fractions → ℕ → Type 0
Equation n s c k = pos s.den *ℤ tridiagonal n c.num (pos k) ≡ pos c.den *ℤ (pos 6 *ℤ s.num k)

-- c is the exact solution of the row s of n fractions: it holds for k = 0 to n - 1
pub record Solves (n : ℕ) (s c : Fractions) : Type 0 where
  pub equation : (k : ℕ) → k < n → Equation n s c k

-- A picture of fractions with one common denominator: the number in column x and row y is num x y over den
pub record Grid : Type 0 where
  pub num : ℕ → ℕ → ℤ
  pub den : ℕ
  pub above : 0 < den

abbrev pub row : ℕ → Grid → Fractions
row y p = record { num = λ x. p.num x y; den = p.den; above = p.above }

abbrev pub column : ℕ → Grid → Fractions
column x p = record { num = λ y. p.num x y; den = p.den; above = p.above }

pub record SameGrid (w h : ℕ) (c d : Grid) : Type 0 where
  pub same : (x y : ℕ) → x < w → y < h → pos d.den *ℤ c.num x y ≡ pos c.den *ℤ d.num x y

-- c is the exact solution of the picture p: the rows of a picture between solve the rows of p, and the columns of c those of the picture between
pub record SolvesPicture (w h : ℕ) (p c : Grid) : Type 0 where
  pub between : Grid
  pub rows : (y : ℕ) → y < h → Solves w (row y p) (row y between)
  pub columns : (x : ℕ) → x < w → Solves h (column x between) (column x c)

-- the numbers of a list over a denominator, as a row and as a picture; samples and pixels are whole
abbrev pub over : List ℤ → (D : ℕ) → 0 < D → Fractions
over l D h = record { num = at l; den = D; above = h }

abbrev pub whole : List ℤ → Fractions
whole l = over l 1 (lit< tt)

abbrev pub grid_over : Shape → List ℤ → (D : ℕ) → 0 < D → Grid
grid_over d l D h = record { num = pixel d l; den = D; above = h }

abbrev pub whole_grid : Shape → List ℤ → Grid
whole_grid d l = grid_over d l 1 (lit< tt)

-- ---- distances
-- v is at most a / b from m times the fraction x / D: the difference without its sign, as a fraction and not rounded
pub record Near (a b m D : ℕ) (x v : ℤ) : Type 0 where
  pub near : b * nat_abs (pos D *ℤ v -ℤ pos m *ℤ x) ≤ a * D

-- demand 3 for a row: each coefficient is at most 3/2 from 4096 times every exact solution
pub record RowAccurate (s C : List ℤ) : Type 0 where
  pub accurate : (c : Fractions) → Solves (length s) (whole s) c → (k : ℕ) → k < length s → Near 3 2 4096 c.den (c.num k) (at C k)

-- demand 3 for a picture: at most 7. Its coefficients are closely packed
pub record PictureAccurate (d : Shape) (p C : List ℤ) : Type 0 where
  pub accurate :
      (c : Grid) → SolvesPicture d.width d.height (whole_grid d p) c →
      (x y : ℕ) → x < d.width → y < d.height → Near 7 1 4096 c.den (c.num x y) (pixel (packed d) C x y)
