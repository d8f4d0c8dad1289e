-- Two rows that differ at one sample, and how far apart their exact solutions, coefficients, splines and values are: "How far one sample reaches".
-- The bounds are in whole numbers, times their denominators. Assumes nothing.
use Rattle.std.specs.Prelude.{Bool, true, false, List, ◌≡◌, ℕ, ◌+◌, ◌*◌, ◌^◌, ◌≤◌, ◌<◌, ltb, ℤ, pos, nat_abs, ◌+ℤ◌, ◌-ℤ◌, ◌*ℤ◌, length}
use Rattle.bspline.specs.Exact.{Fractions}
use Rattle.bspline.specs.Lists.{at}
use Rattle.bspline.specs.Values.{Position, row_sum}

-- two rows of one length that differ only at place i, by d
pub record DifferAt (i : ℕ) (d : ℤ) (s t : List ℤ) : Type 0 where
  pub long : length t ≡ length s
  pub there : at t i ≡ at s i +ℤ d
  pub elsewhere : (k : ℕ) → (k ≡ i → ⊥) → at t k ≡ at s k

-- |k - i|, how far apart two places are
abbrev pub apart : ℕ → ℕ → ℕ
apart k i = nat_abs (pos k -ℤ pos i)

-- ---- bounds, of two rows that differ by d
-- how far apart the exact solutions c and e are at place k, and 2|d|: the first times 2^|k - i|, and both times the denominators
abbrev pub solutions_gap : ℕ → Fractions → Fractions → ℕ → ℕ
solutions_gap i c e k = 2 ^ apart k i * nat_abs (pos e.den *ℤ c.num k -ℤ pos c.den *ℤ e.num k)

abbrev pub solutions_bound : ℤ → Fractions → Fractions → ℕ
solutions_bound d c e = 2 * nat_abs d * (c.den * e.den)

-- at place k the exact solutions differ by at most 2|d| / 2^|k - i|
abbrev pub SolutionsNear : ℕ → ℤ → Fractions → Fractions → ℕ → Type 0
SolutionsNear i d c e k = solutions_gap i c e k ≤ solutions_bound d c e

-- at place k the coefficients differ by at most 4096 times that, and 3 units
abbrev pub CoefficientsNear : ℕ → ℤ → List ℤ → List ℤ → ℕ → Type 0
CoefficientsNear i d C C' k = 2 ^ apart k i * nat_abs (at C k -ℤ at C' k) ≤ 4096 * (2 * nat_abs d) + 3 * 2 ^ apart k i

-- a position is at least g places from place i: |k + j/m - i| ≥ g, times m
abbrev pub Away : ℕ → Position → ℕ → ℕ → Type 0
Away m p i g = g * m ≤ apart (p.k * m + p.j) (i * m)

-- there the exact splines, the weighted sums of c and e over 6m³, differ by at most 4/3 × |d| / 2^g
abbrev pub SplinesNear : ℕ → ℤ → ℕ → ℕ → Fractions → Fractions → Position → Type 0
SplinesNear g d m n c e p =
    3 * (2 ^ g * nat_abs (pos e.den *ℤ row_sum m n c.num p -ℤ pos c.den *ℤ row_sum m n e.num p))
    ≤ 4 * nat_abs d * (6 * m ^ 3 * (c.den * e.den))

-- and two row values by at most 256 times that, and 19/16 units: 256 × 4/3 is 16384/48, and 19/16 is 57/48
abbrev pub ValuesNear : ℕ → ℤ → ℤ → ℤ → Type 0
ValuesNear g d v v' = 48 * (2 ^ g * nat_abs (v -ℤ v')) ≤ 16384 * nat_abs d + 57 * 2 ^ g

-- ---- from g places on, where the rows differ by at most D
-- the exact splines differ by less than a/b: 4/3 × D / 2^g is less than a/b
abbrev pub splines_stay : ℕ → ℕ → ℕ → ℕ → Bool
splines_stay D a b g = ltb (4 * D * b) (3 * a * 2 ^ g)

-- and row values by at most r units: 256 × 4/3 × D / 2^g, and 19/16, are less than r + 1
abbrev pub values_stay : ℕ → ℕ → ℕ → Bool
values_stay D r g = ltb (16384 * D + 57 * 2 ^ g) (48 * (r + 1) * 2 ^ g)

-- g is the least number of places for which it is so
pub record LeastPlaces (D a b r g : ℕ) : Type 0 where
  pub splines : splines_stay D a b g ≡ true
  pub values : values_stay D r g ≡ true
  pub no_fewer : (h : ℕ) → h < g → splines_stay D a b h ≡ false

-- a row of the table in docs/REACH.md: the places for less than 1/256, 1/16, 1 and 16 counts, which are 1, 16, 256 and 4,096 units of a value. A value moves
-- by at most 1 unit in the first case, and by less in the others
abbrev pub Row : ℕ → ℕ → ℕ → ℕ → ℕ → Type 0
Row D p q r s = LeastPlaces D 1 256 1 p × LeastPlaces D 1 16 15 q × LeastPlaces D 1 1 255 r × LeastPlaces D 16 1 4095 s
