-- The values from places of a row on, of whatever numbers the row has, and what the code asks that lists them. Assumes nothing.
use Rattle.std.specs.Prelude.{List, ◌≡◌, ℕ, ◌+◌, ◌*◌, ◌/◌, ◌%◌, ◌^◌, ◌≤◌, ◌<◌, ℤ, pos, nat_abs, length, ◌<ℤ◌}
use Rattle.integers.specs.Rounding.{round}
use Rattle.bspline.specs.Bounds.{AllWithin}
use Rattle.bspline.specs.Limits.{greatest_factor, longest_side}
use Rattle.bspline.specs.Lists.{tabulate}
use Rattle.bspline.specs.Values.{weights, dot}
use Rattle.sums.specs.declared.four.Four.{Four}
use Rattle.sums.specs.Sums as four
use Rattle.columns.specs.declared.Band.{Band}
use Rattle.columns.specs.Bands.{Holds, most_of}

-- n values of the numbers s, m from each place on: the four numbers at the first place are s 0 to s 3, at the next s 1 to s 4
unfoldable pub values_between : ℕ → (ℕ → ℤ) → ℕ → ℕ → List ℤ
values_between m s divisor n = tabulate (λ i. round (dot (weights m (i % m)) (tabulate s (i / m) 4)) divisor) 0 n

-- the numbers s are three that are known, and then so many sums along columns from x on
pub record Continues (s : ℕ → ℤ) (before here after : ℤ) (sum : ℕ → ℤ) (x places : ℕ) : Type 0 where
  pub zeroth : before ≡ s 0
  pub first : here ≡ s 1
  pub second : after ≡ s 2
  pub next : (i : ℕ) → i < places → sum (x + i) ≡ s (i + 3)

-- so many columns from x on, sums around the first place that are as small as those along columns, a factor, a divisor so great that a quotient is at
-- most 2^27, and room for m values from each place on
pub record Listable (b : Band) (x places : ℕ) (first : Four ℤ) (m : ℕ) (d : ℤ) (values : List ℤ) : Type 0 where
  pub columns : Holds b (x + places)
  pub few : places ≤ longest_side
  pub small : AllWithin (most_of b) (four.listed first)
  pub some : 0 < m
  pub factor : m ≤ greatest_factor
  pub above : pos 0 <ℤ d
  pub size : 6 * m ^ 3 * most_of b ≤ 2 ^ 27 * nat_abs d
  pub room : length values ≡ places * m

-- the values of whatever numbers continue the three
pub record Listed (first : Four ℤ) (sum : ℕ → ℤ) (x places m divisor : ℕ) (before after : List ℤ) : Type 0 where
  pub listed : (s : ℕ → ℤ) → Continues s first.before first.here first.after sum x places → after ≡ values_between m s divisor (length before)
