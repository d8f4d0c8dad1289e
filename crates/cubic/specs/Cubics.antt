-- Cubics of the numerator, and their differences. Assumes nothing.
use Rattle.std.specs.Prelude.{◌≡◌, ◌*◌, ℤ, pos, ◌+ℤ◌, ◌-ℤ◌, ◌*ℤ◌}
use Rattle.integers.specs.Bound.{Within}
use Rattle.sums.specs.Sums.{greatest_sum}
use Rattle.cubic.specs.declared.Cubic.{Cubic}
use Rattle.cubic.specs.declared.Differences.{Differences}

-- the cubic at a numerator
abbrev pub cubic_sum : Cubic → ℤ → ℤ
cubic_sum f j = ((f.three *ℤ j +ℤ f.two) *ℤ j +ℤ f.one) *ℤ j +ℤ f.zero

-- its coefficients where it is the weighted sum of numbers that are themselves at most weighted sums of 32-bit numbers: at most that times the sizes of
-- what they are multiplied by, at factor 16
pub record CubicSmall (f : Cubic) : Type 0 where
  pub zero : Within (24576 * greatest_sum) f.zero
  pub one : Within (1536 * greatest_sum) f.one
  pub two : Within (192 * greatest_sum) f.two
  pub three : Within (8 * greatest_sum) f.three

-- by how much a function grows from a numerator to the next
abbrev pub growth : (ℤ → ℤ) → ℤ → ℤ
growth g j = g (j +ℤ pos 1) -ℤ g j

-- the cubic at a numerator, its growth there, and the growth of each growth
pub record DifferencesAt (f : Cubic) (j : ℤ) (d : Differences) : Type 0 where
  pub value : d.value ≡ cubic_sum f j
  pub first : d.first ≡ growth (cubic_sum f) j
  pub second : d.second ≡ growth (growth (cubic_sum f)) j
  pub third : d.third ≡ growth (growth (growth (cubic_sum f))) j

-- their sizes for a small cubic at a numerator up to 16
pub record DifferencesSmall (d : Differences) : Type 0 where
  pub value : Within (131072 * greatest_sum) d.value
  pub first : Within (14408 * greatest_sum) d.first
  pub second : Within (1200 * greatest_sum) d.second
  pub third : Within (48 * greatest_sum) d.third

-- each but the last grows by the one after it, and so they are those at the next numerator
pub record Stepped (d r : Differences) : Type 0 where
  pub value : r.value ≡ d.value +ℤ d.first
  pub first : r.first ≡ d.first +ℤ d.second
  pub second : r.second ≡ d.second +ℤ d.third
  pub third : r.third ≡ d.third
