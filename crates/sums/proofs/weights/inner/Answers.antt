-- The cubes are at most 16³, so that every product and sum fits 32 bits.
use Rattle.std.proofs.Common.{◌≡◌, ◌^◌, ℤ, pos, ◌+ℤ◌, ◌-ℤ◌, ◌*ℤ◌, ap₂, ◌∙◌, to_z-of_z, lit<, w32}
use Rattle.integers.specs.Bound.{Within}
use Rattle.integers.proofs.Words.{Word, given, literal, plus, minus, times}
use Rattle.bspline.specs.Values.{cube}
use Rattle.sums.proofs.weights.inner.Goals as goal

-- the terms from the numbers and the cube of the first
module _ (j m a : ℤ) (few : Within 16 j) (short : Within 16 m) (small : Within (16 ^ 3) a) where
  abbrev first : Word w32
  first = times (literal 3 (lit< tt)) (given a (16 ^ 3) small (lit< tt)) (lit< tt)

  abbrev square : Word w32
  square = let one : Word w32 = given j 16 few (lit< tt) in times one one (lit< tt)

  abbrev second : Word w32
  second = times (times (literal 6 (lit< tt)) square (lit< tt)) (given m 16 short (lit< tt)) (lit< tt)

  abbrev two : Word w32
  two = minus first second (lit< tt)

-- and their sum with that of the second
module _ (j m a b : ℤ) (few : Within 16 j) (short : Within 16 m) (small : Within (16 ^ 3) a) (light : Within (16 ^ 3) b) where
  abbrev three : Word w32
  three = plus (two j m a few short small) (times (literal 4 (lit< tt)) (given b (16 ^ 3) light (lit< tt)) (lit< tt)) (lit< tt)

  weight_is : a ≡ cube j → b ≡ cube m → three.operand ≡ pos 3 *ℤ cube j -ℤ pos 6 *ℤ (j *ℤ j) *ℤ m +ℤ pos 4 *ℤ cube m
  weight_is e f = three.means ∙ ap₂ (λ a b. pos 3 *ℤ a -ℤ pos 6 *ℤ (j *ℤ j) *ℤ m +ℤ pos 4 *ℤ b) e f

pub overflow_mul-result-4 : goal.overflow_mul-result-4
overflow_mul-result-4 c = (second c.args.j c.args.m c.cube.result c.requires.0 c.requires.1 c.cube.ensures.1).fits

pub overflow_sub-result : goal.overflow_sub-result
overflow_sub-result c = (two c.args.j c.args.m c.cube.result c.requires.0 c.requires.1 c.cube.ensures.1).fits

pub overflow_add-result : goal.overflow_add-result
overflow_add-result c =
    (three c.args.j c.args.m c.cube.result c.cube-2.result c.requires.0 c.requires.1 c.cube.ensures.1 c.cube-2.ensures.1).fits

pub returns : goal.returns
returns c =
    weight_is c.args.j c.args.m c.cube.result c.cube-2.result c.requires.0 c.requires.1 c.cube.ensures.1 c.cube-2.ensures.1
    (rw (to_z-of_z c.ranges.j) at c.cube.ensures.0) (rw (to_z-of_z c.ranges.m) at c.cube-2.ensures.0)
