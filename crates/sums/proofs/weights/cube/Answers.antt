-- Two and three factors of at most 16 have products of at most 16² and 16³.
use Rattle.std.proofs.Common.{ℤ, lit<, w32}
use Rattle.integers.specs.Bound.{Within}
use Rattle.integers.proofs.Words.{Word, given, times, operand_small}
use Rattle.sums.proofs.weights.cube.Goals as goal

module _ (x : ℤ) (few : Within 16 x) where
  abbrev one : Word w32
  one = given x 16 few (lit< tt)

  abbrev three : Word w32
  three = times (times one one (lit< tt)) one (lit< tt)

pub returns : goal.returns
returns c = ((three c.args.x c.requires).means, operand_small (three c.args.x c.requires))
