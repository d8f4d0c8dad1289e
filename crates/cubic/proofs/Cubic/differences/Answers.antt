-- Every product and sum on the way fits 64 bits, so that the differences are those of the cubic.
use Rattle.std.proofs.Common.{◌∙◌, w64}
use lib.Dec.{lit<}
use Rattle.integers.proofs.Words.{Word, given, literal, plus, times}
use Rattle.cubic.specs.declared.Cubic.{Cubic}
use Rattle.cubic.specs.Cubics.{CubicSmall}
use Rattle.cubic.proofs.Cubics.{differences_start}
use Rattle.cubic.proofs.Cubic.differences.Goals as goal

module _ (f : Cubic) (s : CubicSmall f) where
  abbrev zero : Word w64
  zero = given f.zero _ s.zero (lit< tt)

  abbrev one : Word w64
  one = given f.one _ s.one (lit< tt)

  abbrev two : Word w64
  two = given f.two _ s.two (lit< tt)

  abbrev three : Word w64
  three = given f.three _ s.three (lit< tt)

  abbrev first : Word w64
  first = plus (plus one two (lit< tt)) three (lit< tt)

  abbrev third : Word w64
  third = times (literal 6 (lit< tt)) three (lit< tt)

  abbrev second : Word w64
  second = plus (times (literal 2 (lit< tt)) two (lit< tt)) third (lit< tt)

pub returns : goal.returns
returns c =
    let start = differences_start c.args.self in
    record {
      value = (zero c.args.self c.requires).means ∙ start.value;
      first = (first c.args.self c.requires).means ∙ start.first;
      second = (second c.args.self c.requires).means ∙ start.second;
      third = (third c.args.self c.requires).means ∙ start.third;
    }
