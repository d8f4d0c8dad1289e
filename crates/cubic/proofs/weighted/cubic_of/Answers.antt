-- The powers of the factor fit 32 bits and every product and sum with the four numbers 64, and the cubic of the four is the weighted sum.
use Rattle.std.proofs.Common.{◌≡◌, ap, ◌∙◌, ℕ, ◌≤◌, ℤ, pos, ◌+ℤ◌, ◌*ℤ◌, w32, w64}
use mathlib.Core.Path.{ap₂}
use lib.Dec.{lit<}
use Rattle.integers.proofs.Words.{Word, given, counted, cast, literal, plus, minus, times, operand_small}
use Rattle.bspline.specs.Bounds.{AllWithin}
use Rattle.bspline.specs.Limits.{greatest_factor}
use Rattle.bspline.specs.Lists.{at}
use Rattle.sums.specs.declared.four.Four.{Four}
use Rattle.sums.specs.Sums.{greatest_sum, listed}
use Rattle.cubic.specs.Cubics.{cubic_sum}
use Rattle.cubic.proofs.CubicSum.{cubic_sum_lem}
use Rattle.cubic.proofs.weighted.cubic_of.Goals as goal

-- the products and sums
module _ (m : ℕ) (four : Four ℤ) (small : AllWithin greatest_sum (listed four)) (few : m ≤ greatest_factor) where
  -- the powers of the factor, and each as a number of 64 bits
  abbrev factor : Word w32
  factor = counted m 16 few (lit< tt)

  abbrev square : Word w32
  square = times factor factor (lit< tt)

  abbrev cubed : Word w32
  cubed = times square factor (lit< tt)

  abbrev wide_cubed : Word w64
  wide_cubed = cast cubed (lit< tt)

  abbrev three_factor : Word w32
  three_factor = times (literal 3 (lit< tt)) factor (lit< tt)

  abbrev three_square : Word w32
  three_square = times three_factor factor (lit< tt)

  abbrev wide_three_square : Word w64
  wide_three_square = cast three_square (lit< tt)

  abbrev wide_three_factor : Word w64
  wide_three_factor = cast three_factor (lit< tt)

  -- the number at a place of the four
  abbrev number : ℕ → Word w64
  number k = given (at (listed four) k) greatest_sum (record { within = small.within k }) (lit< tt)

  abbrev before : Word w64
  before = number 0

  abbrev here : Word w64
  here = number 1

  abbrev after : Word w64
  after = number 2

  abbrev beyond : Word w64
  beyond = number 3

  abbrev four_here : Word w64
  four_here = times (literal 4 (lit< tt)) here (lit< tt)

  abbrev two_numbers : Word w64
  two_numbers = plus before four_here (lit< tt)

  abbrev three_numbers : Word w64
  three_numbers = plus two_numbers after (lit< tt)

  abbrev zero : Word w64
  zero = times wide_cubed three_numbers (lit< tt)

  abbrev rise : Word w64
  rise = minus after before (lit< tt)

  abbrev one : Word w64
  one = times wide_three_square rise (lit< tt)

  abbrev two_here : Word w64
  two_here = times (literal 2 (lit< tt)) here (lit< tt)

  abbrev less_here : Word w64
  less_here = minus before two_here (lit< tt)

  abbrev bend : Word w64
  bend = plus less_here after (lit< tt)

  abbrev two : Word w64
  two = times wide_three_factor bend (lit< tt)

  abbrev span : Word w64
  span = minus beyond before (lit< tt)

  abbrev fall : Word w64
  fall = minus here after (lit< tt)

  abbrev three_fall : Word w64
  three_fall = times (literal 3 (lit< tt)) fall (lit< tt)

  abbrev three : Word w64
  three = plus span three_fall (lit< tt)

  -- the cubic at a numerator, as the machine has it
  reads : (j : ℕ) →
      cubic_sum (record { zero = zero.operand; one = one.operand; two = two.operand; three = three.operand }) (pos j)
      ≡ cubic_sum (record { zero = zero.value; one = one.value; two = two.value; three = three.value }) (pos j)
  reads j =
      let linear = ap₂ ◌+ℤ◌ (ap (λ y. y *ℤ pos j) three.means) two.means in
      let quadratic = ap₂ ◌+ℤ◌ (ap (λ y. y *ℤ pos j) linear) one.means in
      ap₂ ◌+ℤ◌ (ap (λ y. y *ℤ pos j) quadratic) zero.means

pub overflow_mul-result-2 : goal.overflow_mul-result-2
overflow_mul-result-2 c = (cubed c.args.m c.args.c c.requires.0 c.requires.1).fits

pub overflow_mul-result-3 : goal.overflow_mul-result-3
overflow_mul-result-3 c = (four_here c.args.m c.args.c c.requires.0 c.requires.1).fits

pub overflow_add-result : goal.overflow_add-result
overflow_add-result c = (two_numbers c.args.m c.args.c c.requires.0 c.requires.1).fits

pub overflow_add-result-2 : goal.overflow_add-result-2
overflow_add-result-2 c = (three_numbers c.args.m c.args.c c.requires.0 c.requires.1).fits

pub overflow_mul-result-4 : goal.overflow_mul-result-4
overflow_mul-result-4 c = (zero c.args.m c.args.c c.requires.0 c.requires.1).fits

pub overflow_sub-result : goal.overflow_sub-result
overflow_sub-result c = (rise c.args.m c.args.c c.requires.0 c.requires.1).fits

pub overflow_mul-result-7 : goal.overflow_mul-result-7
overflow_mul-result-7 c = (one c.args.m c.args.c c.requires.0 c.requires.1).fits

pub overflow_mul-result-9 : goal.overflow_mul-result-9
overflow_mul-result-9 c = (two_here c.args.m c.args.c c.requires.0 c.requires.1).fits

pub overflow_sub-result-2 : goal.overflow_sub-result-2
overflow_sub-result-2 c = (less_here c.args.m c.args.c c.requires.0 c.requires.1).fits

pub overflow_add-result-3 : goal.overflow_add-result-3
overflow_add-result-3 c = (bend c.args.m c.args.c c.requires.0 c.requires.1).fits

pub overflow_mul-result-10 : goal.overflow_mul-result-10
overflow_mul-result-10 c = (two c.args.m c.args.c c.requires.0 c.requires.1).fits

pub overflow_sub-result-3 : goal.overflow_sub-result-3
overflow_sub-result-3 c = (span c.args.m c.args.c c.requires.0 c.requires.1).fits

pub overflow_sub-result-4 : goal.overflow_sub-result-4
overflow_sub-result-4 c = (fall c.args.m c.args.c c.requires.0 c.requires.1).fits

pub overflow_mul-result-11 : goal.overflow_mul-result-11
overflow_mul-result-11 c = (three_fall c.args.m c.args.c c.requires.0 c.requires.1).fits

pub overflow_add-result-4 : goal.overflow_add-result-4
overflow_add-result-4 c = (three c.args.m c.args.c c.requires.0 c.requires.1).fits

pub returns : goal.returns
returns c =
    let m = c.args.m in
    let four = c.args.c in
    let small = c.requires.0 in
    let few = c.requires.1 in (
      record { sums = λ j. reads m four small few j ∙ cubic_sum_lem m j four.before four.here four.after four.beyond },
      record {
        zero = operand_small (zero m four small few);
        one = operand_small (one m four small few);
        two = operand_small (two m four small few);
        three = operand_small (three m four small few);
      },
    )
