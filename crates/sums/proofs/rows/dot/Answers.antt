-- A product is at most the bound of the numbers times the weight, so that every sum of them is at most that bound times the weights' total, which
-- fits 64 bits.
use Rattle.std.proofs.Common.{ℕ, ◌+◌, ◌*◌, ◌^◌, ◌≤◌, ℤ, nat_abs, le_refl, le_trans, arith, lit<, w32, w64}
use lib.IntN.{+ℤ_idr}
use Rattle.integers.proofs.Words.{Word, given, cast, plus, times}
use Rattle.bspline.specs.Lists.{at}
use Rattle.bspline.proofs.Bounds.{sizes_within}
use Rattle.sums.specs.declared.four.Four.{Four}
use Rattle.sums.specs.Sums.{listed, Summable}
use Rattle.sums.proofs.rows.dot.Goals as goal

-- the products, place by place, and the sums of the last two, three and four
module _ (w c : Four ℤ) (q : Summable (listed w) (listed c)) where
  light : nat_abs w.before + (nat_abs w.here + (nat_abs w.after + (nat_abs w.beyond + 0))) ≤ 24576
  light = q.light

  -- a weight of 32 bits as a number of 64
  abbrev weight : ℕ → Word w64
  weight k =
      let x = at (listed w) k in
      let small : nat_abs x ≤ 24576 = le_trans ((sizes_within (listed w)).within k) light in
      cast {v = w32} (given x (nat_abs x) (record { within = le_refl (nat_abs x) }) (omega (arith, small))) (omega (arith, small))

  abbrev product : ℕ → Word w64
  product k =
      times (weight k) (given (at (listed c) k) (24576 * 2 ^ 31) (record { within = q.small.within k }) (lit< tt))
      (omega (arith, (sizes_within (listed w)).within k, light))

  abbrev two : Word w64
  two = plus (product 2) (product 3) (omega (arith, light))

  abbrev three : Word w64
  three = plus (product 1) two (omega (arith, light))

  abbrev four : Word w64
  four = plus (product 0) three (omega (arith, light))

pub overflow_mul-result : goal.overflow_mul-result
overflow_mul-result c = (product c.args.w c.args.c c.requires 0).fits

pub overflow_mul-result-2 : goal.overflow_mul-result-2
overflow_mul-result-2 c = (product c.args.w c.args.c c.requires 1).fits

pub overflow_mul-result-3 : goal.overflow_mul-result-3
overflow_mul-result-3 c = (product c.args.w c.args.c c.requires 2).fits

pub overflow_mul-result-4 : goal.overflow_mul-result-4
overflow_mul-result-4 c = (product c.args.w c.args.c c.requires 3).fits

pub overflow_add-result : goal.overflow_add-result
overflow_add-result c = (two c.args.w c.args.c c.requires).fits

pub overflow_add-result-2 : goal.overflow_add-result-2
overflow_add-result-2 c = (three c.args.w c.args.c c.requires).fits

pub overflow_add-result-3 : goal.overflow_add-result-3
overflow_add-result-3 c = (four c.args.w c.args.c c.requires).fits

pub returns : goal.returns
returns c = rw ((four c.args.w c.args.c c.requires).means, +ℤ_idr)
