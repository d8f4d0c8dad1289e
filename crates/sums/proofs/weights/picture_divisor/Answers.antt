-- 576 times the square of a cube of at most 16³ fits 64 bits.
use Rattle.std.proofs.Common.{◌≡◌, ℕ, ◌*◌, ◌^◌, ℤ, pos, ◌*ℤ◌, sym, ap, ◌∙◌, lit<, w64}
use Rattle.integers.specs.Bound.{Within}
use Rattle.integers.proofs.Words.{Word, given, literal, times}
use Rattle.bspline.proofs.Weights.{sixth}
use Rattle.sums.proofs.weights.picture_divisor.Goals as goal

module _ (m : ℕ) (a : ℤ) (small : Within (16 ^ 3) a) where
  abbrev divisor : Word w64
  divisor = let cube : Word w64 = given a (16 ^ 3) small (lit< tt) in times (literal 576 (lit< tt)) (times cube cube (lit< tt)) (lit< tt)

  divisor_is : a ≡ pos (m ^ 3) → divisor.operand ≡ pos (576 * m ^ 6)
  divisor_is e = divisor.means ∙ ap (λ a. pos 576 *ℤ (a *ℤ a)) e ∙ ap (λ a. pos (576 * a)) (sym (sixth m))

pub returns : goal.returns
returns c = divisor_is c.args.m c.factor_cubed-cubed.result c.factor_cubed-cubed.ensures.1 c.factor_cubed-cubed.ensures.0
