-- A factor is at most 16, and its cube is its third power.
use Rattle.std.proofs.Common.{◌^◌, pos, sym, ap, ◌∙◌, lit<, w32, w64}
use Rattle.integers.proofs.Words.{Word, given, counted, cast, operand_small}
use Rattle.bspline.specs.Values.{cube}
use Rattle.bspline.proofs.Weights.{cubed}
use Rattle.sums.proofs.weights.factor_cubed.Goals as goal

pub returns : goal.returns
returns c =
    let factor : Word w32 = counted c.args.m 16 c.requires (lit< tt) in
    let wide : Word w64 = cast {v = w32} (given c.cube.result (16 ^ 3) c.cube.ensures.1 (lit< tt)) (lit< tt) in
    (wide.means ∙ c.cube.ensures.0 ∙ ap cube factor.means ∙ ap pos (sym (cubed c.args.m)), operand_small wide)
