-- The bounds of sizes that a text can have: those of the longest row and of the greatest factor, and so of the count of values. Assumes nothing.
use mathlib.Core.Bool.{true, not, ◌&&◌, and-eq-true_iff}
use mathlib.Core.Path.{◌≡◌}
use Prim.Native.Nat.{◌≤◌, ◌<◌}
use native.Mathlib.Omega.{arith}
use borrow.Author.Tests.{eqb-true, not-true}
use lib.Dec.{eqb}
use Rattle.bspline.specs.Limits.{longest_row, greatest_factor, most_values}
use Rattle.bspline.specs.Refusals.{outside}
use Rattle.bspline.specs.Values.{zoom_count}
use Rattle.bspline.proofs.Refusals.{one_to}
use Rattle.bspline.proofs.Zoom.{count_inside}
use Rattle.judgetext.specs.Answers.{row_sizes}
use Rattle.judgetext.specs.declared.Sizes.{Sizes}

pub record Sized (s : Sizes) : Type 0 where
  pub short : s.samples ≤ longest_row
  pub some : 0 < s.factor
  pub small : s.factor ≤ greatest_factor
  pub inside : s.values ≤ zoom_count s.factor longest_row
  pub few : s.values ≤ most_values

pub sized : (s : Sizes) → row_sizes s ≡ true → Sized s
sized s e =
    let n = s.samples in
    let m = s.factor in
    let long = outside longest_row n in
    let great = outside greatest_factor m in
    let all = (and-eq-true_iff (not long && not great) (eqb s.values (zoom_count m n))).0 e in
    let pair = (and-eq-true_iff (not long) (not great)).0 all.0 in
    let samples = one_to longest_row n (not-true long pair.0) in
    let factor = one_to greatest_factor m (not-true great pair.1) in
    let count = eqb-true s.values (zoom_count m n) all.1 in
    let most = count_inside m n samples.1 in
    record { short = samples.1; some = factor.0; small = factor.1; inside = omega arith; few = omega arith }
