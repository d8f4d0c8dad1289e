-- What a delay means: both searches have found an exact position, and the difference of the two is exact. Assumes nothing.
use mathlib.Core.Bool.{true}
use mathlib.Core.List.{List}
use mathlib.Core.Path.{◌≡◌}
use Prim.Native.Nat.{ℕ, ◌*◌, ◌^◌, ◌≤◌, ◌<◌}
use native.Mathlib.Nat.{mul-le-mul, lt_of_le_of_lt}
use native.Mathlib.Omega.{arith}
use lib.Dec.{lit<}
use lib.IntN.{ℤ}
use lib.Ieee.{Float, binary64, sub}
use lib.ListN.{length}
use Rattle.bspline.specs.Limits.{most_values}
use Rattle.onset.specs.Outcomes.{OnsetMeasured}
use Rattle.onset.specs.Runs.{Run}
use Rattle.delay.specs.Outcomes.{exact_factor, DelayMeasured}
use Rattle.delay.proofs.ExactDifferences.{sub_exact, sub_zero}
use Rattle.delay.proofs.Factors.{factor_dyadic}

-- ---- two onsets in rows that are not too long
few_sixteenths : (values : List ℤ) (t : ℤ) (p k : ℕ) → Run t values p → length values ≤ most_values → k ≤ 16 → p * k < 2 ^ 53
few_sixteenths values t p k run short few = lt_of_le_of_lt (mul-le-mul {n₁ = p} {n₂ = most_values} (omega (arith, run.inside)) few) (lit< tt)

pub delay_measured : (first second : List ℤ) (m : ℕ) (t : ℤ) (x h y g : Float) →
    exact_factor m ≡ true → length first ≤ most_values → length second ≤ most_values → OnsetMeasured first m t x h → OnsetMeasured second m t y g →
    DelayMeasured first second m t (sub binary64 x y) h g
delay_measured first second m t x h y g e short short' one two =
    let d = factor_dyadic m e in
    let p = one.place in
    let q = two.place in
    let v = one.position_exact d.exponent d.power in
    let w = two.position_exact d.exponent d.power in
    record {
      taken = e;
      first_place = p;
      second_place = q;
      first_run = one.first;
      second_run = two.first;
      delay_exact =
          sub_exact x y p q m d.positive v w d.parts d.sixteen
          (few_sixteenths first t p d.parts one.first.run short d.few) (few_sixteenths second t q d.parts two.first.run short' d.few);
      delay_zero = sub_zero x y p q m d.positive v w;
      first_height_exact = one.height_exact;
      second_height_exact = two.height_exact;
    }
