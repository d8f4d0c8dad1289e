-- Each weighted sum of what `Weighable` asks is at most 2^27 divisors. Assumes nothing.
use mathlib.Core.List.{List}
use Prim.Native.Nat.{ℕ, ◌*◌, ◌^◌, ◌≤◌, ◌<◌}
use native.Mathlib.Nat.{le_trans}
use native.Mathlib.Omega.{arith}
use lib.IntN.{ℤ, nat_abs}
use lib.ListN.{length}
use Rattle.bspline.specs.Values.{weights, dot}
use Rattle.bspline.proofs.Weights.{weighted_within}
use Rattle.rounding.specs.declared.Divisor.{Divisor}
use Rattle.cubic.specs.Weighted.{Weighable}

pub sum_small : {c : List ℤ} {m : ℕ} {d : Divisor} {values : List ℤ} → Weighable c m d values → (j : ℕ) → j < length values →
    nat_abs (dot (weights m j) c) ≤ 2 ^ 27 * nat_abs d.by
sum_small {c} {m} p j h = le_trans (weighted_within m j p.bound c (omega (arith, h, p.room)) p.small) p.size
