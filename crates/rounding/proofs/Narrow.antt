-- A quotient of at most 2^27 fits 32 bits, also where it is rounded. Assumes nothing.
use Prim.Native.Nat.{◌*◌, ◌≤◌, ◌^◌}
use native.Mathlib.Omega.{arith}
use lib.Dec.{lit<}
use lib.IntN.{ℤ, pos, negsuc, nat_abs}
use lib.Signed.{◌<ℤ◌}
use mir.Syntax.{w32}
use mir.Val.{SFits}
use Rattle.integers.specs.Rounding.{round}
use Rattle.integers.proofs.Absolute.{within_fits}
use Rattle.integers.proofs.Parts.{of_lt}
use Rattle.integers.proofs.Rounded.{round_within}

pub quotient_fits : (a d : ℤ) → pos 0 <ℤ d → nat_abs a ≤ 2 ^ 27 * nat_abs d → SFits w32 (round a (nat_abs d))
quotient_fits a (negsuc n) above size = absurd above.lt
quotient_fits a (pos n) above size =
    within_fits w32 {B = 2 ^ 27} (lit< tt) (round_within n (omega (arith, of_lt above)) (record { within = omega (arith, size) }))
