-- Without its remainder a is d times the floor, which fits, and is divided exactly.
use Rattle.std.proofs.Common.{◌≡◌, refl, ap, ◌∙◌, ◌+◌, ◌≤◌, ◌<◌, ◌^◌, ℤ, pos, nat_abs, ◌-ℤ◌, ◌<ℤ◌, w64, FitsSigned, arith}
use Rattle.std.specs.Int.{int_rem_euclid}
use borrow.Author.Rules.{sfits_of}
use lib.IntN.{negsuc}
use mir.Facts.{to_z-of_z}
use Rattle.integers.specs.Division.{modulo}
use Rattle.integers.proofs.Absolute.{abs_sub, fits_abs}
use Rattle.integers.proofs.Division.{modulo_below, floor_fits}
use Rattle.integers.proofs.Linear.{reify, read}
use Rattle.integers.proofs.Machine.{floor_exact}
use Rattle.rounding.proofs.floor_div.Goals as goal

-- by a number above 0 the library's remainder is the one from 0 up
remainder_is : (a d : ℤ) → pos 0 <ℤ d → int_rem_euclid a d ≡ pos (modulo a (nat_abs d))
remainder_is (pos a) (pos d) h = refl
remainder_is (negsuc a) (pos d) h = ap pos (omega arith)
remainder_is a (negsuc d) h = absurd h.lt

-- a without its remainder
left_fits : (a d : ℤ) → pos 0 <ℤ d → nat_abs a + nat_abs d ≤ 2 ^ 63 → FitsSigned w64 (a -ℤ pos (modulo a (nat_abs d)))
left_fits a (negsuc n) h l = absurd h.lt
left_fits a (pos n) h l =
    let k : 0 < n = omega (arith, read h (simp reify tt)) in
    fits_abs w64 (a -ℤ pos (modulo a n)) (omega (arith, abs_sub a (pos (modulo a n)), modulo_below a n k))

pub returns : goal.returns
returns c =
    let m_fits : FitsSigned w64 c.rem_euclid.result = sfits_of c.rem_euclid.type_inv in
    let m_is = (rw (to_z-of_z c.ranges.a, to_z-of_z c.ranges.d) at c.rem_euclid.ensures.value) ∙ remainder_is c.args.a c.args.d c.requires.0 in
    let fits = left_fits c.args.a c.args.d c.requires.0 c.requires.1 in
    rw (to_z-of_z c.ranges.a, to_z-of_z m_fits, m_is, to_z-of_z fits, to_z-of_z c.ranges.d, floor_exact c.args.a c.args.d c.requires.0)
    (to_z-of_z (floor_fits c.args.a (nat_abs c.args.d) c.ranges.a))
