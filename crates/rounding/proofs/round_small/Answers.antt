-- Moved up by 2^27 quotients the dividend is not negative, and the unsigned quotient less 2^27 is the floor.
use Rattle.std.proofs.Common.{◌≡◌, ◌∙◌, ◌*◌, ◌/◌, ◌≤◌, ◌<◌, ◌^◌, ℤ, pos, nat_abs, ◌+ℤ◌, ◌-ℤ◌, ◌*ℤ◌, ◌≤ℤ◌, ◌<ℤ◌, w32, w64, FitsSigned, to_z, of_z, arith}
use native.Mathlib.Nat.{div-le_self}
use borrow.Author.Rules.{sfits_of}
use lib.IntN.{negsuc}
use lib.Signed.{yes_non_neg}
use mir.Facts.{to_z-of_z, to_z_pos, sfits_widen}
use Rattle.integers.specs.Rounding.{round}
use Rattle.integers.proofs.Absolute.{abs_add, abs_mul, fits_abs}
use Rattle.integers.proofs.Linear.{reify, read, show}
use Rattle.integers.proofs.Machine.{floor_moved}
use Rattle.integers.proofs.Parts.{of_lt}
use Rattle.rounding.specs.Half.{half}
use Rattle.rounding.proofs.Narrow.{quotient_fits}
use Rattle.rounding.proofs.Nearest.{half_read, before_floor, before_floor_rounds, before_floor_size}
use Rattle.rounding.proofs.round_small.Goals as goal

-- what the arguments satisfy
record Small (a d : ℤ) : Type 0 where
  pub above : pos 0 <ℤ d
  pub divisor : nat_abs d ≤ 2 ^ 20
  pub size : nat_abs a ≤ 2 ^ 27 * nat_abs d

abbrev moved : ℤ → ℤ → ℤ
moved a d = before_floor a d +ℤ pos 134217728 *ℤ d

step_fits : {a d : ℤ} → Small a d → FitsSigned w64 (pos 134217728 *ℤ d)
step_fits {a} {d} s = show (simp reify tt) (omega (arith, read s.divisor (simp reify tt)))

before_floor_fits : {a d : ℤ} → Small a d → FitsSigned w64 (before_floor a d)
before_floor_fits {a} {d} s = fits_abs w64 (before_floor a d) (omega (arith, before_floor_size a d s.above, s.divisor, s.size))

not_negative : {a d : ℤ} → Small a d → pos 0 ≤ℤ moved a d
not_negative {d = negsuc n} s = absurd s.above.lt
not_negative {a} {d = pos n} s = show (simp reify tt) (omega (arith, read s.size (simp reify tt)))

moved_size : {a d : ℤ} → Small a d → nat_abs (moved a d) < 2 ^ 50
moved_size {a} {d} s =
    omega (arith, abs_add (before_floor a d) (pos 134217728 *ℤ d), abs_mul (pos 134217728) d, s.divisor, s.size, before_floor_size a d s.above)

moved_fits : {a d : ℤ} → Small a d → FitsSigned w64 (moved a d)
moved_fits {a} {d} s = fits_abs w64 (moved a d) (omega (arith, moved_size s))

quotient : {a d : ℤ} → Small a d → nat_abs (moved a d) / nat_abs d < 2 ^ 50
quotient {a} {d} s = omega (arith, moved_size s, div-le_self (nat_abs (moved a d)) (nat_abs d))

result : {a d : ℤ} → Small a d → pos (nat_abs (moved a d) / nat_abs d) -ℤ pos 134217728 ≡ round a (nat_abs d)
result {d = negsuc n} s = absurd s.above.lt
result {a} {d = pos n} s =
    floor_moved (before_floor a (pos n)) n 134217728 (omega (arith, of_lt s.above)) (not_negative s) ∙ before_floor_rounds a (pos n) s.above

module _ (c : goal.After-half) where
  small : Small c.args.a c.args.d
  small = record { above = c.requires.0; divisor = c.requires.1; size = c.requires.2 }

  half_is : to_z w64 (of_z w64 c.half.result) ≡ pos (half c.args.a (nat_abs c.args.d))
  half_is = half_read c.ranges.a c.ranges.d (sfits_of c.half.type_inv) c.half.ensures

  below : nat_abs (moved c.args.a c.args.d) / nat_abs c.args.d < 2 ^ 63
  below = omega (arith, quotient small)

  narrow : FitsSigned w32 (round c.args.a (nat_abs c.args.d))
  narrow = quotient_fits c.args.a c.args.d small.above small.size

  wide : FitsSigned w64 (round c.args.a (nat_abs c.args.d))
  wide = sfits_widen tt narrow

  -- the machine's sum, its dividend, and its quotient less 2^27
  abbrev sum : ℤ
  sum = to_z w64 (of_z w64 (to_z w64 (of_z w64 c.args.a) +ℤ to_z w64 (of_z w64 c.half.result)))

  sum_is : sum ≡ before_floor c.args.a c.args.d
  sum_is = rw (to_z-of_z c.ranges.a, half_is, to_z-of_z (before_floor_fits small))

  abbrev dividend : ℤ
  dividend = to_z w64 (of_z w64 (sum +ℤ to_z w64 (of_z w64 (pos 134217728 *ℤ to_z w64 (of_z w64 c.args.d)))))

  dividend_is : dividend ≡ moved c.args.a c.args.d
  dividend_is = rw (sum_is, to_z-of_z c.ranges.d, to_z-of_z (step_fits small), to_z-of_z (moved_fits small))

  result_is : to_z w64 (nat_abs dividend / nat_abs (to_z w64 (of_z w64 c.args.d))) -ℤ pos 134217728 ≡ round c.args.a (nat_abs c.args.d)
  result_is = rw (dividend_is, to_z-of_z c.ranges.d, to_z_pos w64 below) (result small)

pub overflow_cast-quotient : goal.overflow_cast-quotient
overflow_cast-quotient c = rw (dividend_is c) (yes_non_neg (not_negative (small c)), record { fits = omega (arith, moved_size (small c)) })

pub overflow_cast-result : goal.overflow_cast-result
overflow_cast-result c = rw (dividend_is c, to_z-of_z c.ranges.d) (fits_abs w64 (pos _) (omega (arith, quotient (small c))))

pub overflow_sub-result : goal.overflow_sub-result
overflow_sub-result c = rw (result_is c) (wide c)

pub overflow_cast-result-2 : goal.overflow_cast-result-2
overflow_cast-result-2 c = rw (result_is c, to_z-of_z (wide c)) (narrow c)

pub returns : goal.returns
returns c = rw (result_is c, to_z-of_z (wide c), to_z-of_z (narrow c))
