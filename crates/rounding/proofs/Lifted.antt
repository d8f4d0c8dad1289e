-- The rounding to the nearest by an even divisor d, of a number that is lifted by whole divisors and so is not negative. What goes with them is half of
-- d less 1, and 1 more where the sum reaches a limit, which is less than one divisor above the whole ones. A number of d/2 or more reaches it and needs
-- the 1; one of -d/2 or less does not reach it and must not have the 1; every number between rounds to 0, with the 1 and without. Assumes nothing.
use mathlib.Core.Path.{◌≡◌, sym, ◌∙◌}
use Prim.Native.Nat.{ℕ, zero, suc, ◌+◌, ◌-◌, ◌*◌, ◌/◌, ◌%◌, ◌≤◌, ◌<◌}
use native.Mathlib.Nat.{add-zero, div-add-mod, div-lt_iff_lt-mul, mod-lt, sub-add_cancel}
use native.Mathlib.Omega.{arith}
use lib.IntN.{ℤ, pos, negsuc, nat_abs, ◌+ℤ◌, ◌-ℤ◌, ◌*ℤ◌}
use lib.Signed.{◌≤ℤ◌, ◌<ℤ◌, pos-nat_abs, yes_non_neg}
use Rattle.integers.specs.Division.{floor}
use Rattle.integers.specs.Rounding.{round}
use Rattle.integers.proofs.Absolute.{abs_zero}
use Rattle.integers.proofs.Division.{floor_unique}
use Rattle.integers.proofs.Laws.{0≤_nat}
use Rattle.integers.proofs.Linear.{reify, read, show}
use Rattle.integers.proofs.Machine.{floor_moved}
use Rattle.integers.proofs.Parts.{lt_of, of_lt}
use Rattle.integers.proofs.Rounded.{round_bound}
use Rattle.rounding.specs.Roundable.{RoundableEven}
use Rattle.rounding.proofs.Nearest.{before_floor_rounds}

-- ---- half of d, and half of d less 1, before the quotient is rounded down

-- the second of the two
abbrev lesser : ℕ → ℕ
lesser d = d / 2 - 1

module _ (d : ℕ) (even : d % 2 ≡ 0) (above : 0 < d) where
  -- a number less than d/2 from 0 rounds to 0, which is the floor of what is from 0 up and below d
  half_between : (a : ℤ) (k : ℕ) → 2 * nat_abs a < d → (pos 0 ≤ℤ (a +ℤ pos k)) × ((a +ℤ pos k) <ℤ pos d) → floor (a +ℤ pos k) d ≡ round a d
  half_between a k small l =
      let within = read l (simp reify tt) in
      sym (floor_unique (a +ℤ pos k) (pos 0) d (show (simp reify tt) (omega arith)) (show (simp reify tt) (omega arith)))
      ∙ sym (abs_zero (omega (arith, round_bound a d 0 above (omega arith))))

  -- below d/2 the lesser will do
  half_below : (a : ℤ) → a <ℤ pos (d / 2) → floor (a +ℤ pos (lesser d)) d ≡ round a d
  half_below (negsuc n) h = rw same (before_floor_rounds (negsuc n) (pos d) (lt_of (omega arith)))
    where
      same : lesser d ≡ d - 1 - d / 2
      same = omega arith
  half_below (pos n) h = half_between (pos n) (lesser d) (omega (arith, of_lt h)) (show (simp reify tt) (omega (arith, of_lt h)))

  -- above -d/2 the half will do
  half_above : (a : ℤ) → pos 0 <ℤ (a +ℤ pos (d / 2)) → floor (a +ℤ pos (d / 2)) d ≡ round a d
  half_above (pos n) h = before_floor_rounds (pos n) (pos d) (lt_of (omega arith))
  half_above (negsuc n) h =
      let low = read h (simp reify tt) in
      half_between (negsuc n) (d / 2) (omega arith) (show (simp reify tt) (omega arith))

-- ---- what the code computes, under its names

-- 2^31 units
abbrev pub limit : ℕ → ℕ
limit unit = 2147483648 * unit

-- how many whole divisors that is
abbrev pub times : ℕ → ℕ → ℕ
times d unit = limit unit / d

-- what is added to a number
abbrev pub lift : ℕ → ℕ → ℕ
lift d unit = times d unit * d + d / 2 - 1

-- their sum, and the same after the cast
abbrev pub lifted : ℤ → ℕ → ℕ → ℤ
lifted a d unit = a +ℤ pos (lift d unit)

abbrev pub moved : ℤ → ℕ → ℕ → ℕ
moved a d unit = nat_abs (lifted a d unit)

-- what is divided
abbrev pub sum : ℤ → ℕ → ℕ → ℕ
sum a d unit = moved a d unit + moved a d unit / limit unit

module _ {a : ℤ} {d unit : ℕ} (h : RoundableEven a d unit) where
  -- the whole divisors are at most the limit, and less than one divisor below it
  pub whole : (times d unit * d ≤ limit unit) × (limit unit < times d unit * d + d)
  whole = omega (arith, div-add-mod (limit unit) d, mod-lt (limit unit) h.above)

  limit_above : 0 < limit unit
  limit_above = omega arith

  pub not_negative : pos 0 ≤ℤ lifted a d unit
  not_negative = show (simp reify tt) (omega (arith, whole, read h.size (simp reify tt)))

  pub moved_below : moved a d unit < 2 * limit unit - 1
  moved_below = show (simp reify tt) (omega (arith, whole, read h.size (simp reify tt)))

  moved_is : pos (moved a d unit) ≡ lifted a d unit
  moved_is = pos-nat_abs (lifted a d unit) (yes_non_neg not_negative)

  pub sum_below : sum a d unit < 2 * limit unit
  sum_below = omega (arith, moved_below, (div-lt_iff_lt-mul {x = moved a d unit} {y = 2} limit_above).1 (omega (arith, moved_below)))

  -- with s more, where the limit is reached s times, the floor is the rounding
  one_more : (s : ℕ) → limit unit * s ≤ moved a d unit → moved a d unit < limit unit * s + limit unit → floor (a +ℤ pos (lesser d + s)) d ≡ round a d
  one_more zero l g =
      rw add-zero (half_below d h.counted.even h.above a (show (simp reify tt) (omega (arith, whole, read moved_is (simp reify tt)))))
  one_more (suc zero) l g =
      rw (sub-add_cancel {n = d / 2} {m = 1} (omega arith))
      (half_above d h.counted.even h.above a (show (simp reify tt) (omega (arith, whole, read moved_is (simp reify tt)))))
  one_more (suc (suc s)) l g = absurd (omega (arith, moved_below))

  -- the quotient less the whole divisors
  pub rounds : pos (sum a d unit / d) -ℤ pos (times d unit) ≡ round a d
  rounds =
      let s = moved a d unit / limit unit in
      let e = div-add-mod (moved a d unit) (limit unit) in
      (rw sum_is at (floor_moved (a +ℤ pos (lesser d + s)) d (times d unit) h.above (rw sum_is (0≤_nat (sum a d unit)))))
      ∙ one_more s (omega arith) (omega (arith, mod-lt (moved a d unit) limit_above))
    where
      sum_is : a +ℤ pos (lesser d + moved a d unit / limit unit) +ℤ pos (times d unit) *ℤ pos d ≡ pos (sum a d unit)
      sum_is = show (simp reify tt) (omega (arith, read moved_is (simp reify tt)))
