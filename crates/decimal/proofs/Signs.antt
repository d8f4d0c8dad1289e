-- The text of a number with its sign, from its sign and its size. Assumes nothing.
use mathlib.Core.Bool.{true, false}
use mathlib.Core.List.{List, ◌∷◌}
use mathlib.Core.Path.{◌≡◌, refl}
use Prim.Native.Nat.{ℕ, suc, ◌+◌, ◌≤◌, ◌<◌, ◌^◌}
use native.Mathlib.Omega.{arith}
use borrow.Author.Tests.{ltb-true}
use lib.IntN.{ℤ, pos, negsuc, nat_abs}
use lib.ListN.{length, set, length-set}
use lib.Signed.{lt_z}
use mir.Syntax.{w32}
use mir.Val.{SFits}
use Rattle.integers.proofs.Absolute.{abs_fits}
use Rattle.decimal.specs.Buffers.{Put}
use Rattle.decimal.specs.Decimal.{signed_decimal, field, signed_field}
use Rattle.decimal.proofs.Buffers.{put_then, put_byte}

-- a negative number has a minus before its size
pub negative : (v : ℤ) (end : ℕ) → lt_z v (pos 0) ≡ true → signed_field v end ≡ 45 ∷ field (nat_abs v) end
unfolding signed_decimal
negative (pos n) end e = absurd (omega (arith, ltb-true n 0 e))
negative (negsuc n) end e = refl

-- a number from 0 up is its size
pub natural : (v : ℤ) (end : ℕ) → lt_z v (pos 0) ≡ false → signed_field v end ≡ field (nat_abs v) end
unfolding signed_decimal
natural (pos n) end e = refl
natural (negsuc n) end e = let q : true ≡ false = e in let z : ◌≡◌ {A = ℕ} 0 1 = cc in absurd (omega arith)

-- a negative number's text is a byte longer than its size's, which is put after the minus
pub put_negative : (v : ℤ) (end : ℕ) {at f size : ℕ} {x z : List ℕ} → size ≡ nat_abs v → lt_z v (pos 0) ≡ true →
    at + length (signed_field v end) ≤ length x → Put (at + 1) (field size end) (set x at 45) z f → Put at (signed_field v end) x z f
put_negative v end {at} {f} {size} {x} {z} s minus room p =
    let e = negative v end minus in
    let few : at + suc (length (field (nat_abs v) end)) ≤ length x = rw e at room in
    rw e (put_then (put_byte at 45 x (omega arith)) (rw s at p) (omega arith))

-- and it has room there
pub negative_room : (v : ℤ) (end at b : ℕ) {size : ℕ} (x : List ℕ) → size ≡ nat_abs v → lt_z v (pos 0) ≡ true →
    at + length (signed_field v end) ≤ length x → at + 1 + length (field size end) ≤ length (set x at b)
negative_room v end at b {size} x s minus room =
    let few : at + suc (length (field (nat_abs v) end)) ≤ length x = rw (negative v end minus) at room in
    rw s (simp length-set (omega arith))

-- the size of every 32-bit number has at most ten digits
pub size_small : {size : ℕ} {v : ℤ} → size ≡ nat_abs v → SFits w32 v → size < 10 ^ 10
size_small {size} {v} s f = omega (arith, s, abs_fits v f)
