-- Signed numbers on the way of a computation, each of a width. The machine reads the bits of each operand; where every result fits, these mean the sums
-- and products of ℤ. A `Word` keeps both, and a bound that is computed along, so that one test of literals shows that a result fits. Assumes nothing.
use mathlib.Core.Path.{◌≡◌, refl, ap₂, ◌∙◌}
use Prim.Native.Nat.{ℕ, ◌+◌, ◌*◌, ◌^◌, ◌≤◌, ◌<◌}
use native.Mathlib.Nat.{le_refl}
use lib.IntN.{ℤ, pos, ◌+ℤ◌, ◌-ℤ◌, ◌*ℤ◌}
use mir.Facts.{to_z-of_z}
use mir.Syntax.{Width}
use mir.Val.{SFits, hbits, to_z, of_z}
use Rattle.integers.specs.Bound.{Within}
use Rattle.integers.proofs.Absolute.{within_add, within_sub, within_mul, within_fits}

pub record Word (w : Width) : Type 0 where
  -- what the machine computes from its operands, and that it fits
  pub result : ℤ
  pub fits : SFits w result
  -- what it is read as where it is an operand, and the number that this is
  pub operand : ℤ
  pub value : ℤ
  pub means : operand ≡ value
  pub bound : ℕ
  pub small : Within bound value

-- a result that fits, and the number that it is
abbrev pub stored : {w : Width} (z x : ℤ) (B : ℕ) → z ≡ x → Within B x → B < 2 ^ hbits w → Word w
stored {w} z x B e h l = record {
  result = z;
  fits = rw e (within_fits w l h);
  operand = to_z w (of_z w z);
  value = x;
  means = to_z-of_z (rw e (within_fits w l h)) ∙ e;
  bound = B;
  small = h;
}

-- a number that was there before
abbrev pub given : {w : Width} (x : ℤ) (B : ℕ) → Within B x → B < 2 ^ hbits w → Word w
given x B = stored x x B refl

-- a natural number that is cast
abbrev pub counted : {w : Width} (n B : ℕ) → n ≤ B → B < 2 ^ hbits w → Word w
counted n B h = given (pos n) B (record { within = h })

-- a number of another width that is cast
abbrev pub cast : {v w : Width} (a : Word v) → a.bound < 2 ^ hbits w → Word w
cast a = stored a.operand a.value a.bound a.means a.small

abbrev pub literal : {w : Width} (n : ℕ) → n < 2 ^ hbits w → Word w
literal {w} n l = record {
  result = pos n;
  fits = within_fits w l (record { within = le_refl n });
  operand = pos n;
  value = pos n;
  means = refl;
  bound = n;
  small = record { within = le_refl n };
}

abbrev pub plus : {w : Width} (a b : Word w) → a.bound + b.bound < 2 ^ hbits w → Word w
plus a b =
    stored (a.operand +ℤ b.operand) (a.value +ℤ b.value) (a.bound + b.bound) (ap₂ ◌+ℤ◌ a.means b.means)
    (within_add a.small b.small)

abbrev pub minus : {w : Width} (a b : Word w) → a.bound + b.bound < 2 ^ hbits w → Word w
minus a b =
    stored (a.operand -ℤ b.operand) (a.value -ℤ b.value) (a.bound + b.bound) (ap₂ ◌-ℤ◌ a.means b.means)
    (within_sub a.small b.small)

abbrev pub times : {w : Width} (a b : Word w) → a.bound * b.bound < 2 ^ hbits w → Word w
times a b =
    stored (a.operand *ℤ b.operand) (a.value *ℤ b.value) (a.bound * b.bound) (ap₂ ◌*ℤ◌ a.means b.means)
    (within_mul a.small b.small)

-- the bound holds of what is read
pub operand_small : {w : Width} (a : Word w) → Within a.bound a.operand
operand_small a = rw a.means a.small
