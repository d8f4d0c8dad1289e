-- The fields of a line: how long they are at most, three put one after the other, and one written digits first. Assumes nothing.
use mathlib.Core.List.{List, ◌++◌}
use mathlib.Core.Path.{◌≡◌, sym, ap, ap₂, ◌∙◌, subst}
use Prim.Native.Nat.{ℕ, suc, ◌+◌, ◌-◌, ◌≤◌, ◌<◌, ◌^◌}
use native.Mathlib.Omega.{arith}
use borrow.Rule.Slice.PartMut.{mid_of, put_mid, mid_len}
use lib.IntN.{ℤ}
use lib.ListN.{length, take, drop, set, length-append, take-append-drop}
use Rattle.std.specs.Fmt.{decimal as standard}
use Rattle.decimal.specs.Buffers.{Put}
use Rattle.decimal.specs.Decimal.{places, last_digits, decimal, field, signed_field}
use Rattle.decimal.proofs.Buffers.{put_then, put_keeps, put_byte, put_part}
use Rattle.decimal.proofs.Places.{places_few, decimal_length, std_decimal, field_size, signed_short}

-- a number of at most d + 1 digits, and the byte after it
pub field_short : (n end d : ℕ) → n < 10 ^ suc d → d ≤ 9 → length (field n end) ≤ d + 2
field_short n end d small h = omega (arith, field_size n end, places_few n d small h)

pub signed_field_short : (v : ℤ) (end : ℕ) → length (signed_field v end) ≤ 12
signed_field_short v end = simp length-append (omega (arith, signed_short v))

pub put_three : {at e f g : ℕ} {a b c w x y z : List ℕ} → Put at a w x e → Put e b x y f → Put f c y z g →
    at + length a + length b + length c ≤ length w → Put at (a ++ (b ++ c)) w z g
put_three p q r room =
    put_then p (put_then q r (omega (arith, p.ends, put_keeps p (omega arith)))) (simp length-append (omega arith))

-- ---- a field written in two steps: its digits, so that they end at a place, and the byte after them
-- the digits end before the buffer does
pub digits_stop : (n end at k size : ℕ) → k ≡ places n → at + length (field n end) ≤ size → at + k < size
digits_stop n end at k size e room = omega (arith, field_size n end)

-- and they have room there
pub digits_fit : (n end at k size : ℕ) → n < 10 ^ 10 → k ≡ places n → at + length (field n end) ≤ size → (length (standard n) ≤ at + k) × (at + k ≤ size)
digits_fit n end at k size small e room = (rw (std_decimal n small) (omega (arith, decimal_length n)), omega (arith, digits_stop n end at k size e room))

-- the digits of n, k of them, are in the buffer y, which was x, and end at the place
module _ (n end at k start : ℕ) (x y : List ℕ) (small : n < 10 ^ 10) (count : k ≡ places n) (room : at + length (field n end) ≤ length x)
    (starts : start + length (standard n) ≡ at + k) (written : drop start y ≡ standard n ++ drop (at + k) x) (before : take start y ≡ take start x) where
  length_is : length (decimal n) ≡ k
  length_is = decimal_length n ∙ sym count

  start_is : start ≡ at
  start_is = let s : start + length (decimal n) ≡ at + k = rw (std_decimal n small) at starts in omega (arith, length_is)

  digits_put : Put at (decimal n) x y (at + k)
  digits_put = record {
    all =
        sym (take-append-drop start y)
        ∙ ap₂ (λ (a b : List ℕ). a ++ b) (before ∙ ap (λ (i : ℕ). take i x) start_is)
        (written ∙ ap₂ (λ (l : List ℕ) (i : ℕ). l ++ drop (at + i) x) (std_decimal n small) (sym length_is));
    ends = ap (λ (i : ℕ). at + i) (sym length_is);
  }

  stop_within : at + k < length x
  stop_within = digits_stop n end at k (length x) count room

  pub stop_inside : at + k < length y
  stop_inside = rw (put_keeps digits_put (omega (arith, length_is, stop_within))) stop_within

  pub field_put : Put at (field n end) x (set y (at + k) end) (at + k + 1)
  field_put = put_then digits_put (put_byte (at + k) end y stop_inside) (omega (arith, length_is, stop_within))

-- ---- the same of digits that are put into a part that is lent
-- k digits of n, all of them, are in the part of the buffer x that was lent from a place on
pub record Filled (n end at k : ℕ) (x part : List ℕ) : Type 0 where
  pub count : k ≡ places n
  pub room : at + length (field n end) ≤ length x
  pub written : part ≡ last_digits (length (mid_of at (at + k - at) x)) n

module _ {n end at k : ℕ} {x part : List ℕ} (f : Filled n end at k x part) where
  abbrev after : List ℕ
  after = put_mid at (at + k - at) x part

  lent_within : at + k < length x
  lent_within = digits_stop n end at k (length x) f.count f.room

  size : at + k - at ≡ k
  size = omega arith

  part_is : part ≡ decimal n
  unfolding decimal
  part_is = f.written ∙ ap (λ (m : ℕ). last_digits m n) (mid_len at (at + k) x (omega (arith, lent_within)) ∙ size ∙ f.count)

  part_length : length part ≡ at + k - at
  part_length = ap length part_is ∙ decimal_length n ∙ sym f.count ∙ sym size

  lent_put : Put at (decimal n) x after (at + k)
  lent_put =
      let lent = put_part at (at + k - at) x part part_length in
      record {
        all = (subst (λ (l : List ℕ). Put at l x after (at + (at + k - at))) part_is lent).all;
        ends = ap (λ (m : ℕ). at + m) (f.count ∙ sym (decimal_length n));
      }

  pub lent_inside : at + k < length after
  lent_inside = rw (put_keeps lent_put (omega (arith, decimal_length n, lent_within))) lent_within

  pub lent_field : Put at (field n end) x (set after (at + k) end) (at + k + 1)
  lent_field = put_then lent_put (put_byte (at + k) end after lent_inside) (omega (arith, decimal_length n, lent_within))
