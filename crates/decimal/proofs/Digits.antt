-- Digits written from the last one on, two to a turn. Assumes nothing.
use mathlib.Core.List.{List, ◌∷◌, ◌++◌}
use mathlib.Core.Path.{◌≡◌, sym, ap, ◌∙◌}
use Prim.Native.Nat.{ℕ, zero, suc, ◌+◌, ◌-◌, ◌*◌, ◌/◌, ◌%◌, ◌≤◌, ◌<◌}
use native.Mathlib.Numerals.{sub-one}
use native.Mathlib.Omega.{arith}
use lib.ListN.{length, take, drop, set, length-set}
use lib.Seq.{length-take-le, append_snoc, drop_at, set_split}
use Rattle.decimal.specs.Decimal.{last_digits}

-- after a store the list begins there with what was stored
stored : (l : List ℕ) (j g : ℕ) → j < length l → drop j (set l j g) ≡ g ∷ drop (suc j) l
stored l j g h = ap (drop j) (set_split l j g h) ∙ drop_at (take j l) (g ∷ drop (suc j) l) j (length-take-le j l (omega arith))

-- the last of the digits that are still to write moves to the front of those that are written
pub moved : (i left : ℕ) (l : List ℕ) → 0 < i → i ≤ length l →
    last_digits (i - 1) (left / 10) ++ drop (i - 1) (set l (i - 1) (48 + left % 10)) ≡ last_digits i left ++ drop i l
moved zero left l some h = absurd (omega arith)
moved (suc j) left l some h =
    ap (λ (m : ℕ). last_digits m (left / 10) ++ drop m (set l m (48 + left % 10))) (sub-one (suc j))
    ∙ ap (λ (r : List ℕ). last_digits j (left / 10) ++ r) (stored l j (48 + left % 10) h)
    ∙ sym (append_snoc (last_digits j (left / 10)) (48 + left % 10) (drop (suc j) l))

last_digit : (n q r : ℕ) → n ≡ 10 * q + r → r < 10 → n % 10 ≡ r
last_digit n q r e h = omega arith

-- two digits of a turn
pub moved_pair : (i left : ℕ) (l : List ℕ) → 1 < i → i ≤ length l →
    last_digits (i - 2) (left / 100) ++ drop (i - 2) (set (set l (i - 1) (48 + left % 100 % 10)) (i - 2) (48 + left % 100 / 10)) ≡
    last_digits i left ++ drop i l
moved_pair i left l some h =
    let units : left % 100 % 10 ≡ left % 10 = omega arith in
    let whole : left / 10 ≡ 10 * (left / 100) + left % 100 / 10 = omega arith in
    let small : left % 100 / 10 < 10 = omega arith in
    let tens : left % 100 / 10 ≡ left / 10 % 10 = sym (last_digit (left / 10) (left / 100) (left % 100 / 10) whole small) in
    let rest : left / 100 ≡ left / 10 / 10 = omega arith in
    let place : i - 2 ≡ i - 1 - 1 = omega arith in
    rw (units, tens, rest, place)
    (moved (i - 1) (left / 10) (set l (i - 1) (48 + left % 10)) (omega arith) (simp length-set (omega arith)) ∙ moved i left l (omega arith) h)
