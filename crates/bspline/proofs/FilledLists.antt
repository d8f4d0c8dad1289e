-- A list that a loop fills from the front with the numbers of another: after i turns the first i are the same. Assumes nothing.
use mathlib.Core.List.{List, ◌++◌, append_assoc}
use mathlib.Core.Path.{◌≡◌, refl, sym, ap, ap₂, ◌∙◌}
use Prim.Native.Nat.{ℕ, ◌+◌, ◌-◌, ◌≤◌, ◌<◌, zero-le}
use native.Mathlib.Nat.{zero-add}
use native.Mathlib.Numerals.{add-one}
use native.Mathlib.Omega.{arith}
use borrow.Rule.Slice.PartMut.{mid_of, post_of, put_mid, same_len_mid, mid_len}
use lib.IntN.{ℤ, pos}
use lib.ListN.{length, take, drop, set, length-set, length-append}
use lib.Seq.{ext_get_or, get_or-take, get_or-drop, length-take-le, take-suc, take-suc-set, take_all, take-add, take_at}
use Rattle.bspline.specs.Lists.{tabulate, at}
use Rattle.bspline.proofs.Lists.{tabulate_length, tabulate_from_zero}

pub record Filled (target l : List ℤ) (i : ℕ) : Type 0 where
  pub within : i ≤ length target
  pub long : length l ≡ length target
  pub same : take i l ≡ take i target

pub filled_none : (target l : List ℤ) → length l ≡ length target → Filled target l 0
filled_none target l e = record { within = zero-le; long = e; same = refl }

pub filled_more : {target l : List ℤ} {i : ℕ} (v : ℤ) → Filled target l i → i < length target → v ≡ at target i → Filled target (set l i v) (i + 1)
filled_more {target} {l} {i} v f h e =
    let k : i < length l = omega (arith, f.long) in
    record {
      within = omega arith;
      long = simp length-set f.long;
      same = rw (add-one, take-suc-set l i v k, f.same, e) (sym (take-suc target i (pos 0) h));
    }

-- ---- a part of a list, by its places
pub part_at : (l : List ℤ) (i n j : ℕ) → j < n → at (mid_of i n l) j ≡ at l (i + j)
part_at l i n j h = get_or-take n (drop i l) j (pos 0) h ∙ get_or-drop i l j (pos 0)

-- as many numbers that are the same, each at its place, are the part
pub part_is : (l v : List ℤ) (i e : ℕ) → e ≤ length l → length v ≡ e - i → ((j : ℕ) → j < e - i → at v j ≡ at l (i + j)) → v ≡ mid_of i (e - i) l
part_is l v i e h size same =
    ext_get_or (pos 0) v (mid_of i (e - i) l) (size ∙ sym (mid_len i e l h))
    (λ j b. let s : j < e - i = omega (arith, size) in same j s ∙ sym (part_at l i (e - i) j s))

-- ---- filled part after part
-- the part from place i up to place e is replaced by the target's own
pub filled_part : {target l : List ℤ} {i : ℕ} (e : ℕ) (v : List ℤ) → Filled target l i → i ≤ e → e ≤ length target →
    v ≡ mid_of i (e - i) target → Filled target (put_mid i (e - i) l v) e
filled_part {target} {l} {i} e v f h g q =
    let size : length v ≡ e - i = ap length q ∙ mid_len i e target g in
    let room : length (mid_of i (e - i) l) ≡ e - i = mid_len i e l (omega (arith, f.long)) in
    let front : length (take i l ++ v) ≡ e =
    length-append (take i l) v ∙ omega (arith, size, length-take-le i l (omega (arith, f.long))) in
    let whole : i + (e - i) ≡ e = omega arith in
    record {
      within = g;
      long = same_len_mid i (e - i) l v (size ∙ sym room) ∙ f.long;
      same =
          ap (take e) (sym (append_assoc (take i l) v (post_of i (e - i) l)))
          ∙ take_at (take i l ++ v) (post_of i (e - i) l) e front
          ∙ ap₂ ◌++◌ f.same q
          ∙ sym (take-add i (e - i) target)
          ∙ ap (λ (n : ℕ). take n target) whole;
    }

-- the same where the part is a table of the target's numbers
pub filled_table : {target l : List ℤ} {i : ℕ} (e : ℕ) (v : List ℤ) (g : ℕ → ℤ) → Filled target l i → i ≤ e → e ≤ length l →
    ((j : ℕ) → j < e - i → g j ≡ at target (i + j)) → v ≡ tabulate g 0 (length (mid_of i (e - i) l)) → Filled target (put_mid i (e - i) l v) e
filled_table {target} {l} {i} e v g f h b same q =
    let room : e ≤ length target = omega (arith, f.long) in
    filled_part e v f h room
    (q
    ∙ ap (tabulate g 0) (mid_len i e l b)
    ∙ part_is target (tabulate g 0 (e - i)) i e room (tabulate_length g 0 (e - i)) (λ j s. tabulate_from_zero g (e - i) j s ∙ same j s))

-- and where it is the front of the list
pub filled_front : (target l : List ℤ) (e : ℕ) (v : List ℤ) (g : ℕ → ℤ) → length l ≡ length target → e ≤ length l →
    ((j : ℕ) → j < e → g j ≡ at target j) → v ≡ tabulate g 0 (length (take e l)) → Filled target (v ++ drop e l) e
filled_front target l e v g long b same q =
    let all : e - 0 ≡ e = omega arith in
    rw all at (filled_table e v g (filled_none target l long) (omega arith) b
    (λ j h. same j (omega arith) ∙ ap (at target) (sym (zero-add j))) (rw all q))

pub filled_all : {target l : List ℤ} {i : ℕ} → Filled target l i → length target ≤ i → l ≡ target
filled_all {target} {l} {i} f h =
    let k : length l ≤ i = omega (arith, f.long) in
    sym (take_all i l k) ∙ f.same ∙ take_all i target h
