-- The first place of a byte in a text is what std's `position` finds, and from a place of a text on, place by place. Assumes nothing.
use mathlib.Core.Bool.{Bool, true, false, cond, not}
use mathlib.Core.List.{List}
use mathlib.Core.Path.{◌≡◌, refl, sym, ◌∙◌}
use Prim.Native.Nat.{ℕ, ◌+◌, ◌≤◌, ◌<◌}
use native.Mathlib.Numerals.{add-one}
use native.Mathlib.Omega.{arith}
use borrow.Author.Tests.{eq-eqb, ne_eqb, ltb-true, ltb-false}
use lib.Dec.{eqb, ltb}
use lib.ListN.{length, get_or, drop, drop_of_length-le}
use lib.Seq.{drop-cons}
use Rattle.std.proofs.Common.{Some, None}
use Rattle.std.specs.List.{position, position_or_len}
use Rattle.std.proofs.lemmas.List.Sums.{prefix_len-le-length}
use Rattle.std.proofs.lemmas.List.Recursion.{is_position_or_len}
use Rattle.readtext.specs.Places.{index_of, index_after}

index_is : (a : ℕ) (l : List ℕ) → index_of a l ≡ position_or_len (λ b. eqb b a) l
unfolding index_of
index_is a l = is_position_or_len (index_of a) (λ b. eqb b a) refl (λ b bs. by_test (eqb b a) (index_of a bs)) l
  where
    by_test : (t : Bool) (k : ℕ) → index_after t k ≡ cond t 0 (1 + k)
    by_test true k = refl
    by_test false k = omega arith

-- where it stands first
pub found_place : (a : ℕ) (l : List ℕ) {i : ℕ} → Some i ≡ position (λ b. eqb b a) l → (i ≡ index_of a l) × (i < length l)
found_place a l {i} e = by_test (ltb (position_or_len (λ b. eqb b a) l) (length l)) refl e
  where
    by_test : (t : Bool) → ltb (position_or_len (λ b. eqb b a) l) (length l) ≡ t → Some i ≡ cond t (Some (position_or_len (λ b. eqb b a) l)) None
        → (i ≡ index_of a l) × (i < length l)
    by_test true t e =
        let q : i ≡ position_or_len (λ b. eqb b a) l = cc in
        (q ∙ sym (index_is a l), rw q (ltb-true _ _ t))
    by_test false t e = cc

-- a text that has none
pub no_place : (a : ℕ) (l : List ℕ) → None ≡ position (λ b. eqb b a) l → index_of a l ≡ length l
no_place a l e = by_test (ltb (position_or_len (λ b. eqb b a) l) (length l)) refl e
  where
    by_test : (t : Bool) → ltb (position_or_len (λ b. eqb b a) l) (length l) ≡ t → None ≡ cond t (Some (position_or_len (λ b. eqb b a) l)) None
        → index_of a l ≡ length l
    by_test true t e = cc
    by_test false t e =
        let least = ltb-false _ _ t in
        let most = prefix_len-le-length (λ b. not (eqb b a)) l in
        index_is a l ∙ omega arith

-- ---- from a place of a text on, place by place
-- it is here
pub index_here : (a : ℕ) (l : List ℕ) (i : ℕ) → i < length l → get_or l i 0 ≡ a → i ≡ i + index_of a (drop i l)
unfolding index_of
index_here a l i h e = rw (drop-cons l i 0, eq-eqb _ a e) (omega arith)

-- or further on
pub index_on : (a : ℕ) (l : List ℕ) (i : ℕ) → i < length l → (get_or l i 0 ≡ a → ⊥) → i + index_of a (drop i l) ≡ i + 1 + index_of a (drop (i + 1) l)
unfolding index_of
index_on a l i h e = rw (drop-cons l i 0, ne_eqb _ a e, add-one) (omega arith)

-- or nowhere
pub index_end : (a : ℕ) (l : List ℕ) (i : ℕ) → length l ≤ i → i ≡ i + index_of a (drop i l)
unfolding index_of
index_end a l i h = rw (drop_of_length-le l h) (omega arith)
