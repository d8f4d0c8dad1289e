-- The numbers of a text, line by line. Assumes nothing.
use mathlib.Core.Bool.{Bool, true, false, cond}
use mathlib.Core.List.{List, [], ◌∷◌, ◌++◌, append_assoc, append-nil}
use mathlib.Core.Option.{Option, none, some}
use mathlib.Core.Path.{◌≡◌, refl, sym, ap, ap₂, ◌∙◌}
use Prim.Native.Nat.{ℕ, suc, ◌+◌, ◌-◌, ◌≤◌, ◌<◌}
use native.Mathlib.Numerals.{add-one}
use native.Mathlib.Omega.{arith}
use borrow.Author.Rules.{part_to_end}
use lib.Dec.{eqb}
use lib.IntN.{ℤ}
use lib.ListN.{length, take, drop, set, get_or, length-append, length-drop}
use lib.NonEmpty.{one, ◌∷⁺◌}
use lib.Seq.{take-nil}
use Rattle.readtext.specs.Places.{index_of, index_after}
use Rattle.readtext.specs.Numbers.{line_number, longer, lines, and_then, line_numbers, numbers}
use Rattle.readtext.specs.Readings.{Holds}

-- ---- a text without a line feed, and one that goes on after its first
lines_last : (l : List ℕ) → index_of 10 l ≡ length l → lines l ≡ one l
unfolding lines index_of
lines_last [] e = refl
lines_last (b ∷ bs) e = by_test (eqb b 10) (lines_last bs) e
  where
    by_test : (t : Bool) → (index_of 10 bs ≡ length bs → lines bs ≡ one bs) → index_after t (index_of 10 bs) ≡ suc (length bs)
        → cond t ([] ∷⁺ lines bs) (longer b (lines bs)) ≡ one (b ∷ bs)
    by_test true rest e = absurd (omega arith)
    by_test false rest e = ap (longer b) (rest (omega arith))

lines_more : (l : List ℕ) → index_of 10 l < length l → lines l ≡ take (index_of 10 l) l ∷⁺ lines (drop (suc (index_of 10 l)) l)
unfolding lines index_of
lines_more [] h = absurd (omega arith)
lines_more (b ∷ bs) h = by_test (index_of 10 bs) (eqb b 10) (lines_more bs) h
  where
    by_test : (k : ℕ) (t : Bool) → (k < length bs → lines bs ≡ take k bs ∷⁺ lines (drop (suc k) bs)) → index_after t k < suc (length bs)
        → cond t ([] ∷⁺ lines bs) (longer b (lines bs)) ≡ take (index_after t k) (b ∷ bs) ∷⁺ lines (drop (suc (index_after t k)) (b ∷ bs))
    by_test k true rest h = refl
    by_test k false rest h = ap (longer b) (rest (omega arith))

numbers_last : (l : List ℕ) → 0 < length l → index_of 10 l ≡ length l → numbers l ≡ none
unfolding numbers
numbers_last [] h e = absurd (omega arith)
numbers_last (b ∷ bs) h e = ap line_numbers (lines_last (b ∷ bs) e)

numbers_more : (l : List ℕ) → index_of 10 l < length l
    → numbers l ≡ and_then (line_number (take (index_of 10 l) l)) (numbers (drop (suc (index_of 10 l)) l))
unfolding numbers
numbers_more l h = ap line_numbers (lines_more l h)

-- ---- numbers before others
abbrev pub prepended : List ℤ → Option (List ℤ) → Option (List ℤ)
prepended zs none = none
prepended zs (some rest) = some (zs ++ rest)

nothing_before : (o : Option (List ℤ)) → o ≡ prepended [] o
nothing_before none = refl
nothing_before (some rest) = refl

one_more : (zs : List ℤ) (z : ℤ) (o : Option (List ℤ)) → prepended zs (and_then (some z) o) ≡ prepended (zs ++ (z ∷ [])) o
one_more zs z none = refl
one_more zs z (some rest) = ap some (sym (append_assoc zs (z ∷ []) rest))

-- ---- a text of which a rest is still to read, and as many of the numbers before it as a buffer holds
pub record Progress (text : List ℕ) (buffer : List ℤ) (rest : List ℕ) (count : ℕ) : Type 0 where
  pub read : List ℤ
  pub few : count + length rest ≤ length text
  pub counted : length read ≡ count
  pub begin : take (length buffer) read ≡ take count buffer
  pub all : numbers text ≡ prepended read (numbers rest)

pub progress_none : (text : List ℕ) (buffer : List ℤ) → Progress text buffer text 0
progress_none text buffer = record {
  read = [];
  few = omega arith;
  counted = refl;
  begin = take-nil (length buffer);
  all = nothing_before (numbers text);
}

-- at the text's end
pub progress_all : {text : List ℕ} {buffer : List ℤ} (rest : List ℕ) {count : ℕ} → Progress text buffer rest count → length rest ≡ 0
    → Holds text buffer count
unfolding numbers lines
progress_all [] {count} p h = record {
  all = p.read;
  legal = p.all ∙ ap some (append-nil p.read);
  begun = record { count = p.counted; begin = p.begin };
}
progress_all (b ∷ bs) {count} p h = absurd (omega arith)

-- one number more, which a full buffer does not hold
one_kept : (buffer read : List ℤ) (z : ℤ) → take (length buffer) read ≡ take (length read) buffer →
    take (length (set buffer (length read) z)) (read ++ (z ∷ [])) ≡ take (suc (length read)) (set buffer (length read) z)
one_kept [] read z e = sym (take-nil (suc (length read)))
one_kept (b ∷ bs) [] z e = ap (λ l. z ∷ l) (take-nil (length bs))
one_kept (b ∷ bs) (r ∷ rs) z e = ap₂ (λ x l. x ∷ l) (ap (λ l. get_or l 0 z) e) (one_kept bs rs z (ap (drop 1) e))

-- where the first line of the rest ends: before its line feed or at the text's end
module _ {text : List ℕ} {buffer : List ℤ} {rest : List ℕ} {count : ℕ} (p : Progress text buffer rest count) where
  -- the last line has no line feed
  pub progress_cut : 0 < length rest → index_of 10 rest ≡ length rest → numbers text ≡ none
  progress_cut more e = p.all ∙ ap (prepended p.read) (numbers_last rest more e)

  module _ {end : ℕ} (ends : end ≡ index_of 10 rest) (h : end < length rest) where
    abbrev others : Option (List ℤ)
    others = numbers (drop (end + 1) rest)

    by_line : (o : Option ℤ) → o ≡ line_number (take end rest) → numbers text ≡ prepended p.read (and_then o others)
    by_line o l =
        let here : numbers rest ≡ and_then (line_number (take end rest)) others = rw (add-one, ends) (numbers_more rest (rw ends at h)) in
        p.all ∙ ap (prepended p.read) (here ∙ ap (λ n. and_then n others) (sym l))

    pub progress_illegal : none ≡ line_number (take end rest) → numbers text ≡ none
    progress_illegal l = by_line none l

    pub progress_more : (z : ℤ) → some z ≡ line_number (take end rest) → Progress text (set buffer count z) (take (length rest - (end + 1)) (drop (end + 1) rest)) (count + 1)
    progress_more z l =
        rw (part_to_end rest (end + 1))
        (record {
          read = p.read ++ (z ∷ []);
          few = simp length-drop (omega (arith, p.few));
          counted = omega (arith, length-append p.read (z ∷ []), p.counted);
          begin = rw (add-one, sym p.counted) (one_kept buffer p.read z (rw p.counted p.begin));
          all = by_line (some z) l ∙ one_more p.read z others;
        })
