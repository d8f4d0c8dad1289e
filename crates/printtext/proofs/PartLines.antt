-- Where a part of the output begins and ends: its lines are those of the values from there to there, and they fit a block. Assumes nothing.
use mathlib.Core.List.{List, [], ◌∷◌}
use mathlib.Core.Path.{◌≡◌, refl, sym, ap, ◌∙◌, subst}
use Prim.Native.Nat.{ℕ, zero, suc, ◌+◌, ◌-◌, ◌*◌, ◌≤◌, ◌<◌, min}
use native.Mathlib.Omega.{arith, min_cases}
use lib.IntN.{ℤ}
use lib.ListN.{length, take, drop, length-drop, drop_of_length-le}
use lib.Seq.{length-take-le, take_all, take-nil, take-length, take-take}
use Rattle.bspline.specs.Limits.{longest_row, greatest_factor}
use Rattle.bspline.specs.Values.{zoom_count}
use Rattle.judgetext.specs.Outcomes.{row, refused}
use Rattle.printtext.specs.Lines.{between, Lines}
use Rattle.printtext.specs.Output.{value_lines, block, lines_of_part, part}

-- of so many lines, part p has those from the first number up to the second
pub record Span (p count from to : ℕ) : Type 0 where
  pub later : 0 < p
  pub begins : from ≡ min (lines_of_part * (p - 1)) count
  pub ends : to ≡ min (lines_of_part * p) count

-- ---- the lines
take_min : (n : ℕ) (l : List ℤ) → take (min n (length l)) l ≡ take n l
take_min n l =
    min_cases n (length l) _
    (λ h e. ap (λ (k : ℕ). take k l) e)
    (λ h e. ap (λ (k : ℕ). take k l) e ∙ take-length l ∙ sym (take_all n l h))

module _ (vs : List ℤ) {b from to : ℕ} (s : Span (suc b) (length vs) from to) (n m : ℕ) where
  lines_some : lines_of_part * b ≤ length vs → part (suc b) (row n m vs) ≡ value_lines m from (between from to vs)
  unfolding part
  lines_some h =
      let start : lines_of_part * b ≡ from = omega arith in
      let size : min lines_of_part (length (drop from vs)) ≡ to - from = simp length-drop (omega arith) in
      ap (λ (k : ℕ). value_lines m k (take lines_of_part (drop k vs))) start
      ∙ ap (value_lines m from) (sym (take_min lines_of_part (drop from vs)) ∙ ap (λ (k : ℕ). take k (drop from vs)) size)

  -- past the last line there are none, whatever their positions would be
  lines_none : length vs ≤ lines_of_part * b → part (suc b) (row n m vs) ≡ value_lines m from (between from to vs)
  unfolding part value_lines
  lines_none h = rw (drop_of_length-le vs h, drop_of_length-le vs {i = from} (omega arith), take-nil (to - from))

lines_all : (p : ℕ) (vs : List ℤ) {from to : ℕ} → Span p (length vs) from to → (n m : ℕ) →
    part p (row n m vs) ≡ value_lines m from (between from to vs)
lines_all zero vs s n m = absurd (omega arith)
lines_all (suc b) vs s n m =
    min_cases (lines_of_part * b) (length vs) _ (λ h e. lines_some vs s n m h) (λ h e. lines_none vs s n m h)

-- a part of the first numbers of a list is that part of the list
between_first : (a k c : ℕ) (l : List ℤ) → a + k ≤ c → take k (drop a (take c l)) ≡ take k (drop a l)
between_first zero k c l h = take-take k c l (omega arith)
between_first (suc a) k zero l h = absurd (omega arith)
between_first (suc a) k (suc c) [] h = refl
between_first (suc a) k (suc c) (x ∷ xs) h = between_first a k c xs (omega arith)

-- the lines of a part, of the first values that a buffer holds
pub part_lines : {p count from to : ℕ} → Span p count from to → (values : List ℤ) → count ≤ length values → (n m : ℕ) →
    part p (row n m (take count values)) ≡ value_lines m from (between from to values)
part_lines {p} {count} {from} {to} s values h n m =
    let held = subst (λ (k : ℕ). Span p k from to) (sym (length-take-le count values h)) s in
    lines_all p (take count values) held n m ∙ ap (value_lines m from) (between_first from (to - from) count values (omega arith))

-- ---- they fit a block
pub part_fits : {p count from to m length bytes : ℕ} → Span p count from to → 0 < m → m ≤ greatest_factor → count ≤ zoom_count m longest_row →
    count ≤ length → block ≤ bytes → Lines m from to length bytes
part_fits s some small inside held room = record {
  some = some;
  small = small;
  ordered = omega arith;
  held = omega arith;
  inside = omega arith;
  room = omega arith;
}

-- ---- a refusal has one part
pub none_later : (b k : ℕ) → (b ≡ 0 → ⊥) → part b (refused k) ≡ []
unfolding part
none_later zero k h = absurd (h refl)
none_later (suc b) k h = refl
