-- From a text to the bytes that are printed, by the contracts of `zoom_text` and `print_part` alone: with room for the values of the longest row
-- and a block for each part, the parts of what `zoom_text` answers and leaves are the output of the text. Assumes nothing.
use mathlib.Core.Bool.{true}
use mathlib.Core.List.{List, [], ◌++◌}
use mathlib.Core.Path.{◌≡◌, refl, sym, ap, ap₂, ◌∙◌}
use Prim.Native.Nat.{ℕ, zero, suc, ◌+◌, ◌≤◌}
use native.Mathlib.Omega.{arith}
use borrow.Author.Tests.{le-ltb, le-leb, eq-eqb}
use lib.IntN.{ℤ}
use lib.ListN.{length, take, drop, length-append}
use lib.Seq.{take_at}
use Rattle.std.proofs.Common.{Result, Ok, Err}
use Rattle.bspline.specs.Limits.{most_values}
use Rattle.bspline.specs.Outcomes.{overwrite}
use Rattle.bspline.specs.Values.{zoom_count}
use Rattle.answers.specs.Answers.{number}
use Rattle.answers.specs.declared.Refusal.{Refusal}
use Rattle.judgetext.specs.Answers.{found, replied}
use Rattle.judgetext.specs.Outcomes.{Outcome, row, refused, sized, declined, reply, zoom_text}
use Rattle.zoomtext.specs.Kept.{Kept, kept}
use Rattle.judgetext.specs.declared.Sizes.{Sizes}
use Rattle.printtext.specs.Output.{output, block, most_parts, part, parts}
use Rattle.printtext.specs.Printing.{Printed, held, print_part}
use Rattle.rowtext.proofs.WholeOutput.{Fitting, few, text_fitting, parts_output}

-- the bytes that are printed of the first parts, each into a buffer of its own
abbrev pub printed_parts : Result Sizes Refusal → List ℤ → (ℕ → List ℕ) → ℕ → List ℕ
printed_parts z values buffers zero = []
printed_parts z values buffers (suc b) =
    let p : Printed = print_part z values b (buffers b) in
    printed_parts z values buffers b ++ take p.bytes p.out

-- what `zoom_text` answers and leaves is its outcome, and nothing is missing to print it
record Whole (z : Result Sizes Refusal) (values : List ℤ) (o : Outcome) : Type 0 where
  is : found z values ≡ o
  all : held z values ≡ true

-- a reply with sizes is none that declines
no_sizes : (n m q k : ℕ) → sized n m q ≡ declined k → ⊥
no_sizes n m q k e = let z : ◌≡◌ {A = ℕ} 0 1 = cc in omega arith

-- with room for its values an outcome that fits is not refused for the buffer
roomy : (n m : ℕ) (vs before : List ℤ) → Fitting (row n m vs) → most_values ≤ length before →
    kept (row n m vs) before ≡ record { answer = sized n m (length vs); values = overwrite vs before }
unfolding kept
roomy n m vs before f room = rw (le-ltb (length before) (length vs) (omega (arith, few n m vs f)))

whole_row : (s : Sizes) (n m : ℕ) (vs before after : List ℤ) → Fitting (row n m vs) → most_values ≤ length before →
    ◌≡◌ {A = Kept} (record { answer = replied (Ok s); values = after }) (record { answer = sized n m (length vs); values = overwrite vs before }) →
    Whole (Ok s) after (row n m vs)
whole_row s n m vs before after f room e =
    let a : sized s.samples s.factor s.values ≡ sized n m (length vs) = ap (λ (o : Kept). o.answer) e in
    let samples : s.samples ≡ n = cc in
    let factor : s.factor ≡ m = cc in
    let values : s.values ≡ length vs = cc in
    let rest = drop (length vs) before in
    let left : after ≡ vs ++ rest = ap (λ (o : Kept). o.values) e in
    record {
      is = rw (samples, factor, values, left) (ap (row n m) (take_at vs rest (length vs) refl));
      all =
          rw (
            samples,
            factor,
            values,
            left,
            f.0,
            f.1,
            eq-eqb (length vs) (zoom_count m n) f.2,
            le-leb (length vs) (length (vs ++ rest)) (omega (arith, length-append vs rest)),
          );
    }

whole : (z : Result Sizes Refusal) (o : Outcome) (before after : List ℤ) → Fitting o → most_values ≤ length before →
    record { answer = replied z; values = after } ≡ kept o before → Whole z after o
unfolding kept
whole (Err r) (refused k) before after f room e =
    let a : declined (number r) ≡ declined k = ap (λ (o : Kept). o.answer) e in
    let same : number r ≡ k = cc in
    record { is = ap refused same; all = refl }
whole (Ok s) (refused k) before after f room e =
    absurd (no_sizes s.samples s.factor s.values k (ap (λ (o : Kept). o.answer) e))
whole (Err r) (row n m vs) before after f room e =
    absurd (no_sizes n m (length vs) (number r) (sym (ap (λ (o : Kept). o.answer) (e ∙ roomy n m vs before f room))))
whole (Ok s) (row n m vs) before after f room e = whole_row s n m vs before after f room (e ∙ roomy n m vs before f room)

-- ---- the parts
parts_are : (z : Result Sizes Refusal) (values : List ℤ) (buffers : ℕ → List ℕ) → held z values ≡ true → ((b : ℕ) → block ≤ length (buffers b)) → (c : ℕ) →
    printed_parts z values buffers c ≡ parts c (found z values)
unfolding print_part
parts_are z values buffers h room zero = refl
parts_are z values buffers h room (suc b) =
    let bytes = part b (found z values) in
    simp (h, le-leb block (length (buffers b)) (room b))
    (ap₂ (λ (x y : List ℕ). x ++ y) (parts_are z values buffers h room b) (take_at bytes (drop (0 + length bytes) (buffers b)) (length bytes) refl))

-- a text with its values
pub text_to_bytes : (t : List ℕ) (before after : List ℤ) (z : Result Sizes Refusal) (buffers : ℕ → List ℕ) →
    most_values ≤ length before → ((b : ℕ) → block ≤ length (buffers b)) →
    record { answer = replied z; values = after } ≡ kept (zoom_text t) before → printed_parts z after buffers most_parts ≡ output t
text_to_bytes t before after z buffers room blocks e =
    let w = whole z (zoom_text t) before after (text_fitting t) room e in
    parts_are z after buffers w.all blocks most_parts ∙ ap (parts most_parts) w.is ∙ parts_output t

-- a text that `judge_text` refuses, whose line needs no values
pub refused_to_bytes : (t : List ℕ) (r : Refusal) (values : List ℤ) (buffers : ℕ → List ℕ) → ((b : ℕ) → block ≤ length (buffers b)) →
    replied (Err r) ≡ reply (zoom_text t) → printed_parts (Err r) values buffers most_parts ≡ output t
refused_to_bytes t r values buffers blocks e =
    parts_are (Err r) values buffers refl blocks most_parts ∙ ap (parts most_parts) (declines (zoom_text t) e) ∙ parts_output t
  where
    declines : (o : Outcome) → declined (number r) ≡ reply o → refused (number r) ≡ o
    declines (refused k) e = let same : number r ≡ k = cc in ap refused same
    declines (row n m vs) e = absurd (no_sizes n m (length vs) (number r) (sym e))
