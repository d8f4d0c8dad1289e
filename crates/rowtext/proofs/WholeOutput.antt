-- The parts of the output, one after the other, are the output, and each stands within its buffer. The first parts are the lines of the first
-- values; no text has more values than the parts have lines. Assumes nothing.
use mathlib.Core.Bool.{false, ◌&&◌}
use mathlib.Core.List.{List, [], ◌∷◌, ◌++◌, append_assoc, append-nil}
use mathlib.Core.Option.{Option, none, some}
use mathlib.Core.Path.{◌≡◌, refl, sym, ap, ◌∙◌}
use Prim.Native.Nat.{ℕ, zero, suc, ◌+◌, ◌*◌, ◌≤◌, zero-le}
use native.Mathlib.Nat.{zero-add}
use native.Mathlib.Omega.{arith}
use lib.Dec.{leb, ltb}
use lib.IntN.{ℤ}
use lib.ListN.{length, take, drop}
use lib.Seq.{take_all}
use Rattle.std.proofs.Common.{Result}
use Rattle.integers.proofs.Choices.{either}
use Rattle.bspline.specs.Limits.{longest_row, greatest_factor, most_values}
use Rattle.bspline.specs.Refusals.{outside, refusal_1, refusal_2, refusal_7}
use Rattle.bspline.specs.Transforms.{row_coefficients}
use Rattle.bspline.specs.Values.{zoom_count, zoom_values}
use Rattle.bspline.proofs.Refusals.{one_to, judged_cases}
use Rattle.bspline.proofs.Transforms.{row_length}
use Rattle.bspline.proofs.Zoom.{count_inside, zoom_length}
use Rattle.answers.specs.declared.Refusal.{Refusal}
use Rattle.decimal.proofs.Buffers.{put_start_fits}
use Rattle.readtext.specs.Numbers.{numbers}
use Rattle.judgetext.specs.Answers.{found}
use Rattle.judgetext.specs.Limits.{longest_text}
use Rattle.judgetext.specs.Outcomes.{Outcome, row, refused, factor_of, zoom_samples, zoom_numbers, zoom_text}
use Rattle.judgetext.specs.declared.Sizes.{Sizes}
use Rattle.printtext.specs.Output.{header, value_lines, refusal_line, printed, output, block, lines_of_part, most_parts, part, parts}
use Rattle.printtext.specs.Printing.{held, Printed, print_part}
use Rattle.printtext.proofs.ValueLines.{lines_split}

-- ---- the first parts
first_parts : (n m : ℕ) (vs : List ℤ) (c : ℕ) →
    parts (suc c) (row n m vs) ≡ header n m (length vs) ++ value_lines m 0 (take (lines_of_part * c) vs)
unfolding part value_lines
first_parts n m vs zero = sym (append-nil (header n m (length vs)))
first_parts n m vs (suc c) =
    let done = lines_of_part * c in
    let first = value_lines m 0 (take done vs) in
    let next : done + lines_of_part ≡ lines_of_part * suc c = omega arith in
    ap (λ (l : List ℕ). l ++ value_lines m done (take lines_of_part (drop done vs))) (first_parts n m vs c)
    ∙ append_assoc (header n m (length vs)) first (value_lines m done (take lines_of_part (drop done vs)))
    ∙ ap (λ (l : List ℕ). header n m (length vs) ++ l)
    (ap (λ (k : ℕ). first ++ value_lines m k (take lines_of_part (drop done vs))) (sym (zero-add done))
    ∙ lines_split m 0 done lines_of_part vs
    ∙ ap (λ (k : ℕ). value_lines m 0 (take k vs)) next)

first_parts_refused : (k c : ℕ) → parts (suc c) (refused k) ≡ refusal_line k
unfolding part
first_parts_refused k zero = refl
first_parts_refused k (suc c) = append-nil (parts (suc c) (refused k)) ∙ first_parts_refused k c

-- the sizes of an outcome are those of a row and a factor that are not refused
abbrev pub Fitting : Outcome → Type 0
Fitting (row n m vs) = (outside longest_row n ≡ false) × (outside greatest_factor m ≡ false) × (length vs ≡ zoom_count m n)
Fitting (refused k) = Unit

-- it then has at most as many values as the longest row at the greatest factor
pub few : (n m : ℕ) (vs : List ℤ) → Fitting (row n m vs) → length vs ≤ most_values
few n m vs f =
    let factor = one_to greatest_factor m f.1 in
    omega (arith, f.2, count_inside m n (one_to longest_row n f.0).1)

-- all parts are the whole output of such an outcome
pub parts_printed : (o : Outcome) → Fitting o → parts most_parts o ≡ printed o
unfolding printed
parts_printed (row n m vs) h =
    first_parts n m vs 21
    ∙ ap (λ (l : List ℤ). header n m (length vs) ++ value_lines m 0 l) (take_all (lines_of_part * 21) vs (omega (arith, few n m vs h)))
parts_printed (refused k) h = first_parts_refused k 21

-- ---- every text has such an outcome
samples_fitting : (m : ℕ) (s : List ℤ) → Fitting (zoom_samples m s)
unfolding zoom_samples
samples_fitting m s =
    judged_cases Fitting (refusal_1 (length s) ∷ refusal_2 longest_row (length s) ∷ refusal_7 m ∷ []) refused
    (row (length s) m (zoom_values m (row_coefficients s)))
    (λ k. tt)
    (λ q. (rw q.0 q.1.0, q.1.1.0, zoom_length m (row_coefficients s) ∙ ap (zoom_count m) (row_length s)))

numbers_fitting : (l : Option (List ℤ)) → Fitting (zoom_numbers l)
numbers_fitting none = tt
numbers_fitting (some []) = tt
numbers_fitting (some (f ∷ s)) = samples_fitting (factor_of f) s

pub text_fitting : (t : List ℕ) → Fitting (zoom_text t)
unfolding zoom_text
text_fitting t = either Fitting (ltb longest_text (length t)) tt (numbers_fitting (numbers t))

-- ---- so the parts of a text's outcome are what rowzoom prints
pub parts_output : (t : List ℕ) → parts most_parts (zoom_text t) ≡ output t
unfolding output
parts_output t = parts_printed (zoom_text t) (text_fitting t)

-- what is printed of a part stands within the buffer
pub printed_fits : (z : Result Sizes Refusal) (values : List ℤ) (b : ℕ) (buffer : List ℕ) → (print_part z values b buffer).bytes ≤ length (print_part z values b buffer).out
unfolding print_part
printed_fits z values b buffer =
    either (λ (p : Printed). p.bytes ≤ length p.out) (held z values && leb block (length buffer))
    (put_start_fits (part b (found z values)) buffer)
    zero-le
