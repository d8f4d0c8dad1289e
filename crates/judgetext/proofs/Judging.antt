-- What is answered of a text's numbers, by their count and the first of them alone. Assumes nothing.
use mathlib.Core.List.{List, [], ◌∷◌}
use mathlib.Core.Option.{some}
use mathlib.Core.Path.{◌≡◌, refl, sym, ap, ◌∙◌}
use Prim.Native.Nat.{ℕ, suc, ◌-◌, ◌<◌}
use native.Mathlib.Omega.{arith}
use borrow.Author.Tests.{ne_eqb}
use lib.IntN.{ℤ, pos}
use lib.ListN.{length, get_or}
use lib.Seq.{get_or-take}
use Rattle.bspline.specs.Limits.{longest_row}
use Rattle.bspline.specs.Refusals.{refusal_1, refusal_2, refusal_7, judged}
use Rattle.bspline.specs.Transforms.{row_coefficients}
use Rattle.bspline.specs.Values.{zoom_count, zoom_values}
use Rattle.bspline.proofs.Refusals.{judged_map}
use Rattle.bspline.proofs.Transforms.{row_length}
use Rattle.bspline.proofs.Zoom.{zoom_length}
use Rattle.readtext.specs.Readings.{Begun}
use Rattle.judgetext.specs.Answers.{judged_numbers, Numbered}
use Rattle.judgetext.specs.Outcomes.{sized, declined, row, refused, reply, factor_of, zoom_samples, zoom_numbers, zoom_text}

-- samples at a factor
samples_judged : (m : ℕ) (s : List ℤ) →
    reply (zoom_samples m s)
    ≡ judged (refusal_1 (length s) ∷ refusal_2 longest_row (length s) ∷ refusal_7 m ∷ []) declined (sized (length s) m (zoom_count m (length s)))
unfolding zoom_samples
samples_judged m s =
    let tests = refusal_1 (length s) ∷ refusal_2 longest_row (length s) ∷ refusal_7 m ∷ [] in
    judged_map reply tests refused (row (length s) m (zoom_values m (row_coefficients s)))
    ∙ ap (λ (k : ℕ). judged tests declined (sized (length s) m k)) (zoom_length m (row_coefficients s) ∙ ap (zoom_count m) (row_length s))

pub numbers_judged : (l : List ℤ) (f : ℤ) → (0 < length l → get_or l 0 (pos 0) ≡ f) → reply (zoom_numbers (some l)) ≡ judged_numbers (length l) f
numbers_judged [] f e = refl
numbers_judged (g ∷ s) f e =
    let n : suc (length s) - 1 ≡ length s = omega arith in
    samples_judged (factor_of g) s ∙ rw (ne_eqb (suc (length s)) 0 (λ q. omega arith), n, e (omega arith))

-- the first number is the one in the buffer
begins : {l buffer : List ℤ} {n : ℕ} → Begun l n buffer → 0 < length buffer → 0 < length l → get_or l 0 (pos 0) ≡ get_or buffer 0 (pos 0)
begins {l} {buffer} {n} b room more =
    sym (get_or-take (length buffer) l 0 (pos 0) room)
    ∙ ap (λ (k : List ℤ). get_or k 0 (pos 0)) b.begin
    ∙ get_or-take n buffer 0 (pos 0) (omega (arith, b.count))

pub text_judged : {t : List ℕ} {buffer : List ℤ} {n : ℕ} → Numbered t buffer n → 0 < length buffer
    → reply (zoom_text t) ≡ judged_numbers n (get_or buffer 0 (pos 0))
text_judged {t} {buffer} {n} h room =
    rw (h.outcome, numbers_judged h.all (get_or buffer 0 (pos 0)) (begins h.begun room), h.begun.count) refl
