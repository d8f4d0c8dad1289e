-- The outcome of a text by its length and its numbers. Assumes nothing.
use mathlib.Core.Bool.{Bool, true, false}
use mathlib.Core.List.{List}
use mathlib.Core.Path.{◌≡◌, refl, sym, ap, ◌∙◌}
use Prim.Native.Nat.{ℕ, ◌+◌, ◌≤◌, ◌<◌}
use native.Mathlib.Omega.{arith}
use borrow.Author.Tests.{lt-ltb, le-ltb, ltb-true, ltb-false}
use lib.Dec.{ltb}
use lib.IntN.{ℤ}
use lib.ListN.{length, take}
use lib.Seq.{take_all, length-take-le}
use Rattle.readtext.specs.Numbers.{numbers}
use Rattle.readtext.specs.Readings.{Reads}
use Rattle.std.proofs.Common.{Option, None, Some}
use Rattle.judgetext.specs.Answers.{ReadsText}
use Rattle.judgetext.specs.Limits.{longest_text}
use Rattle.judgetext.specs.Outcomes.{refused, zoom_numbers, zoom_text}

pub too_long : (t : List ℕ) → longest_text < length t → zoom_text t ≡ refused 10
unfolding zoom_text
too_long t h = rw (lt-ltb longest_text (length t) h)

pub of_numbers : (t : List ℕ) → length t ≤ longest_text → zoom_text t ≡ zoom_numbers (numbers t)
unfolding zoom_text
of_numbers t h = rw (le-ltb longest_text (length t) h)

-- a text that is too long is refused as its first bytes are, one more than the longest text has
pub cut_too_long : (t : List ℕ) → zoom_text (take (longest_text + 1) t) ≡ zoom_text t
cut_too_long t = by_length (ltb longest_text (length t)) refl
  where
    by_length : (b : Bool) → ltb longest_text (length t) ≡ b → zoom_text (take (longest_text + 1) t) ≡ zoom_text t
    by_length true e =
        let h = ltb-true longest_text (length t) e in
        too_long (take (longest_text + 1) t) (omega (arith, length-take-le (longest_text + 1) t (omega arith))) ∙ sym (too_long t h)
    by_length false e = ap zoom_text (take_all (longest_text + 1) t (omega (arith, ltb-false longest_text (length t) e)))

-- what was read of a text that is not too long
pub of_reading : (t : List ℕ) (buffer : List ℤ) (r : Option ℕ) → length t ≤ longest_text → Reads t buffer r → ReadsText t buffer r
of_reading t buffer (Some n) short h = record { all = h.all; outcome = of_numbers t short ∙ ap zoom_numbers h.legal; begun = h.begun }
of_reading t buffer None short h = of_numbers t short ∙ ap zoom_numbers h
