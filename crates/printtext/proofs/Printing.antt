-- What is printed of a part, case by case: nothing into a short buffer or of what no text gives, else the part. Assumes nothing.
use mathlib.Core.Bool.{true, false, and-false}
use mathlib.Core.List.{List}
use mathlib.Core.Path.{◌≡◌, ap₂, ◌∙◌}
use Prim.Native.Nat.{ℕ, ◌≤◌, ◌<◌}
use native.Mathlib.Nat.{zero-add}
use borrow.Author.Tests.{lt-leb, le-leb}
use lib.IntN.{ℤ}
use lib.ListN.{length}
use Rattle.std.proofs.Common.{Result}
use Rattle.answers.specs.declared.Refusal.{Refusal}
use Rattle.decimal.specs.Buffers.{Put}
use Rattle.judgetext.specs.Answers.{found}
use Rattle.judgetext.specs.declared.Sizes.{Sizes}
use Rattle.printtext.specs.Output.{block, part}
use Rattle.printtext.specs.Printing.{Printed, held, print_part}

module _ (z : Result Sizes Refusal) (values : List ℤ) (b : ℕ) (buffer : List ℕ) where
  abbrev nothing : Printed
  nothing = record { bytes = 0; out = buffer }

  pub short_block : length buffer < block → nothing ≡ print_part z values b buffer
  unfolding print_part
  short_block h = simp (lt-leb block (length buffer) h, and-false)

  pub not_held : held z values ≡ false → nothing ≡ print_part z values b buffer
  unfolding print_part
  not_held e = simp e

  pub put_held : {after : List ℕ} {end : ℕ} → held z values ≡ true → block ≤ length buffer → Put 0 (part b (found z values)) buffer after end →
      record { bytes = end; out = after } ≡ print_part z values b buffer
  unfolding print_part
  put_held e h p =
      simp (e, le-leb block (length buffer) h)
      (ap₂ (λ (n : ℕ) (l : List ℕ). record { bytes = n; out = l }) (p.ends ∙ zero-add _) p.all)
