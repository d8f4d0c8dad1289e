-- What is printed of a part, for every answer of `zoom_text` and every buffer. Assumes nothing.
use Rattle.std.specs.Prelude.{Bool, true, ◌&&◌, cond, List, ℕ, leb, ℤ, Result, Ok, Err, length}
use Rattle.answers.specs.declared.Refusal.{Refusal}
use Rattle.decimal.specs.Buffers.{put}
use Rattle.judgetext.specs.Answers.{row_sizes, found}
use Rattle.judgetext.specs.declared.Sizes.{Sizes}
use Rattle.printtext.specs.Output.{block, part}

-- how many bytes are printed, and the buffer afterwards
pub record Printed : Type 0 where
  pub bytes : ℕ
  pub out : List ℕ

-- whether a buffer holds as many values as the sizes say
abbrev pub held : Result Sizes Refusal → List ℤ → Bool
held (Ok s) values = row_sizes s && leb s.values (length values)
held (Err r) values = true

-- nothing is printed of what no text gives, or into a buffer shorter than a block
unfoldable pub print_part : Result Sizes Refusal → List ℤ → ℕ → List ℕ → Printed
print_part z values b buffer =
    let bytes = part b (found z values) in
    cond (held z values && leb block (length buffer))
    (record { bytes = length bytes; out = put 0 bytes buffer })
    (record { bytes = 0; out = buffer })
