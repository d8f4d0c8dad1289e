-- Nothing is printed of sizes that no text gives or of a buffer with too few values; of others the part is.
use Rattle.std.proofs.Common.{true, false, ◌≡◌, sym, ◌∙◌}
use borrow.Author.Tests.{lt-leb, le-leb}
use Rattle.judgetext.specs.Answers.{row_sizes}
use Rattle.printtext.proofs.Printing.{not_held, put_held}
use Rattle.printtext.proofs.parts.print_row_part.Goals as goal
use Rattle.printtext.proofs.parts.print_row_part.Goals.{then-not-row_sizes-via-then-not-row_sizes, then-not-row_sizes-via-else-not-row_sizes+then-values-s}

pub returns-then-not-row_sizes : goal.returns-then-not-row_sizes
returns-then-not-row_sizes c =
    elim c.then-not-row_sizes.branch [
      | then-not-row_sizes-via-then-not-row_sizes w ↦
          let bad : row_sizes c.args.s ≡ false = sym c.row_sizes.ensures ∙ w.if-not-row_sizes.true in
          not_held _ _ _ _ (rw bad)
      | then-not-row_sizes-via-else-not-row_sizes+then-values-s w ↦
          let good : row_sizes c.args.s ≡ true = sym c.row_sizes.ensures ∙ w.if-not-row_sizes.false in
          not_held _ _ _ _ (rw (good, lt-leb _ _ w.if-values-s.true))
    ]

pub returns : goal.returns
returns c =
    let good : row_sizes c.args.s ≡ true = sym c.row_sizes.ensures ∙ c.if-not-row_sizes.false in
    put_held _ _ _ _ (rw (good, le-leb _ _ c.if-values-s.false)) c.requires c.put_row_part.ensures
