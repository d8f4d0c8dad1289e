-- The raised row is a line of its buffer, whose coefficients are those of the row.
use Rattle.std.proofs.Common.{◌≡◌, sym, ap, ◌∙◌, pos, length, replicate}
use Rattle.bspline.specs.Transforms.{row_coefficients}
use Rattle.bspline.proofs.Transforms.{row_length}
use Rattle.filter.specs.Lines.{scatter}
use Rattle.filter.proofs.Scatter.{scatter_whole}
use Rattle.row_transform.proofs.RowLine.{row_line, row_coefficients_lem}
use Rattle.row_transform.proofs.filter_row.Goals as goal

pub filter_line-requires : goal.filter_line-requires
filter_line-requires c =
    let r = c.requires in
    (row_line c.raise.ensures r.some r.short (c.raise.auto.c ∙ r.coefficients), r.words)

pub returns : goal.returns
returns c =
    let s = c.args.samples.now in
    let long : length c.raise.new.c ≡ length s = c.raise.auto.c ∙ c.requires.coefficients in
    let e = row_coefficients_lem c.raise.ensures c.requires.some c.requires.short long in
    record {
      coefficients =
          c.filter_line.ensures
          ∙ ap (λ C. scatter 0 1 C c.raise.new.c) e
          ∙ scatter_whole (row_coefficients s) c.raise.new.c (long ∙ sym (row_length s));
      small = c.raise.ensures.small;
      cleared = c.clear.ensures ∙ ap (λ n. replicate n (pos 0)) (c.filter_line.auto.work ∙ c.requires.words);
    }
