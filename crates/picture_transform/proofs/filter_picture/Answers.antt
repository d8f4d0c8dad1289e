-- The raised pixels have rows that can be filtered, the filtered rows have columns that can be, and the filtered columns are the picture's
-- coefficients. A line of either kind has the work that it asks at the start of the longer side's.
use Rattle.std.proofs.Common.{◌≡◌, List, ◌++◌, sym, ap, ◌∙◌, ℕ, ◌+◌, ℤ, pos, length, take, drop, replicate, length-append, arith, rules}
use lib.ListN.{take-append-drop}
use lib.Seq.{length-take-le}
use Rattle.bspline.specs.Limits.{work_words}
use Rattle.answers.specs.Answers.{described}
use Rattle.picture_transform.proofs.PicturePasses.{rows_ready, columns_ready, picture_filtered}
use Rattle.picture_transform.proofs.filter_picture.Goals as goal

-- a list whose first numbers were lent and came back is as long as it was
returned : (k : ℕ) (part l : List ℤ) → length part ≡ length (take k l) → length (part ++ drop k l) ≡ length l
returned k part l e =
    length-append part (drop k l)
    ∙ ap (λ n. n + length (drop k l)) e
    ∙ sym (length-append (take k l) (drop k l))
    ∙ ap length (take-append-drop k l)

pub filter_lines-requires : goal.filter_lines-requires
filter_lines-requires c = (
  rows_ready (described c.args.picture.shape) c.args.pixels.now c.raise_picture.new.c c.args.picture.within c.raise_picture.ensures,
  length-take-le _ _ (search rules),
)

pub filter_lines-requires-2 : goal.filter_lines-requires-2
filter_lines-requires-2 c =
    let d = described c.args.picture.shape in
    let work = c.args.work.now in
    let part = c.filter_lines.new.work in
    let long = returned (work_words d.width) part work c.filter_lines.auto.work ∙ c.requires.words in (
      columns_ready d c.args.pixels.now c.raise_picture.new.c c.args.picture.within c.raise_picture.ensures c.filter_lines.new.c c.filter_lines.ensures,
      length-take-le _ _ (omega (arith, long)),
    )

pub returns : goal.returns
returns c =
    let d = described c.args.picture.shape in
    let work = c.args.work.now in
    let part = c.filter_lines.new.work in
    let long = returned (work_words d.width) part work c.filter_lines.auto.work ∙ c.requires.words in
    record {
      coefficients =
          picture_filtered d c.args.pixels.now c.raise_picture.new.c c.args.picture.within c.raise_picture.ensures
          c.filter_lines.new.c c.filter_lines.ensures c.filter_lines-2.new.c c.filter_lines-2.ensures;
      small = c.raise_picture.ensures.small;
      cleared =
          c.clear.ensures
          ∙ ap (λ n. replicate n (pos 0))
          (returned (work_words d.height) c.filter_lines-2.new.work (part ++ drop (work_words d.width) work) c.filter_lines-2.auto.work ∙ long);
    }
