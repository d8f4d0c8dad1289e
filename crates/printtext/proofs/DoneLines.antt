-- The lines that are put before one value is, and its position. Assumes nothing.
use mathlib.Core.List.{List}
use mathlib.Core.Path.{◌≡◌, refl, sym, ap, ◌∙◌}
use Prim.Native.Nat.{ℕ, ◌+◌, ◌-◌, ◌*◌, ◌/◌, ◌%◌, ◌≤◌, ◌<◌}
use native.Mathlib.Nat.{add-zero, add_assoc, div-add-mod', mod-lt}
use native.Mathlib.Omega.{arith}
use lib.IntN.{ℤ, pos}
use borrow.Rule.Slice.PartMut.{mid_len}
use lib.ListN.{length, get_or, take}
use Rattle.bspline.specs.Limits.{longest_row}
use Rattle.bspline.specs.Values.{Position as Place, zoom_position}
use Rattle.bspline.proofs.Zoom.{position_inside}
use Rattle.answers.specs.Answers.{placed}
use Rattle.answers.specs.declared.Position.{Position}
use Rattle.decimal.specs.Buffers.{Put}
use Rattle.decimal.proofs.Buffers.{put_none, put_then}
use Rattle.printtext.specs.Lines.{between, Lines}
use Rattle.printtext.specs.Output.{value_line, longest_line, value_lines}
use Rattle.printtext.proofs.ValueLines.{lines_more}

-- the lines of the first d values are put, and p is the position of the next
pub record Done (vs : List ℤ) (from m : ℕ) (out₀ out : List ℕ) (end : ℕ) (p : Position) (d : ℕ) : Type 0 where
  pub long : length out ≡ length out₀
  pub lines : Put 0 (value_lines m from (take d vs)) out₀ out end
  pub short : end ≤ longest_line * d
  pub here : placed p ≡ zoom_position m (from + d)

pub done_none : (vs : List ℤ) (from m : ℕ) (out : List ℕ) → Done vs from m out out 0 (record { k = from / m; j = from % m }) 0
unfolding value_lines
done_none vs from m out = record {
  long = refl;
  lines = put_none 0 out;
  short = omega arith;
  here = ap (zoom_position m) (sym (add-zero from));
}

module _ (values : List ℤ) (to : ℕ) {from m : ℕ} {out₀ out : List ℕ} {end : ℕ} {p : Position} {d : ℕ}
    (asked : Lines m from to (length values) (length out₀)) (done : Done (between from to values) from m out₀ out end p d)
    (more : d < length (between from to values)) where
  before_end : d < to - from
  before_end = rw (mid_len from to values (omega arith)) at more

  -- the position is one of the longest row
  pub inside : (p.k < longest_row) × (p.j < m)
  inside =
      let k : p.k ≡ (from + d) / m = ap (λ (q : Place). q.k) done.here in
      let j : p.j ≡ (from + d) % m = ap (λ (q : Place). q.j) done.here in
      (rw k (position_inside m longest_row (from + d) asked.some (omega arith) (omega (arith, before_end))), rw j (mod-lt (from + d) asked.some))

  pub room : end + longest_line ≤ length out
  room = omega (arith, before_end)

  -- one line more
  pub done_more : {after : List ℕ} {stop : ℕ} {q : Position} →
      Put end (value_line (placed p) (get_or (between from to values) d (pos 0))) out after stop → stop ≤ end + longest_line → length after ≡ length out →
      placed q ≡ zoom_position m (p.k * m + p.j + 1) → Done (between from to values) from m out₀ after stop q (d + 1)
  done_more line little kept next =
      let place : p.k * m + p.j ≡ from + d = ap (λ (q : Place). q.k * m + q.j) done.here ∙ div-add-mod' (from + d) m in
      let both = put_then done.lines line (omega (arith, before_end, done.lines.ends, line.ends)) in
      record {
        long = kept ∙ done.long;
        lines = rw (lines_more m from d (between from to values) (pos 0) more) (rw done.here at both);
        short = omega arith;
        here = next ∙ ap (zoom_position m) (ap (λ (n : ℕ). n + 1) place ∙ add_assoc from d 1);
      }
