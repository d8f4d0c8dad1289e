-- The two passes of a picture make its coefficients. In a buffer of raised pixels, which is closely packed, the rows are lines that can be filtered;
-- they then hold the first pass of the definition, whose columns are lines that can be filtered too, and hold the second. A row y begins at y × w
-- with step 1 and a column x at x with step w, so that place k of the one and of the other are the places y × w + k and k × w + x of the buffer.
-- Assumes nothing.
use mathlib.Core.List.{List}
use mathlib.Core.Path.{◌≡◌, sym, ap, ◌∙◌}
use Prim.Native.Nat.{ℕ, ◌+◌, ◌*◌, ◌/◌, ◌%◌, ◌<◌}
use native.Mathlib.Nat.{mul_comm}
use native.Mathlib.Omega.{arith}
use lib.Arith.{digits_div, digits_mod}
use lib.Dec.{lit<}
use lib.IntN.{ℤ, pos, ◌*ℤ◌}
use lib.ListN.{length}
use Rattle.bspline.specs.PictureLayout.{Shape, packed, area, place, pixel}
use Rattle.bspline.specs.Lists.{at}
use Rattle.bspline.specs.Recursions.{coefficients}
use Rattle.bspline.specs.Transforms.{first_pass, second_pass, picture_coefficients}
use Rattle.bspline.proofs.Lines.{coefficients_same}
use Rattle.bspline.proofs.Ranges.{first_pass_within}
use Rattle.bspline.proofs.PictureLayout.{raster_length, raster_is, place_below}
use Rattle.filter.specs.Lines.{loaded_line, Lines, LinesFiltered}
use Rattle.buffers.specs.Raised.{RaisedPicture}
use Rattle.answers.specs.Limits.{GoodSides}
use Rattle.buffers.proofs.Raising.{raised_pixel_lem, raised_small, raised_loaded}

-- ---- the places of a row and of a column
row_place : (d : Shape) (x y : ℕ) → y * d.width + 1 * x ≡ place (packed d) x y
row_place d x y = omega arith

column_place : (d : Shape) (x y : ℕ) → x * 1 + d.width * y ≡ place (packed d) x y
column_place d x y = omega (arith, mul_comm d.width y)

-- ---- the two passes
-- a filtered line holds the coefficients of any line t that has its loaded numbers
line_holds : {count between step n : ℕ} {c₀ c : List ℤ} → LinesFiltered count between step n c₀ c → 0 < n → (t : ℕ → ℤ) (i k : ℕ) → i < count → k < n →
    ((l : ℕ) → l < n → loaded_line (i * between) step c₀ l ≡ t l) → at c (i * between + step * k) ≡ at (coefficients n t) k
line_holds f some t i k h g same = f.filtered i k h g ∙ ap (λ (C : List ℤ). at C k) (coefficients_same _ _ t some same)

module _ (d : Shape) (p c₀ : List ℤ) (good : GoodSides d) (r : RaisedPicture d p c₀) where
  raised_length : length c₀ ≡ area d
  raised_length = ap length r.numbers ∙ raster_length d _

  -- the rows can be filtered
  pub rows_ready : Lines d.height d.width 1 d.width c₀
  rows_ready = record {
    some = good.wide;
    short = omega (arith, good.narrow);
    moves = lit< tt;
    inside = λ y x h g. omega (arith, row_place d x y, place_below d x y g h, raised_length);
    small = λ y x h g. rw (row_place d x y, raised_pixel_lem r x y g h) (raised_small (pixel d p x y) (r.small.within x y g h));
    apart = λ y z x k h g l m e.
        sym (digits_div y l) ∙ ap (λ (i : ℕ). i / d.width) (sym (row_place d x y) ∙ e ∙ row_place d k z) ∙ digits_div z m;
  }

  module _ (c₁ : List ℤ) (rows : LinesFiltered d.height d.width 1 d.width c₀ c₁) where
    -- then they hold the first pass
    first_pass_lem : (x y : ℕ) → x < d.width → y < d.height → pixel (packed d) c₁ x y ≡ first_pass d p x y
    unfolding first_pass
    first_pass_lem x y h g =
        ap (at c₁) (sym (row_place d x y))
        ∙ line_holds rows good.wide _ y x g h
        (λ k l. ap (λ (t : ℤ). pos 16 *ℤ t) (ap (at c₀) (row_place d k y) ∙ raised_pixel_lem r k y l g) ∙ raised_loaded (pixel d p k y))

    -- and the columns can be filtered
    pub columns_ready : Lines d.width 1 d.width d.height c₁
    columns_ready = record {
      some = good.high;
      short = omega (arith, good.low);
      moves = good.wide;
      inside = λ x y h g. omega (arith, column_place d x y, place_below d x y h g, rows.long, raised_length);
      small = λ x y h g. rw (column_place d x y, first_pass_lem x y h g) (first_pass_within d p good.wide r.small x y g);
      apart = λ x z y k h g l m e.
          sym (digits_mod y h) ∙ ap (λ (i : ℕ). i % d.width) (sym (column_place d x y) ∙ e ∙ column_place d z k) ∙ digits_mod k g;
    }

    module _ (c₂ : List ℤ) (columns : LinesFiltered d.width 1 d.width d.height c₁ c₂) where
      -- then they hold the second
      second_pass_lem : (x y : ℕ) → x < d.width → y < d.height → pixel (packed d) c₂ x y ≡ second_pass d p x y
      unfolding second_pass
      second_pass_lem x y h g =
          ap (at c₂) (sym (column_place d x y))
          ∙ line_holds columns good.high _ x y h g (λ k l. ap (λ (t : ℤ). pos 16 *ℤ t) (ap (at c₁) (column_place d x k) ∙ first_pass_lem x k h l))

      -- which is the definition, place by place
      pub picture_filtered : c₂ ≡ picture_coefficients d p
      unfolding picture_coefficients
      picture_filtered = raster_is d (second_pass d p) c₂ (columns.long ∙ rows.long ∙ raised_length) second_pass_lem
