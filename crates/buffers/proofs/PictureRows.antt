-- The rows of a picture raised one a turn: after y turns the first y rows stand in the buffer, closely packed, and their pixels are 16-bit numbers.
-- Assumes nothing.
use mathlib.Core.List.{List}
use mathlib.Core.Path.{◌≡◌, sym, ap, ◌∙◌}
use Prim.Native.Nat.{ℕ, ◌+◌, ◌-◌, ◌*◌, ◌^◌, ◌≤◌, ◌<◌, zero-le}
use native.Mathlib.Nat.{zero-mul, one-mul, add-mul, mul_comm}
use native.Mathlib.Omega.{arith}
use borrow.Author.Count.{below_none, below_more}
use borrow.Rule.Slice.PartMut.{mid_of, put_mid, mid_len}
use lib.IntN.{ℤ, nat_abs}
use lib.ListN.{length, length-map}
use Rattle.bspline.specs.Lists.{at}
use Rattle.bspline.specs.PictureLayout.{Shape, packed, area, extent, pixel, raster}
use Rattle.bspline.proofs.FilledLists.{Filled, filled_none, filled_all, filled_part, part_at, part_is}
use Rattle.bspline.proofs.PictureLayout.{raster_length, raster_at, row_inside, packed_extent}
use Rattle.buffers.specs.Raised.{raised, raised_pixel, Raised, RaisedPicture}
use Rattle.buffers.proofs.Raising.{raised_at}

-- what the buffer is to hold
abbrev target : Shape → List ℤ → List ℤ
target d p = raster d (raised_pixel d p)

-- the first y rows are raised
pub record FirstRows (d : Shape) (p c : List ℤ) (y : ℕ) : Type 0 where
  pub within : y ≤ d.height
  pub filled : Filled (target d p) c (y * d.width)
  pub small : (j : ℕ) → j < y → (x : ℕ) → x < d.width → nat_abs (pixel d p x j) ≤ 2 ^ 15

pub rows_none : (d : Shape) (p c : List ℤ) → length c ≡ area d → FirstRows d p c 0
rows_none d p c e = record {
  within = zero-le;
  filled = rw (zero-mul d.width) (filled_none (target d p) c (e ∙ sym (raster_length d _)));
  small = below_none (λ j. (x : ℕ) → x < d.width → nat_abs (pixel d p x j) ≤ 2 ^ 15);
}

-- the buffer stays as long as the picture has numbers
pub rows_long : {d : Shape} {p c : List ℤ} {y : ℕ} → FirstRows d p c y → length c ≡ area d
rows_long {d} v = v.filled.long ∙ raster_length d _

module _ {d : Shape} {p c : List ℤ} {y : ℕ} (v : FirstRows d p c y) (h : y < d.height) (held : extent d ≤ length p) where
  -- the next row lies in the slice of pixels
  pub row_held : y * d.pitch + d.width ≤ length p
  row_held = omega (arith, row_inside d y h)

  -- and its place in the buffer
  pub row_room : y * d.width + d.width ≤ area d
  row_room = omega (arith, row_inside (packed d) y h, packed_extent d (omega arith))

  -- the row, and the part of the buffer that it goes to
  abbrev row : List ℤ
  row = mid_of (y * d.pitch) (y * d.pitch + d.width - y * d.pitch) p

  abbrev part : List ℤ
  part = mid_of (y * d.width) (y * d.width + d.width - y * d.width) c

  row_length : length row ≡ d.width
  row_length = mid_len (y * d.pitch) (y * d.pitch + d.width) p row_held ∙ omega arith

  pub row_fits : length part ≡ length row
  row_fits = mid_len (y * d.width) (y * d.width + d.width) c (omega (arith, row_room, rows_long v)) ∙ omega (arith, row_length)

  row_at : (x : ℕ) → x < d.width → at row x ≡ pixel d p x y
  row_at x l = part_at p (y * d.pitch) (y * d.pitch + d.width - y * d.pitch) x (omega arith)

  -- the row raised
  module _ (w : List ℤ) (r : Raised row w) where
    -- is that of the picture
    raised_row : w ≡ mid_of (y * d.width) (y * d.width + d.width - y * d.width) (target d p)
    raised_row =
        part_is (target d p) w (y * d.width) (y * d.width + d.width)
        (omega (arith, row_room, raster_length d (raised_pixel d p)))
        (ap length r.numbers ∙ length-map row raised ∙ row_length ∙ omega arith)
        (λ x l.
        let k : x < d.width = omega arith in
        raised_at r x ∙ ap raised (row_at x k) ∙ sym (raster_at d (raised_pixel d p) x y k h))

    -- and with it there is one row more
    pub rows_more : FirstRows d p (put_mid (y * d.width) (y * d.width + d.width - y * d.width) c w) (y + 1)
    rows_more = record {
      within = omega arith;
      filled =
          rw (add-mul y 1 d.width, one-mul d.width)
          (filled_part (y * d.width + d.width) w v.filled (omega arith)
          (omega (arith, row_room, raster_length d (raised_pixel d p))) raised_row);
      small =
          below_more (λ j. (x : ℕ) → x < d.width → nat_abs (pixel d p x j) ≤ 2 ^ 15) y v.small
          (λ x l. rw (row_at x l) at (r.small.within x (omega (arith, row_length))));
    }

pub rows_all : {d : Shape} {p c : List ℤ} {y : ℕ} → FirstRows d p c y → d.height ≤ y → RaisedPicture d p c
rows_all {d} {p} {c} {y} v h =
    let e : y ≡ d.height = omega (arith, v.within) in
    record {
      numbers =
          filled_all v.filled
          (omega (arith, raster_length d (raised_pixel d p), ap (λ (j : ℕ). j * d.width) e, mul_comm d.height d.width));
      small = record { within = λ x j l g. v.small j (omega arith) x l };
    }
