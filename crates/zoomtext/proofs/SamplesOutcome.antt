-- The outcome of samples by a row transform and a row zoom. With room for the coefficients and the work of the longest row the transform can only
-- refuse the length of the row, and where it does not, the zoom can only refuse the factor or the value buffer. Assumes nothing.
use mathlib.Core.Bool.{Bool, true, false}
use mathlib.Core.List.{List}
use mathlib.Core.Path.{◌≡◌, refl, sym, ap, subst}
use Prim.Native.Nat.{ℕ, ◌≤◌}
use native.Mathlib.Nat.{le_refl}
use native.Mathlib.Omega.{arith}
use borrow.Author.Tests.{ltb-false, le-ltb}
use lib.Dec.{eqb, ltb}
use lib.IntN.{ℤ, pos}
use lib.ListN.{length, take, drop, replicate, length-take, length-replicate}
use lib.Seq.{take_at}
use Rattle.bspline.specs.Limits.{longest_row, greatest_factor, work_words}
use Rattle.bspline.specs.Outcomes.{Transformed, row_transform, row_zoom}
use Rattle.bspline.specs.Refusals.{Answer, count, value, refusal, outside}
use Rattle.bspline.specs.Transforms.{row_coefficients}
use Rattle.bspline.specs.Values.{zoom_count}
use Rattle.bspline.proofs.Transforms.{row_length}
use Rattle.bspline.proofs.Zoom.{zoom_length}
use Rattle.zoomtext.specs.Kept.{listed}
use Rattle.judgetext.specs.Outcomes.{declined, zoom_samples}
use Rattle.zoomtext.specs.Kept.{kept}

-- samples whose count is not refused, with as many coefficients at the start of a buffer
pub record Coefficients (s : List ℤ) (n : ℕ) (c : List ℤ) : Type 0 where
  pub some : eqb (length s) 0 ≡ false
  pub short : ltb longest_row (length s) ≡ false
  pub count : n ≡ length s
  pub begin : take n c ≡ row_coefficients s

-- what a transform of samples tells of their outcome, by its answer and its buffer
abbrev pub Told : ℕ → List ℤ → List ℤ → Answer → List ℤ → Type 0
Told m s buffer (count n) c = Coefficients s n c
Told m s buffer (value v) c = ⊥
Told m s buffer (refusal k) c = record { answer = declined k; values = buffer } ≡ kept (zoom_samples m s) buffer

module _ (m : ℕ) (s buffer c work : List ℤ) (room : longest_row ≤ length c) (words : work_words longest_row ≤ length work) where
  told_by : (a b : Bool) → eqb (length s) 0 ≡ a → ltb longest_row (length s) ≡ b →
      Told m s buffer (row_transform s c work).answer (row_transform s c work).coefficients
  unfolding row_transform zoom_samples kept
  told_by true b some short = simp some
  told_by false true some short = simp (some, short)
  told_by false false some short =
      let fits = ltb-false longest_row (length s) short in
      simp (some, short, le-ltb (length work) (work_words (length s)) (omega arith), le-ltb (length c) (length s) (omega arith))
      (record {
        some = some;
        short = short;
        count = refl;
        begin = take_at (row_coefficients s) (drop (length (row_coefficients s)) c) (length s) (row_length s);
      })

  pub told : Told m s buffer (row_transform s c work).answer (row_transform s c work).coefficients
  told = told_by (eqb (length s) 0) (ltb longest_row (length s)) refl refl

-- and so what a call tells that has just that room, all of it 0
pub told_room : (m : ℕ) (s buffer : List ℤ) {a : Answer} {c work : List ℤ} →
    record { answer = a; coefficients = c; work = work } ≡ row_transform s (replicate longest_row (pos 0)) (replicate (work_words longest_row) (pos 0)) →
    Told m s buffer a c
told_room m s buffer e =
    let coefficients = replicate longest_row (pos 0) in
    let words = replicate (work_words longest_row) (pos 0) in
    subst (λ (o : Transformed). Told m s buffer o.answer o.coefficients) (sym e)
    (told m s buffer coefficients words (rw length-replicate (le_refl _)) (rw length-replicate (le_refl _)))

-- the coefficients stand within their buffer
pub begin_inside : {s : List ℤ} {n : ℕ} {c : List ℤ} → Coefficients s n c → n ≤ length c
begin_inside {s} {n} {c} t = omega (arith, length-take n c, ap length t.begin, row_length s, t.count)

module _ (m : ℕ) (s buffer c : List ℤ) (n : ℕ) (t : Coefficients s n c) where
  listed_by : (a b : Bool) → outside greatest_factor m ≡ a → ltb (length buffer) (zoom_count m (length s)) ≡ b →
      listed (length s) m (row_zoom m (row_coefficients s) buffer) ≡ kept (zoom_samples m s) buffer
  unfolding row_zoom zoom_samples kept
  listed_by true b bad long = simp (row_length, t.some, t.short, bad)
  listed_by false true bad long = simp (row_length, t.some, t.short, bad, zoom_length, long)
  listed_by false false bad long =
      simp (row_length, t.some, t.short, bad, zoom_length, long)

  pub listed_kept : listed (length (take n c)) m (row_zoom m (take n c) buffer) ≡ kept (zoom_samples m s) buffer
  listed_kept =
      rw (t.begin, row_length) (listed_by (outside greatest_factor m) (ltb (length buffer) (zoom_count m (length s))) refl refl)
