-- The outcome of numbers of which a buffer holds the first: none, too many, a first number and the others, or those that it holds. Assumes nothing.
use mathlib.Core.List.{List, [], ◌∷◌}
use mathlib.Core.Option.{some}
use mathlib.Core.Path.{◌≡◌, refl, sym, ap, ◌∙◌}
use Prim.Native.Nat.{ℕ, zero, suc, ◌+◌, ◌-◌, ◌≤◌, ◌<◌}
use native.Mathlib.Omega.{arith}
use borrow.Author.Tests.{lt-ltb, ne_eqb}
use lib.IntN.{ℤ, pos}
use lib.ListN.{length, get_or, take, drop}
use lib.Seq.{take_all}
use Rattle.bspline.specs.Limits.{longest_row}
use Rattle.readtext.specs.Readings.{Begun}
use Rattle.judgetext.specs.Outcomes.{refused, factor_of, zoom_samples, zoom_numbers}
use Rattle.zoomtext.specs.Kept.{Kept, kept, ZoomsNumbers}

-- numbers without a first one
pub none_first : (l : List ℤ) → length l ≡ 0 → zoom_numbers (some l) ≡ refused 10
none_first [] e = refl
none_first (f ∷ s) e = absurd (omega arith)

-- more samples than the longest row has
pub too_many : (l : List ℤ) → longest_row + 1 < length l → zoom_numbers (some l) ≡ refused 2
unfolding zoom_samples
too_many [] h = absurd (omega arith)
too_many (f ∷ s) h = simp (ne_eqb (length s) 0 (λ e. omega arith), lt-ltb longest_row (length s) (omega arith))

-- a first number, and the part of the buffer after it
pub first_others : (l : List ℤ) (n : ℕ) → 0 < n → n ≤ length l →
    zoom_numbers (some (take n l)) ≡ zoom_samples (factor_of (get_or l 0 (pos 0))) (take (n - 1) (drop 1 l))
first_others l zero one h = absurd (omega arith)
first_others [] (suc n) one h = absurd (omega arith)
first_others (f ∷ s) (suc n) one h = let less : n ≡ suc n - 1 = omega arith in ap (λ (k : ℕ). zoom_samples (factor_of f) (take k s)) less

-- a list that the buffer holds
pub held : (l numbers : List ℤ) (n : ℕ) → Begun l n numbers → n ≤ length numbers → l ≡ take n numbers
held l numbers n b h = sym (take_all (length numbers) l (omega (arith, b.count))) ∙ b.begin

-- the outcome of the part that a buffer holds is that of every list that begins as the buffer does
pub zooms_held : {n : ℕ} {numbers part : List ℤ} (buffer : List ℤ) {o : Kept} → n ≤ length numbers → part ≡ take (n - 0) numbers
    → o ≡ kept (zoom_numbers (some part)) buffer → ZoomsNumbers n numbers buffer o
zooms_held {n} {numbers} {part} buffer h p e l b =
    let same : n - 0 ≡ n = omega arith in
    e ∙ ap (λ (k : List ℤ). kept (zoom_numbers (some k)) buffer) (p ∙ ap (λ (k : ℕ). take k numbers) same ∙ sym (held l numbers n b h))
