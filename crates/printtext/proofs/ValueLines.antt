-- The lines of values: those of some and then those of others, one line more, and the position of the line after one. Assumes nothing.
use mathlib.Core.List.{List, [], ◌∷◌, ◌++◌, append_assoc, append-nil}
use mathlib.Core.Path.{◌≡◌, sym, ap, ap₂, ◌∙◌}
use Prim.Native.Nat.{ℕ, zero, suc, ◌+◌, ◌*◌, ◌<◌}
use native.Mathlib.Nat.{zero-add, add-zero, suc-add, add_assoc, add-mul}
use native.Mathlib.Omega.{arith}
use lib.IntN.{ℤ}
use lib.ListN.{length, take, drop, get_or}
use lib.Seq.{take-nil, drop-cons}
use Rattle.bspline.specs.Values.{zoom_position}
use Rattle.bspline.proofs.Zoom.{position_at}
use Rattle.printtext.specs.Output.{value_line, value_lines}

-- the lines of the first d values, then those of the e after them
pub lines_split : (m i d e : ℕ) (vs : List ℤ) →
    value_lines m i (take d vs) ++ value_lines m (i + d) (take e (drop d vs)) ≡ value_lines m i (take (d + e) vs)
unfolding value_lines
lines_split m i zero e vs = ap₂ (λ (k n : ℕ). value_lines m k (take n vs)) (add-zero i) (sym (zero-add e))
lines_split m i (suc d) e [] = ap (value_lines m (i + suc d)) (take-nil e) ∙ sym (ap (value_lines m i) (take-nil (suc d + e)))
lines_split m i (suc d) e (v ∷ vs) =
    let line = value_line (zoom_position m i) v in
    let next : i + suc d ≡ suc i + d = omega arith in
    append_assoc line (value_lines m (suc i) (take d vs)) (value_lines m (i + suc d) (take e (drop d vs)))
    ∙ ap (λ (k : ℕ). line ++ (value_lines m (suc i) (take d vs) ++ value_lines m k (take e (drop d vs)))) next
    ∙ ap (λ (l : List ℕ). line ++ l) (lines_split m (suc i) d e vs)
    ∙ ap (λ (n : ℕ). value_lines m i (take n (v ∷ vs))) (sym (suc-add d e))

-- one line more
pub lines_more : (m from d : ℕ) (vs : List ℤ) (z : ℤ) → d < length vs →
    value_lines m from (take (d + 1) vs) ≡ value_lines m from (take d vs) ++ value_line (zoom_position m (from + d)) (get_or vs d z)
unfolding value_lines
lines_more m from d vs z h =
    let line = value_line (zoom_position m (from + d)) (get_or vs d z) in
    sym (lines_split m from d 1 vs)
    ∙ ap (λ (l : List ℤ). value_lines m from (take d vs) ++ value_lines m (from + d) (take 1 l)) (drop-cons vs d z h)
    ∙ ap (λ (l : List ℕ). value_lines m from (take d vs) ++ l) (append-nil line)

-- the position after one: the next numerator, or the next place
pub position_next : (m k j : ℕ) → j + 1 < m → record { k = k; j = j + 1 } ≡ zoom_position m (k * m + j + 1)
position_next m k j h = sym (ap (zoom_position m) (add_assoc (k * m) j 1) ∙ position_at m k (j + 1) h)

pub position_carried : (m k j : ℕ) → j < m → j + 1 ≡ m → record { k = k + 1; j = 0 } ≡ zoom_position m (k * m + j + 1)
position_carried m k j h e =
    let place : k * m + j + 1 ≡ (k + 1) * m + 0 = omega (arith, add-mul k 1 m) in
    sym (ap (zoom_position m) place ∙ position_at m (k + 1) 0 (omega arith))
