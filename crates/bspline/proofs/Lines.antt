-- The specification's equations of one line, place by place, from the recursions over lists: the window, p, b and C.
-- p[k] follows from t[k] and p[k-1], which is the number at place k of the list that begins with the p before the line. b[k] follows from p[k] and
-- b[k+1], and past the end `at` gives the 0 that the specification asks for. The coefficients are those of the n middle places of the window.
-- All but the last section holds for any margin. Assumes nothing.
use mathlib.Core.List.{List, [], ◌∷◌, map}
use mathlib.Core.Path.{◌≡◌, refl, sym, ap, ◌∙◌}
use Prim.Native.Nat.{ℕ, zero, suc, ◌+◌, ◌*◌, ◌≤◌, ◌<◌}
use native.Mathlib.Nat.{add_comm}
use native.Mathlib.Omega.{arith}
use lib.IntN.{ℤ, pos, neg_ℤ, ◌-ℤ◌}
use lib.ListN.{length, get_or, take, drop, length-drop, length-map, get_or-map, get_or-eq_default}
use lib.Seq.{length-take-le, get_or-take, get_or-drop}
use Rattle.integers.proofs.Linear.{reify, show}
use Rattle.bspline.specs.Mirror.{mirror}
use Rattle.bspline.specs.Recursions.{margin, window, causal, forward, anticausal, first, backward, filtered, coefficient, delivered, coefficients}
use Rattle.bspline.specs.Lists.{at}
use Rattle.bspline.proofs.Mirror.{mirror_below}
use Rattle.bspline.proofs.Steps.{coefficient_zero}
use Rattle.bspline.proofs.Lists.{tabulate_length, tabulate_from_zero, tabulate_same}

-- ---- the causal recursion
-- there is one p for each t
pub forward_length : (p : ℤ) (l : List ℤ) → length (forward p l) ≡ length l
unfolding forward
forward_length p [] = refl
forward_length p (t ∷ l) = ap suc (forward_length (causal t p) l)

-- p[k] is made of t[k] and of p[k-1]
pub forward_at : (p : ℤ) (l : List ℤ) (k : ℕ) → k < length l → at (forward p l) k ≡ causal (at l k) (at (p ∷ forward p l) k)
unfolding forward
forward_at p [] k h = absurd (omega arith)
forward_at p (t ∷ l) zero h = refl
forward_at p (t ∷ l) (suc k) h = forward_at (causal t p) l k (omega arith)

-- ---- the anticausal recursion
first_at : (l : List ℤ) → first l ≡ at l 0
first_at [] = refl
first_at (b ∷ l) = refl

-- there is one b for each p
pub backward_length : (l : List ℤ) → length (backward l) ≡ length l
unfolding backward
backward_length [] = refl
backward_length (p ∷ l) = ap suc (backward_length l)

-- b[k] is made of p[k] and of b[k+1]
pub backward_at : (l : List ℤ) (k : ℕ) → k < length l → at (backward l) k ≡ anticausal (at l k) (at (backward l) (suc k))
unfolding backward
backward_at [] k h = absurd (omega arith)
backward_at (p ∷ l) zero h = ap (anticausal p) (first_at (backward l))
backward_at (p ∷ l) (suc k) h = backward_at l k (omega arith)

-- ---- the n places between the margins
-- a window of b that is long enough has n of them
pub delivered_length : (n : ℕ) (bs : List ℤ) → n + margin ≤ length bs → length (delivered n bs) ≡ n
unfolding delivered
delivered_length n bs h = length-map (take n (drop margin bs)) coefficient ∙ length-take-le n (drop margin bs) (simp length-drop (omega arith))

-- the coefficient of place k is made of the b that stands at place k + margin
pub delivered_at : (n : ℕ) (bs : List ℤ) (k : ℕ) → k < n → at (delivered n bs) k ≡ coefficient (at bs (k + margin))
unfolding delivered
delivered_at n bs k h =
    ap (get_or (map coefficient (take n (drop margin bs))) k) (sym coefficient_zero)
    ∙ get_or-map coefficient (take n (drop margin bs)) k (pos 0)
    ∙ ap coefficient (get_or-take n (drop margin bs) k (pos 0) h ∙ get_or-drop margin bs k (pos 0) ∙ ap (at bs) (add_comm margin k))

-- ---- the window of a line
module _ (n : ℕ) (t : ℕ → ℤ) where
  -- the n numbers and a margin at each end
  pub window_count : length (window n t) ≡ n + 2 * margin
  window_count = rw tabulate_length (omega arith)

  -- the index i - margin stands at place i
  pub window_at : (i : ℕ) → i < n + 2 * margin → at (window n t) i ≡ t (mirror n (pos i -ℤ pos margin))
  window_at i h = tabulate_from_zero _ _ i (omega arith)

  -- the recursions keep the window's length
  pub filtered_length : length (filtered n t) ≡ n + 2 * margin
  filtered_length = backward_length (forward (pos 0) (window n t)) ∙ forward_length (pos 0) (window n t) ∙ window_count

  -- n numbers have n coefficients
  pub coefficients_length : length (coefficients n t) ≡ n
  unfolding coefficients
  coefficients_length = delivered_length n (filtered n t) (omega (arith, filtered_length))

  -- C[k] is made of b[k], which stands at place k + margin
  pub coefficients_at : (k : ℕ) → k < n → at (coefficients n t) k ≡ coefficient (at (filtered n t) (k + margin))
  unfolding coefficients
  coefficients_at = delivered_at n (filtered n t)

-- lines that agree at their n places have the same coefficients
pub coefficients_same : (n : ℕ) (t u : ℕ → ℤ) → 0 < n → ((k : ℕ) → k < n → t k ≡ u k) → coefficients n t ≡ coefficients n u
unfolding coefficients
coefficients_same n t u h e =
    ap (λ l. delivered n (backward (forward (pos 0) l)))
    (tabulate_same _ _ 0 _ (λ i l. e (mirror n (pos i -ℤ pos margin)) (mirror_below n (pos i -ℤ pos margin) h)))

-- ---- the window's two ends, with the specification's own numbers
-- it has 40 numbers more than the line
pub window_length : (n : ℕ) (t : ℕ → ℤ) → length (window n t) ≡ n + 40
window_length n t = window_count n t

-- it begins with the index -20
pub window_first : (n : ℕ) (t : ℕ → ℤ) → at (window n t) 0 ≡ t (mirror n (neg_ℤ (pos 20)))
window_first n t = window_at n t 0 (omega arith)

-- it ends with the index n + 19
pub window_last : (n : ℕ) (t : ℕ → ℤ) → at (window n t) (n + 39) ≡ t (mirror n (pos (n + 19)))
window_last n t = window_at n t (n + 39) (omega arith) ∙ ap (λ k. t (mirror n k)) (show (simp reify tt) (omega arith))

-- p[-20] is made of t[-20] and of 0, which is p[-21]
pub forward_start : (n : ℕ) (t : ℕ → ℤ) → at (forward (pos 0) (window n t)) 0 ≡ causal (t (mirror n (neg_ℤ (pos 20)))) (pos 0)
forward_start n t =
    forward_at (pos 0) (window n t) 0 (omega (arith, window_count n t)) ∙ ap (λ x. causal x (pos 0)) (window_first n t)

-- b[n + 19] is made of p[n + 19] and of 0, which is b[n + 20]
pub backward_start : (n : ℕ) (t : ℕ → ℤ) → at (filtered n t) (n + 39) ≡ anticausal (at (forward (pos 0) (window n t)) (n + 39)) (pos 0)
backward_start n t =
    let ps = forward (pos 0) (window n t) in
    backward_at ps (n + 39) (omega (arith, forward_length (pos 0) (window n t), window_count n t))
    ∙ ap (anticausal (at ps (n + 39))) (get_or-eq_default (filtered n t) (pos 0) (omega (arith, filtered_length n t)))
