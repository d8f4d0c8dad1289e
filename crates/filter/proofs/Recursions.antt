-- The two recursions as loops make them, one place a turn. A record says what holds after i turns; of each the laws say that it holds at the
-- start, after one turn more, and what it says at the end. Assumes nothing.
use mathlib.Core.List.{List, [], ◌∷◌, ◌++◌, append_assoc, append-nil}
use mathlib.Core.Path.{◌≡◌, refl, sym, ap, subst, ◌∙◌}
use Prim.Native.Nat.{ℕ, zero, suc, ◌+◌, ◌-◌, ◌*◌, ◌^◌, ◌≤◌, ◌<◌, zero-le}
use native.Mathlib.Nat.{le_refl, sub-zero}
use native.Mathlib.Numerals.{add-one}
use native.Mathlib.Omega.{arith}
use lib.Dec.{lit≤}
use lib.IntN.{ℤ, pos, nat_abs}
use lib.ListN.{length, take, drop, set, length-set}
use lib.Seq.{drop-cons, drop-length, take_all, take-suc-set}
use Rattle.bspline.specs.Bounds.{AllWithin}
use Rattle.bspline.specs.Limits.{work_words}
use Rattle.bspline.specs.Recursions.{margin, causal, window, forward, anticausal, first, backward, coefficient, delivered}
use Rattle.bspline.specs.Lists.{at, tabulate}
use Rattle.bspline.proofs.Lines.{delivered_at}
use Rattle.bspline.proofs.Ranges.{causal_range, anticausal_range, forward_within, window_within, loaded_range}
use Rattle.filter.specs.Lines.{AnticausalAt, CausalWindow, Line, loaded_line, scatter}
use Rattle.filter.proofs.Scatter.{scatter_length}

-- ---- forward over a table of N numbers: i of them are done, and p is the last
pub record Causal (f : ℕ → ℤ) (N : ℕ) (w : List ℤ) (p : ℤ) (i : ℕ) : Type 0 where
  pub within : i ≤ N
  pub long : length w ≡ N
  pub whole : forward (pos 0) (tabulate f 0 N) ≡ take i w ++ forward p (tabulate f i (N - i))
  pub small : nat_abs p ≤ 81 * 2 ^ 27

pub causal_none : (f : ℕ → ℤ) (N : ℕ) (w : List ℤ) → length w ≡ N → Causal f N w (pos 0) 0
causal_none f N w e = record { within = zero-le; long = e; whole = rw sub-zero; small = zero-le }

pub causal_more : {f : ℕ → ℤ} {N : ℕ} {w : List ℤ} {p : ℤ} {i : ℕ} → Causal f N w p i → i < N → nat_abs (f i) ≤ 27 * 2 ^ 28 →
    Causal f N (set w i (causal (f i) p)) (causal (f i) p) (i + 1)
unfolding forward tabulate
causal_more {f} {N} {w} {p} {i} v h t =
    let e : N - i ≡ suc (N - suc i) = omega arith in
    let l : i < length w = omega (arith, v.long) in
    record {
      within = omega arith;
      long = simp length-set v.long;
      whole =
          v.whole
          ∙ rw (add-one, e, take-suc-set w i (causal (f i) p) l)
          (sym (append_assoc (take i w) (causal (f i) p ∷ []) (forward (causal (f i) p) (tabulate f (suc i) (N - suc i)))));
      small = causal_range (27 * 2 ^ 28) (lit≤ tt) (f i) p t v.small;
    }

pub causal_all : {f : ℕ → ℤ} {N : ℕ} {w : List ℤ} {p : ℤ} {i : ℕ} → Causal f N w p i → N ≤ i → w ≡ forward (pos 0) (tabulate f 0 N)
unfolding forward tabulate
causal_all {f} {N} {w} {p} {i} v h =
    let e : N - i ≡ 0 = omega arith in
    let l : length w ≤ i = omega (arith, v.long) in
    sym (v.whole ∙ rw (e, take_all i w l, append-nil))

-- what is left of the window of a line: the p of all its places, each in its range
pub causal_window : (from step n : ℕ) (c left : List ℤ) → Line from step n c → length left ≡ work_words n →
    left ≡ forward (pos 0) (window n (loaded_line from step c)) → CausalWindow n left
causal_window from step n c left l long e = record {
  long = long;
  small =
      rw e
      (forward_within (27 * 2 ^ 28) (lit≤ tt) (pos 0) (window n (loaded_line from step c)) zero-le
      (window_within (27 * 2 ^ 28) (lit≤ tt) n (loaded_line from step c) l.some
      (λ k h. loaded_range 16 (27 * 2 ^ 24) (at c (from + step * k)) (l.small k h))));
}

-- ---- backward over a list of p, from the last place down: `AnticausalAt`
pub anticausal_none : (w : List ℤ) → AnticausalAt w (pos 0) (length w)
unfolding backward
anticausal_none w = record { within = le_refl (length w); reached = rw drop-length; small = zero-le }

-- from place i to the place j before it
pub anticausal_more : {w : List ℤ} {b : ℤ} {i : ℕ} (j : ℕ) → suc j ≡ i → AllWithin (81 * 2 ^ 27) w → AnticausalAt w b i → AnticausalAt w (anticausal (at w j) b) j
unfolding backward
anticausal_more {w} {b} j e h u =
    let v = subst (λ (k : ℕ). AnticausalAt w b k) (sym e) u in
    record {
      within = omega (arith, v.within);
      reached = rw (drop-cons w j (pos 0) v.within, v.reached);
      small = anticausal_range (27 * 2 ^ 28) (lit≤ tt) (at w j) b (h.within j) v.small;
    }

-- ---- the coefficients of the line's n places, stored from the last down: those from place i on are done
backward_drop : (w : List ℤ) (j : ℕ) → backward (drop j w) ≡ drop j (backward w)
unfolding backward
backward_drop w zero = refl
backward_drop [] (suc j) = refl
backward_drop (p ∷ w) (suc j) = backward_drop w j

first_drop : (l : List ℤ) (j : ℕ) → first (drop j l) ≡ at l j
first_drop [] zero = refl
first_drop [] (suc j) = refl
first_drop (b ∷ l) zero = refl
first_drop (b ∷ l) (suc j) = first_drop l j

-- b at place i + margin makes the coefficient of place i
pub delivered_from : {w : List ℤ} {b : ℤ} (n i : ℕ) → AnticausalAt w b (i + margin) → i < n → at (delivered n (backward w)) i ≡ coefficient b
delivered_from {w} {b} n i v h =
    delivered_at n (backward w) i h
    ∙ ap coefficient (sym (v.reached ∙ ap first (backward_drop w (i + margin)) ∙ first_drop (backward w) (i + margin)))

pub record Stored (from step : ℕ) (C c₀ c : List ℤ) (i : ℕ) : Type 0 where
  pub stored : c ≡ scatter (from + step * i) step (drop i C) c₀

pub stored_none : (from step : ℕ) (C c : List ℤ) → Stored from step C c c (length C)
unfolding scatter
stored_none from step C c = record { stored = rw drop-length }

pub stored_more : {from step : ℕ} {C c₀ c : List ℤ} (i : ℕ) → Stored from step C c₀ c (suc i) → i < length C →
    Stored from step C c₀ (set c (from + step * i) (at C i)) i
unfolding scatter
stored_more {from} {step} {C} {c₀} {c} i v h =
    let e : from + step * i + step ≡ from + step * suc i = omega arith in
    record { stored = rw (drop-cons C i (pos 0), v.stored, e) }

pub stored_length : {from step : ℕ} {C c₀ c : List ℤ} {i : ℕ} → Stored from step C c₀ c i → length c ≡ length c₀
stored_length {from} {step} {C} {c₀} {c} {i} v = ap length v.stored ∙ scatter_length (from + step * i) step (drop i C) c₀

pub stored_all : {from step : ℕ} {C c₀ c : List ℤ} {i : ℕ} → Stored from step C c₀ c i → i ≡ 0 → c ≡ scatter from step C c₀
stored_all {from} {step} {C} {c₀} {c} {i} v e =
    let f : from + step * 0 ≡ from = omega arith in
    rw (e, f) at v.stored
