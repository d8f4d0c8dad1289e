-- The greatest value of a row: none is above it, and it is one of them; and how a loop over both halves finds it. Assumes nothing.
use mathlib.Core.Bool.{Bool, true, false, cond}
use mathlib.Core.List.{List, [], ◌∷◌}
use mathlib.Core.Path.{◌≡◌, refl, subst}
use Prim.Native.Nat.{ℕ, zero, suc, ◌+◌, ◌-◌, ◌≤◌, ◌<◌, zero-le}
use native.Mathlib.Decide.{dec_lt}
use native.Mathlib.Omega.{arith}
use borrow.Author.Count.{below_more}
use lib.IntN.{ℤ}
use lib.ListN.{length}
use Rattle.std.specs.Int.{int_max}
use lib.Signed.{lt_z, ◌≤ℤ◌, ≤ℤ_refl}
use Rattle.integers.proofs.Laws.{≤ℤ_antisym, ≤ℤ_trans}
use Rattle.integers.proofs.Linear.{reify, read, show}
use Rattle.bspline.specs.Lists.{at}
use Rattle.onset.specs.Runs.{greater, greatest_from, greatest}

-- ---- the greater of two values
greater_cases : (P : ℤ → Type 0) (v w : ℤ) (less : Bool) → P v → P w → P (cond less w v)
greater_cases P v w true p q = q
greater_cases P v w false p q = p

greater_first : (v w : ℤ) → v ≤ℤ greater v w
greater_first v w = go (lt_z v w) refl
  where
    go : (less : Bool) → lt_z v w ≡ less → v ≤ℤ cond less w v
    go true e = show (simp reify tt) (omega (arith, read e (simp reify tt)))
    go false e = show (simp reify tt) (omega arith)

greater_second : (v w : ℤ) → w ≤ℤ greater v w
greater_second v w = go (lt_z v w) refl
  where
    go : (less : Bool) → lt_z v w ≡ less → w ≤ℤ cond less w v
    go true e = show (simp reify tt) (omega arith)
    go false e = show (simp reify tt) (omega (arith, read e (simp reify tt)))

-- std's `max` takes the second of two that are equal
pub max_greater : (v w : ℤ) → int_max v w ≡ greater v w
max_greater v w = go (lt_z v w) (lt_z w v) refl refl
  where
    go : (less more : Bool) → lt_z v w ≡ less → lt_z w v ≡ more → cond more v w ≡ cond less w v
    go true true e f = absurd (omega (arith, read e (simp reify tt), read f (simp reify tt)))
    go true false e f = refl
    go false true e f = refl
    go false false e f =
        let low : w ≤ℤ v = show (simp reify tt) (omega (arith, read e (simp reify tt))) in
        let high : v ≤ℤ w = show (simp reify tt) (omega (arith, read f (simp reify tt))) in
        ≤ℤ_antisym low high

-- ---- none is above it
from_first : (v : ℤ) (l : List ℤ) → v ≤ℤ greatest_from v l
unfolding greatest_from
from_first v [] = show (simp reify tt) (omega arith)
from_first v (w ∷ l) = ≤ℤ_trans (greater_first v w) (from_first (greater v w) l)

from_rest : (v : ℤ) (l : List ℤ) (k : ℕ) → k < length l → at l k ≤ℤ greatest_from v l
unfolding greatest_from
from_rest v [] k h = absurd (omega arith)
from_rest v (w ∷ l) zero h = ≤ℤ_trans (greater_second v w) (from_first (greater v w) l)
from_rest v (w ∷ l) (suc k) h = from_rest (greater v w) l k (omega arith)

-- no value of a row is above the greatest
pub greatest_above : (l : List ℤ) (k : ℕ) → k < length l → at l k ≤ℤ greatest l
greatest_above [] k h = absurd (omega arith)
greatest_above (v ∷ l) zero h = from_first v l
greatest_above (v ∷ l) (suc k) h = from_rest v l k (omega arith)

-- ---- it is one of them
abbrev OneOf : List ℤ → ℤ → Type 0
OneOf l v = (k : ℕ) × (k < length l) × (at l k ≡ v)

from_one : (v : ℤ) (l : List ℤ) → (k : ℕ) × (k < suc (length l)) × (at (v ∷ l) k ≡ greatest_from v l)
unfolding greatest_from
from_one v [] = (0, omega arith, refl)
from_one v (w ∷ l) = one (lt_z v w) (from_one (greater v w) l)
  where
    one : (b : Bool) → (k : ℕ) × (k < suc (length l)) × (at (cond b w v ∷ l) k ≡ greatest_from (greater v w) l) →
        (k : ℕ) × (k < suc (suc (length l))) × (at (v ∷ w ∷ l) k ≡ greatest_from (greater v w) l)
    one true (zero, h, e) = (1, omega arith, e)
    one false (zero, h, e) = (0, omega arith, e)
    one b (suc k, h, e) = (suc (suc k), omega arith, e)

-- the greatest value of a row is one of them
pub greatest_one : (l : List ℤ) → 0 < length l → (k : ℕ) × (k < length l) × (at l k ≡ greatest l)
greatest_one [] h = absurd (omega arith)
greatest_one (v ∷ l) h = from_one v l

-- ---- and no other number is both
greatest_only : (l : List ℤ) (g : ℤ) → ((k : ℕ) → k < length l → at l k ≤ℤ g) → OneOf l g → g ≡ greatest l
greatest_only l g above (k, h, e) =
    let (j, i, f) = greatest_one l (omega arith) in
    ≤ℤ_antisym (subst (λ (v : ℤ). v ≤ℤ greatest l) e (greatest_above l k h)) (subst (λ (v : ℤ). v ≤ℤ g) f (above j i))

-- ---- the loop
-- the best value so far is one of the row, and none of the first i of either half, nor the last of the row, is above it
pub record Best (l : List ℤ) (half : ℕ) (best : ℤ) (i : ℕ) : Type 0 where
  pub inside : i ≤ half
  pub low : (k : ℕ) → k < i → at l k ≤ℤ best
  pub high : (k : ℕ) → k < i → at l (half + k) ≤ℤ best
  pub last : at l (length l - 1) ≤ℤ best
  pub one : OneOf l best

pub best_first : (l : List ℤ) (half : ℕ) → 0 < length l → Best l half (at l (length l - 1)) 0
best_first l half h = record {
  inside = zero-le;
  low = λ k e. absurd (omega arith);
  high = λ k e. absurd (omega arith);
  last = ≤ℤ_refl (at l (length l - 1));
  one = (length l - 1, omega arith, refl);
}

pub best_more : {l : List ℤ} {half : ℕ} {best : ℤ} {i : ℕ} → Best l half best i → i < half → half + half ≤ length l →
    Best l half (greater best (greater (at l i) (at l (half + i)))) (i + 1)
best_more {l} {half} {best} {i} b h room =
    let pair = greater (at l i) (at l (half + i)) in
    let g = greater best pair in
    let old : best ≤ℤ g = greater_first best pair in
    let new : pair ≤ℤ g = greater_second best pair in
    record {
      inside = omega arith;
      low = below_more (λ (k : ℕ). at l k ≤ℤ g) i (λ k e. ≤ℤ_trans (b.low k e) old) (≤ℤ_trans (greater_first (at l i) (at l (half + i))) new);
      high =
          below_more (λ (k : ℕ). at l (half + k) ≤ℤ g) i (λ k e. ≤ℤ_trans (b.high k e) old) (≤ℤ_trans (greater_second (at l i) (at l (half + i))) new);
      last = ≤ℤ_trans b.last old;
      one =
          greater_cases (OneOf l) best pair (lt_z best pair) b.one
          (greater_cases (OneOf l) (at l i) (at l (half + i)) (lt_z (at l i) (at l (half + i))) (i, omega arith, refl) (half + i, omega arith, refl));
    }

pub best_last : {l : List ℤ} {half : ℕ} {best : ℤ} {i : ℕ} → Best l half best i → half ≤ i → length l ≤ half + half + 1 → best ≡ greatest l
best_last {l} {half} {best} {i} b h few = greatest_only l best above b.one
  where
    above : (k : ℕ) → k < length l → at l k ≤ℤ best
    above k e = go (dec_lt k half) (dec_lt k (half + half))
      where
        go : Dec (k < half) → Dec (k < half + half) → at l k ≤ℤ best
        go (yes y) d = b.low k (omega arith)
        go (no n) (yes y) = let same : half + (k - half) ≡ k = omega (arith, n) in subst (λ (j : ℕ). at l j ≤ℤ best) same (b.high (k - half) (omega (arith, n)))
        go (no n) (no m) = let same : length l - 1 ≡ k = omega (arith, m) in subst (λ (j : ℕ). at l j ≤ℤ best) same b.last
