-- Laws of the mirrored index, of "The mirrored row". With the period P = 2(n - 1), two indices read the same place where one is the other
-- or its negative, up to a multiple of P (`Alike`). Every index is alike to the place that it reads (`mirror_alike`), and that is the only
-- place below n to which it is (`mirror_unique`). From these two: an index of the row reads itself, alike indices read the same place, and
-- the neighbours of an index read the neighbours of its place. A row of one number, whose period is 0, is no exception.
-- Assumes nothing.
use mathlib.Core.Logic.{◌⊎◌, inl, inr}
use mathlib.Core.Path.{◌≡◌, refl, ap}
use Prim.Native.Nat.{ℕ, zero, suc, ◌-◌, ◌*◌, ◌≤◌, ◌<◌}
use native.Mathlib.Decide.{ℕ_discrete, dec_le}
use native.Mathlib.Omega.{arith}
use borrow.Author.Tests.{lt-ltb, le-ltb, ne_eqb, eq-eqb}
use lib.IntN.{ℤ, pos, ◌+ℤ◌, ◌-ℤ◌, ◌*ℤ◌}
use Rattle.integers.specs.Division.{floor, modulo}
use Rattle.integers.proofs.Division.{modulo_equation, modulo_below, modulo_unique}
use Rattle.integers.proofs.Linear.{reify, read, show}
use Rattle.bspline.specs.Mirror.{mirror}

-- the period of a row of n
abbrev pub period : ℕ → ℕ
period n = 2 * (n - 1)

-- ---- the definition, case by case
-- a row of one number has one place
pub mirror_one : (n : ℕ) (k : ℤ) → n ≡ 1 → mirror n k ≡ 0
unfolding mirror
mirror_one n k e = rw (eq-eqb n 1 e)

-- a remainder up to n - 1 is the place
pub mirror_low : (n : ℕ) (k : ℤ) → (n ≡ 1 → ⊥) → modulo k (period n) ≤ n - 1 → mirror n k ≡ modulo k (period n)
unfolding mirror
mirror_low n k e l = rw (ne_eqb n 1 e, le-ltb (n - 1) (modulo k (period n)) l)

-- a greater one is folded back
pub mirror_high : (n : ℕ) (k : ℤ) → (n ≡ 1 → ⊥) → n - 1 < modulo k (period n) → mirror n k ≡ period n - modulo k (period n)
unfolding mirror
mirror_high n k e l = rw (ne_eqb n 1 e, lt-ltb (n - 1) (modulo k (period n)) l)

-- the three cases of a row of n numbers
data Case (n : ℕ) (k : ℤ) : Type 0 where
  single : n ≡ 1 → mirror n k ≡ 0 → Case n k
  low : 1 < n → modulo k (period n) ≤ n - 1 → mirror n k ≡ modulo k (period n) → Case n k
  high : 1 < n → n - 1 < modulo k (period n) → mirror n k ≡ period n - modulo k (period n) → Case n k

mirror_case : (n : ℕ) (k : ℤ) → 0 < n → Case n k
mirror_case n k h = go (ℕ_discrete n 1) (dec_le (modulo k (period n)) (n - 1))
  where
    go : Dec (n ≡ 1) → Dec (modulo k (period n) ≤ n - 1) → Case n k
    go (yes e) d = single e (mirror_one n k e)
    go (no e) (yes l) = low (omega arith) l (mirror_low n k e l)
    go (no e) (no l) = high (omega arith) (omega arith) (mirror_high n k e (omega arith))

-- every index reads a place of the row
pub mirror_below : (n : ℕ) (k : ℤ) → 0 < n → mirror n k < n
mirror_below n k h = go (mirror_case n k h)
  where
    go : Case n k → mirror n k < n
    go (single e m) = omega arith
    go (low e l m) = omega arith
    go (high e l m) = omega arith

-- ---- what index reads what place
-- k is l or its negative, up to a multiple of P
pub data Alike (P : ℕ) (k l : ℤ) : Type 0 where
  shifted : (q : ℤ) → k ≡ pos P *ℤ q +ℤ l → Alike P k l
  reflected : (q : ℤ) → k ≡ pos P *ℤ q -ℤ l → Alike P k l

-- alike in two steps is alike
alike_trans : (P : ℕ) (k l m : ℤ) → Alike P k l → Alike P l m → Alike P k m
alike_trans P k l m (shifted q e) (shifted p d) = shifted (q +ℤ p) (show (simp reify tt) (omega (arith, read e (simp reify tt), read d (simp reify tt))))
alike_trans P k l m (shifted q e) (reflected p d) = reflected (q +ℤ p) (show (simp reify tt) (omega (arith, read e (simp reify tt), read d (simp reify tt))))
alike_trans P k l m (reflected q e) (shifted p d) = reflected (q -ℤ p) (show (simp reify tt) (omega (arith, read e (simp reify tt), read d (simp reify tt))))
alike_trans P k l m (reflected q e) (reflected p d) = shifted (q -ℤ p) (show (simp reify tt) (omega (arith, read e (simp reify tt), read d (simp reify tt))))

-- an index is alike to the place that it reads
pub mirror_alike : (n : ℕ) (k : ℤ) → 1 < n → Alike (period n) k (pos (mirror n k))
mirror_alike n k h = go (mirror_case n k (omega arith))
  where
    P : ℕ
    P = period n

    equation : k ≡ pos P *ℤ floor k P +ℤ pos (modulo k P)
    equation = modulo_equation k P (omega arith)

    folded : k ≡ pos P *ℤ (floor k P +ℤ pos 1) -ℤ pos (P - modulo k P)
    folded = show (simp reify tt) (omega (arith, read equation (simp reify tt), modulo_below k P (omega arith)))

    go : Case n k → Alike P k (pos (mirror n k))
    go (single e m) = absurd (omega arith)
    go (low e l m) = rw m (shifted (floor k P) equation)
    go (high e l m) = rw m (reflected (floor k P +ℤ pos 1) folded)

-- and to no other place of the row
pub mirror_unique : (n : ℕ) (k : ℤ) (m : ℕ) → m < n → Alike (period n) k (pos m) → mirror n k ≡ m
mirror_unique n k m h a = go (ℕ_discrete n 1)
  where
    P : ℕ
    P = period n

    -- such an index leaves the remainder m, or P - m, which is folded back to m
    remainder : 1 < n → Alike P k (pos m) → Dec (m ≡ 0) → (modulo k P ≡ m) ⊎ (modulo k P ≡ P - m)
    remainder u (shifted q e) d = inl (modulo_unique k q P m (omega arith) e)
    remainder u (reflected q e) (yes d) = inl (modulo_unique k q P m (omega arith) (show (simp reify tt) (omega (arith, read e (simp reify tt)))))
    remainder u (reflected q e) (no d) =
        inr (modulo_unique k (q -ℤ pos 1) P (P - m) (omega arith) (show (simp reify tt) (omega (arith, read e (simp reify tt)))))

    folded : Case n k → (modulo k P ≡ m) ⊎ (modulo k P ≡ P - m) → mirror n k ≡ m
    folded (single e r) d = omega arith
    folded (low u l r) (inl d) = omega arith
    folded (low u l r) (inr d) = omega arith
    folded (high u l r) (inl d) = omega arith
    folded (high u l r) (inr d) = omega arith

    go : Dec (n ≡ 1) → mirror n k ≡ m
    go (yes e) = omega (arith, mirror_one n k e)
    go (no e) = folded (mirror_case n k (omega arith)) (remainder (omega arith) a (ℕ_discrete m 0))

-- an index of the row reads itself
pub mirror_is : (n : ℕ) (k : ℤ) (m : ℕ) → m < n → k ≡ pos m → mirror n k ≡ m
mirror_is n k m h e = mirror_unique n k m h (shifted (pos 0) (show (simp reify tt) (omega (arith, read e (simp reify tt)))))

-- the same of a natural number
pub mirror_own : (n m : ℕ) → m < n → mirror n (pos m) ≡ m
mirror_own n m h = mirror_is n (pos m) m h refl

-- two places beside each other
pub record Neighbours (k l : ℕ) : Type 0 where
  pub above : l ≤ suc k
  pub below : k ≤ suc l
  pub other : k ≡ l → ⊥

one_after : {k l : ℕ} → l ≡ suc k → Neighbours k l
one_after e = record { above = omega arith; below = omega arith; other = λ same. omega arith }

one_before : {k l : ℕ} → suc l ≡ k → Neighbours k l
one_before e = record { above = omega arith; below = omega arith; other = λ same. omega arith }

-- the indices before and after a place read places beside it, where a row has two numbers or more: the index before 0 reads 1, and the one after the last
-- place the last but one
pub mirror_before : (n k : ℕ) → 1 < n → k < n → Neighbours k (mirror n (pos k -ℤ pos 1))
mirror_before n zero h l = one_after (mirror_unique n (pos 0 -ℤ pos 1) 1 h (reflected (pos 0) (show (simp reify tt) (omega arith))))
mirror_before n (suc k) h l = one_before (ap suc (mirror_is n (pos (suc k) -ℤ pos 1) k (omega arith) (show (simp reify tt) (omega arith))))

pub mirror_after : (n k : ℕ) → 1 < n → k < n → Neighbours k (mirror n (pos k +ℤ pos 1))
mirror_after n k h l = go (dec_le n (suc k))
  where
    go : Dec (n ≤ suc k) → Neighbours k (mirror n (pos k +ℤ pos 1))
    go (no d) = one_after (mirror_is n (pos k +ℤ pos 1) (suc k) (omega arith) (show (simp reify tt) (omega arith)))
    go (yes d) =
        let last = mirror_unique n (pos k +ℤ pos 1) (k - 1) (omega arith) (reflected (pos 1) (show (simp reify tt) (omega arith))) in
        one_before (omega (arith, last))

-- alike indices read the same place: the row is continued with its period, and with symmetry about place 0
pub mirror_respects : (n : ℕ) (k l : ℤ) → 0 < n → Alike (period n) k l → mirror n k ≡ mirror n l
mirror_respects n k l h a = go (ℕ_discrete n 1)
  where
    go : Dec (n ≡ 1) → mirror n k ≡ mirror n l
    go (yes e) = omega (arith, mirror_one n k e, mirror_one n l e)
    go (no e) = mirror_unique n k (mirror n l) (mirror_below n l h) (alike_trans (period n) k l (pos (mirror n l)) a (mirror_alike n l (omega arith)))

-- the indices around k read what those around l read, in the same order or in the other
pub data Beside (n : ℕ) (k l : ℤ) : Type 0 where
  alike : ((u : ℤ) → mirror n (k +ℤ u) ≡ mirror n (l +ℤ u)) → Beside n k l
  swapped : ((u : ℤ) → mirror n (k +ℤ u) ≡ mirror n (l -ℤ u)) → Beside n k l

-- the neighbours of an index read the neighbours of the place that it reads
pub beside : (n : ℕ) (k : ℤ) → 0 < n → Beside n k (pos (mirror n k))
beside n k h = go (ℕ_discrete n 1)
  where
    m : ℤ
    m = pos (mirror n k)

    from : Alike (period n) k m → Beside n k m
    from (shifted q e) = alike (λ u. mirror_respects n (k +ℤ u) (m +ℤ u) h (shifted q (show (simp reify tt) (omega (arith, read e (simp reify tt))))))
    from (reflected q e) = swapped (λ u. mirror_respects n (k +ℤ u) (m -ℤ u) h (reflected q (show (simp reify tt) (omega (arith, read e (simp reify tt))))))

    go : Dec (n ≡ 1) → Beside n k m
    go (yes e) = alike (λ u. omega (arith, mirror_one n (k +ℤ u) e, mirror_one n (m +ℤ u) e))
    go (no e) = from (mirror_alike n k (omega arith))
