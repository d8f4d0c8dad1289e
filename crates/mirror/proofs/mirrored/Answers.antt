-- A row of one number reads place 0, and an index inside the row is its own place. Elsewhere the remainder that the code computes is the index modulo
-- 2(n - 1), and the lesser of it and the rest of the period is what the definition folds it to.
use Rattle.std.proofs.Common.{◌≡◌, ℕ, ◌+◌, ◌-◌, ◌*◌, ◌%◌, ◌^◌, ◌≤◌, ◌<◌, min, pos, ◌-ℤ◌, arith, sym, ◌∙◌}
use native.Mathlib.Decide.{dec_le}
use Rattle.bspline.specs.Mirror.{mirror}
use Rattle.bspline.proofs.Mirror.{period, mirror_one, mirror_low, mirror_high, mirror_is, mirror_below}
use Rattle.integers.specs.Division.{modulo}
use Rattle.integers.proofs.Division.{modulo_shift, modulo_below}
use Rattle.integers.proofs.Linear.{reify, show}
use Rattle.mirror.proofs.mirrored.Goals as goal

-- the lesser of a remainder by P and the rest of P, at the index i - M
abbrev lesser : (i M P : ℕ) → ℕ
lesser i M P = min ((i + M * (P - 1)) % P) (P - (i + M * (P - 1)) % P)

lesser_is : (n i M : ℕ) → {P : ℕ} → 0 < n → (n ≡ 1 → ⊥) → P ≡ period n → lesser i M P ≡ mirror n (pos i -ℤ pos M)
lesser_is n i M h d e = rw e (folded (dec_le (modulo (pos i -ℤ pos M) (period n)) (n - 1)))
  where
    folded : Dec (modulo (pos i -ℤ pos M) (period n) ≤ n - 1) → lesser i M (period n) ≡ mirror n (pos i -ℤ pos M)
    folded (yes l) = rw (← modulo_shift i M (period n) (omega arith)) (omega (arith, mirror_low n (pos i -ℤ pos M) d l))
    folded (no l) =
        rw (← modulo_shift i M (period n) (omega arith))
        (omega (arith, modulo_below (pos i -ℤ pos M) (period n) (omega arith), mirror_high n (pos i -ℤ pos M) d (omega arith)))

pub returns-then-n-eq1 : goal.returns-then-n-eq1
returns-then-n-eq1 c = (sym (mirror_one c.args.n (pos c.args.i -ℤ pos c.args.before) c.if-n-eq1.true), omega arith)

pub returns-then-place-n : goal.returns-then-place-n
returns-then-place-n c =
    let a = c.args in
    let l : a.before ≤ a.i = omega arith in
    let e : (a.i + (2 ^ 64 - a.before)) % 2 ^ 64 ≡ a.i - a.before = omega arith in
    let k : a.i - a.before < a.n = rw e at c.if-place-n.true in
    rw e (sym (mirror_is a.n (pos a.i -ℤ pos a.before) (a.i - a.before) k (show (simp reify tt) (omega arith))), k)

pub returns : goal.returns
returns c =
    let a = c.args in
    let e = c.min.ensures ∙ lesser_is a.n a.i a.before (omega arith) c.if-n-eq1.false (omega arith) in
    (e, rw e (mirror_below a.n (pos a.i -ℤ pos a.before) (omega arith)))
