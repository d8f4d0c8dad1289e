-- Division rounded down, by a positive number: `floor` and `modulo` of specs/Division.antt.
--     d·floor(a, d) ≤ a < d·floor(a, d) + d, and no other number has that        floor_between, floor_unique
--     a = d·floor(a, d) + modulo(a, d), where 0 ≤ modulo(a, d) < d, likewise     modulo_equation, modulo_below, modulo_unique
-- The machine's `>>` is the floor by a power of 2 (floor_shift). How its `/` and `%`, which round toward zero, give the floor is
-- in proofs/Machine.antt. For a literal d, `read (floor_between a d h) (simp reify tt)` gives `omega` all it needs. Assumes nothing.
use mathlib.Core.Path.{◌≡◌, refl, sym}
use Prim.Native.Nat.{ℕ, zero, suc, ◌+◌, ◌-◌, ◌*◌, ◌/◌, ◌%◌, ◌<◌, ◌≤◌}
use native.Mathlib.Nat.{div-add-mod, mod-lt, mul-le-mul_left}
use native.Mathlib.Numerals.{unary_clauses}
use native.Mathlib.Omega.{arith, by_contra}
use lib.IntN.{ℤ, pos, negsuc, ◌+ℤ◌, ◌-ℤ◌, ◌*ℤ◌}
use lib.Signed.{◌≤ℤ◌, ◌<ℤ◌, shr_z, mag_shr}
use mir.Syntax.{Width}
use mir.Val.{SFits}
use mir.ValLaws.{sfits_le}
use Rattle.integers.specs.Division.{floor, modulo}
use Rattle.integers.proofs.Parts.{positive, negative}
use Rattle.integers.proofs.Linear.{reify, read, show}
use Rattle.integers.proofs.Laws.{≤ℤ_antisym, ≤ℤ_<ℤ_trans}

-- ---- the remainder

pub modulo_equation : (a : ℤ) (d : ℕ) → 0 < d → a ≡ pos d *ℤ floor a d +ℤ pos (modulo a d)
modulo_equation (pos n) d h = show (simp reify tt) (omega (arith, div-add-mod n d))
modulo_equation (negsuc n) d h = show (simp reify tt) (omega (arith, div-add-mod n d, mod-lt n h))

pub modulo_below : (a : ℤ) (d : ℕ) → 0 < d → modulo a d < d
modulo_below (pos n) d h = mod-lt n h
modulo_below (negsuc n) d h = omega (arith, mod-lt n h)

-- ---- the quotient: d·q ≤ a < d·q + d

pub floor_low : (a : ℤ) (d : ℕ) → 0 < d → (pos d *ℤ floor a d) ≤ℤ a
floor_low a d h = show (simp reify tt) (omega (arith, read (modulo_equation a d h) (simp reify tt)))

pub floor_high : (a : ℤ) (d : ℕ) → 0 < d → a <ℤ (pos d *ℤ floor a d +ℤ pos d)
floor_high a d h = show (simp reify tt) (omega (arith, modulo_below a d h, read (modulo_equation a d h) (simp reify tt)))

-- both at once, for `read`
pub floor_between : (a : ℤ) (d : ℕ) → 0 < d → ((pos d *ℤ floor a d) ≤ℤ a) × (a <ℤ (pos d *ℤ floor a d +ℤ pos d))
floor_between a d h = (floor_low a d h, floor_high a d h)

-- d·x < d·y + d only where x ≤ y
pub multiple_below : (d : ℕ) (x y : ℤ) → (pos d *ℤ x) <ℤ (pos d *ℤ y +ℤ pos d) → x ≤ℤ y
multiple_below d x y h =
    show (simp reify tt) (cancel (positive x + negative y) (positive y + negative x) (omega (arith, read h (simp reify tt))))
  where
    cancel : (m n : ℕ) → d * m < d * n + d → m ≤ n
    cancel m n h = by_contra m n (λ k. omega (arith, mul-le-mul_left d k))

-- q is the floor if d·q ≤ a < d·q + d
pub floor_unique : (a q : ℤ) (d : ℕ) → (pos d *ℤ q) ≤ℤ a → a <ℤ (pos d *ℤ q +ℤ pos d) → q ≡ floor a d
floor_unique a q d l h =
    ≤ℤ_antisym
    (multiple_below d q (floor a d) (≤ℤ_<ℤ_trans l (floor_high a d d_above)))
    (multiple_below d (floor a d) q (≤ℤ_<ℤ_trans (floor_low a d d_above) h))
  where
    d_above : 0 < d
    d_above = omega (arith, read l (simp reify tt), read h (simp reify tt))

-- a multiple of d comes out of the floor
pub floor_add : (a q : ℤ) (d : ℕ) → 0 < d → floor (a +ℤ pos d *ℤ q) d ≡ floor a d +ℤ q
floor_add a q d h = sym (floor_unique (a +ℤ pos d *ℤ q) (floor a d +ℤ q) d low high)
  where
    low : (pos d *ℤ (floor a d +ℤ q)) ≤ℤ (a +ℤ pos d *ℤ q)
    low = show (simp reify tt) (omega (arith, read (floor_low a d h) (simp reify tt)))

    high : (a +ℤ pos d *ℤ q) <ℤ (pos d *ℤ (floor a d +ℤ q) +ℤ pos d)
    high = show (simp reify tt) (omega (arith, read (floor_high a d h) (simp reify tt)))

pub floor_multiple : (q : ℤ) (d : ℕ) → 0 < d → floor (pos d *ℤ q) d ≡ q
floor_multiple q d h = sym (floor_unique (pos d *ℤ q) q d (show (simp reify tt) (omega arith)) (show (simp reify tt) (omega arith)))

-- and the remainder is the only number from 0 up and below d with a = d·q + r
pub modulo_unique : (a q : ℤ) (d r : ℕ) → r < d → a ≡ pos d *ℤ q +ℤ pos r → modulo a d ≡ r
modulo_unique a q d r h e = same (floor a d) (floor_unique a q d low high) (modulo_equation a d (omega arith))
  where
    low : (pos d *ℤ q) ≤ℤ a
    low = show (simp reify tt) (omega (arith, read e (simp reify tt)))

    high : a <ℤ (pos d *ℤ q +ℤ pos d)
    high = show (simp reify tt) (omega (arith, read e (simp reify tt)))

    same : (f : ℤ) → q ≡ f → a ≡ pos d *ℤ f +ℤ pos (modulo a d) → modulo a d ≡ r
    same f g k = omega (arith, read (rw g at e) (simp reify tt), read k (simp reify tt))

-- i - M leaves the remainder of i + M·(P - 1), which is not below 0
pub modulo_shift : (i M P : ℕ) → 0 < P → modulo (pos i -ℤ pos M) P ≡ (i + M * (P - 1)) % P
modulo_shift i M P h =
    modulo_unique (pos i -ℤ pos M) (pos (a / P) -ℤ pos M) P (a % P) (mod-lt a h)
    (show (simp reify tt) (omega (arith, div-add-mod a P, taken P h)))
  where
    a : ℕ
    a = i + M * (P - 1)

    taken : (P : ℕ) → 0 < P → M * (P - 1) + M ≡ M * P
    taken zero h = absurd (omega arith)
    taken (suc p) h = simp unary_clauses (omega arith)

-- ---- the machine: `a >> s` is `shr_z a (2 ^ s)`

pub floor_shift : (a : ℤ) (d : ℕ) → shr_z a d ≡ floor a d
floor_shift (pos a) d = refl
floor_shift (negsuc a) d = refl

pub floor_fits : {w : Width} (a : ℤ) (d : ℕ) → SFits w a → SFits w (floor a d)
floor_fits a d f = rw (← floor_shift a d) (sfits_le (mag_shr a d) f)
