-- Which marks can be kept: from how many places on two splines, and two values, of rows that differ at one sample are as near as is asked, and two
-- coefficients as near as rounding leaves them; and how the least such number is tested. Assumes nothing.
use mathlib.Core.Bool.{Bool, true, false, not, ◌&&◌, and-eq-true_iff}
use mathlib.Core.List.{List}
use mathlib.Core.Path.{◌≡◌}
use Prim.Native.Nat.{ℕ, zero, suc, ◌+◌, ◌*◌, ◌^◌, ◌≤◌, ◌<◌}
use native.Mathlib.Nat.{mul-pos, one-le-pow, mul-le-mul_left, lt_of_mul-lt-mul_left, mul-lt-mul_of_pos_right}
use native.Mathlib.Omega.{arith}
use borrow.Author.Tests.{ltb-true, ltb-false, le-ltb, not-true}
use lib.IntN.{ℤ, pos, nat_abs, ◌-ℤ◌, ◌*ℤ◌}
use lib.Pow.{pow_mono}
use Rattle.bspline.specs.Exact.{Fractions}
use Rattle.bspline.specs.Lists.{at}
use Rattle.bspline.specs.Values.{Position, row_sum}
use Rattle.reach.specs.Reach.{apart, CoefficientsNear, SplinesNear, ValuesNear, splines_stay, values_stay, LeastPlaces, Row}

-- splines that are near enough differ by less than a/b
pub splines_stay_lem : (g : ℕ) (d : ℤ) (m n : ℕ) (c e : Fractions) (p : Position) → 0 < m → SplinesNear g d m n c e p →
    (D a b : ℕ) → nat_abs d ≤ D → splines_stay D a b g ≡ true →
    b * nat_abs (pos e.den *ℤ row_sum m n c.num p -ℤ pos c.den *ℤ row_sum m n e.num p) < a * (6 * m ^ 3 * (c.den * e.den))
splines_stay_lem g d m n c e p some near D a b h stay =
    let W = 6 * m ^ 3 * (c.den * e.den) in
    let above : 0 < W = mul-pos (omega (arith, one-le-pow 3 m some)) (mul-pos c.above e.above) in
    let less : 4 * D * b < 3 * a * 2 ^ g = omega (arith, ltb-true) in
    lt_of_mul-lt-mul_left (3 * 2 ^ g) (omega (arith, mul-le-mul_left b near, mul-le-mul_left (4 * b * W) h, mul-lt-mul_of_pos_right {k = W} less above))

-- coefficients differ by at most 3 units where 8192|d| is less than 2^|k - i|: for any two samples from 29 places on
pub coefficients_stay : (i : ℕ) (d : ℤ) (C C' : List ℤ) (k : ℕ) → CoefficientsNear i d C C' k → 8192 * nat_abs d < 2 ^ apart k i → nat_abs (at C k -ℤ at C' k) ≤ 3
coefficients_stay i d C C' k near h =
    let less : nat_abs (at C k -ℤ at C' k) < 4 = lt_of_mul-lt-mul_left (2 ^ apart k i) (omega arith) in
    omega arith

-- values that are near enough differ by at most r units
pub values_stay_lem : (g : ℕ) (d v v' : ℤ) → ValuesNear g d v v' → (D r : ℕ) → nat_abs d ≤ D → values_stay D r g ≡ true → nat_abs (v -ℤ v') ≤ r
values_stay_lem g d v v' near D r h stay =
    let less : nat_abs (v -ℤ v') < r + 1 = lt_of_mul-lt-mul_left (48 * 2 ^ g) (omega (arith, ltb-true)) in
    omega arith

-- ---- the least number of places, by a test that computes: it is enough, and one fewer is not
abbrev fewer_do_not : ℕ → ℕ → ℕ → ℕ → Bool
fewer_do_not D a b zero = true
fewer_do_not D a b (suc g) = not (splines_stay D a b g)

abbrev is_least : ℕ → ℕ → ℕ → ℕ → ℕ → Bool
is_least D a b r g = splines_stay D a b g && (values_stay D r g && fewer_do_not D a b g)

-- where one fewer is not enough, no smaller number is
none_fewer : (D a b g : ℕ) → fewer_do_not D a b g ≡ true → (h : ℕ) → h < g → splines_stay D a b h ≡ false
none_fewer D a b zero e h l = absurd (omega arith)
none_fewer D a b (suc g) e h l =
    let below : h ≤ g = omega arith in
    le-ltb (4 * D * b) (3 * a * 2 ^ h)
    (omega (arith, mul-le-mul_left (3 * a) (pow_mono below), ltb-false (4 * D * b) (3 * a * 2 ^ g) (not-true (splines_stay D a b g) e)))

least : (D a b r g : ℕ) → is_least D a b r g ≡ true → LeastPlaces D a b r g
least D a b r g e =
    let t = (and-eq-true_iff (splines_stay D a b g) _).0 e in
    let u = (and-eq-true_iff (values_stay D r g) (fewer_do_not D a b g)).0 t.1 in
    record { splines = t.0; values = u.0; no_fewer = none_fewer D a b g u.1 }

-- a row of the table
pub row : {D p q r s : ℕ} → (is_least D 1 256 1 p && (is_least D 1 16 15 q && (is_least D 1 1 255 r && is_least D 16 1 4095 s))) ≡ true → Row D p q r s
row {D} {p} {q} {r} {s} e =
    let t = (and-eq-true_iff (is_least D 1 256 1 p) _).0 e in
    let u = (and-eq-true_iff (is_least D 1 16 15 q) _).0 t.1 in
    let v = (and-eq-true_iff (is_least D 1 1 255 r) (is_least D 16 1 4095 s)).0 u.1 in
    (least D 1 256 1 p t.0, least D 1 16 15 q u.0, least D 1 1 255 r v.0, least D 16 1 4095 s v.1)
