-- Casts of whole numbers up to 2^53 are exact, their quotient is the fraction rounded once, and by a power of two nothing is lost. Assumes nothing.
use mathlib.Core.Bool.{Bool, true, false, cond, not}
use mathlib.Core.Path.{◌≡◌, refl, ap, ap₂, sym, subst, ◌∙◌}
use Prim.Native.Nat.{ℕ, zero, suc, ◌+◌, ◌-◌, ◌*◌, ◌^◌, ◌≤◌, ◌<◌}
use native.Mathlib.Nat.{mul_comm, mul_assoc, mul_left_comm, mul-one, zero-mul, mul-pos, mul-lt-mul_of_pos_right, lt_irrefl, lt_of_lt_of_le, le_of_lt, le_trans, zero-lt-suc}
use native.Mathlib.Omega.{arith}
use lib.Dec.{T, eqb, le→leb, lt→ltb, lit<, lit≤, eqb-suc-zero}
use lib.IntN.{ℤ, pos, negsuc, nat_abs}
use lib.Ieee.{Float, nan, inf, fin, Format, binary64, up, down, unlike, round, div, of_int, in_float}
use lib.Ieee.Back.{round_whole}
use lib.Ieee.Exact.{HasValue, round_exact}
use lib.Ieee.Fits.{down_pos, up_pos}
use lib.Ieee.Scale.{round_same}
use lib.Pow.{pow_pos, pow_mono, pow-add}
use lib.Signed.{non_neg}
use Rattle.floats.specs.Fractions.{quotient, Exactly}
use Rattle.integers.proofs.Powers.{pow_back, pow_split}

-- ---- a division by the values of its operands
-- a numerator above 0, and a divisor that is not zero
above : (n u d b e : ℕ) → 0 < b → 0 < e → n * u * d ≡ b * e → 0 < n
above zero u d b e p q h = absurd (lt_irrefl 0 (subst (λ (x : ℕ). 0 < x) (sym h ∙ ap (λ (x : ℕ). x * d) (zero-mul u) ∙ zero-mul d) (mul-pos p q)))
above (suc n) u d b e p q h = zero-lt-suc n

divides : {A : Type 0} (n : ℕ) (x y : A) → 0 < n → cond (eqb n 0) x y ≡ y
divides zero x y h = absurd (omega arith)
divides (suc n) x y h = rw eqb-suc-zero

-- x / e is a / c and y / k is b / d, so (x / e) / (y / k) is (a / c) / (b / d)
ratio : (x e a c y k b d : ℕ) → x * c ≡ a * e → y * d ≡ b * k → x * k * (b * c) ≡ a * d * (y * e)
ratio x e a c y k b d p q =
    let left : x * k * (b * c) ≡ x * c * (b * k) = simp (mul_assoc, mul_comm, mul_left_comm) in
    let right : a * e * (y * d) ≡ a * d * (y * e) = simp (mul_assoc, mul_comm, mul_left_comm) in
    left ∙ ap₂ ◌*◌ p (sym q) ∙ right

-- of x = a / c and y = b / d it is a d / (b c), rounded once
division : (f : Format) (x y : Float) (s t : Bool) (a c b d : ℕ) → 0 < c → 0 < d → 0 < b →
    HasValue x s a c → HasValue y t b d → div f x y ≡ round f (unlike s t) (a * d) (b * c)
unfolding div
division f nan y s t a c b d C D B v w = absurd v
division f (inf g) y s t a c b d C D B v w = absurd v
division f (fin g m e) nan s t a c b d C D B v w = absurd w
division f (fin g m e) (inf h) s t a c b d C D B v w = absurd w
division f (fin g m e) (fin h n k) s t a c b d C D B v w =
    let some : 0 < n = above n (up k) d b (down k) B (down_pos k) w.1 in
    divides n _ _ some
    ∙ ap₂ (λ (z z' : Bool). round f (unlike z z') (m * up e * down k) (n * up k * down e)) v.0 w.0
    ∙ round_same f (unlike s t) (m * up e * down k) (n * up k * down e) (a * d) (b * c) (mul-pos (mul-pos some (up_pos k)) (down_pos e)) (mul-pos B C)
    (ratio (m * up e) (down e) a c (n * up k) (down k) b d v.1 w.1)

-- ---- casts
-- the machine's own test of a cast passes
pub castable : (z : ℤ) → nat_abs z ≤ 2 ^ 53 → T (in_float binary64 z)
unfolding in_float
castable (pos n) h = le→leb n (2 ^ 53) h
castable (negsuc n) h = lt→ltb n (2 ^ 53) h

-- a whole number up to 2^53, with either sign, is cast exactly
pub cast_exact : (z : ℤ) → nat_abs z ≤ 2 ^ 53 → Exactly (of_int binary64 z) z 1
unfolding of_int
cast_exact (pos n) h = round_whole binary64 false n h
cast_exact (negsuc n) h = round_whole binary64 true (suc n) h

-- ---- quotients
unlike_plus : (s : Bool) → unlike s false ≡ s
unlike_plus true = refl
unlike_plus false = refl

-- a quotient is the fraction rounded once
pub quotient_rounded : (a : ℤ) (b : ℕ) → nat_abs a ≤ 2 ^ 53 → 0 < b → b ≤ 2 ^ 53 → quotient a b ≡ round binary64 (not (non_neg a)) (nat_abs a) b
quotient_rounded a b h some k =
    let s = not (non_neg a) in
    let n = nat_abs a in
    division binary64 (of_int binary64 a) (of_int binary64 (pos b)) s false n 1 b 1 (lit< tt) (lit< tt) some (cast_exact a h) (cast_exact (pos b) k)
    ∙ ap (λ (t : Bool). round binary64 t (n * 1) (b * 1)) (unlike_plus s)
    ∙ ap (λ (x : ℕ). round binary64 s x (b * 1)) (mul-one n)
    ∙ ap (λ (x : ℕ). round binary64 s n x) (mul-one b)

-- a fraction over a power of two, of a number with at most 53 digits, loses nothing
dyadic_exact : (s : Bool) (n j : ℕ) → n < 2 ^ 53 → j ≤ 1074 → HasValue (round binary64 s n (2 ^ j)) s n (2 ^ j)
dyadic_exact s n j small k =
    let room : n * 2 ^ (1074 - j) < 2 ^ (1074 + suc 1023) =
    lt_of_lt_of_le (mul-lt-mul_of_pos_right small (pow_pos (1074 - j))) (rw (← pow-add) (pow_mono {i = 53 + (1074 - j)} {j = 1074 + suc 1023} (omega arith))) in
    round_exact binary64 s n (2 ^ j) n (1074 - j) (pow_pos j) small room (ap (λ (x : ℕ). n * x) (pow_split j 1074 k) ∙ sym (mul_assoc n (2 ^ (1074 - j)) (2 ^ j)))

-- by a power of two it is exact
pub quotient_exact : (a : ℤ) (b j : ℕ) → nat_abs a < 2 ^ 53 → b ≡ 2 ^ j → b ≤ 2 ^ 53 → Exactly (quotient a b) a b
quotient_exact a b j small e k =
    let s = not (non_neg a) in
    let some : 0 < b = rw e (pow_pos j) in
    let low : j ≤ 1074 = le_trans (pow_back j 53 (rw e at k)) (lit≤ tt) in
    subst (λ (x : Float). HasValue x s (nat_abs a) b) (sym (quotient_rounded a b (le_of_lt small) some k))
    (subst (λ (d : ℕ). HasValue (round binary64 s (nat_abs a) d) s (nat_abs a) d) (sym e) (dyadic_exact s (nat_abs a) j small low))
