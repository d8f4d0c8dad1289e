-- A fraction that is rounded to the format is the nearest number of the format: none is nearer. In units of the least number above 0, 2^-1074, rounding
-- drops k digits of the fraction and keeps 53: the result is the closest multiple of 2^k. A number of the format is such a multiple, or it is less than
-- one that is below the fraction. Assumes nothing.
use mathlib.Core.Bool.{Bool, true, false, not, ◌&&◌}
use mathlib.Core.Path.{◌≡◌, refl, ap, ap₂, sym, subst, ◌∙◌}
use Prim.Native.Nat.{ℕ, zero, suc, ◌+◌, ◌-◌, ◌*◌, ◌/◌, ◌%◌, ◌^◌, ◌≤◌, ◌<◌, compare, Ordering}
use native.Mathlib.Decide.{dec_le}
use native.Mathlib.Nat.{add-zero, mul_comm, mul_assoc, mul_right_comm, mul_left_comm, mul-one, one-mul, zero-mul, mul-sub, add-mul, suc-mul, mul-le-mul_right, le_of_mul-le-mul_right, le_trans, le_of_eq, lt_of_le_of_lt, lt_of_not-le, le_of_lt, div-add-mod', div-mul-le_self, div-le_self, le-mul_of_pos_right, pow-suc, mod-lt, mul-pos}
use native.Mathlib.Numerals.{add-one}
use native.Mathlib.Omega.{arith}
use lib.Dec.{T, lit<, is_le, compare_is_eq, leb, ltb, eqb, leb→le, nleb→lt, ltb→lt, eqb→eq}
use lib.IntN.{ℤ, pos, negsuc}
use lib.Ieee.{Float, nan, inf, fin, Format, binary32, binary64, prec, emax, low, up, down, fits, size, nearest, round}
use lib.Ieee.Digits.{size-le, size_reaches}
use lib.Ieee.Exact.{HasValue}
use lib.Ieee.Fits.{and_l, and_r, nearest-le, round-fits, two, two-le_pos}
use lib.Ieee.Nearest.{closest}
use lib.Ieee.Order.{drop, kept}
use lib.Ieee.Scale.{grid, overflow, round_val}
use lib.Pow.{pow_pos, pow_mono, pow-lt, pow-add}
use Rattle.integers.proofs.Powers.{pow_back, pow_split}
use Rattle.floats.proofs.Quotients.{quotient_rounded}
use Rattle.floats.specs.Fractions.{quotient, apart, Nearest}

-- ---- no multiple of u is nearer to n than the closest one
-- n is w u + r. Where r is at most half of u no multiple is nearer than w u, where it is at least half none is nearer than (w + 1) u
between : (n u w r c : ℕ) → w * u + r ≡ n → r < u → Dec (c ≤ w) → (k : ℕ) → (k ≡ 0 → r * 2 ≤ u) → (k ≡ 1 → u ≤ r * 2) → k < 2 →
    apart false ((w + k) * u) n ≤ apart false (c * u) n
between n u w r c e h (yes l) zero lower upper k = let m = mul-le-mul_right u l in let s = lower refl in rw add-zero (omega arith)
between n u w r c e h (no g) zero lower upper k =
    let m = mul-le-mul_right u (lt_of_not-le g) in let t = suc-mul w u in let s = lower refl in rw add-zero (omega arith)
between n u w r c e h (yes l) (suc zero) lower upper k =
    let m = mul-le-mul_right u l in let t = suc-mul w u in let s = upper refl in rw add-one (omega arith)
between n u w r c e h (no g) (suc zero) lower upper k =
    let m = mul-le-mul_right u (lt_of_not-le g) in let t = suc-mul w u in let s = upper refl in rw add-one (omega arith)
between n u w r c e h d (suc (suc k)) lower upper l = absurd (omega arith)

closest_nearest : (n u c : ℕ) → 0 < u → apart false (closest n u * u) n ≤ apart false (c * u) n
closest_nearest n u c some = go (compare (n % u * 2) u) (leb→le (n % u * 2) u) (nleb→lt (n % u * 2) u) (eqb→eq (n % u * 2) u)
  where
    w : ℕ
    w = n / u

    r : ℕ
    r = n % u

    either : (k : ℕ) → (k ≡ 0 → r * 2 ≤ u) → (k ≡ 1 → u ≤ r * 2) → k < 2 → apart false ((w + k) * u) n ≤ apart false (c * u) n
    either = between n u w r c (div-add-mod' n u) (mod-lt n some) (dec_le c w)

    go : (o : Ordering) → (T (is_le o) → r * 2 ≤ u) → (T (not (is_le o)) → u < r * 2) → (T (compare_is_eq o) → r * 2 ≡ u) → apart false (nearest w o * u) n ≤ apart false (c * u) n
    go Ordering.lt le gt eq = rw add-zero at (either 0 (λ e. le tt) (λ e. absurd (omega arith)) (omega arith))
    go Ordering.eq le gt eq = either (w % 2) (λ e. le tt) (λ e. le_of_eq (sym (eq tt))) (omega arith)
    go Ordering.gt le gt eq = rw add-one at (either 1 (λ e. absurd (omega arith)) (λ e. le_of_lt (gt tt)) (omega arith))

-- ---- the numbers of a format with p digits, m × 2^j units for an m below 2^p, and the fraction of n / b units
module _ (p n b : ℕ) (digits : 0 < p) (some : 0 < b) where
  abbrev k : ℕ
  k = drop p n b

  abbrev u : ℕ
  u = b * 2 ^ k

  -- some multiple of 2^k is no farther from the fraction
  multiple : (m j : ℕ) → m < 2 ^ p → Dec (k ≤ j) → (c : ℕ) × (apart false (c * u) n ≤ apart false (m * 2 ^ j * b) n)
  multiple m j h (yes l) =
      let same : m * 2 ^ (j - k) * u ≡ m * 2 ^ j * b = rw (pow_split k j l) (simp (mul_assoc, mul_comm, mul_left_comm)) in
      (m * 2 ^ (j - k), le_of_eq (ap (λ (x : ℕ). apart false x n) same))
  multiple m j h (no g) =
      let parts : 2 ^ (p - 1 + k) * b ≡ 2 ^ (p - 1) * u = rw pow-add (simp (mul_assoc, mul_comm, mul_left_comm)) in
      let less : m * 2 ^ j * b ≤ 2 ^ (p - 1 + k) * b =
      mul-le-mul_right b (le_trans (mul-le-mul_right (2 ^ j) (le_of_lt h)) (rw (← pow-add) (pow_mono {i = p + j} {j = p - 1 + k} (omega arith)))) in
      let under : 2 ^ (p - 1 + k) * b ≤ n = le_trans (mul-le-mul_right b (size_reaches (n / b) (p - 1 + k) (omega arith))) (div-mul-le_self n b) in
      (2 ^ (p - 1), omega arith)

  none_nearer : (t : Bool) (m j : ℕ) → m < 2 ^ p → apart false (kept p n b * u) n ≤ apart t (m * 2 ^ j * b) n
  none_nearer false m j h = let o = multiple m j h (dec_le k j) in le_trans (closest_nearest n u o.0 (mul-pos some (pow_pos k))) o.1
  none_nearer true m j h = let o = closest_nearest n u 0 (mul-pos some (pow_pos k)) in let z = zero-mul u in omega arith

-- ---- from units to numbers
sub_mul : (p q c : ℕ) → (p - q) * c ≡ p * c - q * c
sub_mul p q c = mul_comm (p - q) c ∙ mul-sub c p q ∙ ap₂ ◌-◌ (mul_comm c p) (mul_comm c q)

apart_scale : (s : Bool) (p q c : ℕ) → apart s p q * c ≡ apart s (p * c) (q * c)
apart_scale false p q c = add-mul (p - q) (q - p) c ∙ ap₂ ◌+◌ (sub_mul p q c) (sub_mul q p c)
apart_scale true p q c = add-mul p q c

-- M / D of a float is Q units
in_units : (s : Bool) (a b M Q D l : ℕ) → M * l ≡ Q * D → apart s (M * b) (a * D) * l ≡ apart s (Q * b) (a * l) * D
in_units s a b M Q D l e =
    apart_scale s (M * b) (a * D) l
    ∙ ap₂ (apart s) (mul_right_comm M b l ∙ ap (λ (x : ℕ). x * b) e ∙ mul_right_comm Q D b) (mul_right_comm a D l)
    ∙ sym (apart_scale s (Q * b) (a * l) D)

-- two numbers are compared by their units
cross : (x y D G : ℕ) {p q l : ℕ} → 0 < l → x * l ≡ p * D → y * l ≡ q * G → p ≤ q → x * G ≤ y * D
cross x y D G {p} {q} {l} some e f h =
    let left : x * G * l ≡ p * (D * G) = mul_right_comm x G l ∙ ap (λ (z : ℕ). z * G) e ∙ mul_assoc p D G in
    let right : y * D * l ≡ q * (D * G) = mul_right_comm y D l ∙ ap (λ (z : ℕ). z * D) f ∙ mul_right_comm q G D ∙ mul_assoc q D G in
    le_of_mul-le-mul_right (le_trans (le_of_eq left) (le_trans (mul-le-mul_right (D * G) h) (le_of_eq (sym right)))) some

-- a number of the format in units: its m has few digits, and its exponent is not too low
exponent : (l : ℕ) (e : ℤ) → down e ≤ 2 ^ l → (j : ℕ) × (up e * 2 ^ l ≡ 2 ^ j * down e)
exponent l (pos a) h = (a + l, sym (pow-add 2 a l) ∙ sym (mul-one (2 ^ (a + l))))
exponent l (negsuc a) h = (l - suc a, one-mul (2 ^ l) ∙ pow_split (suc a) l (pow_back (suc a) l h))

counted : (f : Format) (s : Bool) (m : ℕ) (e : ℤ) → T (fits f (fin s m e)) → (j : ℕ) × (m < 2 ^ prec f) × (m * up e * 2 ^ low f ≡ m * 2 ^ j * down e)
unfolding fits
counted f s zero e h = (0, pow_pos (prec f), simp zero-mul)
counted f s (suc m) e h =
    let room = and_l (eqb (suc m % 2) 1 && ltb (suc m) (2 ^ prec f) && leb (down e) (2 ^ low f)) (ltb (suc m * up e) (2 ^ suc (emax f) * down e)) h in
    let short = and_l (eqb (suc m % 2) 1 && ltb (suc m) (2 ^ prec f)) (leb (down e) (2 ^ low f)) room in
    let j = exponent (low f) e (leb→le (down e) (2 ^ low f) (and_r (eqb (suc m % 2) 1 && ltb (suc m) (2 ^ prec f)) (leb (down e) (2 ^ low f)) room)) in (
      j.0,
      ltb→lt (suc m) (2 ^ prec f) (and_r (eqb (suc m % 2) 1) (ltb (suc m) (2 ^ prec f)) short),
      mul_assoc (suc m) (up e) (2 ^ low f) ∙ ap (λ (x : ℕ). suc m * x) j.1 ∙ sym (mul_assoc (suc m) (2 ^ j.0) (down e)),
    )

-- ---- a float whose value is the closest multiple is the nearest of its format
nearest_of : (f : Format) (x : Float) (a b : ℕ) → 0 < b → T (fits f x) → HasValue x false (grid f a b) (2 ^ low f) → Nearest f x a b
nearest_of f nan a b some held v = absurd v
nearest_of f (inf s) a b some held v = absurd v
nearest_of f (fin s m e) a b some held v = (
  held,
  λ t n g h.
      let y = counted f t n g h in
      let r = kept (prec f) (a * 2 ^ low f) b in
      let k = drop (prec f) (a * 2 ^ low f) b in
      let same : r * (b * 2 ^ k) ≡ r * 2 ^ k * b = simp (mul_assoc, mul_comm, mul_left_comm) in
      let near = rw same at (none_nearer (prec f) (a * 2 ^ low f) b (two-le_pos (prec f) (two f)) some t n y.0 y.1) in
      rw v.0
      (cross (apart false (m * up e * b) (a * down e)) (apart t (n * up g * b) (a * down g)) (down e) (down g) (pow_pos (low f))
      (in_units false a b (m * up e) (grid f a b) (down e) (2 ^ low f) v.1)
      (in_units t a b (n * up g) (n * 2 ^ y.0) (down g) (2 ^ low f) y.2) near),
)

-- a fraction with a numerator that the format counts is no infinity
wide : (f : Format) → prec f < emax f
wide binary32 = lit< tt
wide binary64 = lit< tt

finite : (f : Format) (a b : ℕ) → a ≤ 2 ^ prec f → 0 < b → grid f a b < overflow f
finite f a b h some =
    let p = prec f in
    let l = low f in
    let n = a * 2 ^ l in
    let k = drop p n b in
    let u = b * 2 ^ k in
    let few : n ≤ 2 ^ (p + l) = rw pow-add (mul-le-mul_right (2 ^ l) h) in
    let digits : size (n / b) ≤ p + l + 1 = size-le (n / b) (p + l + 1) (lt_of_le_of_lt (le_trans (div-le_self n b) few) (pow-lt {i = p + l} {j = p + l + 1} (omega arith))) in
    let step : 2 ^ k ≤ 2 ^ (p + l) = pow_mono {i = k} {j = p + l} (omega (arith, two f)) in
    let same : n / u * 2 ^ k * b ≡ n / u * u = simp (mul_assoc, mul_comm, mul_left_comm) in
    let whole : n / u * 2 ^ k ≤ n = le_trans (le-mul_of_pos_right (n / u * 2 ^ k) some) (le_trans (le_of_eq same) (div-mul-le_self n u)) in
    let next : suc (n / u) * 2 ^ k ≡ n / u * 2 ^ k + 2 ^ k = suc-mul (n / u) (2 ^ k) in
    let near : grid f a b ≤ suc (n / u) * 2 ^ k = mul-le-mul_right (2 ^ k) (nearest-le (n / u) (compare (n % u * 2) u)) in
    let twice : 2 ^ (p + l + 1) ≡ 2 ^ (p + l) * 2 = rw add-one (pow-suc 2 (p + l)) in
    let top : 2 ^ (p + l + 1) < overflow f = pow-lt {i = p + l + 1} {j = l + suc (emax f)} (omega (arith, wide f)) in
    omega arith

pub round_nearest : (f : Format) (a b : ℕ) → a ≤ 2 ^ prec f → 0 < b → Nearest f (round f false a b) a b
round_nearest f a b h some = nearest_of f (round f false a b) a b some (round-fits f false a b) (round_val f a b (finite f a b h some))

-- the quotient of two whole numbers is the nearest number to their fraction
pub quotient_nearest : (a b : ℕ) → a ≤ 2 ^ 53 → 0 < b → b ≤ 2 ^ 53 → Nearest binary64 (quotient (pos a) b) a b
quotient_nearest a b h some k =
    subst (λ (x : Float). Nearest binary64 x a b) (sym (quotient_rounded (pos a) b h some k)) (round_nearest binary64 a b h some)
