-- The other way round a difference is the opposite one, where zero stands for itself. Assumes nothing.
use mathlib.Core.Bool.{Bool, true, false, cond, not, not-not}
use mathlib.Core.Path.{◌≡◌, refl, ap, sym, ◌∙◌}
use Prim.Native.Nat.{ℕ, zero, suc, ◌+◌, ◌-◌, ◌*◌, ◌^◌, ◌<◌}
use native.Mathlib.Decide.{dec_lt}
use native.Mathlib.Nat.{add_comm, mul_comm, mul-pos}
use native.Mathlib.Omega.{arith}
use lib.Dec.{ltb}
use lib.Ieee.{Float, nan, inf, fin, Format, prec, emax, low, up, down, odd, units, round, neg, sum, add, sub}
use lib.Ieee.Fits.{down_pos}
use Rattle.delay.specs.Outcomes.{plain_zero}
use Rattle.delay.proofs.Differences.{gap, gap_less, gap_more, gap_none}

-- ---- a rounded fraction with the other sign
odd_opposite : (d : ℕ) (s : Bool) (q k l : ℕ) → odd d (not s) q k l ≡ neg (odd d s q k l)
unfolding odd neg
odd_opposite d s zero k l = refl
odd_opposite d s (suc q) k l = refl

units_opposite : (f : Format) (s : Bool) (q k : ℕ) → units f (not s) q k ≡ neg (units f s q k)
unfolding units neg
units_opposite f s q k = go (ltb (q * 2 ^ k) (2 ^ (low f + suc (emax f))))
  where
    go : (b : Bool) → cond b (odd (suc (prec f)) (not s) q k (low f)) (inf (not s)) ≡ neg (cond b (odd (suc (prec f)) s q k (low f)) (inf s))
    go true = odd_opposite (suc (prec f)) s q k (low f)
    go false = refl

round_opposite : (f : Format) (s : Bool) (n c : ℕ) → round f (not s) n c ≡ neg (round f s n c)
unfolding round
round_opposite f s n c = units_opposite f s _ _

-- ---- a difference of two numbers of one sign
gap_opposite : (f : Format) (s : Bool) (c : ℕ) → 0 < c → (a b : ℕ) → Dec (a < b) → Dec (b < a) → plain_zero (gap f s c b a) ≡ plain_zero (neg (gap f s c a b))
unfolding neg
gap_opposite f s c some a b (yes h) e =
    rw (gap_less f s c a b h, gap_more f s c b a h)
    (ap plain_zero (ap (λ (t : Bool). round f t (b - a) c) (sym (not-not s)) ∙ round_opposite f (not s) (b - a) c))
gap_opposite f s c some a b (no g) (yes h) = rw (gap_more f s c a b h, gap_less f s c b a h) (ap plain_zero (round_opposite f s (a - b) c))
gap_opposite f s c some a b (no g) (no h) = rw (gap_none f s c a b some (omega arith), gap_none f s c b a some (omega arith)) refl

-- with any signs
sum_opposite : (f : Format) (s : Bool) (a : ℕ) (t : Bool) (b c : ℕ) → 0 < c → plain_zero (sum f t b (not s) a c) ≡ plain_zero (neg (sum f s a (not t) b c))
unfolding sum
sum_opposite f false a true b c some = ap plain_zero (ap (λ (n : ℕ). round f true n c) (add_comm b a) ∙ round_opposite f false (a + b) c)
sum_opposite f true a false b c some = ap plain_zero (ap (λ (n : ℕ). round f false n c) (add_comm b a) ∙ round_opposite f true (a + b) c)
sum_opposite f false a false b c some = gap_opposite f false c some a b (dec_lt a b) (dec_lt b a)
sum_opposite f true a true b c some = gap_opposite f true c some a b (dec_lt a b) (dec_lt b a)

-- ---- a difference of any two numbers
pub sub_opposite : (f : Format) (x y : Float) → plain_zero (sub f y x) ≡ plain_zero (neg (sub f x y))
unfolding sub add neg
sub_opposite f nan nan = refl
sub_opposite f nan (inf t) = refl
sub_opposite f nan (fin t n k) = refl
sub_opposite f (inf s) nan = refl
sub_opposite f (inf true) (inf true) = refl
sub_opposite f (inf true) (inf false) = refl
sub_opposite f (inf false) (inf true) = refl
sub_opposite f (inf false) (inf false) = refl
sub_opposite f (inf s) (fin t n k) = refl
sub_opposite f (fin s m e) nan = refl
sub_opposite f (fin s m e) (inf t) = ap inf (sym (not-not t))
sub_opposite f (fin s m e) (fin t n k) =
    ap (λ (c : ℕ). plain_zero (sum f t (n * up k * down e) (not s) (m * up e * down k) c)) (mul_comm (down k) (down e))
    ∙ sum_opposite f s (m * up e * down k) t (n * up k * down e) (down e * down k) (mul-pos (down_pos e) (down_pos k))
