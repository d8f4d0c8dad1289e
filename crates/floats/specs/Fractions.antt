-- 64-bit floating-point numbers beside fractions. The kit's `lib.Ieee` says what these numbers, their casts and their division are. Assumes nothing.
use Rattle.std.specs.Prelude.{Bool, true, false, not, ℕ, ◌+◌, ◌-◌, ◌*◌, ◌≤◌, T, ℤ, pos, nat_abs, Float}
use Rattle.std.specs.Float.{nan, inf, fin, Format, binary64}
use Rattle.std.specs.Float.Ieee.{up, down, fits, of_int, div}
use Rattle.std.specs.Float.Ieee.Exact.{HasValue}
use Rattle.std.specs.Int.Signed.{non_neg}

-- the quotient of two whole numbers: each is cast, and one division rounds
abbrev pub quotient : ℤ → ℕ → Float
quotient a b = div binary64 (of_int binary64 a) (of_int binary64 (pos b))

-- x is the fraction a / b, for a b above 0, and not only near it; 0 has the sign +
abbrev pub Exactly : Float → ℤ → ℕ → Type 0
Exactly x a b = HasValue x (not (non_neg a)) (nat_abs a) b

-- how far p, or -p where the sign is set, is from q
abbrev pub apart : Bool → ℕ → ℕ → ℕ
apart false p q = (p - q) + (q - p)
apart true p q = p + q

-- x is a finite number of a format, and none of them is nearer to a / b, for a b above 0: |m × 2^e - a / b| ≤ |n × 2^g - a / b|, where b and the
-- denominators of both numbers are multiplied out
abbrev pub Nearest : Format → Float → ℕ → ℕ → Type 0
Nearest f nan a b = ⊥
Nearest f (inf s) a b = ⊥
Nearest f (fin s m e) a b =
    T (fits f (fin s m e))
    × ((t : Bool) (n : ℕ) (g : ℤ) → T (fits f (fin t n g)) →
    apart s (m * up e * b) (a * down e) * down g ≤ apart t (n * up g * b) (a * down g) * down e)
