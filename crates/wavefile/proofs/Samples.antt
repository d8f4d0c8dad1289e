-- The samples of bytes by their places, and how many there are. Assumes nothing.
use mathlib.Core.List.{List, [], ◌∷◌}
use mathlib.Core.Path.{◌≡◌, refl, ap}
use Prim.Native.Nat.{ℕ, zero, suc, ◌+◌, ◌*◌, ◌<◌}
use native.Mathlib.Omega.{arith}
use lib.ListN.{length, get_or}
use Rattle.bspline.specs.Lists.{at}
use Rattle.wavefile.specs.Samples.{signed, samples}

-- twice as many bytes as samples
pub samples_length : (n : ℕ) (d : List ℕ) → length d ≡ 2 * n → length (samples d) ≡ n
unfolding samples
samples_length n [] e = omega arith
samples_length n (b ∷ []) e = absurd (omega arith)
samples_length zero (low ∷ high ∷ d) e = absurd (omega arith)
samples_length (suc n) (low ∷ high ∷ d) e = ap suc (samples_length n d (omega arith))

pub samples_at : (i : ℕ) (d : List ℕ) → 2 * i + 1 < length d → at (samples d) i ≡ signed (get_or d (2 * i) 0 + 256 * get_or d (2 * i + 1) 0)
unfolding samples
samples_at i [] h = absurd (omega arith)
samples_at i (b ∷ []) h = absurd (omega arith)
samples_at zero (low ∷ high ∷ d) h = refl
samples_at (suc i) (low ∷ high ∷ d) h =
    let even : 2 * suc i ≡ suc (suc (2 * i)) = omega arith in
    let odd : 2 * suc i + 1 ≡ suc (suc (2 * i + 1)) = omega arith in
    rw (odd, even) (samples_at i d (omega arith))
