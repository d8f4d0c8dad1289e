-- The direct filter of one line: "The two recursions". A line is its length n and its numbers t 0 to t (n - 1), in units of 1/65536 of a count.
-- Place i of the window is the index i - margin. Assumes nothing.
use Rattle.std.specs.Prelude.{List, [], ◌∷◌, map, ℕ, ◌+◌, ◌*◌, ◌^◌, ℤ, pos, ◌-ℤ◌, ◌*ℤ◌, take, drop}
use Rattle.integers.specs.Rounding.{round}
use Rattle.bspline.specs.Mirror.{mirror}
use Rattle.bspline.specs.Lists.{tabulate}

-- how far past each end of the line the recursions run
abbrev pub margin : ℕ
margin = 20

-- Z: the whole number nearest to (2 - √3) × 2^31, the filter's pole without its sign
abbrev pub Z : ℤ
Z = pos 575416509

-- R(a): a / 2^31 rounded to the nearest whole number
unfoldable pub R : ℤ → ℤ
R a = round a (2 ^ 31)

-- t[-20], .., t[n + 19]: the line continued past both ends
abbrev pub window : ℕ → (ℕ → ℤ) → List ℤ
window n t = tabulate (λ i. t (mirror n (pos i -ℤ pos margin))) 0 (n + 2 * margin)

-- p[k] = t[k] - R(Z × p[k-1]), the causal recursion
unfoldable pub causal : ℤ → ℤ → ℤ
causal t p = t -ℤ R (Z *ℤ p)

-- the p of a list of t, from the p before it
unfoldable pub forward : ℤ → List ℤ → List ℤ
forward p [] = []
forward p (t ∷ ts) = causal t p ∷ forward (causal t p) ts

-- b[k] = R(Z × (p[k] - b[k+1])), the anticausal recursion
unfoldable pub anticausal : ℤ → ℤ → ℤ
anticausal p b = R (Z *ℤ (p -ℤ b))

-- the first number of a list, 0 if there is none
abbrev pub first : List ℤ → ℤ
first [] = pos 0
first (b ∷ bs) = b

-- the b of a list of p, with 0 for the b after it
unfoldable pub backward : List ℤ → List ℤ
backward [] = []
backward (p ∷ ps) = anticausal p (first (backward ps)) ∷ backward ps

-- b[-20], .., b[n + 19], with p[-21] = 0 and b[n + 20] = 0
abbrev pub filtered : ℕ → (ℕ → ℤ) → List ℤ
filtered n t = backward (forward (pos 0) (window n t))

-- 6 × b / 16 rounded to nearest: a coefficient, in units of 1/4096 of a count
unfoldable pub coefficient : ℤ → ℤ
coefficient b = round (pos 6 *ℤ b) 16

-- the coefficients of the n places between the margins
unfoldable pub delivered : ℕ → List ℤ → List ℤ
delivered n bs = map coefficient (take n (drop margin bs))

-- C[0], .., C[n-1]
unfoldable pub coefficients : ℕ → (ℕ → ℤ) → List ℤ
coefficients n t = delivered n (filtered n t)
