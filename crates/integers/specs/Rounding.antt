-- Division of an integer by a natural number above 0, rounded to the nearest integer. The rule for a tie, where two integers are
-- as near, stands here and nowhere else. What users of `round` go by is `round_near` of proofs/Rounding.antt,
-- 2·|d·round(a, d) - a| ≤ d, which holds with every rule for a tie, and `round_neg`, which holds with one that treats a number and its
-- opposite alike. Assumes nothing.
use Rattle.std.specs.Prelude.{ℕ, suc, ◌+◌, ◌/◌, ℤ, pos, negsuc, neg_ℤ}

-- a / d of natural numbers, rounded to the nearest, a tie going up
abbrev pub nearest : ℕ → ℕ → ℕ
nearest a d = (a + d / 2) / d

-- a / d, rounded to the nearest integer, a tie going away from zero: a negative number gives the opposite of what its size gives
unfoldable pub round : ℤ → ℕ → ℤ
round (pos a) d = pos (nearest a d)
round (negsuc a) d = neg_ℤ (pos (nearest (suc a) d))
