-- Positions off the data, under one number: what 8 stood for before places past an end had numbers of their own. Assumes nothing.
use Rattle.std.specs.Prelude.{Bool, cond, ◌||◌, ◌&&◌, ℕ, ◌-◌, leb, ltb, eqb}
use Rattle.bspline.specs.Refusals.{Answer, count, value, refusal}
use Rattle.bspline.specs.Values.{Position}

-- a position off n data: j not below m, or k above n - 1, or k = n - 1 with j above 0
abbrev pub off_data : ℕ → ℕ → Position → Bool
off_data m n p = leb m p.j || ltb (n - 1) p.k || (eqb p.k (n - 1) && ltb 0 p.j)

-- 14 and 15 read as 8
abbrev pub as_one : ℕ → ℕ
as_one k = cond (eqb k 14 || eqb k 15) 8 k

-- an answer so read
abbrev pub undivided : Answer → Answer
undivided (count n) = count n
undivided (value v) = value v
undivided (refusal k) = refusal (as_one k)
