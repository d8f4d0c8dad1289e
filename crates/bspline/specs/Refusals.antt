-- What an operation answers, and the conditions on which it refuses: "Who can be refused". Assumes nothing.
use Rattle.std.specs.Prelude.{Bool, true, false, not, ◌&&◌, ◌||◌, List, [], ◌∷◌, ℕ, ◌-◌, leb, ltb, eqb, ℤ, length}
use Rattle.bspline.specs.PictureLayout.{Shape, area, extent}
use Rattle.bspline.specs.Limits.{longest_side, greatest_pitch, greatest_factor, most_enlarged, work_words}
use Rattle.bspline.specs.Values.{Position}

-- An answer: the count of numbers written, or the value, or the refusal by its number
pub data Answer : Type 0 where
  count : ℕ → Answer
  value : ℤ → Answer
  refusal : ℕ → Answer

-- ---- the refusals: a number, and whether its condition holds
infix 60 ◌when◌
pub data Test : Type 0 where
  ◌when◌ : ℕ → Bool → Test

-- a row of length 0
abbrev pub refusal_1 : ℕ → Test
refusal_1 n = 1 when eqb n 0

-- a row longer than the longest
abbrev pub refusal_2 : ℕ → ℕ → Test
refusal_2 longest n = 2 when ltb longest n

-- a number that is 0 or above a limit
abbrev pub outside : ℕ → ℕ → Bool
outside limit n = eqb n 0 || ltb limit n

-- a picture side that is 0 or above 512
abbrev pub bad_sides : Shape → Bool
bad_sides d = outside longest_side d.width || outside longest_side d.height

abbrev pub refusal_3 : Shape → Test
refusal_3 d = 3 when bad_sides d

-- pixels with a pitch below the width or above 4,096
abbrev pub bad_pitch : Shape → Bool
bad_pitch d = ltb d.pitch d.width || ltb greatest_pitch d.pitch

-- or in a list of n that ends before the picture does
abbrev pub bad_pixels : Shape → ℕ → Bool
bad_pixels d n = bad_pitch d || ltb n (extent d)

abbrev pub refusal_4_pixels : Shape → List ℤ → Test
refusal_4_pixels d p = 4 when bad_pixels d (length p)

-- n picture coefficients with a pitch or a count that is not that of the closely packed picture
abbrev pub bad_coefficients : Shape → ℕ → Bool
bad_coefficients d n = not (eqb d.pitch d.width) || not (eqb n (area d))

abbrev pub refusal_4_coefficients : Shape → List ℤ → Test
refusal_4_coefficients d c = 4 when bad_coefficients d (length c)

-- a work slice shorter than n + 40; for a picture n is the longer side
abbrev pub refusal_5 : ℕ → List ℤ → Test
refusal_5 n work = 5 when ltb (length work) (work_words n)

-- a coefficient buffer shorter than the n numbers to be written
abbrev pub refusal_6 : ℕ → List ℤ → Test
refusal_6 n buffer = 6 when ltb (length buffer) n

-- a factor not from 1 to 16
abbrev pub refusal_7 : ℕ → Test
refusal_7 m = 7 when outside greatest_factor m

-- a numerator that is not below the factor
abbrev pub bad_numerator : ℕ → Position → Bool
bad_numerator m p = leb m p.j

abbrev pub refusal_8 : ℕ → Position → Test
refusal_8 m p = 8 when bad_numerator m p

-- a value buffer shorter than the n numbers to be written
abbrev pub refusal_9 : ℕ → List ℤ → Test
refusal_9 n buffer = 9 when ltb (length buffer) n

-- a place past the end of n data: k above n - 1, or k = n - 1 with j above 0
abbrev pub past_end : ℕ → Position → Bool
past_end n p = ltb (n - 1) p.k || (eqb p.k (n - 1) && ltb 0 p.j)

-- a place past the end of a row of n, or past the right edge of a picture n wide
abbrev pub refusal_14 : ℕ → Position → Test
refusal_14 n p = 14 when past_end n p

-- a place past the bottom edge of a picture n high
abbrev pub refusal_15 : ℕ → Position → Test
refusal_15 n p = 15 when past_end n p

-- an enlarged picture of n values, which are more than 1,048,576
abbrev pub refusal_16 : ℕ → Test
refusal_16 n = 16 when ltb most_enlarged n

-- the first test whose condition holds refuses; where none does the call is accepted
abbrev pub judged : {A : Type 0} → List Test → (ℕ → A) → A → A
judged [] refuse result = result
judged ((k when true) ∷ tests) refuse result = refuse k
judged ((k when false) ∷ tests) refuse result = judged tests refuse result
