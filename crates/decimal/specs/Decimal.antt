-- Numbers as decimal text: "The program rowzoom". Assumes nothing.
use Rattle.std.specs.Prelude.{cond, List, [], ◌∷◌, ◌++◌, ℕ, zero, suc, ◌+◌, ◌/◌, ◌%◌, ◌^◌, ltb, ℤ, pos, negsuc}

-- how many digits a number below 10^(k + 1) has
abbrev pub places_up_to : ℕ → ℕ → ℕ
places_up_to zero n = 1
places_up_to (suc k) n = cond (ltb n (10 ^ suc k)) (places_up_to k n) (suc (suc k))

-- how many digits a number below 10^10 has, as every 32-bit number
abbrev pub places : ℕ → ℕ
places n = places_up_to 9 n

-- the last k digits of a number, the most significant first
abbrev pub last_digits : ℕ → ℕ → List ℕ
last_digits zero n = []
last_digits (suc k) n = last_digits k (n / 10) ++ ((48 + n % 10) ∷ [])

-- a number from 0 up, without leading zeros
unfoldable pub decimal : ℕ → List ℕ
decimal n = last_digits (places n) n

-- a number with its sign: a minus before it if it is negative
unfoldable pub signed_decimal : ℤ → List ℕ
signed_decimal (pos n) = decimal n
signed_decimal (negsuc n) = 45 ∷ decimal (suc n)

-- a number and the byte that ends its field: 32, a space, or 10, a line feed
abbrev pub field : ℕ → ℕ → List ℕ
field n end = decimal n ++ (end ∷ [])

-- the same with its sign
abbrev pub signed_field : ℤ → ℕ → List ℕ
signed_field v end = signed_decimal v ++ (end ∷ [])
