-- Parts of a file, byte by byte, and the numbers that they are. Assumes nothing.
use mathlib.Core.Bool.{Bool, true, false, ◌&&◌, and-true, and-false}
use mathlib.Core.List.{List, [], ◌∷◌}
use mathlib.Core.Path.{◌≡◌, refl, sym, ap, ◌∙◌}
use Prim.Native.Nat.{ℕ, zero, suc, ◌+◌, ◌*◌, ◌≤◌, ◌<◌}
use native.Mathlib.Numerals.{add-one}
use native.Mathlib.Omega.{arith}
use borrow.Author.Tests.{eqb-true, eqb-false, eq-eqb, ne_eqb}
use lib.Dec.{eqb}
use lib.ListN.{length, get_or, take, drop, length-take, length-drop}
use lib.Seq.{drop-cons, drop-drop, take-take}
use Rattle.wavefile.specs.Bytes.{part, little, number, same, wave_mark}
use Rattle.wavefile.specs.Chunks.{headed, size, body}

-- a part by its first byte
part_cons : (at n : ℕ) (l : List ℕ) → at < length l → part at (suc n) l ≡ get_or l at 0 ∷ part (suc at) n l
part_cons at n l h = ap (take (suc n)) (drop-cons l at 0 h)

pub two_bytes : (at : ℕ) (l : List ℕ) → at + 2 ≤ length l → part at 2 l ≡ get_or l at 0 ∷ get_or l (at + 1) 0 ∷ []
two_bytes at l h = rw (add-one, part_cons at 1 l (omega arith), part_cons (suc at) 0 l (omega arith))

pub four_bytes : (at : ℕ) (l : List ℕ) → at + 4 ≤ length l
    → part at 4 l ≡ get_or l at 0 ∷ get_or l (at + 1) 0 ∷ get_or l (at + 2) 0 ∷ get_or l (at + 3) 0 ∷ []
four_bytes at l h =
    let second : at + 1 ≡ suc at = omega arith in
    let third : at + 2 ≡ suc (suc at) = omega arith in
    let fourth : at + 3 ≡ suc (suc at) + 1 = omega arith in
    rw (second, third, fourth, part_cons at 3 l (omega arith), part_cons (suc at) 2 l (omega arith), two_bytes (suc (suc at)) l (omega arith))

-- four bytes are two low and two high ones
pub number_halves : (at : ℕ) (l : List ℕ) → at + 4 ≤ length l → number at 4 l ≡ number at 2 l + 65536 * number (at + 2) 2 l
number_halves at l h =
    let last : at + 3 ≡ at + 2 + 1 = omega arith in
    rw (four_bytes at l h, last, two_bytes at l (omega arith), two_bytes (at + 2) l (omega arith)) (omega arith)

-- ---- names, compared as numbers
-- two numbers are the same if their lowest bytes are and what is above these
digit_test : (a x b y : ℕ) → a < 256 → b < 256 → eqb (a + 256 * x) (b + 256 * y) ≡ (eqb a b && eqb x y)
digit_test a x b y h k = by_tests (eqb a b) (eqb x y) refl refl
  where
    by_tests : (s t : Bool) → eqb a b ≡ s → eqb x y ≡ t → eqb (a + 256 * x) (b + 256 * y) ≡ (s && t)
    by_tests true true e f = eq-eqb (a + 256 * x) (b + 256 * y) (omega (arith, eqb-true a b e, eqb-true x y f))
    by_tests true false e f = ne_eqb (a + 256 * x) (b + 256 * y) (λ q. eqb-false x y f (omega (arith, eqb-true a b e)))
    by_tests false t e f = ne_eqb (a + 256 * x) (b + 256 * y) (λ q. eqb-false a b e (omega arith))

-- four bytes are the same if their numbers are
pub name_test : (at : ℕ) (l : List ℕ) (a b c d : ℕ) → at + 4 ≤ length l → ((i : ℕ) → get_or l i 0 < 256) → a < 256 → b < 256 → c < 256 →
    eqb (number at 4 l) (a + 256 * b + 65536 * c + 16777216 * d) ≡ same (part at 4 l) (a ∷ b ∷ c ∷ d ∷ [])
name_test at l a b c d h bytes ha hb hc =
    let p = get_or l at 0 in
    let q = get_or l (at + 1) 0 in
    let r = get_or l (at + 2) 0 in
    let s = get_or l (at + 3) 0 in
    let low : p + 256 * (q + 256 * (r + 256 * (s + 256 * 0))) ≡ p + 256 * (q + 256 * (r + 256 * s)) = omega arith in
    let name : a + 256 * b + 65536 * c + 16777216 * d ≡ a + 256 * (b + 256 * (c + 256 * d)) = omega arith in
    rw (four_bytes at l h, low, name)
    (digit_test p (q + 256 * (r + 256 * s)) a (b + 256 * (c + 256 * d)) (bytes at) ha
    ∙ ap (λ t. eqb p a && t)
    (digit_test q (r + 256 * s) b (c + 256 * d) (bytes (at + 1)) hb
    ∙ ap (λ t. eqb q b && t) (digit_test r s c d (bytes (at + 2)) hc ∙ ap (λ t. eqb r c && t) (sym (and-true (eqb s d))))))

-- ---- parts of parts
-- a part of what is left after some bytes
pub part_of_drop : (at k n : ℕ) (l : List ℕ) → part k n (drop at l) ≡ part (at + k) n l
part_of_drop at k n l = ap (take n) (drop-drop k at l)

-- a part of a part
pub take_drop_take : (k n m : ℕ) (l : List ℕ) → k + n ≤ m → take n (drop k (take m l)) ≡ take n (drop k l)
take_drop_take zero n m l h = take-take n m l (omega arith)
take_drop_take (suc k) n zero l h = absurd (omega arith)
take_drop_take (suc k) n (suc m) [] h = refl
take_drop_take (suc k) n (suc m) (b ∷ l) h = take_drop_take k n m l (omega arith)

pub part_of_part : (at m k n : ℕ) (l : List ℕ) → k + n ≤ m → part k n (part at m l) ≡ part (at + k) n l
part_of_part at m k n l h = take_drop_take k n m (drop at l) h ∙ part_of_drop at k n l

-- a number in the body of a chunk at a place
pub body_field : (at k n : ℕ) (l : List ℕ) → k + n ≤ size (drop at l) → number k n (body (drop at l)) ≡ number (at + (8 + k)) n l
body_field at k n l h = ap little (part_of_part 8 (size (drop at l)) k n (drop at l) h ∙ part_of_drop at (8 + k) n l)

-- a list that is shorter than another has other bytes
pub same_short : (l m : List ℕ) → length l < length m → same l m ≡ false
same_short [] [] h = absurd (omega arith)
same_short [] (b ∷ m) h = refl
same_short (a ∷ l) [] h = absurd (omega arith)
same_short (a ∷ l) (b ∷ m) h = rw (same_short l m (omega arith), and-false)

-- a file of less than 12 bytes has no second mark
pub short_not_headed : (l : List ℕ) → length l < 12 → headed l ≡ false
short_not_headed l h =
    let no-mark : same (part 8 4 l) wave_mark ≡ false = same_short (part 8 4 l) wave_mark (rw (length-take, length-drop) (omega arith)) in
    rw (no-mark, and-false)
