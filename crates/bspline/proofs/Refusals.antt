-- What is known where the test of a refusal fails, and of an outcome that tests decide. Assumes nothing.
use mathlib.Core.Bool.{Bool, true, false, not, ◌||◌, ◌&&◌}
use mathlib.Core.List.{List, [], ◌∷◌, ◌++◌, append-nil}
use mathlib.Core.Path.{◌≡◌, refl, sym, ap, ◌∙◌}
use mathlib.Mathlib.Data.Bool.Basic.{or-eq-false-eq-eq-false-and-eq-false}
use Prim.Native.Nat.{ℕ, ◌-◌, ◌≤◌, ◌<◌}
use native.Mathlib.Omega.{arith}
use borrow.Author.Tests.{ltb-false, leb-false, eqb-true, eqb-false, not-false, ne_eqb, le-ltb}
use lib.Dec.{eqb, ltb}
use Rattle.bspline.specs.Limits.{longest_side}
use Rattle.bspline.specs.PictureLayout.{Shape, packed, area, extent}
use Rattle.bspline.specs.Refusals.{Answer, Test, ◌when◌, outside, bad_sides, bad_pitch, bad_pixels, bad_coefficients, bad_numerator, past_end, judged}
use Rattle.bspline.specs.Values.{Position}

-- a number that is neither 0 nor above a limit
pub one_to : (limit n : ℕ) → outside limit n ≡ false → (0 < n) × (n ≤ limit)
one_to limit n e =
    let both = (or-eq-false-eq-eq-false-and-eq-false (eqb n 0) (ltb limit n)).0 e in
    (omega (arith, eqb-false n 0 both.0), ltb-false limit n both.1)

-- and a number from 1 to the limit is not
pub inside : (limit n : ℕ) → 0 < n → n ≤ limit → outside limit n ≡ false
inside limit n some few = rw (ne_eqb n 0 (λ e. omega arith), le-ltb limit n few)

-- each side of a picture that is not refused for them
pub sides_within : (d : Shape) → bad_sides d ≡ false → ((0 < d.width) × (d.width ≤ longest_side)) × ((0 < d.height) × (d.height ≤ longest_side))
sides_within d e =
    let both = (or-eq-false-eq-eq-false-and-eq-false (outside longest_side d.width) (outside longest_side d.height)).0 e in
    (one_to longest_side d.width both.0, one_to longest_side d.height both.1)

-- pixels that are not refused lie in a slice that holds the picture
pub pixels_held : (d : Shape) (n : ℕ) → bad_pixels d n ≡ false → extent d ≤ n
pixels_held d n e = ltb-false n (extent d) ((or-eq-false-eq-eq-false-and-eq-false (bad_pitch d) (ltb n (extent d))).0 e).1

-- coefficients that are not refused are closely packed, and as many as the picture has
pub coefficients_packed : (d : Shape) (n : ℕ) → bad_coefficients d n ≡ false → (d ≡ packed d) × (n ≡ area d)
coefficients_packed d n e =
    let both = (or-eq-false-eq-eq-false-and-eq-false (not (eqb d.pitch d.width)) (not (eqb n (area d)))).0 e in
    (ap (λ (q : ℕ). record { width = d.width; height = d.height; pitch = q }) (equal d.pitch d.width both.0), equal n (area d) both.1)
  where
    equal : (a b : ℕ) → not (eqb a b) ≡ false → a ≡ b
    equal a b f = eqb-true a b (not-false (eqb a b) f)

-- no test's condition holds
abbrev pub Passed : List Test → Type 0
Passed [] = Unit
Passed ((k when c) ∷ tests) = (c ≡ false) × Passed tests

-- what holds of every refusal, and of the accepted outcome where no condition holds, holds of whichever comes about
pub judged_cases : {A : Type 0} (P : A → Type 0) (tests : List Test) (refuse : ℕ → A) (result : A) →
    ((k : ℕ) → P (refuse k)) → (Passed tests → P result) → P (judged tests refuse result)
judged_cases P [] refuse result f p = p tt
judged_cases P ((k when true) ∷ tests) refuse result f p = f k
judged_cases P ((k when false) ∷ tests) refuse result f p = judged_cases P tests refuse result f (λ q. p (refl, q))

-- whatever is taken of an outcome is taken of each refusal and of the accepted one
pub judged_map : {A B : Type 0} (h : A → B) (tests : List Test) (refuse : ℕ → A) (result : A) →
    h (judged tests refuse result) ≡ judged tests (λ k. h (refuse k)) (h result)
judged_map h [] refuse result = refl
judged_map h ((k when true) ∷ tests) refuse result = refl
judged_map h ((k when false) ∷ tests) refuse result = judged_map h tests refuse result

-- tests none of whose conditions holds leave it to those after them
pub judged_skipped : {A : Type 0} (before tests : List Test) (refuse : ℕ → A) (result : A) →
    Passed before → judged (before ++ tests) refuse result ≡ judged tests refuse result
judged_skipped [] tests refuse result p = refl
judged_skipped ((k when true) ∷ before) tests refuse result p = let z : ◌≡◌ {A = ℕ} 0 1 = cc p.0 in absurd (omega arith)
judged_skipped ((k when false) ∷ before) tests refuse result p = judged_skipped before tests refuse result p.1

-- so where no condition holds the call is accepted
pub judged_passed : {A : Type 0} (tests : List Test) (refuse : ℕ → A) (result : A) → Passed tests → judged tests refuse result ≡ result
judged_passed tests refuse result p = ap (λ l. judged l refuse result) (sym (append-nil tests)) ∙ judged_skipped tests [] refuse result p

-- and the first whose condition holds refuses
pub judged_refused : {A : Type 0} (before : List Test) (k : ℕ) (c : Bool) (tests : List Test) (refuse : ℕ → A) (result : A) →
    Passed before → c ≡ true → judged (before ++ (k when c) ∷ tests) refuse result ≡ refuse k
judged_refused before k c tests refuse result p e =
    judged_skipped before ((k when c) ∷ tests) refuse result p ∙ ap (λ (b : Bool). judged ((k when b) ∷ tests) refuse result) e

-- an outcome whose answer is no refusal is the accepted one, and no condition holds
pub judged_accepted : {A : Type 0} (answer : A → Answer) (tests : List Test) (refuse : ℕ → A) (result o : A) →
    ((k : ℕ) → answer (refuse k) ≡ answer o → ⊥) → o ≡ judged tests refuse result → Passed tests × (o ≡ result)
judged_accepted answer [] refuse result o never e = (tt, e)
judged_accepted answer ((k when true) ∷ tests) refuse result o never e = absurd (never k (ap answer (sym e)))
judged_accepted answer ((k when false) ∷ tests) refuse result o never e =
    let rest = judged_accepted answer tests refuse result o never e in ((refl, rest.0), rest.1)

-- tests that decide alike do so after the same first tests too
pub judged_after : {A : Type 0} (before tests others : List Test) (refuse : ℕ → A) (result : A) →
    judged tests refuse result ≡ judged others refuse result → judged (before ++ tests) refuse result ≡ judged (before ++ others) refuse result
judged_after [] tests others refuse result e = e
judged_after ((k when true) ∷ before) tests others refuse result e = refl
judged_after ((k when false) ∷ before) tests others refuse result e = judged_after before tests others refuse result e

-- two tests of one number, one after the other, are one test
pub judged_joined : {A : Type 0} (k : ℕ) (a b : Bool) (tests : List Test) (refuse : ℕ → A) (result : A) →
    judged ((k when a) ∷ (k when b) ∷ tests) refuse result ≡ judged ((k when (a || b)) ∷ tests) refuse result
judged_joined k true b tests refuse result = refl
judged_joined k false b tests refuse result = refl

-- ---- positions
-- a numerator that is not refused is below the factor
pub numerator_below : (m : ℕ) (p : Position) → bad_numerator m p ≡ false → p.j < m
numerator_below m p e = leb-false m p.j e

-- a place that is not past the end of n data is below n
pub place_inside : (n : ℕ) (p : Position) → 0 < n → past_end n p ≡ false → p.k < n
place_inside n p some e =
    let both = (or-eq-false-eq-eq-false-and-eq-false (ltb (n - 1) p.k) (eqb p.k (n - 1) && ltb 0 p.j)).0 e in
    omega (arith, ltb-false (n - 1) p.k both.0)
