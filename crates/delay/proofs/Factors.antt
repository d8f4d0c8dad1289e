-- The five factors that are taken: each is a power of two and divides 16. Assumes nothing.
use mathlib.Core.Bool.{Bool, true, false, ◌||◌}
use mathlib.Core.Path.{◌≡◌, refl}
use Prim.Native.Nat.{ℕ, ◌*◌, ◌^◌, ◌≤◌, ◌<◌}
use borrow.Author.Tests.{eqb-true}
use lib.Dec.{eqb, lit<, lit≤}
use Rattle.delay.specs.Outcomes.{exact_factor}

pub record Dyadic (m : ℕ) : Type 0 where
  pub exponent : ℕ
  pub power : m ≡ 2 ^ exponent
  pub parts : ℕ
  pub sixteen : 16 ≡ parts * m
  pub few : parts ≤ 16
  pub positive : 0 < m

dyadic : (m n j k : ℕ) → n ≡ 2 ^ j → 16 ≡ k * n → k ≤ 16 → 0 < n → eqb m n ≡ true → Dyadic m
dyadic m n j k p s f h e =
    rw (eqb-true m n e) (record { exponent = j; power = p; parts = k; sixteen = s; few = f; positive = h })

either : {A : Type 0} (a b : Bool) → (a ≡ true → A) → (b ≡ true → A) → a || b ≡ true → A
either true b left right h = left refl
either false b left right h = right h

pub factor_dyadic : (m : ℕ) → exact_factor m ≡ true → Dyadic m
factor_dyadic m =
    either (eqb m 1 || eqb m 2 || eqb m 4 || eqb m 8) (eqb m 16)
    (either (eqb m 1 || eqb m 2 || eqb m 4) (eqb m 8)
    (either (eqb m 1 || eqb m 2) (eqb m 4)
    (either (eqb m 1) (eqb m 2) (dyadic m 1 0 16 refl refl (lit≤ tt) (lit< tt)) (dyadic m 2 1 8 refl refl (lit≤ tt) (lit< tt)))
    (dyadic m 4 2 4 refl refl (lit≤ tt) (lit< tt)))
    (dyadic m 8 3 2 refl refl (lit≤ tt) (lit< tt)))
    (dyadic m 16 4 1 refl refl (lit≤ tt) (lit< tt))
