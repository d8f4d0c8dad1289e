-- The comparison principle: the one stability theorem of the 1-4-1 equations ("The mirrored row"), on sizes, which are natural numbers.
-- At n places stand a size a, a bound h that is to be shown of it, and a source g. At each place a is at most h already, or 4a is at most
-- the sum of a at two places and of g, while h leaves room for that: the sum of h at those places and of g is at most 4h.
-- The argument: take a place where a - h is greatest. Were it above 0 there, 4(a - h) would be at most twice it.
-- Which places hold which is not asked, so mirrored neighbours, neighbours in a window and rows of one number are all alike.
-- Assumes nothing.
use mathlib.Core.Logic.{◌⊎◌, inl, inr}
use Prim.Native.Nat.{ℕ, zero, suc, ◌+◌, ◌*◌, ◌≤◌, ◌<◌}
use native.Mathlib.Decide.{dec_le}
use native.Mathlib.Omega.{arith}
use borrow.Author.Count.{below_none, below_more}

module _ (a h : ℕ → ℕ) where
  -- a - h is no greater at i than at k
  abbrev Beneath : ℕ → ℕ → Type 0
  Beneath k i = a i + h k ≤ a k + h i

  -- a place below n at which a - h is greatest
  record Peak (n : ℕ) : Type 0 where
    place : ℕ
    below : place < n
    greatest : (i : ℕ) → i < n → Beneath place i

  -- with one place more, the peak stays or is the new place
  higher : (n : ℕ) (p : Peak n) → Dec (Beneath p.place n) → Peak (suc n)
  higher n p (yes l) = record { place = p.place; below = omega arith; greatest = λ i u. below_more (Beneath p.place) n p.greatest l i (omega arith) }
  higher n p (no l) = record { place = n; below = omega arith; greatest = λ i u. below_more (Beneath n) n (λ i u. omega (arith, p.greatest i u)) (omega arith) i (omega arith) }

  -- there is one, of one place or more
  peak : (n : ℕ) → Peak (suc n)
  peak zero = record { place = 0; below = omega arith; greatest = λ i u. below_more (Beneath 0) 0 (below_none (Beneath 0)) (omega arith) i (omega arith) }
  peak (suc n) = higher (suc n) (peak n) (dec_le (a (suc n) + h (peak n).place) (a (peak n).place + h (suc n)))

-- a at k is held down by a at two places i and j below n and by a source g, and h leaves room for that
pub record Held (n : ℕ) (a h : ℕ → ℕ) (g k : ℕ) : Type 0 where
  pub i : ℕ
  pub j : ℕ
  pub i_below : i < n
  pub j_below : j < n
  pub held : 4 * a k ≤ a i + a j + g
  pub room : h i + h j + g ≤ 4 * h k

-- if a is at most h, or held down, at every place, then it is at most h at every place
pub compare : (n : ℕ) (a h g : ℕ → ℕ) → ((k : ℕ) → k < n → (a k ≤ h k) ⊎ Held n a h (g k) k) → (k : ℕ) → k < n → a k ≤ h k
compare zero a h g f k l = absurd (omega arith)
compare (suc n) a h g f k l = omega (arith, p.greatest k l, top (f p.place p.below))
  where
    p : Peak a h (suc n)
    p = peak a h n

    top : (a p.place ≤ h p.place) ⊎ Held (suc n) a h (g p.place) p.place → a p.place ≤ h p.place
    top (inl l) = l
    top (inr q) = omega (arith, p.greatest q.i q.i_below, p.greatest q.j q.j_below, q.held, q.room)
