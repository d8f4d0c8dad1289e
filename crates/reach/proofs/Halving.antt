-- Numbers of a row whose 1-4-1 sums are 0 but at one place i: at a place k they are at most a third of the sum at i, over 2^|k - i|. By the comparison
-- principle, with a bound that halves from place to place, times a power of two that keeps it whole. At i the neighbours have half the bound, which
-- leaves room for the sum there. At any other place a neighbour, be it a mirrored one, has at most twice the bound, and twice twice is four times; so
-- the ends of a row are no cases. Only a row of one number is: its neighbours are itself. Assumes nothing.
use mathlib.Core.Logic.{◌⊎◌, inl, inr}
use mathlib.Core.Path.{◌≡◌, sym, ap, ◌∙◌}
use Prim.Native.Nat.{ℕ, suc, ◌+◌, ◌-◌, ◌*◌, ◌^◌, ◌≤◌, ◌<◌}
use native.Mathlib.Decide.{ℕ_discrete}
use native.Mathlib.Nat.{mul-le-mul_left, le_of_mul-le-mul_left, two-pow-succ}
use native.Mathlib.Omega.{arith}
use lib.IntN.{ℤ, pos, nat_abs, ◌+ℤ◌, ◌-ℤ◌, ◌*ℤ◌}
use lib.Pow.{pow_pos, pow_mono}
use Rattle.integers.proofs.Absolute.{abs_mul}
use Rattle.integers.proofs.Linear.{reify, show}
use Rattle.integers.proofs.Powers.{pow_split}
use Rattle.bspline.specs.Exact.{tridiagonal}
use Rattle.bspline.specs.Mirror.{mirror}
use Rattle.bspline.proofs.Comparison.{Held, compare}
use Rattle.bspline.proofs.Mirror.{mirror_one, Neighbours, mirror_before, mirror_after}
use Rattle.bspline.proofs.Stability.{tridiagonal_at, held_at}
use Rattle.reach.specs.Reach.{apart}
use Rattle.reach.proofs.Places.{apart_is, apart_next}

-- ---- 2^N, halved for each place from i to k
halved : ℕ → ℕ → ℕ → ℕ
halved N i k = 2 ^ (N - apart k i)

-- it is 2^N at i
halved_own : (N i : ℕ) → halved N i i ≡ 2 ^ N
unfolding halved
halved_own N i = ap (λ e. 2 ^ e) (omega (arith, apart_is i i))

-- half of that beside i
halved_beside : (N i l : ℕ) → 0 < N → Neighbours i l → halved N i l + halved N i l ≡ 2 ^ N
unfolding halved
halved_beside N i l some b =
    let e : N - apart l i ≡ N - 1 = omega (arith, apart_is l i) in
    let f : suc (N - 1) ≡ N = omega arith in
    rw e (sym (two-pow-succ (N - 1)) ∙ ap (λ e. 2 ^ e) f)

-- at a neighbour of any place at most twice as great
halved_next : (N i k l : ℕ) → Neighbours k l → halved N i l ≤ 2 * halved N i k
unfolding halved
halved_next N i k l b =
    let e : N - apart l i ≤ suc (N - apart k i) = omega (arith, apart_next i k l b) in
    omega (arith, pow_mono e, two-pow-succ (N - apart k i))

-- the sum in a row of one number is six times the number
six_fold : (n : ℕ) (x : ℕ → ℤ) (k : ℕ) → n ≡ 1 → k < n → nat_abs (tridiagonal n x (pos k)) ≡ 6 * nat_abs (x k)
six_fold n x k e l =
    let own : (z : ℤ) → mirror n z ≡ k = λ z. omega (arith, mirror_one n z e) in
    ap nat_abs (tridiagonal_at n x (pos k) k k k (own _) (own _) (own _) ∙ added (x k)) ∙ abs_mul (pos 6) (x k)
  where
    added : (y : ℤ) → y +ℤ pos 4 *ℤ y +ℤ y ≡ pos 6 *ℤ y
    added y = show (simp reify tt) (omega arith)

-- ---- the law: u times the 1-4-1 sum is 0 but at i, and at most g there
module _ (n u : ℕ) (x : ℕ → ℤ) (i g : ℕ)
    (flat : (k : ℕ) → k < n → (k ≡ i → ⊥) → u * nat_abs (tridiagonal n x (pos k)) ≡ 0)
    (source : i < n → u * nat_abs (tridiagonal n x (pos i)) ≤ g) where
  -- no place of the row is further from i
  abbrev N : ℕ
  N = n + i

  -- what is multiplied by each number, and by each sum
  abbrev v : ℕ
  v = 3 * 2 ^ N * u

  bound : ℕ → ℕ
  bound k = g * halved N i k

  -- in a row of one number the sum is six times the number, so that the bound is reached by half, or the number is 0
  single_there : n ≡ 1 → i < n → v * nat_abs (x i) ≤ bound i
  unfolding bound
  single_there e l = omega (
    arith,
    ap (λ z. 2 ^ N * (u * z)) (six_fold n x i e l),
    mul-le-mul_left (2 ^ N) (source l),
    ap (λ z. g * z) (halved_own N i),
  )

  single_elsewhere : (k : ℕ) → n ≡ 1 → k < n → (k ≡ i → ⊥) → v * nat_abs (x k) ≤ bound k
  single_elsewhere k e l other = omega (arith, ap (λ z. 2 ^ N * (u * z)) (six_fold n x k e l), ap (λ z. 2 ^ N * z) (flat k l other))

  -- in a longer one the bound leaves room at i for the sum there
  room_there : 1 < n → i < n → bound (mirror n (pos i -ℤ pos 1)) + bound (mirror n (pos i +ℤ pos 1)) + v * nat_abs (tridiagonal n x (pos i)) ≤ 4 * bound i
  unfolding bound
  room_there some l = omega (
    arith,
    ap (λ z. g * z) (halved_own N i),
    ap (λ z. g * z) (halved_beside N i _ (omega arith) (mirror_before n i some l)),
    ap (λ z. g * z) (halved_beside N i _ (omega arith) (mirror_after n i some l)),
    mul-le-mul_left (2 ^ N) (source l),
  )

  -- and at the other places, whose sums are 0
  room_elsewhere : (k : ℕ) → 1 < n → k < n → (k ≡ i → ⊥) →
      bound (mirror n (pos k -ℤ pos 1)) + bound (mirror n (pos k +ℤ pos 1)) + v * nat_abs (tridiagonal n x (pos k)) ≤ 4 * bound k
  unfolding bound
  room_elsewhere k some l other = omega (
    arith,
    mul-le-mul_left g (halved_next N i k _ (mirror_before n k some l)),
    mul-le-mul_left g (halved_next N i k _ (mirror_after n k some l)),
    ap (λ z. 2 ^ N * z) (flat k l other),
  )

  -- at every place the number is at most a third of g / u, over 2^|k - i|
  pub falls_off : (k : ℕ) → k < n → 3 * (2 ^ apart k i * (u * nat_abs (x k))) ≤ g
  unfolding bound halved
  falls_off k l = le_of_mul-le-mul_left {k = halved N i k} (omega (
    arith,
    compare n (λ k. v * nat_abs (x k)) bound (λ k. v * nat_abs (tridiagonal n x (pos k))) each k l,
    ap (λ z. z * (u * nat_abs (x k))) (pow_split (apart k i) N (omega (arith, apart_is k i))),
  )) (pow_pos (N - apart k i))
    where
      at : (k : ℕ) → k < n → Dec (n ≡ 1) → Dec (k ≡ i) →
          (v * nat_abs (x k) ≤ bound k) ⊎ Held n (λ k. v * nat_abs (x k)) bound (v * nat_abs (tridiagonal n x (pos k))) k
      at k l (yes e) (yes d) = inl (rw d (single_there e (omega arith)))
      at k l (yes e) (no d) = inl (single_elsewhere k e l d)
      at k l (no e) (yes d) = inr (held_at n v x bound k l (rw d (room_there (omega arith) (omega arith))))
      at k l (no e) (no d) = inr (held_at n v x bound k l (room_elsewhere k (omega arith) l d))

      each : (k : ℕ) → k < n → (v * nat_abs (x k) ≤ bound k) ⊎ Held n (λ k. v * nat_abs (x k)) bound (v * nat_abs (tridiagonal n x (pos k))) k
      each k l = at k l (ℕ_discrete n 1) (ℕ_discrete k i)
