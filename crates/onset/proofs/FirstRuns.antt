-- The first run of the definition is the first by its places, and there is none where no run starts. Assumes nothing.
use mathlib.Core.Bool.{Bool, true, false, cond, and-eq-true_iff}
use mathlib.Core.List.{List, [], ◌∷◌}
use mathlib.Core.Option.{Option, none, some, map}
use mathlib.Core.Path.{◌≡◌, refl, sym, ap, subst}
use Prim.Native.Nat.{ℕ, zero, suc, ◌≤◌, ◌<◌}
use native.Mathlib.Nat.{le_antisymm, le_of_suc-le-suc, lt_of_not-le}
use native.Mathlib.Omega.{arith}
use lib.IntN.{ℤ, pos}
use lib.ListN.{length, drop, length-drop}
use lib.Seq.{get_or-drop}
use lib.Signed.{le_z, ◌≤ℤ◌}
use Rattle.integers.proofs.Linear.{reify, read, show}
use Rattle.bspline.specs.Lists.{at}
use Rattle.onset.specs.Runs.{run_length, reached, first_run, Run, FirstRun, NoRun}

-- ---- the values that a list begins with, by their places
abbrev Begins : ℤ → ℕ → List ℤ → Type 0
Begins t n l = (n ≤ length l) × ((i : ℕ) → i < n → t ≤ℤ at l i)

begins_more : (t v : ℤ) (n : ℕ) (l : List ℤ) → le_z t v ≡ true → Begins t n l → Begins t (suc n) (v ∷ l)
begins_more t v n l e b = (omega (arith, b.0), each)
  where
    each : (i : ℕ) → i < suc n → t ≤ℤ at (v ∷ l) i
    each zero h = show (simp reify tt) (omega (arith, read e (simp reify tt)))
    each (suc i) h = b.1 i (omega arith)

begins : (t : ℤ) (n : ℕ) (l : List ℤ) → reached t n l ≡ true → Begins t n l
unfolding reached
begins t zero l e = (omega arith, λ i h. absurd (omega arith))
begins t (suc n) [] e = let z : ◌≡◌ {A = ℕ} 0 1 = cc in absurd (omega arith)
begins t (suc n) (v ∷ l) e =
    let both = (and-eq-true_iff (le_z t v) (reached t n l)).0 e in
    begins_more t v n l both.0 (begins t n l both.1)

begun : (t : ℤ) (n : ℕ) (l : List ℤ) → Begins t n l → reached t n l ≡ true
unfolding reached
begun t zero l b = refl
begun t (suc n) [] b = absurd (omega arith)
begun t (suc n) (v ∷ l) b =
    let f : t ≤ℤ v = b.1 0 (omega arith) in
    (and-eq-true_iff (le_z t v) (reached t n l)).1
    (show (simp reify tt) (omega (arith, read f (simp reify tt))), begun t n l (omega arith, λ i k. b.1 (suc i) (omega arith)))

-- ---- whether a run starts at a place
abbrev starts : ℤ → List ℤ → ℕ → Bool
starts t l p = reached t run_length (drop p l)

starts_run : (t : ℤ) (l : List ℤ) (p : ℕ) → starts t l p ≡ true → Run t l p
starts_run t l p e =
    let b = begins t run_length (drop p l) e in
    record { inside = omega (arith, b.0, length-drop p l); reach = λ i h. subst (λ (v : ℤ). t ≤ℤ v) (get_or-drop p l i (pos 0)) (b.1 i h) }

run_starts : (t : ℤ) (l : List ℤ) (p : ℕ) → Run t l p → starts t l p ≡ true
run_starts t l p r =
    begun t run_length (drop p l)
    (omega (arith, r.inside, length-drop p l), λ i h. subst (λ (v : ℤ). t ≤ℤ v) (sym (get_or-drop p l i (pos 0))) (r.reach i h))

-- ---- the search
abbrev Searched : ℤ → List ℤ → Option ℕ → Type 0
Searched t l (some p) = (starts t l p ≡ true) × ((q : ℕ) → q < p → starts t l q ≡ false)
Searched t l none = (p : ℕ) → starts t l p ≡ false

searched_more : (t v : ℤ) (l : List ℤ) (b : Bool) → starts t (v ∷ l) 0 ≡ b → (o : Option ℕ) → Searched t l o →
    Searched t (v ∷ l) (cond b (some 0) (map suc o))
searched_more t v l true e o s = (e, λ q h. absurd (omega arith))
searched_more t v l false e (some p) s = (s.0, before)
  where
    before : (q : ℕ) → q < suc p → starts t (v ∷ l) q ≡ false
    before zero h = e
    before (suc q) h = s.1 q (omega arith)
searched_more t v l false e none s = nowhere
  where
    nowhere : (p : ℕ) → starts t (v ∷ l) p ≡ false
    nowhere zero = e
    nowhere (suc p) = s p

nothing_starts : (t : ℤ) (p : ℕ) → starts t [] p ≡ false
unfolding reached
nothing_starts t zero = refl
nothing_starts t (suc p) = refl

searched : (t : ℤ) (l : List ℤ) → Searched t l (first_run t l)
unfolding first_run
searched t [] = nothing_starts t
searched t (v ∷ l) = searched_more t v l (starts t (v ∷ l) 0) refl (first_run t l) (searched t l)

-- ---- what is found, by the places
never : (t : ℤ) (l : List ℤ) (p : ℕ) → starts t l p ≡ false → Run t l p → ⊥
never t l p e r = let f = run_starts t l p r in let z : ◌≡◌ {A = ℕ} 0 1 = cc in omega arith

abbrev Found : ℤ → List ℤ → Option ℕ → Type 0
Found t l (some p) = FirstRun t l p
Found t l none = NoRun t l

found_by : (t : ℤ) (l : List ℤ) (o : Option ℕ) → Searched t l o → Found t l o
found_by t l (some p) s = record { run = starts_run t l p s.0; none_before = λ q h. never t l q (s.1 q h) }
found_by t l none s = record { nowhere = λ p. never t l p (s p) }

found : (t : ℤ) (l : List ℤ) → Found t l (first_run t l)
found t l = found_by t l (first_run t l) (searched t l)

-- the place of the definition is that of the first run
pub first_run_lem : (t : ℤ) (l : List ℤ) (p : ℕ) → first_run t l ≡ some p → FirstRun t l p
first_run_lem t l p e = subst (Found t l) e (found t l)

-- where the definition has no place, no run starts
pub no_run : (t : ℤ) (l : List ℤ) → first_run t l ≡ none → NoRun t l
no_run t l e = subst (Found t l) e (found t l)

-- ---- what is found, from the places: one at most is the first
first_only : (t : ℤ) (l : List ℤ) (p : ℕ) → FirstRun t l p → (o : Option ℕ) → Found t l o → o ≡ some p
first_only t l p f (some q) g =
    ap some
    (le_antisymm (le_of_suc-le-suc (lt_of_not-le (λ (h : p < q). g.none_before p h f.run))) (le_of_suc-le-suc (lt_of_not-le (λ (h : q < p). f.none_before q h g.run))))
first_only t l p f none g = absurd (g.nowhere p f.run)

-- where a first run starts, that is the place of the definition
pub run_first : (t : ℤ) (l : List ℤ) (p : ℕ) → FirstRun t l p → first_run t l ≡ some p
run_first t l p f = first_only t l p f (first_run t l) (found t l)

none_only : (t : ℤ) (l : List ℤ) → NoRun t l → (o : Option ℕ) → Found t l o → o ≡ none
none_only t l f (some q) g = absurd (f.nowhere q g.run)
none_only t l f none g = refl

-- where no run starts, the definition has no place
pub run_none : (t : ℤ) (l : List ℤ) → NoRun t l → first_run t l ≡ none
run_none t l f = none_only t l f (first_run t l) (found t l)
