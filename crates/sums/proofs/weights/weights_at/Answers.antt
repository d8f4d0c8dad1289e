-- m, j and m - j are at most 16, and the four weights are the polynomials of the definition, the last two by putting m - j for j.
use Rattle.std.proofs.Common.{[], ◌∷◌, ◌≡◌, ◌≤◌, ℕ, ℤ, pos, ◌+ℤ◌, ◌-ℤ◌, ◌*ℤ◌, refl, ap, ap₂, ◌∙◌, arith, to_z-of_z, lit<, w32}
use borrow.Author.Rules.{sfits_of}
use Rattle.integers.proofs.Linear.{reify, show}
use Rattle.integers.proofs.Ring.{polys, ring}
use Rattle.integers.proofs.Words.{Word, stored, counted}
use Rattle.bspline.specs.Values.{cube}
use Rattle.bspline.proofs.Weights.{weights_products}
use Rattle.sums.proofs.weights.weights_at.Goals as goal

-- the weight on the nearer place, and on the farther one
abbrev inner : ℤ → ℤ → ℤ
inner j m = pos 3 *ℤ cube j -ℤ pos 6 *ℤ (j *ℤ j) *ℤ m +ℤ pos 4 *ℤ cube m

after_is : (m j : ℤ) → inner (m -ℤ j) m ≡ pos 3 *ℤ (j *ℤ j) *ℤ m +ℤ pos 3 *ℤ j *ℤ (m *ℤ m) +ℤ cube m -ℤ pos 3 *ℤ cube j
after_is m j = ring (m ∷ j ∷ []) (simp polys tt) tt

module _ (m j : ℕ) (few : m ≤ 16) (below : j ≤ m) where
  abbrev factor : Word w32
  factor = counted m 16 few (lit< tt)

  abbrev numerator : Word w32
  numerator = counted j 16 (omega arith) (lit< tt)

  abbrev rest : Word w32
  rest =
      stored (factor.operand -ℤ numerator.operand) (factor.value -ℤ numerator.value) 16 (ap₂ ◌-ℤ◌ factor.means numerator.means)
      (show (simp reify tt) (omega arith)) (lit< tt)

pub returns : goal.returns
returns c =
    let a = c.args in
    let m = (factor a.m a.j c.requires.0 c.requires.1).means in
    let j = (numerator a.m a.j c.requires.0 c.requires.1).means in
    let r = (rest a.m a.j c.requires.0 c.requires.1).means in
    let before = to_z-of_z {w = w32} (sfits_of c.cube.type_inv) ∙ c.cube.ensures.0 ∙ ap cube r in
    let here = to_z-of_z {w = w32} (sfits_of c.inner.type_inv) ∙ c.inner.ensures ∙ ap₂ inner j m in
    let after = to_z-of_z {w = w32} (sfits_of c.inner-2.type_inv) ∙ c.inner-2.ensures ∙ ap₂ inner r m in
    let beyond = to_z-of_z {w = w32} (sfits_of c.cube-2.type_inv) ∙ c.cube-2.ensures.0 ∙ ap cube j in
    rw (weights_products a.m a.j)
    (ap₂ ◌∷◌ before (ap₂ ◌∷◌ here (ap₂ ◌∷◌ (after ∙ after_is (pos a.m) (pos a.j)) (ap₂ ◌∷◌ beyond refl))))
