-- Lines filtered one a turn: after i turns the first i of them hold their coefficients, and the others what they held. A turn writes one line
-- only, and no other line has a place on it. Assumes nothing.
use mathlib.Core.List.{List}
use mathlib.Core.Path.{◌≡◌, refl, ap, ◌∙◌}
use Prim.Native.Nat.{ℕ, ◌+◌, ◌*◌, ◌≤◌, ◌<◌, zero-le}
use native.Mathlib.Omega.{arith}
use borrow.Author.Count.{below_more}
use lib.IntN.{ℤ, pos, ◌*ℤ◌}
use lib.ListN.{length}
use Rattle.bspline.specs.Recursions.{coefficients}
use Rattle.bspline.specs.Lists.{at}
use Rattle.bspline.proofs.Lines.{coefficients_length, coefficients_same}
use Rattle.filter.specs.Lines.{Line, Lines, LinesFiltered, loaded_line, scatter}
use Rattle.filter.proofs.Scatter.{scatter_length, scatter_put, scatter_kept}

-- the first i lines are done, and the others left
pub record FirstLines (count between step n : ℕ) (c₀ c : List ℤ) (i : ℕ) : Type 0 where
  pub within : i ≤ count
  pub long : length c ≡ length c₀
  pub done : (j : ℕ) → j < i → (k : ℕ) → k < n → at c (j * between + step * k) ≡ at (coefficients n (loaded_line (j * between) step c₀)) k
  pub left : (j : ℕ) → i ≤ j → j < count → (k : ℕ) → k < n → at c (j * between + step * k) ≡ at c₀ (j * between + step * k)

pub lines_none : (count between step n : ℕ) (c : List ℤ) → FirstLines count between step n c c 0
lines_none count between step n c = record { within = zero-le; long = refl; done = λ j h. absurd (omega arith); left = λ j h g k l. refl }

module _ {count between step n : ℕ} {c₀ c : List ℤ} {i : ℕ}
    (a : Lines count between step n c₀) (v : FirstLines count between step n c₀ c i) (h : i < count) where
  -- the line of the next turn can be filtered
  pub next_line : Line (i * between) step n c
  next_line = record {
    some = a.some;
    short = a.short;
    inside = λ k l. rw v.long (a.inside i k h l);
    small = λ k l. rw (v.left i (omega arith) h k l) (a.small i k h l);
  }

  -- its coefficients, and the buffer with them
  abbrev made : List ℤ
  made = coefficients n (loaded_line (i * between) step c)

  abbrev next : List ℤ
  next = scatter (i * between) step made c

  made_length : length made ≡ n
  made_length = coefficients_length n (loaded_line (i * between) step c)

  -- they are made of what it held at the start
  made_same : made ≡ coefficients n (loaded_line (i * between) step c₀)
  made_same = coefficients_same n _ _ a.some (λ k l. ap (λ (x : ℤ). pos 16 *ℤ x) (v.left i (omega arith) h k l))

  -- on the line stand its coefficients
  put : (k : ℕ) → k < n → at next (i * between + step * k) ≡ at (coefficients n (loaded_line (i * between) step c₀)) k
  put k l = scatter_put (i * between) step made c k a.moves (omega (arith, made_length)) (next_line.inside k l) ∙ ap (λ (C : List ℤ). at C k) made_same

  -- on every other line what stood there
  kept : (j : ℕ) → j < count → (j ≡ i → ⊥) → (k : ℕ) → k < n → at next (j * between + step * k) ≡ at c (j * between + step * k)
  kept j g other k l =
      scatter_kept (i * between) step made c (j * between + step * k) (λ m b e. other (a.apart j i k m g h l (omega (arith, made_length)) e))

  pub lines_more : FirstLines count between step n c₀ next (i + 1)
  lines_more = record {
    within = omega arith;
    long = scatter_length (i * between) step made c ∙ v.long;
    done =
        below_more (λ (j : ℕ). (k : ℕ) → k < n → at next (j * between + step * k) ≡ at (coefficients n (loaded_line (j * between) step c₀)) k) i
        (λ j g k l. kept j (omega arith) (λ e. omega arith) k l ∙ v.done j g k l)
        put;
    left = λ j g b k l. kept j b (λ e. omega arith) k l ∙ v.left j (omega arith) b k l;
  }

pub lines_all : {count between step n : ℕ} {c₀ c : List ℤ} {i : ℕ} → FirstLines count between step n c₀ c i → count ≤ i → LinesFiltered count between step n c₀ c
lines_all v h = record { long = v.long; filtered = λ j k g l. v.done j (omega arith) k l }
