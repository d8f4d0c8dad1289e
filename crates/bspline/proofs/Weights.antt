-- The four weights of "Values between samples", and the weighted sums of a row and of a picture. For j ≤ m the weights are natural numbers, which
-- add up to 6m³. So a weighted sum of numbers within B is within 6m³ × B (`weighted_within`), and the weighted sums of two rows that differ by at
-- most B differ by at most 6m³ × B. A picture's sum is the sum along a column of sums along rows, so there the factor is 6m³ × 6m³ = 36m⁶.
-- At a sample, j = 0, a row's sum is m³ times the 1-4-1 sum. Assumes nothing.
use mathlib.Core.List.{List, [], ◌∷◌, ◌++◌, map, foldr, append-nil}
use mathlib.Core.Path.{◌≡◌, refl, sym, ap, ap₂, subst, fun_ext, ◌∙◌}
use Prim.Native.Nat.{ℕ, zero, suc, ◌+◌, ◌-◌, ◌*◌, ◌^◌, ◌≤◌, ◌<◌}
use native.Mathlib.Nat.{add-zero, pow-zero, pow-suc, mul-le-mul, mul-le-mul_left, add-sub_of_le}
use native.Mathlib.Omega.{arith}
use lib.IntN.{ℤ, pos, neg_ℤ, nat_abs, ◌+ℤ◌, ◌-ℤ◌, ◌*ℤ◌, +ℤ_idl, +ℤ_idr, +ℤ_assoc, *ℤ-zero}
use lib.ListN.{length, length-map}
use Rattle.integers.specs.Rounding.{round}
use Rattle.integers.proofs.Absolute.{abs_add, abs_mul, abs_zero}
use Rattle.integers.proofs.Laws.{diff_zero, zero_diff}
use Rattle.integers.proofs.Linear.{reify, show}
use Rattle.integers.proofs.Ring.{polys, ring}
use Rattle.bspline.specs.Bounds.{AllWithin, sizes}
use Rattle.bspline.specs.Exact.{tridiagonal}
use Rattle.bspline.specs.Limits.{greatest_factor}
use Rattle.bspline.specs.Mirror.{mirror}
use Rattle.bspline.specs.PictureLayout.{Shape}
use Rattle.bspline.specs.Lists.{tabulate, at}
use Rattle.bspline.specs.Values.{Position, cube, weights, support, dot, products, block, row_sum, picture_sum, value_in_row}
use Rattle.bspline.proofs.Bounds.{rest_within}
use Rattle.bspline.proofs.Mirror.{mirror_below}

-- ---- powers
-- a square as a product, which `omega` reads
pub squared : (a : ℕ) → a ^ 2 ≡ a * a
squared a = simp (pow-suc a 1, pow-suc a 0, pow-zero a) (omega arith)

-- a cube as a product
pub cubed : (a : ℕ) → a ^ 3 ≡ a * a * a
cubed a = pow-suc a 2 ∙ ap (λ b. b * a) (squared a)

-- a sixth power as the product of two cubes
pub sixth : (a : ℕ) → a ^ 6 ≡ a ^ 3 * a ^ 3
sixth a = simp (pow-suc a 5, pow-suc a 4, pow-suc a 3) (simp cubed (omega arith))

-- ---- the weights
-- the weights of j / m as natural numbers, by j and d = m - j
abbrev pub natural_weights : ℕ → ℕ → List ℕ
natural_weights j d =
    d ^ 3
    ∷ (4 * d ^ 3 + 12 * d ^ 2 * j + 6 * d * j ^ 2 + j ^ 3)
    ∷ (d ^ 3 + 6 * d ^ 2 * j + 12 * d * j ^ 2 + 4 * j ^ 3)
    ∷ j ^ 3
    ∷ []

-- the sum of the numbers of a list
abbrev pub total : List ℕ → ℕ
total = foldr ◌+◌ 0

-- no weight is negative: they are these natural numbers, as multiplying out with m = j + d shows
pub weights_natural : (m j : ℕ) → j ≤ m → weights m j ≡ map pos (natural_weights j (m - j))
unfolding weights
weights_natural m j l = subst (λ m'. weights m' j ≡ map pos (natural_weights j (m - j))) (add-sub_of_le l) (expanded (m - j))
  where
    -- the first three weights of m = j + d, multiplied out; the fourth is j³ by definition
    first : (d : ℕ) → cube (pos (j + d) -ℤ pos j) ≡ pos (d ^ 3)
    first d = simp cubed (show (simp reify tt) (omega arith))

    second : (d : ℕ) → pos (3 * j ^ 3) -ℤ pos (6 * j ^ 2 * (j + d)) +ℤ pos (4 * (j + d) ^ 3) ≡ pos (4 * d ^ 3 + 12 * d ^ 2 * j + 6 * d * j ^ 2 + j ^ 3)
    second d = simp (squared, cubed) (show (simp reify tt) (omega arith))

    third : (d : ℕ) →
        pos (3 * j ^ 2 * (j + d) + 3 * j * (j + d) ^ 2 + (j + d) ^ 3) -ℤ pos (3 * j ^ 3) ≡ pos (d ^ 3 + 6 * d ^ 2 * j + 12 * d * j ^ 2 + 4 * j ^ 3)
    third d = simp (squared, cubed) (show (simp reify tt) (omega arith))

    expanded : (d : ℕ) → weights (j + d) j ≡ map pos (natural_weights j d)
    expanded d = ap₂ ◌∷◌ (first d) (ap₂ ◌∷◌ (second d) (ap₂ ◌∷◌ (third d) refl))

-- they add up to 6m³
pub weights_total : (m j : ℕ) → j ≤ m → total (natural_weights j (m - j)) ≡ 6 * m ^ 3
weights_total m j l = added (m - j) ∙ ap (λ m. 6 * m ^ 3) (add-sub_of_le l)
  where
    added : (d : ℕ) → total (natural_weights j d) ≡ 6 * (j + d) ^ 3
    added d = simp (squared, cubed) (omega arith)

-- ---- the weights as polynomials of integers
-- the weights, with products for powers
abbrev pub weights_of : ℤ → ℤ → List ℤ
weights_of m j =
    cube (m -ℤ j)
    ∷ (pos 3 *ℤ cube j -ℤ pos 6 *ℤ (j *ℤ j) *ℤ m +ℤ pos 4 *ℤ cube m)
    ∷ (pos 3 *ℤ (j *ℤ j) *ℤ m +ℤ pos 3 *ℤ j *ℤ (m *ℤ m) +ℤ cube m -ℤ pos 3 *ℤ cube j)
    ∷ cube j
    ∷ []

pub weights_products : (m j : ℕ) → weights m j ≡ weights_of (pos m) (pos j)
unfolding weights
weights_products m j = simp (squared, cubed) refl

-- ---- the size of a weighted sum of any four numbers
-- natural numbers are their own sizes
sizes_natural : (u : List ℕ) → sizes (map pos u) ≡ total u
sizes_natural [] = refl
sizes_natural (n ∷ u) = ap (λ s. n + s) (sizes_natural u)

-- the weights' sizes add up to 6m³
pub weights_sizes : (m j : ℕ) → j ≤ m → sizes (weights m j) ≡ 6 * m ^ 3
weights_sizes m j h = ap sizes (weights_natural m j h) ∙ sizes_natural (natural_weights j (m - j)) ∙ weights_total m j h

-- 24,576 is the total at factor 16
pub weights_light : (m j : ℕ) {w : List ℤ} → w ≡ weights m j → m ≤ greatest_factor → j ≤ m → sizes w ≤ 24576
weights_light m j e l h = rw e (omega (arith, weights_sizes m j h, cubed m, mul-le-mul (mul-le-mul l l) l))

-- a sum is at most as great as the weights' sizes times the greatest number
pub dot_size : (w c : List ℤ) (B : ℕ) → AllWithin B c → nat_abs (dot w c) ≤ sizes w * B
dot_size [] c B h = omega arith
dot_size (a ∷ w) [] B h = omega arith
dot_size (a ∷ w) (b ∷ c) B h =
    omega (arith, abs_add (a *ℤ b) (dot w c), abs_mul a b, mul-le-mul_left (nat_abs a) (h.within 0), dot_size w c B (rest_within h))

pub weighted_within : (m j B : ℕ) (l : List ℤ) → j ≤ m → AllWithin B l → nat_abs (dot (weights m j) l) ≤ 6 * m ^ 3 * B
weighted_within m j B l h g = rw (sym (weights_sizes m j h)) (dot_size (weights m j) l B g)

-- ---- the four numbers that are weighted, by their indices k - 1 to k + 2
pub support_is : (n k : ℕ) (f : ℕ → ℤ) {a b c d : ℤ} →
    a ≡ f (mirror n (pos k -ℤ pos 1)) → b ≡ f (mirror n (pos (k + 1) -ℤ pos 1)) →
    c ≡ f (mirror n (pos (k + 2) -ℤ pos 1)) → d ≡ f (mirror n (pos (k + 3) -ℤ pos 1)) → a ∷ b ∷ c ∷ d ∷ [] ≡ support n f k
unfolding tabulate
support_is n k f p q r s =
    ap₂ ◌∷◌ (p ∙ ap (λ i. f (mirror n (pos i -ℤ pos 1))) (sym (add-zero k))) (ap₂ ◌∷◌ q (ap₂ ◌∷◌ r (ap₂ ◌∷◌ s refl)))

-- the row value is rounded from their weighted sum
pub value_between : (m k j : ℕ) (c l : List ℤ) → l ≡ support (length c) (at c) k →
    round (dot (weights m j) l) (96 * m ^ 3) ≡ value_in_row m c (record { k = k; j = j })
unfolding value_in_row row_sum
value_between m k j c l e = ap (λ l. round (dot (weights m j) l) (96 * m ^ 3)) e

-- ---- the sum over sixteen coefficients of a picture, as a sum of sums along rows
dot_append : (u v r s : List ℤ) → length u ≡ length r → dot (u ++ v) (r ++ s) ≡ dot u r +ℤ dot v s
dot_append [] v [] s e = sym (+ℤ_idl (dot v s))
dot_append [] v (b ∷ r) s e = absurd (omega arith)
dot_append (a ∷ u) v [] s e = absurd (omega arith)
dot_append (a ∷ u) v (b ∷ r) s e =
    ap (λ x. a *ℤ b +ℤ x) (dot_append u v r s (omega arith)) ∙ sym (+ℤ_assoc (a *ℤ b) (dot u r) (dot v s))

dot_scaled : (a : ℤ) (w r : List ℤ) → dot (map (λ b. a *ℤ b) w) r ≡ a *ℤ dot w r
dot_scaled a [] r = sym (*ℤ-zero a)
dot_scaled a (b ∷ w) [] = sym (*ℤ-zero a)
dot_scaled a (b ∷ w) (c ∷ r) = ap (λ x. a *ℤ b *ℤ c +ℤ x) (dot_scaled a w r) ∙ ring (a ∷ b ∷ c ∷ dot w r ∷ []) (simp polys tt) tt

-- one row more: its sum times its weight
one_row : (a : ℤ) (w v r s : List ℤ) → length w ≡ length r → dot (map (λ b. a *ℤ b) w ++ v) (r ++ s) ≡ a *ℤ dot w r +ℤ dot v s
one_row a w v r s e = dot_append (map (λ b. a *ℤ b) w) v r s (length-map w (λ b. a *ℤ b) ∙ e) ∙ ap (λ x. x +ℤ dot v s) (dot_scaled a w r)

-- four rows
four_rows : (a b c e : ℤ) (w p q r s : List ℤ) → length w ≡ length p → length w ≡ length q → length w ≡ length r →
    dot (products (a ∷ b ∷ c ∷ e ∷ []) w) (p ++ (q ++ (r ++ s))) ≡ dot (a ∷ b ∷ c ∷ e ∷ []) (dot w p ∷ dot w q ∷ dot w r ∷ dot w s ∷ [])
four_rows a b c e w p q r s f g h =
    one_row a w _ p _ f
    ∙ ap (λ x. a *ℤ dot w p +ℤ x) (one_row b w _ q _ g
    ∙ ap (λ x. b *ℤ dot w q +ℤ x) (one_row c w _ r _ h
    ∙ ap (λ x. c *ℤ dot w r +ℤ x) (ap (λ v. dot v s) (append-nil (map (λ y. e *ℤ y) w)) ∙ dot_scaled e w s ∙ sym (+ℤ_idr (e *ℤ dot w s)))))

pub picture_sum_rows : (m : ℕ) (d : Shape) (c : ℕ → ℕ → ℤ) (px py : Position) →
    picture_sum m d c px py ≡ row_sum m d.height (λ y. row_sum m d.width (λ x. c x y) px) py
unfolding picture_sum row_sum weights block tabulate
picture_sum_rows m d c px py =
    four_rows (weight 0) (weight 1) (weight 2) (weight 3) (weights m px.j) (row 0) (row 1) (row 2) (row 3) refl refl refl
  where
    -- the weight of the i-th row, and its four numbers
    weight : ℕ → ℤ
    weight = at (weights m py.j)

    row : ℕ → List ℤ
    row i = support d.width (λ x. c x (mirror d.height (pos (py.k + i) -ℤ pos 1))) px.k

-- the sum over numbers that have two parts, one of them times a
dot_parts : (a : ℤ) (w : List ℤ) (f g : ℕ → ℤ) (i n : ℕ) →
    dot w (tabulate (λ j. a *ℤ f j +ℤ g j) i n) ≡ a *ℤ dot w (tabulate f i n) +ℤ dot w (tabulate g i n)
unfolding tabulate
dot_parts a [] f g i n = ring (a ∷ []) (simp polys tt) tt
dot_parts a (b ∷ w) f g i zero = ring (a ∷ []) (simp polys tt) tt
dot_parts a (b ∷ w) f g i (suc n) =
    ap (λ x. b *ℤ (a *ℤ f i +ℤ g i) +ℤ x) (dot_parts a w f g (suc i) n)
    ∙ ring (a ∷ b ∷ f i ∷ g i ∷ dot w (tabulate f (suc i) n) ∷ dot w (tabulate g (suc i) n) ∷ []) (simp polys tt) tt

dot_zeros : (w : List ℤ) (i n : ℕ) → dot w (tabulate (λ _. pos 0) i n) ≡ pos 0
unfolding tabulate
dot_zeros [] i n = refl
dot_zeros (b ∷ w) i zero = refl
dot_zeros (b ∷ w) i (suc n) = ap₂ ◌+ℤ◌ (*ℤ-zero b) (dot_zeros w (suc i) n)

-- the sum is linear in c
pub sum_linear : (m n : ℕ) (a b : ℤ) (x y : ℕ → ℤ) (p : Position) →
    row_sum m n (λ i. a *ℤ x i -ℤ b *ℤ y i) p ≡ a *ℤ row_sum m n x p -ℤ b *ℤ row_sum m n y p
unfolding row_sum
sum_linear m n a b x y p =
    ap (λ (f : ℕ → ℤ). dot w (tabulate f 0 4)) (fun_ext (λ i. parts (read x i) (read y i)))
    ∙ dot_parts a w (read x) (λ i. neg_ℤ b *ℤ read y i +ℤ pos 0) 0 4
    ∙ ap (λ z. a *ℤ sum x +ℤ z) (dot_parts (neg_ℤ b) w (read y) (λ i. pos 0) 0 4 ∙ ap (λ z. neg_ℤ b *ℤ sum y +ℤ z) (dot_zeros w 0 4))
    ∙ sym (parts (sum x) (sum y))
  where
    w : List ℤ
    w = weights m p.j

    -- what stands in the i-th of the four places, and the sum
    read : (ℕ → ℤ) → ℕ → ℤ
    read c i = c (mirror n (pos (p.k + i) -ℤ pos 1))

    sum : (ℕ → ℤ) → ℤ
    sum c = dot w (tabulate (read c) 0 4)

    parts : (u v : ℤ) → a *ℤ u -ℤ b *ℤ v ≡ a *ℤ u +ℤ (neg_ℤ b *ℤ v +ℤ pos 0)
    parts u v = ring (a ∷ b ∷ u ∷ v ∷ []) (simp polys tt) tt

-- a sum of sums may begin with either
dot_exchanged : (v w : List ℤ) (f : ℕ → ℕ → ℤ) (i k n l : ℕ) →
    dot w (tabulate (λ x. dot v (tabulate (λ y. f x y) k l)) i n) ≡ dot v (tabulate (λ y. dot w (tabulate (λ x. f x y) i n)) k l)
unfolding tabulate
dot_exchanged [] w f i k n l = dot_zeros w i n
dot_exchanged (a ∷ v) w f i k n zero = dot_zeros w i n
dot_exchanged (a ∷ v) w f i k n (suc l) =
    dot_parts a w (λ x. f x k) (λ x. dot v (tabulate (f x) (suc k) l)) i n
    ∙ ap (λ s. a *ℤ dot w (tabulate (λ x. f x k) i n) +ℤ s) (dot_exchanged v w f i (suc k) n l)

-- the sum along a column of sums along rows is the sum along a row of sums along columns
pub sums_exchanged : (m w h : ℕ) (c : ℕ → ℕ → ℤ) (px py : Position) →
    row_sum m h (λ y. row_sum m w (λ x. c x y) px) py ≡ row_sum m w (λ x. row_sum m h (λ y. c x y) py) px
unfolding row_sum
sums_exchanged m w h c px py =
    dot_exchanged (weights m px.j) (weights m py.j) (λ y x. c (read w px x) (read h py y)) 0 0 4 4
  where
    -- the place of the i-th number of a support
    read : ℕ → Position → ℕ → ℕ
    read n p i = mirror n (pos (p.k + i) -ℤ pos 1)

module _ (D X : ℕ) where
  -- D × a - X × b is at most B in size
  abbrev Apart : ℕ → ℤ → ℤ → Type 0
  Apart B a b = nat_abs (pos D *ℤ a -ℤ pos X *ℤ b) ≤ B

  -- two sums without products
  no_more : (B : ℕ) → Apart (0 * B) (pos 0) (pos 0)
  no_more B = show (simp reify tt) (omega arith)

  -- one product more: its own distance and that of the rest add up
  one_more : (B u S : ℕ) (x y s t : ℤ) → Apart B x y → Apart (S * B) s t → Apart ((u + S) * B) (pos u *ℤ x +ℤ s) (pos u *ℤ y +ℤ t)
  one_more B u S x y s t h g =
      rw (split (pos D) (pos X) (pos u) x y s t)
      (omega (arith, abs_add (pos u *ℤ a) b, abs_mul (pos u) a, mul-le-mul_left u h))
    where
      -- the distance of the one
      a : ℤ
      a = pos D *ℤ x -ℤ pos X *ℤ y

      -- the distance of the rest
      b : ℤ
      b = pos D *ℤ s -ℤ pos X *ℤ t

      split : (D X u x y s t : ℤ) → D *ℤ (u *ℤ x +ℤ s) -ℤ X *ℤ (u *ℤ y +ℤ t) ≡ u *ℤ (D *ℤ x -ℤ X *ℤ y) +ℤ (D *ℤ s -ℤ X *ℤ t)
      split D X u x y s t = ring (D ∷ X ∷ u ∷ x ∷ y ∷ s ∷ t ∷ []) (simp polys tt) tt

  -- the sums of two tables with the same weights, which are natural numbers: at most as far apart as the numbers, times the sum of the weights
  dot_near : (B : ℕ) (f g : ℕ → ℤ) → ((i : ℕ) → Apart B (f i) (g i)) → (u : List ℕ) (a : ℕ) →
      Apart (total u * B) (dot (map pos u) (tabulate f a (length u))) (dot (map pos u) (tabulate g a (length u)))
  unfolding tabulate
  dot_near B f g h [] a = no_more B
  dot_near B f g h (v ∷ u) a = one_more B v (total u) (f a) (g a) _ _ (h a) (dot_near B f g h u (suc a))

-- the weighted sums of two rows of n numbers: where D × f and X × g are at most B apart, the sums are at most 6m³ × B apart
pub sum_near : (m n : ℕ) (p : Position) → p.j ≤ m → 0 < n → (f g : ℕ → ℤ) (D X B : ℕ) →
    ((i : ℕ) → i < n → nat_abs (pos D *ℤ f i -ℤ pos X *ℤ g i) ≤ B) → nat_abs (pos D *ℤ row_sum m n f p -ℤ pos X *ℤ row_sum m n g p) ≤ 6 * m ^ 3 * B
unfolding row_sum
sum_near m n p l some f g D X B h =
    rw (weights_natural m p.j l, sym (weights_total m p.j l))
    (dot_near D X B (read f) (read g) (λ i. h _ (mirror_below n (pos (p.k + i) -ℤ pos 1) some)) (natural_weights p.j (m - p.j)) 0)
  where
    -- what stands in the i-th of the four places
    read : (ℕ → ℤ) → ℕ → ℤ
    read c i = c (mirror n (pos (p.k + i) -ℤ pos 1))

-- the same for two pictures, by the law of rows along each row and then along the column of their sums
pub picture_sum_near : (m : ℕ) (d : Shape) (px py : Position) → px.j ≤ m → py.j ≤ m → 0 < d.width → 0 < d.height →
    (f g : ℕ → ℕ → ℤ) (D X B : ℕ) → ((x y : ℕ) → x < d.width → y < d.height → nat_abs (pos D *ℤ f x y -ℤ pos X *ℤ g x y) ≤ B) →
    nat_abs (pos D *ℤ picture_sum m d f px py -ℤ pos X *ℤ picture_sum m d g px py) ≤ 36 * m ^ 6 * B
picture_sum_near m d px py lx ly wide high f g D X B h =
    rw (picture_sum_rows m d f px py, picture_sum_rows m d g px py) (omega (
      arith,
      ap (λ v. v * B) (sixth m),
      sum_near m d.height py ly high (along f) (along g) D X (6 * m ^ 3 * B)
          (λ y u. sum_near m d.width px lx wide (λ x. f x y) (λ x. g x y) D X B (λ x v. h x y v u)),
    ))
  where
    -- the sum along row y
    along : (ℕ → ℕ → ℤ) → ℕ → ℤ
    along c y = row_sum m d.width (λ x. c x y) px

-- rows that are equal up to the factors D and X have sums that are: the distance 0
pub sum_same : (m n : ℕ) (p : Position) → p.j ≤ m → 0 < n → (f g : ℕ → ℤ) (D X : ℕ) → ((i : ℕ) → i < n → pos D *ℤ f i ≡ pos X *ℤ g i) →
    pos D *ℤ row_sum m n f p ≡ pos X *ℤ row_sum m n g p
sum_same m n p l some f g D X h =
    diff_zero (abs_zero (omega (arith, sum_near m n p l some f g D X 0 (λ i u. rw (zero_diff (h i u)) (omega arith)))))

-- ---- at a sample
-- the weights where j = 0
weights_at_sample : (m : ℕ) → weights m 0 ≡ map pos (m ^ 3 ∷ 4 * m ^ 3 ∷ m ^ 3 ∷ 0 ∷ [])
unfolding weights
weights_at_sample m = ap₂ ◌∷◌ (simp cubed (show (simp reify tt) (omega arith))) (ap₂ ◌∷◌ second (ap₂ ◌∷◌ third refl))
  where
    second : pos (3 * 0 ^ 3) -ℤ pos (6 * 0 ^ 2 * m) +ℤ pos (4 * m ^ 3) ≡ pos (4 * m ^ 3)
    second = show (simp reify tt) (omega arith)

    third : pos (3 * 0 ^ 2 * m + 3 * 0 * m ^ 2 + m ^ 3) -ℤ pos (3 * 0 ^ 3) ≡ pos (m ^ 3)
    third = show (simp reify tt) (omega arith)

-- the sum where j = 0 is m³ times the 1-4-1 sum
pub sum_at_sample : (m n : ℕ) (c : ℕ → ℤ) (k : ℕ) → row_sum m n c (record { k = k; j = 0 }) ≡ pos (m ^ 3) *ℤ tridiagonal n c (pos k)
unfolding row_sum tridiagonal tabulate
sum_at_sample m n c k =
    ap (λ w. dot w (support n c k)) (weights_at_sample m)
    ∙ collected (pos (m ^ 3)) (read 0) (read 1) (read 2) (read 3)
    ∙ ap (λ z. pos (m ^ 3) *ℤ z) (ap₂ ◌+ℤ◌ (ap₂ ◌+ℤ◌ (same 0 before) (ap (λ z. pos 4 *ℤ z) (same 1 own))) (same 2 after))
  where
    -- what stands in the i-th of the four places
    read : ℕ → ℤ
    read i = c (mirror n (pos (k + i) -ℤ pos 1))

    -- the common factor taken out, and the fourth number, whose weight is 0, left out
    collected : (a x y z t : ℤ) → a *ℤ x +ℤ (pos 4 *ℤ a *ℤ y +ℤ (a *ℤ z +ℤ (pos 0 *ℤ t +ℤ pos 0))) ≡ a *ℤ (x +ℤ pos 4 *ℤ y +ℤ z)
    collected a x y z t = ring (a ∷ x ∷ y ∷ z ∷ t ∷ []) (simp polys tt) tt

    -- the places are those of the 1-4-1 sum
    same : (i : ℕ) {l : ℤ} → pos (k + i) -ℤ pos 1 ≡ l → read i ≡ c (mirror n l)
    same i e = ap (λ l. c (mirror n l)) e

    before : pos (k + 0) -ℤ pos 1 ≡ pos k -ℤ pos 1
    before = show (simp reify tt) (omega arith)

    own : pos (k + 1) -ℤ pos 1 ≡ pos k
    own = show (simp reify tt) (omega arith)

    after : pos (k + 2) -ℤ pos 1 ≡ pos k +ℤ pos 1
    after = show (simp reify tt) (omega arith)
