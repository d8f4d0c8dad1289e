-- Negated data have negated coefficients and negated values. All of it comes from `round_neg`: the rounding of the opposite number is the opposite,
-- and everything else in the definitions is a sum or a product with a number that stays. One law about lines (`line_negated`) serves rows and
-- columns. Assumes nothing.
use mathlib.Core.List.{List, [], ◌∷◌, map, map-map}
use mathlib.Core.Path.{◌≡◌, refl, sym, ap, ap₂, fun_ext, ◌∙◌}
use Prim.Native.Nat.{ℕ, ◌+◌, ◌*◌, ◌/◌, ◌%◌, ◌^◌}
use lib.IntN.{ℤ, pos, neg_ℤ, ◌+ℤ◌, ◌-ℤ◌, ◌*ℤ◌, neg_ℤ-+ℤ}
use lib.ListN.{length, take, drop, length-map, get_or-map}
use Rattle.integers.specs.Rounding.{round}
use Rattle.integers.proofs.Laws.{*ℤ_negℤ}
use Rattle.integers.proofs.Rounding.{round_neg}
use Rattle.bspline.specs.Lists.{tabulate, at}
use Rattle.bspline.specs.Mirror.{mirror}
use Rattle.bspline.specs.Negation.{negated}
use Rattle.bspline.specs.PictureLayout.{Shape, area, place, pixel, raster}
use Rattle.bspline.specs.Recursions.{Z, R, margin, window, causal, forward, anticausal, first, backward, coefficient, delivered, coefficients}
use Rattle.bspline.specs.Transforms.{row_coefficients, first_pass, second_pass, picture_coefficients}
use Rattle.bspline.specs.Values.{Position, weights, support, dot, row_sum, picture_sum, value_in_row, value_in_picture, zoom_position, zoom_count, zoom_values, enlarged, enlarged_values}
use Rattle.bspline.proofs.Lists.{tabulate_map, take_map, drop_map}
use Rattle.bspline.proofs.Weights.{picture_sum_rows}

-- ---- one step of each recursion, and one coefficient
-- the difference of opposite numbers
minus_neg : (x y : ℤ) → neg_ℤ x -ℤ neg_ℤ y ≡ neg_ℤ (x -ℤ y)
minus_neg x y = sym (neg_ℤ-+ℤ x (neg_ℤ y))

-- the rounded quotient of a product
quotient_neg : (c x : ℤ) (d : ℕ) → round (c *ℤ neg_ℤ x) d ≡ neg_ℤ (round (c *ℤ x) d)
quotient_neg c x d = ap (λ a. round a d) (*ℤ_negℤ c x) ∙ round_neg (c *ℤ x) d

causal_neg : (t p : ℤ) → causal (neg_ℤ t) (neg_ℤ p) ≡ neg_ℤ (causal t p)
unfolding causal R
causal_neg t p = ap (λ r. neg_ℤ t -ℤ r) (quotient_neg Z p (2 ^ 31)) ∙ minus_neg t (round (Z *ℤ p) (2 ^ 31))

anticausal_neg : (p b : ℤ) → anticausal (neg_ℤ p) (neg_ℤ b) ≡ neg_ℤ (anticausal p b)
unfolding anticausal R
anticausal_neg p b = ap (λ x. round (Z *ℤ x) (2 ^ 31)) (minus_neg p b) ∙ quotient_neg Z (p -ℤ b) (2 ^ 31)

coefficient_neg : (b : ℤ) → coefficient (neg_ℤ b) ≡ neg_ℤ (coefficient b)
unfolding coefficient
coefficient_neg b = quotient_neg (pos 6) b 16

-- ---- a line
forward_neg : (p : ℤ) (l : List ℤ) → forward (neg_ℤ p) (negated l) ≡ negated (forward p l)
unfolding forward
forward_neg p [] = refl
forward_neg p (t ∷ l) = ap₂ ◌∷◌ (causal_neg t p) (ap (λ q. forward q (negated l)) (causal_neg t p) ∙ forward_neg (causal t p) l)

first_neg : (l : List ℤ) → first (negated l) ≡ neg_ℤ (first l)
first_neg [] = refl
first_neg (b ∷ l) = refl

backward_neg : (l : List ℤ) → backward (negated l) ≡ negated (backward l)
unfolding backward
backward_neg [] = refl
backward_neg (p ∷ l) =
    let rest = backward_neg l in
    ap₂ ◌∷◌ (ap (λ k. anticausal (neg_ℤ p) (first k)) rest ∙ ap (anticausal (neg_ℤ p)) (first_neg (backward l)) ∙ anticausal_neg p (first (backward l)))
    rest

delivered_neg : (n : ℕ) (bs : List ℤ) → delivered n (negated bs) ≡ negated (delivered n bs)
unfolding delivered
delivered_neg n bs =
    let middle = take n (drop margin bs) in
    ap (λ l. map coefficient l) (ap (take n) (drop_map neg_ℤ margin bs) ∙ take_map neg_ℤ n (drop margin bs))
    ∙ map-map coefficient neg_ℤ middle
    ∙ ap (λ (f : ℤ → ℤ). map f middle) (fun_ext coefficient_neg)
    ∙ sym (map-map neg_ℤ coefficient middle)

-- the coefficients of a negated line are those of the line, negated
pub line_negated : (n : ℕ) (t : ℕ → ℤ) → coefficients n (λ k. neg_ℤ (t k)) ≡ negated (coefficients n t)
unfolding coefficients
line_negated n t =
    ap (λ l. delivered n (backward (forward (pos 0) l))) (tabulate_map neg_ℤ (λ i. t (mirror n (pos i -ℤ pos margin))) 0 _)
    ∙ ap (λ l. delivered n (backward l)) (forward_neg (pos 0) (window n t))
    ∙ ap (delivered n) (backward_neg (forward (pos 0) (window n t)))
    ∙ delivered_neg n (backward (forward (pos 0) (window n t)))

-- and so are those of a line of negated data that are brought to its unit, the c-fold of each
scaled_negated : (n c : ℕ) (t u : ℕ → ℤ) → ((k : ℕ) → u k ≡ neg_ℤ (t k)) →
    coefficients n (λ k. pos c *ℤ u k) ≡ negated (coefficients n (λ k. pos c *ℤ t k))
scaled_negated n c t u e =
    ap (coefficients n) (fun_ext (λ k. ap (λ x. pos c *ℤ x) (e k) ∙ *ℤ_negℤ (pos c) (t k))) ∙ line_negated n (λ k. pos c *ℤ t k)

-- ---- rows and pictures
negated_at : (l : List ℤ) (k : ℕ) → at (negated l) k ≡ neg_ℤ (at l k)
negated_at l k = get_or-map neg_ℤ l k (pos 0)

pub row_coefficients_negated : (s : List ℤ) → row_coefficients (negated s) ≡ negated (row_coefficients s)
unfolding row_coefficients
row_coefficients_negated s =
    ap (λ n. coefficients n (λ k. pos 65536 *ℤ at (negated s) k)) (length-map s neg_ℤ)
    ∙ scaled_negated (length s) 65536 (at s) (at (negated s)) (negated_at s)

-- a number of a picture after a pass
pass_negated : (n c : ℕ) (t u : ℕ → ℤ) → ((k : ℕ) → u k ≡ neg_ℤ (t k)) → (x : ℕ) →
    at (coefficients n (λ k. pos c *ℤ u k)) x ≡ neg_ℤ (at (coefficients n (λ k. pos c *ℤ t k)) x)
pass_negated n c t u e x = ap (λ l. at l x) (scaled_negated n c t u e) ∙ negated_at (coefficients n (λ k. pos c *ℤ t k)) x

-- a picture of opposite numbers is the negation
raster_negated : (d : Shape) (f g : ℕ → ℕ → ℤ) → ((x y : ℕ) → g x y ≡ neg_ℤ (f x y)) → raster d g ≡ negated (raster d f)
unfolding raster
raster_negated d f g e =
    ap (λ (f : ℕ → ℕ → ℤ). raster d f) (fun_ext (λ x. fun_ext (λ y. e x y)))
    ∙ tabulate_map neg_ℤ (λ i. f (i % d.width) (i / d.width)) 0 (area d)

pub picture_coefficients_negated : (d : Shape) (p : List ℤ) → picture_coefficients d (negated p) ≡ negated (picture_coefficients d p)
unfolding picture_coefficients first_pass second_pass
picture_coefficients_negated d p = raster_negated d (second_pass d p) (second_pass d (negated p)) columns
  where
    rows : (x y : ℕ) → first_pass d (negated p) x y ≡ neg_ℤ (first_pass d p x y)
    rows x y = pass_negated d.width 65536 (λ k. pixel d p k y) (λ k. pixel d (negated p) k y) (λ k. negated_at p (place d k y)) x

    columns : (x y : ℕ) → second_pass d (negated p) x y ≡ neg_ℤ (second_pass d p x y)
    columns x y = pass_negated d.height 16 (first_pass d p x) (first_pass d (negated p) x) (rows x) y

-- ---- weighted sums and values
dot_neg : (w l : List ℤ) → dot w (negated l) ≡ neg_ℤ (dot w l)
dot_neg [] l = refl
dot_neg (a ∷ w) [] = refl
dot_neg (a ∷ w) (b ∷ l) = ap₂ ◌+ℤ◌ (*ℤ_negℤ a b) (dot_neg w l) ∙ sym (neg_ℤ-+ℤ (a *ℤ b) (dot w l))

sum_negated : (m n : ℕ) (c : ℕ → ℤ) (p : Position) → row_sum m n (λ k. neg_ℤ (c k)) p ≡ neg_ℤ (row_sum m n c p)
unfolding row_sum
sum_negated m n c p =
    ap (dot (weights m p.j)) (tabulate_map neg_ℤ (λ i. c (mirror n (pos (p.k + i) -ℤ pos 1))) 0 4)
    ∙ dot_neg (weights m p.j) (support n c p.k)

picture_sum_negated : (m : ℕ) (d : Shape) (c : ℕ → ℕ → ℤ) (px py : Position) → picture_sum m d (λ x y. neg_ℤ (c x y)) px py ≡ neg_ℤ (picture_sum m d c px py)
picture_sum_negated m d c px py =
    picture_sum_rows m d (λ x y. neg_ℤ (c x y)) px py
    ∙ ap (λ (f : ℕ → ℤ). row_sum m d.height f py) (fun_ext (λ y. sum_negated m d.width (λ x. c x y) px))
    ∙ sum_negated m d.height (λ y. row_sum m d.width (λ x. c x y) px) py
    ∙ ap neg_ℤ (sym (picture_sum_rows m d c px py))

pub value_in_row_negated : (m : ℕ) (c : List ℤ) (p : Position) → value_in_row m (negated c) p ≡ neg_ℤ (value_in_row m c p)
unfolding value_in_row
value_in_row_negated m c p =
    ap (λ a. round a (96 * m ^ 3))
    (ap₂ (λ n (f : ℕ → ℤ). row_sum m n f p) (length-map c neg_ℤ) (fun_ext (negated_at c)) ∙ sum_negated m (length c) (at c) p)
    ∙ round_neg (row_sum m (length c) (at c) p) (96 * m ^ 3)

pub value_in_picture_negated : (m : ℕ) (d : Shape) (c : List ℤ) (px py : Position) → value_in_picture m d (negated c) px py ≡ neg_ℤ (value_in_picture m d c px py)
unfolding value_in_picture
value_in_picture_negated m d c px py =
    ap (λ a. round a (576 * m ^ 6))
    (ap (λ (f : ℕ → ℕ → ℤ). picture_sum m d f px py) (fun_ext (λ x. fun_ext (λ y. negated_at c (place d x y)))) ∙ picture_sum_negated m d (pixel d c) px py)
    ∙ round_neg (picture_sum m d (pixel d c) px py) (576 * m ^ 6)

pub zoom_values_negated : (m : ℕ) (c : List ℤ) → zoom_values m (negated c) ≡ negated (zoom_values m c)
unfolding zoom_values
zoom_values_negated m c =
    ap₂ (λ (f : ℕ → ℤ) n. tabulate f 0 (zoom_count m n)) (fun_ext (λ i. value_in_row_negated m c (zoom_position m i))) (length-map c neg_ℤ)
    ∙ tabulate_map neg_ℤ (λ i. value_in_row m c (zoom_position m i)) 0 (zoom_count m (length c))

pub enlarged_values_negated : (m : ℕ) (d : Shape) (c : List ℤ) → enlarged_values m d (negated c) ≡ negated (enlarged_values m d c)
unfolding enlarged_values
enlarged_values_negated m d c =
    raster_negated (enlarged m d) _ _ (λ x y. value_in_picture_negated m d c (zoom_position m x) (zoom_position m y))
