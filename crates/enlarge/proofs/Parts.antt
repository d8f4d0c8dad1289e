-- The values of a row in two parts: those before a place, and those from it on. Assumes nothing.
use Rattle.std.proofs.Common.{◌≡◌, sym, ap, ◌∙◌, ℕ, ◌+◌, ◌-◌, ◌≤◌, List, ◌++◌, length, drop, ℤ, arith, length-append, length-drop}
use lib.ListN.{set}
use borrow.Rule.Slice.PartMut.{put_mid, mid_len}
use lib.Seq.{length-take-le}
use Rattle.bspline.specs.Lists.{tabulate}
use Rattle.bspline.proofs.FilledLists.{Filled, filled_front, filled_more, filled_table, filled_all}
use Rattle.bspline.proofs.Lists.{tabulate_length, tabulate_from_zero}

-- with the first part the list is as long as it was
pub front_long : (n : ℕ) (values front : List ℤ) → length front ≡ n → n ≤ length values → length (front ++ drop n values) ≡ length values
front_long n values front size room = omega (arith, length-append front (drop n values), length-drop n values)

-- the first n numbers of a table are filled in
pub front_filled : (value : ℕ → ℤ) (n long : ℕ) (values front : List ℤ) → length values ≡ long → n ≤ long → front ≡ tabulate value 0 n →
    Filled (tabulate value 0 long) (front ++ drop n values) n
front_filled value n long values front size h f =
    filled_front (tabulate value 0 long) values n front value (size ∙ sym (tabulate_length value 0 long)) (omega (arith, size))
    (λ j b. sym (tabulate_from_zero value long j (omega arith))) (f ∙ ap (tabulate value 0) (sym (length-take-le n values (omega (arith, size)))))

-- n numbers of a table and k more are its first n + k
pub two_parts : (value : ℕ → ℤ) (n k : ℕ) (values front rest : List ℤ) → length values ≡ n + k → front ≡ tabulate value 0 n →
    rest ≡ tabulate (λ j. value (n + j)) 0 k →
    put_mid n (length (front ++ drop n values) - n) (front ++ drop n values) rest ≡ tabulate value 0 (n + k)
two_parts value n k values front rest size f r =
    let now = front ++ drop n values in
    let whole : length now ≡ n + k = front_long n values front (ap length f ∙ tabulate_length value 0 n) (omega (arith, size)) ∙ size in
    let filled = front_filled value n (n + k) values front size (omega arith) f in
    filled_all
    (filled_table (length now) rest (λ j. value (n + j)) filled (omega (arith, whole)) (omega arith)
    (λ j h. sym (tabulate_from_zero value (n + k) (n + j) (omega (arith, whole))))
    (r ∙ ap (λ i. tabulate (λ j. value (n + j)) 0 i) (sym (mid_len n (length now) now (omega arith) ∙ omega (arith, whole)))))
    (omega (arith, filled.long))

-- and one more are its first n + 1
pub one_more : (value : ℕ → ℤ) (n : ℕ) (values front : List ℤ) (v : ℤ) → length values ≡ n + 1 → front ≡ tabulate value 0 n → v ≡ value n →
    set (front ++ drop n values) n v ≡ tabulate value 0 (n + 1)
one_more value n values front v size f e =
    let all = tabulate_length value 0 (n + 1) in
    filled_all
    (filled_more v (front_filled value n (n + 1) values front size (omega arith) f) (omega (arith, all)) (e ∙ sym (tabulate_from_zero value (n + 1) n (omega arith))))
    (omega (arith, all))
