-- Where i × d is p + 1, n × i over p is n / d and n / (d × p) more, which for n below p does not reach the next whole number.
use Rattle.std.proofs.Common.{◌≡◌, ◌∙◌, ap, ℕ, ◌+◌, ◌*◌, ◌/◌, ◌≤◌, ◌<◌, arith}
use native.Mathlib.Nat.{add-mul, div-eq_of_lt-le, div-mul-le_self, le_of_mul-le-mul_right, lt-div-mul-add, mul-add, mul_assoc, mul-le-mul_right, mul-one, mul_right_comm}
use Rattle.rounding.proofs.small_quotient.Goals as goal

-- a product and a division by p in place of one by d
by_product : (n d i p : ℕ) → 0 < d → i * d ≡ p + 1 → n + d ≤ p → n * i / p ≡ n / d
by_product n d i p above e small =
    div-eq_of_lt-le p
    (le_of_mul-le-mul_right {k = d} (omega (arith, product, mul_right_comm q p d, mul-le-mul_right p (div-mul-le_self n d))) above)
    (le_of_mul-le-mul_right {k = d} (omega (arith, product, add-mul (n * i) 1 d, mul_right_comm (q + 1) p d, add-mul q 1 d, next)) above)
  where
    q : ℕ
    q = n / d

    product : n * i * d ≡ n * p + n
    product = mul_assoc n i d ∙ ap (λ k. n * k) e ∙ mul-add n p 1 ∙ ap (λ k. n * p + k) (mul-one n)

    -- (n + 1) × p is at most (q + 1) × d × p
    next : n * p + p ≤ (q * d + d) * p
    next = omega (arith, mul-le-mul_right p (lt-div-mul-add {a = n} above), add-mul n 1 p)

pub returns-then-inverse-d-eq-MULTIPLE : goal.returns-then-inverse-d-eq-MULTIPLE
returns-then-inverse-d-eq-MULTIPLE c =
    by_product c.args.n c.args.d (8589934593 / c.args.d) 8589934592 (omega arith) c.if-inverse-d-eq-MULTIPLE.true
    (omega (arith, c.ranges.n.fits, c.ranges.d.fits))
