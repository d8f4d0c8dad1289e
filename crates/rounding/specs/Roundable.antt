-- What the roundings by a unit ask. Assumes nothing.
use Rattle.std.specs.Prelude.{◌≡◌, ℕ, ◌+◌, ◌*◌, ◌%◌, ◌≤◌, ◌<◌, ◌^◌, ℤ, pos, nat_abs, ◌<ℤ◌, Option, Some, None}
use Rattle.rounding.specs.declared.Divisor.{Divisor}

-- an even divisor and a unit, of which 2^31 are at least 2^27 + 1 divisors
pub record Counted (d unit : ℕ) : Type 0 where
  pub even : d % 2 ≡ 0
  pub near : (2 ^ 27 + 1) * d ≤ 2 ^ 31 * unit
  pub small : unit ≤ 2 ^ 30

-- what `round_even` asks: such a divisor above 0, its unit, and a number at most 2^27 divisors from 0
pub record RoundableEven (a : ℤ) (d unit : ℕ) : Type 0 where
  pub above : 0 < d
  pub counted : Counted d unit
  pub size : nat_abs a ≤ 2 ^ 27 * d

-- a divisor with its unit; where it has none it is at most 2^20
abbrev pub Unit : ℕ → Option ℕ → Type 0
Unit d None = d ≤ 2 ^ 20
Unit d (Some u) = Counted d u

-- a divisor above 0, with its unit if it has one
pub record Dividing (d : Divisor) : Type 0 where
  pub above : pos 0 <ℤ d.by
  pub unit : Unit (nat_abs d.by) d.unit

-- what `Divisor::round` asks: such a divisor, and a number at most 2^27 divisors from 0
pub record Roundable (a : ℤ) (d : Divisor) : Type 0 where
  pub divisor : Dividing d
  pub size : nat_abs a ≤ 2 ^ 27 * nat_abs d.by
