-- The differences go from numerator to numerator, and the quotients up to there are listed.
use Rattle.std.proofs.Common.{pos, length, nat_abs}
use Rattle.integers.specs.Rounding.{round}
use Rattle.cubic.specs.Cubics.{DifferencesAt, cubic_sum}
use Rattle.cubic.proofs.Tables.{Tabled}
use Rattle.cubic.proofs.quotients.list_quotients.Given as goal

-- the first numbers are the cubic's rounded quotients at the numerators below the index, and its differences there are d
abbrev pub invariant-loop-value : goal.invariant-loop-value
invariant-loop-value l = record {
  tabled : Tabled (λ j. round (cubic_sum l.fn.f (pos j)) (nat_abs l.fn.divisor.by)) (length l.fn.values) l.values l.value-index;
  differences : DifferencesAt l.fn.f (pos l.value-index) l.d;
}
