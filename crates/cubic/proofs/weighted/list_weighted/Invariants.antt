-- The weighted sums up to a numerator are listed.
use Rattle.std.proofs.Common.{length, nat_abs}
use Rattle.integers.specs.Rounding.{round}
use Rattle.bspline.specs.Values.{weights, dot}
use Rattle.sums.specs.Sums.{listed}
use Rattle.cubic.proofs.Tables.{Tabled}
use Rattle.cubic.proofs.weighted.list_weighted.Given as goal

-- the first j numbers are the rounded quotients at the numerators below j
abbrev pub invariant-loop-j : goal.invariant-loop-j
invariant-loop-j l = Tabled (λ j. round (dot (weights l.m j) (listed l.c)) (nat_abs l.fn.divisor.by)) (length l.fn.values) l.values l.j
