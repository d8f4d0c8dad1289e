-- The limit that is compared is 10^k, and the power of ten before it is at most the number if k is above 1.
use Rattle.std.proofs.Common.{◌-◌, ◌≡◌, ◌≤◌, ◌<◌, ◌^◌}
use Rattle.decimal.proofs.count_places.Given as goal

abbrev pub invariant-loop-k : goal.invariant-loop-k
invariant-loop-k l = record {
  power : l.limit ≡ 10 ^ l.k;
  big : 1 < l.k → 10 ^ (l.k - 1) ≤ l.n;
}
