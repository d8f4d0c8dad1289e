-- The three sums about a place are there, and the values before it are listed.
use Rattle.std.proofs.Common.{ℕ, ◌*◌, ◌^◌, ℤ, length}
use Rattle.bspline.proofs.FilledLists.{Filled}
use Rattle.columns.specs.Bands.{most_of, sums_along}
use Rattle.places.specs.Places.{Continues, values_between}
use Rattle.places.proofs.Rolling.{Rolled, FirstSmall}
use Rattle.places.proofs.list_places.Given as goal

-- of all numbers that continue the three from the start, those at place k are there now, and the first k × m values are listed
abbrev pub invariant-loop-k : goal.invariant-loop-k
invariant-loop-k g l = record {
  small : FirstSmall (most_of l.fn.band) l.sums;
  listed : (s : ℕ → ℤ) → Continues s l.fn.first.before l.fn.first.here l.fn.first.after (sums_along l.fn.band) l.fn.x l.fn.places →
      Rolled s l.k l.sums × Filled (values_between g.row.M s (576 * g.row.M ^ 6) (length l.fn.values)) l.values (l.k * g.row.M);
}
