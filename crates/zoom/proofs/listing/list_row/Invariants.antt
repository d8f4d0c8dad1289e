-- The values before a place are listed.
use Rattle.std.proofs.Common.{◌*◌}
use Rattle.bspline.specs.Values.{zoom_values}
use Rattle.bspline.proofs.FilledLists.{Filled}
use Rattle.zoom.proofs.listing.list_row.Given as goal

-- the values before place k × m are those of the row
abbrev pub invariant-loop-k : goal.invariant-loop-k
invariant-loop-k l = Filled (zoom_values l.m.value l.c) l.values (l.k * l.m.value)
