-- The rows of values before one are listed.
use Rattle.std.proofs.Common.{◌*◌}
use Rattle.bspline.specs.PictureLayout.{sides}
use Rattle.bspline.specs.Values.{enlarged_values}
use Rattle.bspline.proofs.FilledLists.{Filled}
use Rattle.enlarge.proofs.rows.list_rows.Given as goal

-- the values of the rows before y are listed
abbrev pub invariant-loop-y : goal.invariant-loop-y
invariant-loop-y l = Filled (enlarged_values l.m.value (sides l.width l.height) l.c) l.values (l.y * l.across)
