-- What was printed stands within the block.
use Rattle.std.proofs.Common.{ap, sym}
use lib.Seq.{length-take-le}
use Rattle.printtext.specs.Printing.{Printed}
use Rattle.rowtext.proofs.WholeOutput.{printed_fits}
use Rattle.rowzoom.proofs.write_output.Goals as goal

pub slice_bounds-write_all-end : goal.slice_bounds-write_all-end
slice_bounds-write_all-end g c =
    let e = c.print_part-count.ensures in
    rw (ap (λ (p : Printed). p.bytes) e, ap (λ (p : Printed). p.out) e) (printed_fits _ _ _ _)

pub slice_bounds-write_all-end-in-loop-part : goal.slice_bounds-write_all-end-in-loop-part
slice_bounds-write_all-end-in-loop-part g c = sym (length-take-le _ _ (slice_bounds-write_all-end g c))
