-- of the tally of a slice in a box: its pointer, the slice, and inside it the items
use Rattle.std.specs.Box.{boxed_slice_items}
use Rattle.allocative_tally.proofs.{arith, codes, YieldsList-from_slice, field_as, container, of_every}
use Rattle.allocative_tally.proofs.{boxed_counts, are_fields, told_by}
use Rattle.allocative_tally.proofs.sequence.BoxedSliceTallied.tally.Goals as goal

pub returns : goal.returns
returns g c =
    let items = boxed_slice_items c.args.self.now in
    let run = of_every (YieldsList-from_slice items (cc)) c.count_run-run.ensures in
    let fields = are_fields (codes "data") g.T.Described.layout.size g.T.Allocative.may_show g.T.Tallied.shape in
    container 16 _ (omega arith) (omega arith) field_as (boxed_counts items {v = c.args.tally.now.values}
    {v' = c.count_run-run.new.tally} c.and.ensures fields run
    (told_by c.add_full.result (rw (c.size.ensures, c.as_slice-items.ensures.value) at c.add_full.ensures)))
