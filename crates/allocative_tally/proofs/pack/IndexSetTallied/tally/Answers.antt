-- of the tally of `IndexSet`: its values, its unused places and its table
use Rattle.indexmap.specs.IndexSet.{spare}
use Rattle.allocative_tally.proofs.{◌≡◌, ◌-◌, arith, codes, rules, length, YieldsList-from_rest, field_as, of_every}
use Rattle.allocative_tally.proofs.{container, both_shapes, shown_counts, index_data_as, fields_counts, are_fields, told_by}
use Rattle.allocative_tally.proofs.pack.IndexSetTallied.tally.Goals as goal

pub returns : goal.returns
returns g c =
    let count : c.len-count.result ≡ length c.args.self.now.keys = search rules in
    let unused : c.capacity.result - c.len-count.result ≡ spare c.args.self.now = omega arith in
    let run = of_every (YieldsList-from_rest _ c.iter.ensures.rest) c.count_run-run.ensures in
    let fields = are_fields (codes "value") g.T.Described.layout.size g.T.Allocative.may_show g.T.Tallied.shape in
    container 72 _ (omega arith) (omega arith) field_as (both_shapes c.and.ensures (shown_counts index_data_as
    (fields_counts (codes "data") (codes "unused_capacity") c.args.self.now.keys {v = c.args.tally.now.items.values}
    {v' = c.count_run-run.new.tally} c.and-data.ensures fields run
    (told_by c.add.result (rw (c.size.ensures, c.size-2.ensures, unused, count) at c.add.ensures))))
    (rw count at c.add-2.ensures))
