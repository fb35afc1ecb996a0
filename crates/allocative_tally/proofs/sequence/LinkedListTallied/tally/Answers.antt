-- of a list's tally: its items and their links
use Rattle.allocative_tally.proofs.{◌≡◌, arith, codes, rules, length, YieldsList-from_rest, field_as, of_every}
use Rattle.allocative_tally.proofs.{container, fields_counts, are_fields, told_by}
use Rattle.allocative_tally.proofs.sequence.LinkedListTallied.tally.Goals as goal

pub returns : goal.returns
returns g c =
    let count : c.len-count.result ≡ length c.args.self.now = search rules in
    let run = of_every (YieldsList-from_rest _ c.iter.ensures.rest) c.count_run-run.ensures in
    let fields = are_fields (codes "data") g.T.Described.layout.size g.T.Allocative.may_show g.T.Tallied.shape in
    container 24 _ (omega arith) (omega arith) field_as (fields_counts (codes "ptr") (codes "links") c.args.self.now
    {v = c.args.tally.now.values} {v' = c.count_run-run.new.tally} c.and.ensures fields run
    (told_by c.add.result (rw (c.size.ensures, count) at c.add.ensures)))
