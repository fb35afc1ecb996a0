-- of the tally of `HashSet`: its entry, and inside it that of its keys
use Rattle.allocative_tally.proofs.{arith, codes, false, rules, YieldsList-from_rest, field_as, container, of_every}
use Rattle.allocative_tally.proofs.{are_fields, shown_counts, inside_as, order_as}
use Rattle.allocative_tally.proofs.map.HashSetTallied.tally.Goals as goal

pub returns : goal.returns
returns g c =
    let entry = of_every (YieldsList-from_rest _ c.iter.ensures.rest) c.count_data.ensures in
    let order = inside_as false (codes "data") 8 (order_as _ c.args.self.now.keys) in
    container 48 _ (omega arith) (omega arith) field_as
    (shown_counts order (entry (search rules) (are_fields (codes "key") _ _ _)))
