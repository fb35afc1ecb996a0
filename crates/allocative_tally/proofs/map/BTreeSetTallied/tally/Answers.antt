-- of the tally of `BTreeSet`: its entry, and inside it that of its keys
use Rattle.allocative_tally.proofs.{arith, codes, rules, YieldsList-from_rest, field_as, container, of_every}
use Rattle.allocative_tally.proofs.{are_fields}
use Rattle.allocative_tally.proofs.map.BTreeSetTallied.tally.Goals as goal

pub returns : goal.returns
returns g c =
    let entry = of_every (YieldsList-from_rest _ c.iter.ensures.rest) c.count_data.ensures in
    container 24 _ (omega arith) (omega arith) field_as (entry (search rules) (are_fields (codes "key") _ _ _))
