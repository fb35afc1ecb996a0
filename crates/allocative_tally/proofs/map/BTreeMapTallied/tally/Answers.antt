-- of the tally of `BTreeMap`: its entry, and inside it that of its pairs
use Rattle.allocative_tally.proofs.{arith, rules, YieldsList-from_rest, field_as, container, of_every, pairs_are_fields}
use Rattle.allocative_tally.proofs.map.BTreeMapTallied.tally.Goals as goal

pub returns : goal.returns
returns g c =
    let entry = of_every (YieldsList-from_rest _ c.iter.ensures.rest) c.count_data.ensures in
    container 24 _ (omega arith) (omega arith) field_as (entry (search rules) (pairs_are_fields _ _ _ _ _ _))
