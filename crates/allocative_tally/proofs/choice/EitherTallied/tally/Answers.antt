-- of the tally of `Either`: the value's entry, and inside it that of its case
use Rattle.allocative_tally.proofs.{case_counts, own_counts, first_counted, second_counted, told_by, told_then, holding}
use Rattle.allocative_tally.proofs.choice.EitherTallied.tally.Goals as goal

pub returns-in-Left : goal.returns-in-Left
returns-in-Left g c = rw c.in-Left.is (case_counts _ c.in_ok-declared.ensures (search holding)
    (told_then (own_counts (told_by c.count_own.result c.count_own.ensures)) first_counted))

pub returns-in-Right : goal.returns-in-Right
returns-in-Right g c =
    let own = told_by c.count_own-in-Right.result c.count_own-in-Right.ensures in
    rw c.in-Right.is (case_counts _ c.in_ok-declared.ensures (search holding)
    (told_then (own_counts own) second_counted))
