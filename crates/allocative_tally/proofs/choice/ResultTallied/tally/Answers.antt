-- of the tally of `Result`: the value's entry, and inside it that of its case
use Rattle.allocative_tally.proofs.{case_counts, own_counts, first_counted, second_counted, told_by, told_then, holding}
use Rattle.allocative_tally.proofs.choice.ResultTallied.tally.Goals as goal

pub returns-in-Ok : goal.returns-in-Ok
returns-in-Ok g c = rw c.in-Ok.is (case_counts _ c.in_ok-declared.ensures (search holding)
    (told_then (own_counts (told_by c.count_own.result c.count_own.ensures)) first_counted))

pub returns-in-Err : goal.returns-in-Err
returns-in-Err g c =
    let own = told_by c.count_own-in-Err.result c.count_own-in-Err.ensures in
    rw c.in-Err.is (case_counts _ c.in_ok-declared.ensures (search holding)
    (told_then (own_counts own) second_counted))
