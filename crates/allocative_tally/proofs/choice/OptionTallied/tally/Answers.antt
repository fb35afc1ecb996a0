-- of an option's tally: its entry, and inside it the value's if there is one
use Rattle.allocative_tally.proofs.{case_counts, next_case, nothing_counted, own_counts, told_by, holding}
use Rattle.allocative_tally.proofs.{holds_nothing}
use Rattle.allocative_tally.proofs.choice.OptionTallied.tally.Goals as goal

pub returns-in-None : goal.returns-in-None
returns-in-None g c =
    rw c.in-None.is (next_case c.in_ok-declared.ensures nothing_counted (holds_nothing _))

pub returns-in-Some : goal.returns-in-Some
returns-in-Some g c = rw c.in-Some.is (case_counts _ c.in_ok-declared.ensures (search holding)
    (own_counts (told_by c.count_own.result c.count_own.ensures)))
