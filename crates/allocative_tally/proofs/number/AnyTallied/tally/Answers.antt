-- of a leaf's tally: a value is one entry more
use Rattle.allocative_tally.proofs.{told_by, told_then, next_as, next_case, nothing_counted, holds_nothing}
use Rattle.allocative_tally.proofs.number.AnyTallied.tally.Goals as goal

pub returns : goal.returns
returns g c = (told_then (told_by c.declared.result c.declared.ensures)
    (λ d. next_as (g.met.T.Leaf.one_entry c.args.self.now) (next_case d nothing_counted (holds_nothing _)))).told
