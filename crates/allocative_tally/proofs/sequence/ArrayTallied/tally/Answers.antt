-- of an array's tally: its entry, with a field for each item inside it
use Rattle.allocative_tally.proofs.{arith, YieldsList-from_slice, case_counts, of_every, many_counts, holds_items}
use Rattle.allocative_tally.proofs.{product_order}
use Rattle.allocative_tally.proofs.sequence.ArrayTallied.tally.Goals as goal

pub returns : goal.returns
returns g c =
    let run = of_every (YieldsList-from_slice c.args.self.now cc) c.count_run.ensures in
    rw (c.type_inv.self, ← product_order g.row.N g.T.Described.layout.size) (case_counts _ c.in_ok-declared.ensures
    (holds_items _ g.row.N g.T.Described.layout.size (omega (arith, c.type_inv.self)))
    (many_counts _ (omega (arith, c.type_inv.self)) run))
