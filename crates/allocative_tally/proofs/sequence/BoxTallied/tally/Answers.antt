-- of a box's tally: the box, its pointer, and inside it the value
use Rattle.allocative_tally.proofs.{arith, Unique, field_as, container, many_one, most_direct, entry_counts, told_by}
use Rattle.allocative_tally.proofs.{told_then}
use Rattle.allocative_tally.proofs.sequence.BoxTallied.tally.Goals as goal

pub returns : goal.returns
returns g c = container 8 _ (omega arith) (omega arith) field_as (entry_counts Unique c.and.ensures
    (record {
      most = λ z i e. most_direct g.T.Described.layout.size i (g.T.Tallied.shape c.args.tally.now.values i) e
          (g.met.T.Tallied.whole.most c.args.tally.now.values i);
    })
    (λ z f e b y w. tt)
    (told_then (told_by c.tally-value.result (rw c.deref.ensures at c.tally-value.ensures)) many_one)
    (told_by c.add_full.result (rw c.size.ensures at c.add_full.ensures)))
