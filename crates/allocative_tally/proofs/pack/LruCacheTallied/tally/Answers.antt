-- of the tally of `LruCache`: its pairs and its table
use Rattle.allocative_tally.proofs.{◌≡◌, arith, rules, length, Unique, YieldsList-from_rest, field_as, of_every}
use Rattle.allocative_tally.proofs.{container, both_shapes, entry_counts, fields_within, pairs_are_fields, told_by}
use Rattle.allocative_tally.proofs.pack.LruCacheTallied.tally.Goals as goal

pub returns : goal.returns
returns g c =
    let count : c.len-count.result ≡ length c.args.self.now.entries = search rules in
    let run = of_every (YieldsList-from_rest _ c.iter.ensures.rest) c.count_run-run.ensures in
    let fields = pairs_are_fields g.K.Described.layout.size g.V.Described.layout.size g.K.Allocative.may_show
    g.V.Allocative.may_show g.K.Tallied.shape g.V.Tallied.shape in
    let pairs = entry_counts Unique c.and-pairs.ensures (fields_within c.args.tally.now.items.values fields)
    (λ z f e b y w. tt) run (told_by c.add_full.result (rw (c.pair_size.ensures, count) at c.add_full.ensures)) in
    container 72 _ (omega arith) (omega arith) field_as (both_shapes c.and.ensures pairs (rw count at c.add.ensures))
