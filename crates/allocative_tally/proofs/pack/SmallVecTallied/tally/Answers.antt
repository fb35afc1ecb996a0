-- of the tally of `SmallVec`: the items in an allocation, or the items in place
use Rattle.allocative_tally.proofs.{◌≡◌, length, arith, rules, codes, Some, Unique, YieldsList-from_slice, of_every}
use Rattle.allocative_tally.proofs.{case_counts, shown_counts, told_by, told_then, entry_counts, many_counts}
use Rattle.allocative_tally.proofs.{first_counted, second_counted, are_fields, fields_within, spilled_as, inline_as}
use Rattle.allocative_tally.proofs.{holding, holds_up, holds_second, holds_second_of, holds_items}
use Rattle.allocative_tally.proofs.pack.SmallVecTallied.tally.Goals as goal

pub returns-then-spilled : goal.returns-then-spilled
returns-then-spilled g c =
    let count : c.len-count.result ≡ length c.args.self.now.items = search rules in
    let run = of_every (YieldsList-from_slice c.args.self.now.items cc) c.count_run-run.ensures in
    let fields = are_fields (codes "data") g.T.Described.layout.size g.T.Allocative.may_show g.T.Tallied.shape in
    let entry = entry_counts Unique c.and.ensures (fields_within c.args.tally.now.spilled.values fields)
    (λ z f e b y w. tt) run (told_by c.add_full.result (rw (c.size.ensures, count) at c.add_full.ensures)) in
    case_counts _ c.in_ok-declared.ensures (search holding)
    (shown_counts (spilled_as (search rules)) (told_then entry second_counted))

pub returns : goal.returns
returns g c =
    let run = of_every (YieldsList-from_slice c.args.self.now.items cc) c.count_run.ensures in
    case_counts _ c.in_ok-declared.ensures (holds_up _ _ (holds_second (Some 8) _ (holds_second_of (Some 16) _
    (holds_items (length c.args.self.now.items) g.row.N g.T.Described.layout.size (search rules)))))
    (shown_counts (inline_as (search rules)) (told_then (many_counts _ (omega arith) run) first_counted))
