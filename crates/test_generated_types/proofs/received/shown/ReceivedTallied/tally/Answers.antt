-- Written by bin/implement.
use Rattle.std.proofs.Common.{arith, length, rules}
use Rattle.allocative_tally.proofs.Fields.{both_count, next_foreign, sure_first, sure_second, whole_counts}
use Rattle.allocative_tally.proofs.Items.{foreign_counts}
use Rattle.allocative_tally.proofs.Sizes.{holds_bytes}
use Rattle.url.specs.Parts.{serialize}
use Rattle.std.specs.Path.{path_buf_bytes}
use Rattle.test_generated_types.proofs.received.shown.ReceivedTallied.tally.Goals as goal

pub returns : goal.returns
returns c =
    whole_counts _ c.in_ok-declared.ensures (holds_bytes (omega arith))
    (sure_second
    (sure_first
    next_foreign
    (both_count c.and-2.ensures
    (foreign_counts {m = length (serialize c.args.self.now.callback)} (omega arith) (search rules) c.count_bytes-callback.ensures)
    (both_count c.and.ensures
    (foreign_counts {m = length c.args.self.now.body} (omega arith) (search rules) c.count_bytes-body.ensures)
    (sure_first
    next_foreign
    (foreign_counts {m = length (path_buf_bytes c.args.self.now.file)} (omega arith) (search rules) c.count_bytes-file.ensures)))))
    next_foreign)
