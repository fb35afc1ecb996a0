-- of Book::push_gauge: the result
use Rattle.std.proofs.Common.{◌∙◌, append_assoc, rules, string_bytes}
use Rattle.std.proofs.lemmas.Iterator.Consumers.{YieldsList-end, YieldsList-from_rest}
use Rattle.allocative_service.specs.Metrics.{gauge_text, head, help_of, metric, word_of}
use Rattle.allocative_service.proofs.book.Book.push_gauge.Goals as goal

pub returns : goal.returns
unfolding gauge_text
returns g c =
    let t = YieldsList-end (YieldsList-from_rest c.args.self.now.accounts (search rules)) c.loop-tenant.yielded _
    c.loop-tenant.yielded_by _ _ c.in-None.is c.next.ensures.steps in
    let heading = head (metric c.args.prefix.now (word_of c.args.gauge)) (help_of c.args.gauge) in
    rw (← t.0) (c.loop-tenant.invariant ∙ append_assoc (string_bytes c.args.text.now) heading _)
