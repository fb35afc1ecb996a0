-- of what enters buffers: the entries of the sums
use Rattle.allocative_tally.proofs.{sym, ◌∙◌}
use Rattle.allocative_tally.proofs.sequence.BuffersManyEntries.enter.Goals as goal

pub returns-then-are_shown_each : goal.returns-then-are_shown_each
returns-then-are_shown_each g c = rw (sym c.are_shown_each.ensures ∙ c.if-are_shown_each.true) c.enter.ensures

pub returns : goal.returns
returns g c = rw (sym c.are_shown_each.ensures ∙ c.if-are_shown_each.false)
    (rw (c.of-bytes.ensures, c.name.ensures, c.bytes_of.ensures, c.size.ensures) at c.enter-2.ensures)
