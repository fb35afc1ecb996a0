-- of a heap's tally: its entry, and inside it its buffer
use Rattle.std.specs.BinaryHeap.{heap_items}
use Rattle.allocative_tally.proofs.{◌≡◌, ◌∙◌, arith, false, length, sym, YieldsList-from_slice, field_as, container}
use Rattle.allocative_tally.proofs.{of_every, told_by}
use Rattle.allocative_tally.proofs.sequence.BinaryHeapTallied.tally.Goals as goal

pub returns : goal.returns
returns g c =
    let items = heap_items c.args.self.now in
    let size = rw c.as_slice.ensures.value at c.as_slice.ensures.len in
    let count : c.len.result ≡ length items = c.len.ensures ∙ sym size in
    let told = of_every (YieldsList-from_slice items (cc)) c.count_buffer.ensures count false in
    container 24 _ (omega arith) (omega arith) field_as (told_by _ (rw (c.len.ensures, c.capacity.ensures) at told))
