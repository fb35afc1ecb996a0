-- of a deque's tally: its entry, and inside it its buffer, whose items are cut in two
use Rattle.std.proofs.lemmas.Iterator.Consumers.{YieldsList-from_deque}
use Rattle.allocative_tally.proofs.{◌≡◌, arith, true, length, rules, field_as, container, of_every, told_by}
use Rattle.allocative_tally.proofs.sequence.VecDequeTallied.tally.Goals as goal

pub returns : goal.returns
returns g c =
    let count : c.len.result ≡ length c.args.self.now.items = search rules in
    let items = YieldsList-from_deque c.args.self.now.items c.iter.ensures.rest in
    let told = of_every items c.count_buffer.ensures count true in
    container 32 _ (omega arith) (omega arith) field_as (told_by _ (rw (count, c.capacity.ensures) at told))
