-- of a vector's tally: its entry, and inside it its buffer
use Rattle.allocative_tally.proofs.{◌≡◌, arith, false, length, rules, YieldsList-from_slice, field_as, container}
use Rattle.allocative_tally.proofs.{of_every, told_by}
use Rattle.allocative_tally.proofs.sequence.VecTallied.tally.Goals as goal

pub returns : goal.returns
returns g c =
    let count : c.len.result ≡ length c.args.self.now.items = search rules in
    let told = of_every (YieldsList-from_slice c.args.self.now.items cc) c.count_buffer.ensures count false in
    container 24 _ (omega arith) (omega arith) field_as (told_by _ (rw (count, c.capacity.ensures) at told))
