-- of Account::remove: the bytes of what is left
use Rattle.std.proofs.Common.{arith}
use Rattle.allocative_service.proofs.Billing.{billed-remove, removed_sum}
use Rattle.allocative_service.proofs.book.account.Account.remove.Goals as goal

pub invariant_of-self-2 : goal.invariant_of-self-2
invariant_of-self-2 g c =
    let es = c.self.inside.entries.entries in
    let sum = removed_sum g.E.Billed.billed _ es c.in_ok-key.entry c.in_ok-key.ensures.value in
    rw c.in_ok-key.ensures.entries (
      omega (arith, sum, c.bytes.ensures, c.self.invariant.0),
      omega (arith, c.self.invariant.1),
      billed-remove (g.E.Billed.is_billed c.self.inside.measure) _ c.self.inside.entries.entries c.self.invariant.2,
    )
