-- of Book::close: the bytes of the account are part of those of all
use Rattle.std.proofs.Common.{arith}
use Rattle.allocative_service.specs.Book.{is_tenant}
use Rattle.allocative_service.proofs.Accounts.{account_within}
use Rattle.allocative_service.proofs.book.Book.close.Goals as goal

pub overflow_sub-self : goal.overflow_sub-self
overflow_sub-self g c =
    let part = (account_within g.E.Billed.billed (is_tenant c.args.tenant.now) c.self.inside.accounts.entries).1 in
    let within = rw (← c.in_ok-account.ensures.value) at part in
    omega (arith, c.bytes.ensures.sum.0, c.self.invariant.0, within)
