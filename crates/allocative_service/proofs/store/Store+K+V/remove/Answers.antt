-- of Store::remove: the bytes of the entry are part of those of all
use Rattle.std.proofs.Common.{arith}
use Rattle.std.specs.BTreeMap.{is_at}
use Rattle.allocative_service.specs.Book.{is_tenant}
use Rattle.allocative_service.specs.Kept.{kept_bytes}
use Rattle.allocative_service.proofs.Accounts.{account_within}
use Rattle.allocative_service.proofs.Billing.{found_within}
use Rattle.allocative_service.proofs.store.Store+K+V.remove.Goals as goal

pub overflow_sub-self : goal.overflow_sub-self
overflow_sub-self g c =
    let part = (account_within kept_bytes (is_tenant c.args.tenant.now) c.self.inside.accounts.entries).1 in
    let within = rw (← c.in_ok-account.ensures.value) at part in
    let bytes = found_within kept_bytes (is_at (g.K.Ord.cmp c.args.key.now)) c.in_ok-account.account.now.entries
    c.in_ok-key.entry c.in_ok-key.ensures.entry in
    omega (arith, bytes, within, c.self.invariant.0)
