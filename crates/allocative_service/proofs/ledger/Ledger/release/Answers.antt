-- of Ledger::release: the bytes of the entry are part of those of all
use Rattle.std.proofs.Common.{ℕ, arith, nat_cmp}
use Rattle.std.specs.BTreeMap.{is_at}
use Rattle.allocative_service.specs.Book.{is_tenant}
use Rattle.allocative_service.proofs.Accounts.{account_within}
use Rattle.allocative_service.proofs.Billing.{found_within}
use Rattle.allocative_service.proofs.ledger.Ledger.release.Goals as goal

pub overflow_sub-self : goal.overflow_sub-self
overflow_sub-self c =
    let part = (account_within (λ (n : ℕ). n) (is_tenant c.args.tenant.now) c.self.inside.accounts.entries).1 in
    let within = rw (← c.in_ok-account.ensures.value) at part in
    let bytes = found_within (λ (n : ℕ). n) (is_at (nat_cmp c.args.number)) c.in_ok-account.account.now.entries
    c.in_ok-_number.bytes c.in_ok-_number.ensures.entry in
    omega (arith, bytes, within, c.self.invariant.0)
