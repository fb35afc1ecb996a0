-- What is stored, and that nothing else changes.
use Rattle.std.proofs.Common.{refl, rules}
use Rattle.allocative_service.proofs.Accounts.{sum_by-written, account_within}
use Rattle.allocative_service.proofs.ledger.Ledger.put_with.Goals as goal

-- An error is that of the account.
pub returns-in_err-total-clause-rejected : goal.returns-in_err-total-clause-rejected
returns-in_err-total-clause-rejected g c =
    rw (← c.self.view_is, ← c.in-Some.ensures.value, ← c.self.invariant.0) (search rules)

-- The account has the bytes, and the sums are those with them.
pub returns-clause-stored : goal.returns-clause-stored
returns-clause-stored g c =
    let p = c.in_ok-total.ensures.put in
    rw (← c.self.view_is, ← c.in-Some.ensures.value) (
      p.0,
      p.1,
      ((refl, p.4, (search rules, search rules)), search (rules, sum_by-written, account_within)),
      search (rules, sum_by-written, account_within),
    )
