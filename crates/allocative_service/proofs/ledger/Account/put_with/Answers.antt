-- of Account::put_with: there is no room for a number that has no entry
use Rattle.std.proofs.Common.{rules}
use Rattle.allocative_service.proofs.ledger.Account.put_with.Goals as goal

pub returns-in_err-check-in-Ok-Vacant-clause-rejected : goal.returns-in_err-check-in-Ok-Vacant-clause-rejected
returns-in_err-check-in-Ok-Vacant-clause-rejected g c =
    rw (← c.self.view_is, c.in-Ok-Vacant.ensures.found) (search rules)
