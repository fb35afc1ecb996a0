-- of Book::open: opened
use Rattle.std.proofs.Common.{rules}
use Rattle.allocative_service.proofs.book.Book.open.Goals as goal

-- The tenant has a new account.
pub returns-clause-opened : goal.returns-clause-opened
returns-clause-opened g c = rw (← c.self.view_is) (
  search rules,
  c.in-Ok.name,
  c.in-Ok.ensures.ok,
  rw (← c.in-Ok.ensures.ok, ← c.new-account.ensures) c.in-Ok-insert.ensures.updates.1,
  search rules,
)
