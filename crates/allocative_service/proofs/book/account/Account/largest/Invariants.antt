-- of Account::largest: the invariant of its loop
use Rattle.std.proofs.Common.{◌≡◌, [], MatchOption, map}
use Rattle.std.specs.Map.Iter.{deref_pair}
use Rattle.allocative_service.specs.Book.{IsLargest}
use Rattle.allocative_service.proofs.book.account.Account.largest.Given as goal

-- The largest of the entries so far.
abbrev pub invariant-loop-key : goal.invariant-loop-key
invariant-loop-key g l = MatchOption l.largest (map deref_pair l.yielded ≡ [])
    (λ found. IsLargest g.E.Billed.billed (map deref_pair l.yielded) found.0.now found.1)
