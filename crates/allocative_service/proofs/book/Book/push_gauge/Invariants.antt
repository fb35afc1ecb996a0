-- of Book::push_gauge: the invariant of its loop
use Rattle.std.proofs.Common.{◌≡◌, ◌++◌, flat_map, map, string_bytes}
use Rattle.std.specs.Map.Iter.{deref_pair}
use Rattle.allocative_service.specs.Metrics.{account_line, head, help_of, metric, word_of}
use Rattle.allocative_service.proofs.book.Book.push_gauge.Given as goal

-- The lines of the tenants so far are appended.
abbrev pub invariant-loop-tenant : goal.invariant-loop-tenant
invariant-loop-tenant g l =
    string_bytes l.text ≡ (string_bytes l.fn.text ++ head (metric l.prefix (word_of l.gauge)) (help_of l.gauge))
    ++ flat_map (account_line g.E.Billed.billed l.prefix l.gauge) (map deref_pair l.yielded)
