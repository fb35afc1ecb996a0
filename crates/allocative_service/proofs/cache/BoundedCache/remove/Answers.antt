-- The sum of the bytes is less by those of the removed entry.
use Rattle.std.proofs.Common.{arith}
use Rattle.allocative_service.proofs.Caching.{bytes_of-taken, without-kept}
use Rattle.allocative_service.proofs.cache.BoundedCache.remove.Goals as goal

-- The cache is within its bound after a removal.
pub invariant_of-self-2 : goal.invariant_of-self-2
invariant_of-self-2 g c =
    let s = bytes_of-taken (g.K.PartialEq.eq c.args.key.now) c.self.inside.entries.entries
    (c.in_ok-key.key, c.in_ok-key.kept) c.in_ok-key.ensures.value in
    rw c.pop_entry.ensures.entries (
      c.self.invariant.0,
      omega (arith, s, c.self.invariant.1),
      without-kept _ c.self.invariant.2,
    )

-- The values are within the bound after a removal.
pub returns-clause-bounded : goal.returns-clause-bounded
returns-clause-bounded g c = (invariant_of-self-2 g c).2
