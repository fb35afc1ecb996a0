-- Putting a value first and then evicting others is an insertion, and keeps the cache within its bound.
use Rattle.std.proofs.Common.{arith, refl}
use Rattle.allocative_service.proofs.Caching.{insertion, Inserts-bounded}
use Rattle.allocative_service.proofs.cache.BoundedCache.insert.Goals as goal

-- A value that is put first, before others are evicted, is inserted.
pub returns-in-Ok-put-clause-ok : goal.returns-in-Ok-put-clause-ok
returns-in-Ok-put-clause-ok g c =
    let bill = rw (← c.self.view_is) at c.in-Ok.ensures.bill in
    let within = rw (← c.self.view_is) at c.in-Ok.ensures.within in
    let recent = c.evict-self-inside.ensures.recent in
    rw (← c.self.view_is) (insertion _ _ _ refl bill within c.in-Ok-put.ensures.first recent (omega arith))

-- The cache is within its bound after an insertion.
pub invariant_of-self : goal.invariant_of-self
invariant_of-self g c =
    let made = rw (← c.self.view_is) at (returns-in-Ok-put-clause-ok g c) in (
      omega (arith, c.evict-self-inside.ensures.capacity, c.put.ensures.capacity, c.self.invariant.0),
      c.evict-self-inside.ensures.bytes,
      Inserts-bounded made c.self.invariant.2,
    )

-- The values are within the bound after an insertion.
pub returns-in-Ok-put-clause-bounded : goal.returns-in-Ok-put-clause-bounded
returns-in-Ok-put-clause-bounded g c = (invariant_of-self g c).2
