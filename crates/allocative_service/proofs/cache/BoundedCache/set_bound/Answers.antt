-- What is left is within the new bound.
use Rattle.std.proofs.Common.{arith}
use Rattle.allocative_service.proofs.Caching.{recent-kept}
use Rattle.allocative_service.proofs.cache.BoundedCache.set_bound.Goals as goal

-- The cache is within the new bound.
pub invariant_of-self : goal.invariant_of-self
invariant_of-self g c = (
  omega (arith, c.evict-self-inside.ensures.capacity, c.self.invariant.0),
  c.evict-self-inside.ensures.bytes,
  recent-kept c.args.bound c.evict-self-inside.ensures.recent (omega arith) c.self.invariant.2,
)
