-- The fields of the cache after `LruCache::promote`.
use Rattle.allocative_service.proofs.Caching.{promoted-kept}
use Rattle.allocative_service.proofs.cache.BoundedCache.promote.Goals as goal

-- The cache keeps its sum and its bound.
pub invariant_of-self : goal.invariant_of-self
invariant_of-self g c = rw c.promote.ensures.entries
    (promoted-kept (g.K.PartialEq.eq c.args.key.now) c.self.inside.entries.entries c.self.invariant)
