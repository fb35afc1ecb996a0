-- The fields of the cache after `LruCache::get`.
use Rattle.allocative_service.proofs.Caching.{promoted-kept}
use Rattle.allocative_service.proofs.cache.BoundedCache.get.Goals as goal

-- The cache keeps its sum and its bound if it has no such key.
pub invariant_of-self : goal.invariant_of-self
invariant_of-self g c = rw c.get.follows.holds-at-none
    (promoted-kept (g.K.PartialEq.eq c.args.key.now) c.self.inside.entries.entries c.self.invariant)

-- The cache keeps its sum and its bound if it lends the value.
pub invariant_of-self-2 : goal.invariant_of-self-2
invariant_of-self-2 g c = rw c.get.follows.holds-at-none
    (promoted-kept (g.K.PartialEq.eq c.args.key.now) c.self.inside.entries.entries c.self.invariant)
