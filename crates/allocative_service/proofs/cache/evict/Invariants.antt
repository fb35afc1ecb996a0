-- What evicting leaves so far, and each round removes an entry.
use Rattle.std.proofs.Common.{◌≡◌, length}
use Rattle.allocative_service.specs.Entries.{bytes_of}
use Rattle.allocative_service.proofs.Caching.{Evicts}
use Rattle.allocative_service.proofs.cache.evict.Given as goal

-- The entries so far are what evicting leaves, and the count has their bytes.
abbrev pub invariant-loop-left : goal.invariant-loop-left
invariant-loop-left g l = record {
  callable : goal.F-IsAlwaysCallable g l.on_evict;
  evicted : Evicts (λ f k v h. goal.F-step g f k v tt h) l.fn.on_evict l.room l.initial.entries.entries
      l.entries.entries l.on_evict;
  left : l.left ≡ bytes_of l.entries.entries;
  capacity : l.entries.cap ≡ l.initial.entries.cap;
}

-- Each round takes off an entry.
abbrev pub decreases-loop-left : goal.decreases-loop-left
decreases-loop-left g l = length l.entries.entries
