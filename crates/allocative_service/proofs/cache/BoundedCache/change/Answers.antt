-- of BoundedCache::change: ok and refused
use Rattle.std.proofs.Common.{rules}
use Rattle.allocative_service.proofs.Caching.{taken}
use Rattle.allocative_service.proofs.cache.BoundedCache.change.Goals as goal

-- The value is changed and inserted again.
pub returns-in-Ok-clause-ok : goal.returns-in-Ok-clause-ok
returns-in-Ok-clause-ok g c =
    let t = taken _ c.in-Some.key c.in-Some.value c.in-Some.ensures.value in
    record {
      key = c.in-Some.key;
      had = t.0;
      value = c.change.new.arg2;
      found = t.1;
      changes = rw t.2 (search rules);
      inserts = rw c.remove.ensures.others at c.in-Ok.ensures.ok;
    }

-- The value is changed, and refused as an insertion is.
pub returns-in-Err-clause-refused : goal.returns-in-Err-clause-refused
returns-in-Err-clause-refused g c =
    let t = taken _ c.in-Some.key c.in-Some.value c.in-Some.ensures.value in
    rw (c.in-Err.ensures.returned.0, c.in-Err.ensures.returned.1)
    (t.0, t.1, rw t.2 (search rules), rw c.remove.ensures.others at c.in-Err.ensures.refused)
