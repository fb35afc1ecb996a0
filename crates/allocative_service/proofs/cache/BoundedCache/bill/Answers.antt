-- of BoundedCache::bill: key and value together do not fit a word
use Rattle.std.proofs.Common.{◌+◌, ◌^◌, ◌≤◌, inr, refl, rules}
use Rattle.allocative_service.proofs.cache.BoundedCache.bill.Goals as goal

pub returns-in_default-clause-refused : goal.returns-in_default-clause-refused
returns-in_default-clause-refused g c =
    let n = c.in_ok-key_bytes.key_bytes + c.in_ok-value_bytes.value_bytes in
    let large : 2 ^ 64 ≤ n = search rules in
    rw (← c.self.view_is) (inr (inr (
      refl,
      n,
      (
        c.in_ok-key_bytes.key_bytes,
        record {
          value_bytes = c.in_ok-value_bytes.value_bytes;
          of_key = rw (← c.self.view_is) at c.in_ok-key_bytes.ensures.key;
          of_value = c.in_ok-value_bytes.ensures.measured;
          together = refl;
        },
      ),
      large,
    )))
