-- of BoundedCache::key_bytes: what is found is billed with its key
use Rattle.std.proofs.Common.{rules}
use Rattle.allocative_service.specs.Kept.{IsBilled}
use Rattle.allocative_service.proofs.Billing.{billed-found, key_none}
use Rattle.allocative_service.proofs.cache.BoundedCache.key_bytes.Goals as goal

pub returns-in-Some-clause-key : goal.returns-in-Some-clause-key
returns-in-Some-clause-key g c =
    let billed = billed-found (IsBilled g.K.Described.layout.size g.K.Allocative.may_show g.V.Described.layout.size
    g.V.Allocative.may_show c.self.inside.measure) (g.K.PartialEq.eq c.args.key.now) c.self.inside.entries.entries
    c.args.key.now c.in-Some.kept.now c.self.invariant.2.measured (search rules) in
    rw (← c.self.view_is) billed.of_key

pub returns-in-None-clause-key : goal.returns-in-None-clause-key
returns-in-None-clause-key g c =
    let none = key_none (g.K.PartialEq.eq c.args.key.now) c.self.inside.entries.entries (search rules) in
    rw (← c.self.view_is, none) (search rules)
