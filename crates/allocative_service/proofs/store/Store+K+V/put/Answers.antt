-- of Store::put: what there was, and the error, are those of the shelf
use Rattle.allocative_service.proofs.store.Store+K+V.put.Goals as goal

pub returns-clause-had : goal.returns-clause-had
returns-clause-had g c = rw (← c.self.view_is, ← c.in-Some.ensures.value) c.put-kept.ensures.had

pub returns-clause-refused : goal.returns-clause-refused
returns-clause-refused g c =
    rw (← c.self.view_is, ← c.in-Some.ensures.value, ← c.self.invariant.0) c.put-kept.ensures.refused
