-- How contracts see the collector's fields, and what its kinds do.
use Rattle.std.specs.Prelude.{◌≡◌, ℕ}
use Rattle.allocative_graph.specs.declared.refusal.Refusal.TheVariants.{Open}
use Rattle.allocative_graph.specs.Collector as model
use Rattle.allocative_graph.specs.Collector.{OfGraph, OfSum, State, Going}
use Rattle.allocative.specs.declared.visitor.collector.Kind.{Kind}
use Rattle.allocative.specs.declared.visitor.collector.Kind.TheVariants.{Failed, Graph, Sum}

-- The state that a contract sees.
abbrev pub state_of : Kind → State
state_of (Graph c) = Going (OfGraph c)
state_of (Sum s) = Going (OfSum s)
state_of (Failed cause) = model.Failed cause

-- n is the sum of a collector of held or of owned bytes in the state s. Nothing is said of other states.
abbrev pub IsSum : State → ℕ → Type 0
IsSum (model.Failed r) n = Unit {0}
IsSum (Going (OfGraph c)) n = Unit {0}
IsSum (Going (OfSum s)) n = n ≡ s.sum

-- The collector of a builder, as contracts see it: that of a sum has failed with Open. No call here puts one into a
-- builder, but code that holds two visitors can swap the collectors that they borrow.
abbrev pub as_graph : State → State
as_graph (model.Failed r) = model.Failed r
as_graph (Going (OfGraph c)) = Going (OfGraph c)
as_graph (Going (OfSum s)) = model.Failed Open
