-- What a registry shows, and how a builder ends after a root visitor borrowed its collector.
use Rattle.std.specs.Prelude.{◌≡◌, Bool, List, Result, Err, IfErr, OnOk}
use Rattle.std.specs.List.{list_all}
use Rattle.std.specs.Borrow.{Fml, MutBor, Lends, follows_so, name_if_ok}
use Rattle.std.specs.declared.dyn_box.DynBox.{DynBox}
use Rattle.std.specs.declared.alloc.Global.{Global}
use Rattle.allocative_graph.specs.declared.refusal.Refusal.{Refusal}
use Rattle.allocative_graph.specs.Collector.{State}
use Rattle.allocative_graph.specs.Visits.{OpensRoot}
use Rattle.allocative.specs.Kinds.{as_graph}
use Rattle.allocative.specs.declared.allocative_trait.Allocative.{Ghosts}
use Rattle.allocative.specs.declared.run.registry.Registry.{Registry}
use Rattle.allocative.specs.declared.visitor.Visitor.{Visitor}
use Rattle.allocative.specs.contracts.run.builder.FlameGraphBuilder as builder
use Rattle.allocative.specs.contracts.visitor.collector.Collector as collector

-- The list of a registry's roots.
abbrev pub roots_of : {X : Type 0} {P : X → Type 0} → Registry X P → List (DynBox X Global P)
roots_of r = r.roots.items

-- Whether the types of all roots of a registry are strict. `members` gives what the type of a root states.
abbrev pub are_strict : {X : Type 0} {P : X → Type 0} → ((b : DynBox X Global P) → Ghosts (P b.vtable)) → Registry X P
    → Bool
are_strict members r = list_all (λ b. (members b).is_strict) (roots_of r)

-- The builder ends as the last state of the collector.
abbrev pub LendsBuilt : MutBor State → MutBor State → Fml
LendsBuilt s r = Lends builder.the_row collector.the_row s r as_graph

-- The builder ends as the collector that the root visitor leaves or, if no visitor is returned, as beginning says.
abbrev pub LendsRoot : MutBor State → Result Visitor Refusal → Fml
LendsRoot s r =
    follows_so builder.the_row collector.the_row s.ghost_name (name_if_ok (λ v. v.collector.ghost_name) r)
    (λ w b. OnOk r (b ≡ as_graph w))
    (λ b. IfErr r (λ e. OpensRoot s.now (Err e) b))
