-- `enter_sized` lends the collector on.
use Rattle.allocative.proofs.Entering.{enters}
use Rattle.allocative.proofs.Lent.{Size, size_laws, Goes-blank, plain, yes, false, OpensEntry, RefusesEntry}
use Rattle.allocative.proofs.visitor.Visitor.enter_sized.Statement.{statement}
use Rattle.allocative.proofs.visitor.Visitor.enter_sized.Code as code
use Rattle.allocative.proofs.visitor.by_hand.collector_of.Met as g
use Rattle.allocative.proofs.visitor.collector.Collector.enter_sized.Met as h

-- The code of `enter_sized` meets its contract.
pub enter_sized_spec : {M : Type 1} → statement M
enter_sized_spec 𝓤 𝓛 𝓜 𝓡 wired =
    enters Size size_laws (OpensEntry false) (λ k n s. RefusesEntry false n s) 𝓤 𝓛 𝓜 𝓡
    (Goes-blank 𝓛 2 (plain (λ _. Size)) yes (λ κs x w. tt))
    (code.unfolded 𝓤 𝓛.H 𝓜 𝓡 wired) (g.met 𝓤 𝓛 𝓜 𝓡 (code.calls-allocative::visitor::by_hand::collector_of 𝓡.env wired))
    (h.met 𝓤 𝓛 𝓜 𝓡 (code.calls-allocative::visitor::collector::Collector::enter_sized 𝓡.env wired))
