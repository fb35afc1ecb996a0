-- `enter_unique` lends the collector on.
use Rattle.allocative.proofs.Entering.{enters}
use Rattle.allocative.proofs.Lent.{number_laws, Goes-dropped, refl, plain, usize, yes, true, Some, OpensEntry}
use Rattle.allocative.proofs.Lent.{RefusesEntry}
use Rattle.allocative.proofs.visitor.Visitor.enter_unique.Statement.{statement}
use Rattle.allocative.proofs.visitor.Visitor.enter_unique.Code as code
use Rattle.allocative.proofs.visitor.by_hand.collector_of.Met as g
use Rattle.allocative.proofs.visitor.by_hand.enter_unique.Met as h

-- The code of `enter_unique` meets its contract.
pub enter_unique_spec : {M : Type 1} → statement M
enter_unique_spec 𝓤 𝓛 𝓜 𝓡 wired =
    enters usize number_laws (λ k n. OpensEntry true k (Some n)) (λ k n s. RefusesEntry true (Some n) s) 𝓤 𝓛 𝓜 𝓡
    (Goes-dropped 𝓛 2 (plain (λ _. usize)) yes (λ κs x w. refl))
    (code.unfolded 𝓤 𝓛.H 𝓜 𝓡 wired) (g.met 𝓤 𝓛 𝓜 𝓡 (code.calls-allocative::visitor::by_hand::collector_of 𝓡.env wired))
    (h.met 𝓤 𝓛 𝓜 𝓡 (code.calls-allocative::visitor::by_hand::enter_unique 𝓡.env wired))
