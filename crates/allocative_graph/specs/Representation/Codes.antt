-- Codes of the values that contracts see.
use Rattle.std.specs.Prelude.{◌≡◌, ℕ, Bool, List, refl, ◌⊎◌}
use Rattle.std.proofs.Common.{inl, inr}
use Rattle.std.specs.Coded.{Coded, code_by, coded×, coded_ℕ, coded_bool, coded_list, coded⊎}
use Rattle.std.specs.FinMap as finmap
use Rattle.std.specs.FinSet as set
use Rattle.allocative_graph.specs.declared.refusal.Refusal.{Refusal}
use Rattle.allocative_graph.specs.contracts.refusal.Refusal as refusal
use Rattle.allocative_graph.specs.contracts.restore.Restore as restore
use Rattle.allocative_graph.specs.Path.{Path}
use Rattle.allocative_graph.specs.Identity.{Identity, Identities}
use Rattle.allocative_graph.specs.Sums.{Node, Sums}
use Rattle.allocative_graph.specs.Graph.{Graph, Warned}
use Rattle.allocative_graph.specs.Collector.{Live, Summing, Restore, OfGraph, OfSum, State, Failed, Going}
use Rattle.allocative_graph.specs.Visits.{Profile}

-- The code of a path.
abbrev pub path_code : Coded Path
path_code = coded_list (coded_list coded_ℕ)

-- The code of a path that has a warning.
abbrev pub warned_code : Coded Warned
warned_code =
    code_by (Path × (ℕ × ℕ)) (coded× path_code (coded× coded_ℕ coded_ℕ)) (λ w. (w.path, (w.self_size, w.children_size)))
    (λ p. record { path = p.0; self_size = p.1.0; children_size = p.1.1 }) (λ _. refl)

-- The code of a profile.
abbrev pub profile_code : Coded Profile
profile_code =
    code_by (Graph × (List ℕ × List Warned)) (coded× (finmap.code path_code coded_ℕ)
    (coded× (coded_list coded_ℕ) (coded_list warned_code)))
    (λ o. (o.graph, (o.warnings, o.warned))) (λ p. record { graph = p.0; warnings = p.1.0; warned = p.1.1 }) (λ _. refl)

-- The code of what was entered at a path.
abbrev pub node_code : Coded Node
node_code = code_by (ℕ × Bool) (coded× coded_ℕ coded_bool) (λ n. (n.bytes, n.is_unique))
    (λ p. record { bytes = p.0; is_unique = p.1 }) (λ _. refl)

-- The code of an identity.
abbrev pub identity_code : Coded Identity
identity_code = code_by (ℕ × ℕ) (coded× coded_ℕ coded_ℕ) (λ i. (i.maker, i.number))
    (λ p. record { maker = p.0; number = p.1 }) (λ _. refl)

-- The code of a flame graph's collector.
abbrev pub live_code : Coded Live
live_code =
    code_by (Sums × (Identities × (Path × (List Path × ℕ))))
    (coded× (finmap.code path_code node_code)
    (coded× (set.code identity_code) (coded× path_code (coded× (coded_list path_code) coded_ℕ))))
    (λ l. (l.sums, (l.met, (l.here, (l.back, l.open_visitors)))))
    (λ p. record { sums = p.0; met = p.1.0; here = p.1.1.0; back = p.1.1.1.0; open_visitors = p.1.1.1.1 }) (λ _. refl)

-- The code of a collector of a sum.
abbrev pub summing_code : Coded Summing
summing_code = code_by (ℕ × (Restore × ℕ)) (coded× coded_ℕ (coded× (restore.the_row).coded coded_ℕ))
    (λ s. (s.sum, (s.figure, s.open_visitors)))
    (λ p. record { sum = p.0; figure = p.1.0; open_visitors = p.1.1 }) (λ _. refl)

-- A state as a sum type.
abbrev pub of_state : State → Refusal ⊎ (Live ⊎ Summing)
of_state (Failed r) = inl r
of_state (Going (OfGraph c)) = inr (inl c)
of_state (Going (OfSum s)) = inr (inr s)

-- The state of a value of that sum type.
abbrev pub to_state : Refusal ⊎ (Live ⊎ Summing) → State
to_state (inl r) = Failed r
to_state (inr (inl c)) = Going (OfGraph c)
to_state (inr (inr s)) = Going (OfSum s)

-- Converting a state to the sum type and back returns it.
pub state_back : (s : State) → to_state (of_state s) ≡ s
state_back (Failed r) = refl
state_back (Going (OfGraph c)) = refl
state_back (Going (OfSum s)) = refl

-- The code of a state.
abbrev pub state_code : Coded State
state_code =
    code_by (Refusal ⊎ (Live ⊎ Summing)) (coded⊎ (refusal.the_row).coded (coded⊎ live_code summing_code)) of_state
    to_state state_back
