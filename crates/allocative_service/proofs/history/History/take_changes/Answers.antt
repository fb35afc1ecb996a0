-- of History::take_changes: taken and refused
use Rattle.std.proofs.Common.{◌≡◌, ◌↔◌, Bool, List, Option, Vec, Global, Result, Ok, Err, IfOk, IfErr, OnOk, IsErrOf}
use Rattle.std.proofs.Common.{IsSomeAnd, inl, inr, option_map, refl}
use Rattle.allocative.specs.Graph.{Graph, ExceedWord}
use Rattle.allocative.specs.Shows.{Showing}
use Rattle.allocative.specs.Visits.{Profile, IsProfileOf}
use Rattle.allocative_graph.specs.declared.refusal.Refusal.{Refusal}
use Rattle.allocative_graph.specs.declared.refusal.Refusal.TheVariants.{Memory, TooLarge, Open}
use Rattle.allocative_service.specs.Changes.{Changed, data_of, changes_of}
use Rattle.allocative_service.specs.History.{latest_of, KeepsProfile, TakesChanges, RefusesChanges}
use Rattle.allocative_service.specs.declared.history.History.{History}
use Rattle.allocative_service.specs.declared.history.changes.Change.{Change}
use Rattle.allocative_service.proofs.history.History.take_changes.Goals as goal

-- What the changes of a list say, if there is a list.
abbrev said : Option (Vec Change Global) → Option (List Changed)
said found = option_map (λ changes. data_of changes.items) found

-- The profile that was made is the one that is kept and compared.
taken : (r : Result (Option (Vec Change Global)) Refusal) (p : Showing) (old new : History) (made : Profile) →
    IsProfileOf p made → IfOk r (λ found. said found ≡ option_map (λ g. changes_of g made.graph) (latest_of old)) →
    OnOk r (KeepsProfile made.graph old new) →
    (IsErrOf r TooLarge ↔ IsSomeAnd (latest_of old) (λ g. ExceedWord g made.graph)) →
    IfOk r (λ found. TakesChanges p old new (said found))
taken (Ok found) p old new made is since kept large =
    let fits : ¬ (IsSomeAnd (latest_of old) (λ g. ExceedWord g made.graph)) = λ h. cc (large.1 h) in
    record { profile = made; is_profile = is; kept = kept; since = since; fits = fits }
taken (Err e) p old new made is since kept large = tt

-- What is refused after the profile was made is its comparison, or the memory for it.
refused : (r : Result (Option (Vec Change Global)) Refusal) (is_strict : Bool) (p : Showing) (earlier : Option Graph)
    (made : Profile) → IsProfileOf p made →
    (IsErrOf r TooLarge ↔ IsSomeAnd earlier (λ g. ExceedWord g made.graph)) → ¬ (IsErrOf r Open) →
    IfErr r (RefusesChanges is_strict p earlier)
refused (Ok found) is_strict p earlier made is large never = tt
refused (Err Memory) is_strict p earlier made is large never =
    inr (made, is, inr (refl, λ h. cc (large.1 h)))
refused (Err TooLarge) is_strict p earlier made is large never =
    inr (made, is, inl (refl, large.0 refl))
refused (Err Open) is_strict p earlier made is large never = absurd (never refl)

pub returns-clause-taken : goal.returns-clause-taken
returns-clause-taken g c =
    let same : c.into_flamegraph.result ≡ c.in_ok-profile.profile.graph = c.into_flamegraph.ensures in
    let kept = c.keep_changes.ensures in
    taken c.keep_changes.result _ _ _ c.in_ok-profile.profile c.in_ok-profile.ensures.profile
    (rw (← same) kept.changes) (rw (← same) kept.kept) (rw (← same) kept.too_large)

pub returns-clause-refused : goal.returns-clause-refused
returns-clause-refused g c =
    let same : c.into_flamegraph.result ≡ c.in_ok-profile.profile.graph = c.into_flamegraph.ensures in
    let kept = c.keep_changes.ensures in
    refused c.keep_changes.result _ _ _ c.in_ok-profile.profile c.in_ok-profile.ensures.profile
    (rw (← same) kept.too_large) kept.never_open
