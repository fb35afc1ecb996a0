-- The profiles that a service keeps.
use Rattle.std.specs.Prelude.{◌≡◌, ◌⊎◌, ℕ, Bool, List, ◌∷◌, Option, Some, None, IsSomeAnd, option_map, slice_get, take}
use Rattle.std.specs.Prelude.{⊤}
use Rattle.std.specs.Option.{option_zip}
use Rattle.allocative.specs.Graph.{Graph, ExceedWord}
use Rattle.allocative.specs.Refusal.{Refusal}
use Rattle.allocative.specs.Refusal.TheVariants.{Memory, TooLarge}
use Rattle.allocative.specs.Shows.{Showing}
use Rattle.allocative.specs.Strict.{MayRefuseProfile}
use Rattle.allocative.specs.Visits.{Profile, IsProfileOf}
use Rattle.allocative_service.specs.declared.history.History.{History}
use Rattle.allocative_service.specs.Changes.{Changed, changes_of, GrewMost}

-- The profiles of a history, the latest first.
abbrev pub profiles_of : History → List Graph
profiles_of h = h.profiles.items

-- The most profiles that a history keeps.
abbrev pub most_of : History → ℕ
most_of h = h.most

-- The latest profile of a history, if there is one.
abbrev pub latest_of : History → Option Graph
latest_of h = slice_get (profiles_of h) 0

-- The profiles at two places of a history, if both are there.
abbrev pub two_of : History → ℕ → ℕ → Option (Graph × Graph)
two_of h i j = option_zip (slice_get (profiles_of h) i) (slice_get (profiles_of h) j)

-- The profile is kept as the latest, with as many of the earlier ones as there is room for.
abbrev pub KeepsProfile : Graph → History → History → Type 0
KeepsProfile g old new = profiles_of new ≡ take (most_of old) (g ∷ profiles_of old)

-- The graph of a profile of what p allows is kept.
pub record TakesProfile (p : Showing) (old new : History) : Type 0 where
  pub profile : Profile
  pub is_profile : IsProfileOf p profile
  pub kept : KeepsProfile profile.graph old new

-- The graph of a profile of what p allows is kept, and these are the changes since the latest one before, if there was
-- one: their bytes together fit a word.
pub record TakesChanges (p : Showing) (old new : History) (changes : Option (List Changed)) : Type 0 where
  pub profile : Profile
  pub is_profile : IsProfileOf p profile
  pub kept : KeepsProfile profile.graph old new
  pub since : changes ≡ option_map (λ g. changes_of g profile.graph) (latest_of old)
  pub fits : ¬ (IsSomeAnd (latest_of old) (λ g. ExceedWord g profile.graph))

-- Why no profile of what p allows is kept and compared with the earlier one. It is refused. Or it was made, and both
-- together exceed a word, or memory runs out.
abbrev pub RefusesChanges : Bool → Showing → Option Graph → Refusal → Type 0
RefusesChanges is_strict p earlier e = MayRefuseProfile is_strict p e ⊎ ((made : Profile) × IsProfileOf p made
    × (((e ≡ TooLarge) × IsSomeAnd earlier (λ g. ExceedWord g made.graph))
    ⊎ ((e ≡ Memory) × ¬ (IsSomeAnd earlier (λ g. ExceedWord g made.graph)))))

-- n of the changes between two profiles grew most, or all that grew if there are fewer. There are none if a profile
-- is missing.
abbrev pub GrewMostBetween : ℕ → Option (Graph × Graph) → Option (List Changed) → Type 0
GrewMostBetween n None None = ⊤
GrewMostBetween n (Some p) (Some top) = GrewMost n (changes_of p.0 p.1) top
GrewMostBetween n _ _ = ⊥
