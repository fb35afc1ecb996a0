-- A flame graph's collector as its parts: a tree, the identities met, and the places of its visitors.
use Rattle.std.specs.Prelude.{◌≡◌, ℕ, ◌+◌, ◌<◌, ◌^◌, Bool, cond, [], ◌∷◌, ◌++◌, List, map, reverse, length, slice_index}
use Rattle.std.specs.Prelude.{◌≤◌, ◌⊎◌, true, false}
use Rattle.std.specs.FinSet.{from_list, contains}
use Rattle.allocative_graph.specs.declared.refusal.Refusal.{Refusal}
use Rattle.allocative_graph.specs.declared.refusal.Refusal.TheVariants.{Memory, TooLarge}
use Rattle.allocative_graph.specs.Identity.{Identity}
use Rattle.allocative_graph.specs.Path.{Key, Path}
use Rattle.allocative_graph.specs.Sums.{bytes_entered}
use Rattle.allocative_graph.specs.Collector.{Live, enter_first, enter_again}
use Rattle.allocative_collectors.specs.Listed.{Listed, path_at, map_of, IsEntered}

-- The path that a root visitor goes back to, if one is open.
abbrev pub to_root : Bool → List Path
to_root is_rooted = cond is_rooted ([] ∷ []) []

-- The paths above p, from the nearest one to the root.
abbrev pub outside : Path → List Path
outside [] = []
outside (k ∷ p) = map (λ (q : Path). k ∷ q) (outside p) ++ [] ∷ []

-- The paths to go back to from contents that were entered at the paths ps, followed by the paths `last`.
abbrev pub back_from : List Path → List Path → List Path
back_from [] last = last
back_from (p ∷ ps) last = p ∷ (outside p ++ back_from ps last)

-- The paths to go back to: those above the current one, then those of each open content.
abbrev pub back_at : Listed → ℕ → List ℕ → Bool → List Path
back_at t current places is_rooted =
    outside (path_at t current) ++ back_from (reverse (map (path_at t) places)) (to_root is_rooted)

-- The collector that the parts stand for: the tree, the identities met, the current place, the places where the open
-- contents were entered, with the innermost last, and whether a root visitor is open.
abbrev pub live : Listed → List Identity → ℕ → List ℕ → Bool → Live
live t met current places is_rooted = record {
  sums = map_of t;
  met = from_list met;
  here = path_at t current;
  back = back_at t current places is_rooted;
  open_visitors = length (back_at t current places is_rooted);
}

-- The places are those of the list, which begins with the root. The bytes of all entries and `room` are 2^63 - 1.
pub record IsPlaced (t : Listed) (current : ℕ) (places : List ℕ) (room : ℕ) : Type 0 where
  pub here : current < length t
  pub back : (j : ℕ) → j < length places → slice_index places j < length t
  pub entered_is : bytes_entered (map_of t) + room + 1 ≡ 2 ^ 63
  pub rooted : 0 < length t
  pub root_path : path_at t 0 ≡ []

-- There was room for `was` bytes, and with one more entry of n bytes under k at the path of place `at` there is room
-- for `now`. The place of the entry is `node`.
pub record AddedAt (old new : Listed) (at : ℕ) (k : Key) (n : ℕ) (u : Bool) (was now : ℕ) (node : ℕ) : Type 0 where
  pub fits : n ≤ was
  pub count : was ≡ now + n
  pub is : IsEntered old new at k n u node

-- An entry of n bytes is refused with e, and there is room for `room` bytes. Either e is TooLarge and n exceeds the
-- room, or e is Memory and it does not.
abbrev pub TellsWhy : ℕ → ℕ → Refusal → Type 0
TellsWhy room n e = ((e ≡ TooLarge) × (room < n)) ⊎ ((e ≡ Memory) × (n ≤ room))

-- ---- whether an identity is met for the first time
-- `is_first` says whether c has not met i. Then d is c with a pointer to i and a visitor at its content, otherwise
-- with the pointer alone.
abbrev pub MeetsAs : Key → ℕ → Identity → Live → Bool → Live → Type 0
MeetsAs k n i c true d = (contains c.met i ≡ false) × (d ≡ enter_first k n i c)
MeetsAs k n i c false d = (contains c.met i ≡ true) × (d ≡ enter_again k n i c)
