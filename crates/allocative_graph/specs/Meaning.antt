-- Which contents belong to a bag of entries, and when two showings agree.
use Rattle.std.specs.Prelude.{Bool, false, List, [], ◌++◌, flat_map, ◌↔◌, IsPermutation, IsTrue}
use Rattle.std.specs.List.{list_any, IsDistinct}
use Rattle.std.specs.Map.{lookup}
use Rattle.std.specs.Option.{unwrap_or}
use Rattle.std.specs.FinSet as set
use Rattle.allocative_graph.specs.Identity.{Identity, is_same_identity}
use Rattle.allocative_graph.specs.Forest.{Forest, Mark, AsShared, Bag, own, contents, content_identities, Fits}

-- Whether a mark is that of a pointer to i.
abbrev pub is_mark_of : Identity → Mark → Bool
is_mark_of i (AsShared j) = is_same_identity i j
is_mark_of i m = false

-- Whether an entry of the bag points to i.
abbrev pub has_mark : Identity → Bag → Bool
has_mark i b = list_any (λ e. is_mark_of i e.mark) b

-- Whether i is one of the identities.
abbrev pub is_among : Identity → List Identity → Bool
is_among i is = list_any (is_same_identity i) is

-- The identities reached: the least set that has those to which b points and, with each of its identities, those to
-- which the content of that one points.
pub data Reached (b : Bag) (content : Identity → Bag) : Identity → Type 0 where
  marked : {i : Identity} → IsTrue (has_mark i b) → Reached b content i
  inside : {i : Identity} (j : Identity) → Reached b content j → IsTrue (has_mark i (content j)) → Reached b content i

-- m is a meaning of b: the entries of b and, once for each identity reached, those of its content.
pub record IsMeaning (b : Bag) (content : Identity → Bag) (m : Bag) : Type 0 where
  pub identities : List Identity
  pub once : IsDistinct is_same_identity identities
  pub reached : (i : Identity) → IsTrue (is_among i identities) ↔ Reached b content i
  pub is : IsPermutation (b ++ flat_map content identities) m

-- The content that f shows of an identity, or no entries if it shows none.
abbrev pub content_of : Forest → Identity → Bag
content_of f i = unwrap_or (lookup (is_same_identity i) (contents f)) []

-- f is a whole showing: it fits when no identity was met before.
abbrev pub IsWhole : Forest → Type 0
IsWhole f = Fits set.empty f

-- Two showings agree: they have one bag of own entries, and one content for each identity that both show.
pub record Agree (f g : Forest) : Type 0 where
  pub own_entries : IsPermutation (own f) (own g)
  pub same_content : (i : Identity) → IsTrue (is_among i (content_identities f)) →
      IsTrue (is_among i (content_identities g))
      → IsPermutation (content_of f i) (content_of g i)

-- The identities whose content f shows are exactly those that f reaches.
abbrev pub ReachesExactly : Forest → Type 0
ReachesExactly f = (i : Identity) → IsTrue (is_among i (content_identities f)) ↔ Reached (own f) (content_of f) i

-- No identity is reached by both.
abbrev pub ReachApart : Forest → Forest → Type 0
ReachApart f g = (i : Identity) → Reached (own f) (content_of f) i → Reached (own g) (content_of g) i → ⊥
