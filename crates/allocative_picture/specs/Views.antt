-- Views of a graph: parts of it, its bytes by last key, its reversed paths, and its outline.
use Rattle.std.specs.Prelude.{◌≡◌, ℕ, zero, suc, ◌<◌, ◌≤◌, ◌⊎◌, ◌-◌, cond, List, [], ◌∷◌, drop, fold, length, reverse, sum_by, codes}
use Rattle.std.specs.Prelude.{Bool, true, not, ◌&&◌, map, nat_eq, nat_lt, unwrap_or, slice_index_or, slice_set}
use Rattle.std.specs.Borrow.{Bor}
use Rattle.std.specs.List.{AllZip, list_any}
use Rattle.std.specs.declared.alloc.Global.{Global}
use Rattle.std.specs.declared.vec.Vec.{Vec}
use Rattle.std.specs.Cmp.Lexicographic.{pointwise}
use Rattle.std.specs.FinMap.{entries}
use Rattle.std.specs.HashMap.{HashMap, get as in_table}
use Rattle.allocative_graph.specs.Path.{Key, Path, texts}
use Rattle.allocative_graph.specs.Graph.{Graph, default, add_self, sum_of, under, total, size_at, IsBehind, HasNothing}
use Rattle.allocative_graph.specs.Graph.{begins, ends_in}
use Rattle.allocative_graph.specs.Rows.{node, sum_of_all, AllSmaller, AreChildren}
use Rattle.allocative_graph.specs.Representation.Children.{IsChildGap, IsFound, graph_of_path}
use Rattle.allocative_graph.specs.declared.flamegraph.Child.{Child}
use Rattle.allocative_picture.specs.declared.views.Gathered.{Gathered}
use Rattle.allocative_picture.specs.declared.views.View.{View}
use Rattle.allocative_picture.specs.declared.views.View.TheVariants.{LastKey, Reversed, Part}

-- The graph whose root alone has n bytes.
abbrev pub bytes_alone : ℕ → Graph
bytes_alone n = add_self n default

-- ---- paths that move
-- The graph h with the bytes of those entries that `keep` passes, each at the path that f gives.
abbrev pub moved_onto : (Path × ℕ → Bool) → (Path → Path) → Graph → List (Path × ℕ) → Graph
moved_onto keep f h es = fold (λ h e. cond (keep e) (sum_of h (graph_of_path (f e.0) e.1)) h) h es

-- The last key of a path alone, and no key of the root's.
abbrev pub last_of : Path → Path
last_of p = drop (length p - 1) p

-- The bytes of all paths by last key: those of all paths that end in a key add up under it.
abbrev pub by_last_key : Graph → Graph
by_last_key g = moved_onto (λ e. true) last_of default (entries g)

-- The bytes of all paths of g that end in k.
abbrev pub bytes_ending_in : Key → Graph → ℕ
bytes_ending_in k g = sum_by (λ e. cond (ends_in k e.0) e.1 0) (entries g)

-- The bytes of each path of g at the reversed path. Paths without bytes are left out.
abbrev pub reversed : Graph → Graph
reversed g = moved_onto (λ e. nat_lt 0 e.1) reverse default (entries g)

-- The bytes of each path of g at the path whose keys f gives.
abbrev pub folded : (Key → Key) → Graph → Graph
folded f g = moved_onto (λ e. true) (map f) default (entries g)

-- ---- parts
-- The paths whose keys are these texts of code.
abbrev pub paths_of : List (Vec (Bor (List ℕ)) Global) → List Path
paths_of ps = map (λ p. texts p.items) ps

-- Whether the path is one of some paths or below one.
abbrev pub is_within : List Path → Path → Bool
is_within ps p = list_any (λ q. begins q p) ps

-- The graph h with the bytes of some paths, of those that pass a test. Paths without bytes are left out.
abbrev pub chosen_onto : (Path → Bool) → Graph → List (Path × ℕ) → Graph
chosen_onto test h es = fold (λ h e. cond (nat_lt 0 e.1 && test e.0) (sum_of h (graph_of_path e.0 e.1)) h) h es

-- The part of g at and below some paths.
abbrev pub only : List Path → Graph → Graph
only ps g = chosen_onto (is_within ps) default (entries g)

-- The part of g that is neither at nor below some paths.
abbrev pub without : List Path → Graph → Graph
without ps g = chosen_onto (λ p. not (is_within ps p)) default (entries g)

-- The bytes that g has at and below some paths.
abbrev pub bytes_within : List Path → Graph → ℕ
bytes_within ps g = sum_by (λ e. cond (is_within ps e.0) e.1 0) (entries g)

-- ---- how they are made
-- The path at which a view has the bytes of a path.
abbrev pub moved : View → Path → Path
moved LastKey p = last_of p
moved Reversed p = reverse p
moved (Part inside ps) p = p

-- Whether a view has the bytes of an entry.
abbrev pub is_kept : View → Path × ℕ → Bool
is_kept LastKey e = true
is_kept Reversed e = nat_lt 0 e.1
is_kept (Part inside ps) e =
    nat_lt 0 e.1 && cond inside (is_within (paths_of ps.now) e.0) (not (is_within (paths_of ps.now) e.0))

-- The graph h with what a view has of some entries.
abbrev pub viewed : View → Graph → List (Path × ℕ) → Graph
viewed v h es = moved_onto (is_kept v) (moved v) h es

-- A view with the children that wait.
abbrev pub all_of : Gathered → Graph
all_of gathered = sum_of_all gathered.view gathered.waiting.items

-- ---- replaced keys
-- The key that a table has in place of k, or k itself if it has none.
abbrev pub new_key : {S : Type 0} → HashMap Key Key S → Key → Key
new_key names k = unwrap_or (in_table (pointwise nat_eq) names k) k

-- A child with the key that f gives, and its graph with other keys too.
abbrev pub folded_child : (Key → Key) → Child → Child
folded_child f c = record { key = f c.key; graph = folded f c.graph }

-- ---- the outline
-- The graphs of some children, added up.
abbrev pub joined : List Child → Graph
joined cs = fold (λ g c. sum_of g c.graph) default cs

-- The children of the root of g.
pub record HasChildren (g : Graph) (cs : List Child) : Type 0 where
  pub whole : g ≡ node (size_at g []) cs
  pub children : AreChildren cs

-- x guides the outline of a child, if g guides that of its parent: it is what g has at the child's key, or the child's
-- graph if that is nothing.
abbrev pub GuidesChild : Graph → Child → Graph → Type 0
GuidesChild g c x = IsBehind g (c.key ∷ []) x ⊎ (HasNothing g (c.key ∷ []) × (x ≡ c.graph))

-- The children of the roots of g and of h, which each have fewer paths than h.
pub record IsTakenApart (g h : Graph) (us cs : List Child) : Type 0 where
  pub guides : HasChildren g us
  pub children : HasChildren h cs
  pub smaller : AllSmaller cs h

-- The graph x is taken from the guides us for the child c, and leaves the guides vs: it is that of the guide with the
-- child's key, which then has another graph, or, if there is none, the child's own.
abbrev pub TakesGuide : List Child → Child → Graph → List Child → Type 0
TakesGuide us c x vs =
    ((i : ℕ) × (v : Child) × IsFound us c.key i × (v.key ≡ c.key) × ((d : Child) → (slice_index_or us i d).graph ≡ x)
    × (vs ≡ slice_set us i v))
    ⊎ ((i : ℕ) × IsChildGap us c.key i × (x ≡ c.graph) × (vs ≡ us))

-- The child c is the first of those that waited, and the graph x is taken for it from the guides.
pub record TakesNext (c : Child) (x : Graph) (guides left waited waiting : List Child) : Type 0 where
  pub front : waited ≡ c ∷ waiting
  pub taken : TakesGuide guides c x left

-- The second list has the keys of the first one in their order, and R holds of each two children with one key.
abbrev pub InStep : (Child → Graph → Type 0) → List Child → List Child → Type 0
InStep R cs ds = AllZip (λ c d. (d.key ≡ c.key) × R c d.graph) cs ds

-- h is the outline of g with at most so many keys a path, if u guides it. The own bytes of the root stay. If u has more
-- than n children, those of g are one child `{}`, the outline of their sum; otherwise each is outlined.
unfoldable pub IsOutline : ℕ → ℕ → Graph → Graph → Graph → Type 0
IsOutline zero n u g h = h ≡ bytes_alone (total g)
IsOutline (suc l) n u g h =
    (us : List Child) × (cs : List Child) × HasChildren u us × HasChildren g cs
    × (((n < length us) × (o : Graph) × IsOutline l n (joined us) (joined cs) o
    × (h ≡ sum_of (bytes_alone (size_at g [])) (under (codes "{}") o)))
    ⊎ ((length us ≤ n) × (ds : List Child)
    × InStep (λ c o. (x : Graph) × GuidesChild u c x × IsOutline l n x c.graph o) cs ds
    × (h ≡ sum_of_all (bytes_alone (size_at g [])) ds)))
