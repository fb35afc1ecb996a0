-- What contracts see of a collector, and what entering, adding a forest and leaving do to it.
use Rattle.std.specs.Prelude.{◌≡◌, ℕ, suc, pred, min, ◌+◌, ◌-◌, Bool, true, false, cond, List, [], ◌∷◌, ◌++◌, ⊤}
use Rattle.std.specs.FinMap as finmap
use Rattle.std.specs.FinSet as set
use Rattle.allocative_graph.specs.declared.refusal.Refusal.{Refusal}
use Rattle.allocative_graph.specs.Path.{Key, Path}
use Rattle.allocative_graph.specs.Identity.{Identity, Identities}
use Rattle.allocative_graph.specs.Forest.{Forest, Empty, First, Again, Bag, entry_of, own_behind, content_entries}
use Rattle.allocative_graph.specs.Forest.{met_after, Fits}
use Rattle.allocative_graph.specs.Sums.{Sums, add_all}
use Rattle.allocative_graph.specs.Owned.{held, inline_bytes, ShowsNoContent, direct, owned}
use Rattle.allocative_graph.specs.declared.restore.Restore.TheVariants.{Held, Owned}
use Rattle.allocative_graph.specs.declared.restore.Restore as declared

-- The collector of a flame graph: the sums of what was entered, the identities met, the current path, the paths to go
-- back to, and the number of open visitors, which were entered and not left.
pub record Live : Type 0 where
  pub sums : Sums
  pub met : Identities
  pub here : Path
  pub back : List Path
  pub open_visitors : ℕ

-- The figure of an entry, by what is summed: `Held`, whether it is unique; or `Owned`, its spare bytes, which no entry
-- directly inside it has taken. Leaving an entry restores that of the entry outside.
abbrev pub Restore : Type 0
Restore = declared.Restore

-- The collector of a sum of bytes: the sum, the figure of the current entry, which says whether held or owned bytes are
-- summed, and the number of open visitors, which were entered and not left.
pub record Summing : Type 0 where
  pub sum : ℕ
  pub figure : Restore
  pub open_visitors : ℕ

-- What is restored if nothing outside counts.
abbrev pub no_outer : Restore
no_outer = Held false

-- A collector of a flame graph, or of a sum of held or owned bytes.
pub data Kind : Type 0 where
  OfGraph : Live → Kind
  OfSum : Summing → Kind

-- What a contract sees of a collector: it has failed, with its first cause, or it is going.
pub data State : Type 0 where
  Failed : Refusal → State
  Going : Kind → State

-- ---- the collector of a flame graph
-- The entries that f adds when the current path is p: its own after p, and those of its contents from the root.
abbrev pub entries_at : Path → Forest → Bag
entries_at p f = own_behind p f ++ content_entries f

-- c with the forest f at its current path.
abbrev pub plus_live : Live → Forest → Live
plus_live c f = record c { sums = add_all c.sums (entries_at c.here f); met = met_after c.met f }

-- One more visitor, at the path p.
abbrev pub go : Path → Live → Live
go p c = record c { here = p; back = c.here ∷ c.back; open_visitors = suc c.open_visitors }

-- The path to go back to; the root if there is none.
abbrev pub last_of : List Path → Path
last_of [] = []
last_of (p ∷ ps) = p

-- The paths to go back to after the last one.
abbrev pub without_last : List Path → List Path
without_last [] = []
without_last (p ∷ ps) = ps

-- One visitor less: one step back.
abbrev pub leave_live : Live → Live
leave_live c = record c { here = last_of c.back; back = without_last c.back; open_visitors = pred c.open_visitors }

-- One more entry, unique or inline, and a visitor at it.
abbrev pub enter_live : Bool → Key → ℕ → Live → Live
enter_live is_unique k n c = go (c.here ++ k ∷ []) (plus_live c (entry_of is_unique k n Empty))

-- One more pointer to an identity that was not met, and a visitor at its content, which starts at the root.
abbrev pub enter_first : Key → ℕ → Identity → Live → Live
enter_first k n i c = go [] (plus_live c (First k n i Empty Empty))

-- One more pointer to an identity that was met.
abbrev pub enter_again : Key → ℕ → Identity → Live → Live
enter_again k n i c = plus_live c (Again k n i Empty)

-- ---- the collector of a sum: what differs between held and owned bytes
-- The bytes that an entry of n bytes adds to the sum, directly inside the entry with this figure. Held bytes: all of
-- them if it is inline and in a unique one, otherwise none. Owned bytes: those beyond the spare ones.
abbrev pub entry_bytes : Restore → Bool → ℕ → ℕ
entry_bytes (Held is_in_unique) is_unique n = cond is_unique 0 (cond is_in_unique n 0)
entry_bytes (Owned spare) is_unique n = n - spare

-- The bytes that a forest adds there: what it holds and, in a unique entry, the inline entries at its top; or what it
-- owns, less what its top entries take of the spare bytes.
abbrev pub forest_bytes : Restore → Forest → ℕ
forest_bytes (Held is_in_unique) f = held f + cond is_in_unique (inline_bytes f) 0
forest_bytes (Owned spare) f = owned f - min spare (direct f)

-- The figure of an entry of n bytes, directly inside the entry with this one. A unique entry has no spare bytes.
abbrev pub figure_inside : Restore → Bool → ℕ → Restore
figure_inside (Held is_in_unique) is_unique n = Held is_unique
figure_inside (Owned spare) is_unique n = Owned (cond is_unique 0 n)

-- The figure of an entry once n more bytes are directly inside it: they take spare bytes.
abbrev pub figure_after : Restore → ℕ → Restore
figure_after (Held is_unique) n = Held is_unique
figure_after (Owned spare) n = Owned (spare - n)

-- No bytes are spare.
abbrev pub HasNoSpare : Restore → Type 0
HasNoSpare (Held is_unique) = ⊤
HasNoSpare (Owned spare) = spare ≡ 0

-- ---- the collector of a sum: what is alike
-- s with the forest f added.
abbrev pub plus_sum : Summing → Forest → Summing
plus_sum s f = record s { sum = s.sum + forest_bytes s.figure f; figure = figure_after s.figure (direct f) }

-- One more entry with nothing inside it and no visitor at it. A shared entry counts as a unique one.
abbrev pub count_entry : Bool → ℕ → Summing → Summing
count_entry is_unique n s =
    record s { sum = s.sum + entry_bytes s.figure is_unique n; figure = figure_after s.figure n }

-- One more entry, and a visitor at it.
abbrev pub enter_sum : Bool → ℕ → Summing → Summing
enter_sum is_unique n s = record {
  sum = s.sum + entry_bytes s.figure is_unique n;
  figure = figure_inside s.figure is_unique n;
  open_visitors = suc s.open_visitors;
}

-- One visitor less; `outer` is what leaving it restores.
abbrev pub leave_sum : Restore → Summing → Summing
leave_sum outer s = record { sum = s.sum; figure = outer; open_visitors = pred s.open_visitors }

-- ---- each collector
-- Whether the collector is that of a flame graph.
abbrev pub is_graph : Kind → Bool
is_graph (OfGraph c) = true
is_graph (OfSum s) = false

-- The number of open visitors, which were entered and not left.
abbrev pub visitors : Kind → ℕ
visitors (OfGraph c) = c.open_visitors
visitors (OfSum s) = s.open_visitors

-- What leaving an entry of n bytes that is opened now restores: the figure of the current entry with that one inside.
-- The collector of a flame graph needs nothing.
abbrev pub outer_of : ℕ → Kind → Restore
outer_of n (OfGraph c) = no_outer
outer_of n (OfSum s) = figure_after s.figure n

-- The collector with the forest f at its current place.
abbrev pub plus : Kind → Forest → Kind
plus (OfGraph c) f = OfGraph (plus_live c f)
plus (OfSum s) f = OfSum (plus_sum s f)

-- f can be added: for a flame graph, it shows contents exactly if their identities were not met; for a sum, it shows
-- no content.
abbrev pub Takes : Kind → Forest → Type 0
Takes (OfGraph c) f = Fits c.met f
Takes (OfSum s) f = ShowsNoContent f

-- One more entry, unique or inline, and a visitor at it.
abbrev pub enter : Bool → Key → ℕ → Kind → Kind
enter is_unique k n (OfGraph c) = OfGraph (enter_live is_unique k n c)
enter is_unique k n (OfSum s) = OfSum (enter_sum is_unique n s)

-- One visitor less; `outer` is what leaving it restores.
abbrev pub leave : Restore → Kind → Kind
leave outer (OfGraph c) = OfGraph (leave_live c)
leave outer (OfSum s) = OfSum (leave_sum outer s)

-- One more visitor, which is a root visitor. It is where the collector began.
abbrev pub begin : Kind → Kind
begin (OfGraph c) = OfGraph (go [] c)
begin (OfSum s) = OfSum (record s { open_visitors = suc s.open_visitors })

-- No visitor is open. For owned bytes, also none are spare, which is true once all visitors have left.
abbrev pub IsClosed : Kind → Type 0
IsClosed (OfGraph c) = c.open_visitors ≡ 0
IsClosed (OfSum s) = (s.open_visitors ≡ 0) × HasNoSpare s.figure

-- The current path is the root's, with nothing to go back to. For owned bytes, none are spare.
abbrev pub IsAtRoot : Kind → Type 0
IsAtRoot (OfGraph c) = (c.here ≡ []) × (c.back ≡ [])
IsAtRoot (OfSum s) = HasNoSpare s.figure

-- The collector of a flame graph before any call.
abbrev pub no_entries : Live
no_entries = record { sums = finmap.empty; met = set.empty; here = []; back = []; open_visitors = 0 }

-- A collector of a sum before any call, with this figure of the root.
abbrev pub nothing_summed : Restore → Summing
nothing_summed root = record { sum = 0; figure = root; open_visitors = 0 }

-- The collector of held bytes before any call.
abbrev pub nothing_held : Summing
nothing_held = nothing_summed (Held false)

-- The collector of owned bytes before any call.
abbrev pub nothing_owned : Summing
nothing_owned = nothing_summed (Owned 0)

-- A collector that has not failed fails with r. One that has failed keeps its cause.
abbrev pub failed_with : Refusal → State → State
failed_with r (Failed q) = Failed q
failed_with r (Going k) = Failed r

-- One visitor less, if the collector has not failed; `outer` is what leaving it restores.
abbrev pub close_entry : Restore → State → State
close_entry outer (Failed r) = Failed r
close_entry outer (Going k) = Going (leave outer k)
