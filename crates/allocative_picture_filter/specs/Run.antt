-- What a run makes of its texts, and what stops it.
use Rattle.std.specs.Prelude.{◌≡◌, ℕ, ◌+◌, ◌-◌, ◌^◌, ◌<◌, ◌≤◌, ◌==◌, ◌⊎◌, ◌||◌, ◌&&◌, Bool, true, false, not, cond, is_some, List, []}
use Rattle.std.specs.Prelude.{◌∷◌, length, drop, insert, map, nat_eq, nat_lt, codes, IsUtf8, ⊤, IsTrue, MatchBool}
use Rattle.std.specs.Prelude.{Option, Some, None}
use Rattle.std.specs.List.{AllZip, starts_with}
use Rattle.allocative_graph.specs.Graph.{Graph, default, sum_of, text, total}
use Rattle.allocative_graph.specs.Path.{Key}
use Rattle.allocative_graph.specs.Read.{IsRead, IsFault, Exceeds}
use Rattle.allocative_picture.specs.History.{IsHistoryPicture, first_graph, last_graph}
use Rattle.allocative_picture.specs.Picture.{profile_drawing, change_drawing}
use Rattle.allocative_picture.specs.Table.{IsGrowthTable, IsTable}
use Rattle.allocative_picture.specs.Views.{IsOutline, by_last_key, folded, only, paths_of, reversed, without}
use Rattle.allocative_picture.specs.declared.history.Moment.{Moment}
use Rattle.allocative_picture.specs.declared.options.Options.{Options}
use Rattle.allocative_picture.specs.declared.table.Size.{Size}
use Rattle.allocative_picture.specs.declared.table.Size.TheVariants.{Own, Total}
use Rattle.allocative_picture_filter.specs.Differential.{IsDifferential}
use Rattle.allocative_picture_filter.specs.Fault.{IsReadingOf, name_of}
use Rattle.allocative_picture_filter.specs.declared.arguments.Arguments.{Arguments}
use Rattle.allocative_picture_filter.specs.declared.fault.Fault.{Fault}
use Rattle.allocative_picture_filter.specs.declared.fault.Fault.TheVariants.{Memory, Line, NotText, TwoCounts, TooLarge}
use Rattle.allocative_picture_filter.specs.declared.fault.Fault.TheVariants.{Empty}
use Rattle.allocative_picture_filter.specs.declared.fault.Source.{Source}
use Rattle.allocative_picture_filter.specs.declared.fault.Source.TheVariants.{Input}
use Rattle.allocative_picture_filter.specs.declared.run.Text.{Text}

-- ---- texts
-- The byte-order mark U+FEFF in UTF-8.
abbrev pub mark : List ℕ
mark = 239 ∷ 187 ∷ 191 ∷ []

-- The bytes behind a byte-order mark at their beginning, or all of them if there is none.
abbrev pub without_mark : List ℕ → List ℕ
without_mark bs = cond (starts_with nat_eq bs mark) (drop 3 bs) bs

-- Where a text comes from, and its bytes.
abbrev pub Sourced : Type 0
Sourced = Source × List ℕ

-- What a `Text` of the code says.
abbrev pub sourced : Text → Sourced
sourced t = (t.source, t.bytes.now)

-- The texts in the order in which they are named: those of files, and the input at its place if it is read too.
abbrev pub named_texts : List Text → Option ℕ → List ℕ → List Sourced
named_texts ts None known = map sourced ts
named_texts ts (Some place) known = insert (map sourced ts) place (Input, without_mark known)

-- The text is UTF-8 and not in the differential form, and the graph is read of it.
abbrev pub Reads : Sourced → Graph → Type 0
Reads t g = IsUtf8 t.1 × (¬ IsDifferential t.1) × IsRead t.1 g

-- The graph g with that of the text is h, and their bytes together are a word.
pub record Adds (g : Graph) (t : Sourced) (h : Graph) : Type 0 where
  pub read : Graph
  pub reads : Reads t read
  pub fits : total g + total read < 2 ^ 64
  pub is : h ≡ sum_of g read

-- The graph g with those of some texts, one added after another, is h.
abbrev pub AddUpOnto : Graph → List Sourced → Graph → Type 0
AddUpOnto g [] h = h ≡ g
AddUpOnto g (t ∷ ts) h = (next : Graph) × Adds g t next × AddUpOnto next ts h

-- The graphs of some texts add up to h.
abbrev pub AddUp : List Sourced → Graph → Type 0
AddUp ts h = AddUpOnto default ts h

-- ---- what is shown
-- Whether a change is asked for, if there are so many earlier texts.
abbrev pub is_change : Arguments → ℕ → Bool
is_change asked before = not (asked.as_text || (before == 0))

-- What g has within the paths that are asked for, or g if none is.
abbrev pub within : Arguments → Graph → Graph
within asked g = cond (length asked.only.items == 0) g (only (paths_of asked.only.items) g)

-- The part of g that is asked for: within some paths, or all, and without others.
abbrev pub part_of : Arguments → Graph → Graph
part_of asked g =
    cond (length asked.without.items == 0) (within asked g) (without (paths_of asked.without.items) (within asked g))

-- The graph g, or that with the keys that `names` gives if keys are replaced.
abbrev pub renamed : Arguments → (Key → Key) → Graph → Graph
renamed asked names g = cond (is_some asked.fold_key) (folded names g) g

-- That graph, or that with the reversed paths if it is asked for.
abbrev pub turned : Arguments → (Key → Key) → Graph → Graph
turned asked names g = cond asked.reverse (reversed (renamed asked names g)) (renamed asked names g)

-- Whether graphs are outlined.
abbrev pub is_outlined : Arguments → Bool
is_outlined asked = not ((asked.depth == 0) && (asked.fold == 0))

-- A number that limits, or the greatest one if it is 0.
abbrev pub limit_of : ℕ → ℕ
limit_of n = cond (n == 0) (2 ^ 64 - 1) n

-- The children are counted in the later graph, and in that of a change also in the earlier one.
abbrev pub guide_of : Bool → Graph → Graph → Graph
guide_of change g h = cond change (sum_of h g) h

-- The graph s is what is shown of g, if u guides its outline: the outline that the arguments ask for, or g itself, and
-- of that the bytes by last key if these are asked for.
pub record IsShown (asked : Arguments) (u g s : Graph) : Type 0 where
  pub outline : Graph
  pub outlined : is_outlined asked ≡ true → IsOutline (limit_of asked.depth) (limit_of asked.fold) u g outline
  pub whole : is_outlined asked ≡ false → outline ≡ g
  pub is : s ≡ cond asked.by_last_key (by_last_key outline) outline

-- ---- what is written
-- The options of a picture are those that are asked for, with no warned path.
pub record IsOptions (asked : Arguments) (o : Options) : Type 0 where
  pub title : o.title ≡ asked.title
  pub warned : o.warned.now ≡ []
  pub narrowest : o.narrowest ≡ asked.narrowest
  pub unit : o.unit ≡ asked.unit
  pub order : o.order ≡ asked.order

-- Which bytes a table shows: those of a path with all paths below it if they are asked for, and otherwise its own.
abbrev pub size_of : Arguments → Size
size_of asked = cond asked.inclusive Total Own

-- The text is the table that the arguments ask for: of the paths of h that grew most since g, or of its heaviest paths.
abbrev pub IsTableOf : Arguments → Bool → Graph → Graph → List ℕ → Type 0
IsTableOf asked change g h made =
    MatchBool change (IsGrowthTable (size_of asked) asked.top g h made) (IsTable (size_of asked) asked.top h made)

-- What is written of the earlier graph and of the later one is what the arguments ask for: the text of the later graph;
-- the table; the picture of the change; or the later graph's own picture.
abbrev pub Writes : Arguments → Bool → Graph → Graph → List ℕ → Type 0
Writes asked change g h made = MatchBool asked.as_text (made ≡ text h)
    (MatchBool (nat_lt 0 asked.top) (IsTableOf asked change g h made)
    ((o : Options) × IsOptions asked o × (made ≡ cond change (change_drawing o g h) (profile_drawing o h))))

-- What is written of the graphs g and h is what the arguments ask for, of what is shown of them. If no change is asked
-- for, g is not shown.
pub record Shows (asked : Arguments) (change : Bool) (g h : Graph) (made : List ℕ) : Type 0 where
  pub shown_earlier : Graph
  pub shown_later : Graph
  pub earlier_shown : change ≡ true → IsShown asked (guide_of change g h) g shown_earlier
  pub later_shown : IsShown asked (guide_of change g h) h shown_later
  pub is : Writes asked change shown_earlier shown_later made

-- What is written of texts that add up is what the arguments ask for, of the parts that they ask for of the graphs that
-- the texts add up to. Both parts have the same names for keys. That of the later graph has bytes if it is asked not to
-- be empty.
pub record IsMadeOfSums (asked : Arguments) (before : List Text) (after : List Sourced) (made : List ℕ) : Type 0 where
  pub earlier : Graph
  pub later : Graph
  pub earlier_read : AddUp (map sourced before) earlier
  pub later_read : AddUp after later
  pub some : IsTrue asked.not_empty → 0 < total (part_of asked later)
  pub names : Key → Key
  pub shows : Shows asked (is_change asked (length before)) (turned asked names (part_of asked earlier))
      (turned asked names (part_of asked later)) made

-- ---- a history
-- The moment is that of a text: it has the name of the file, or `-`, and the part of the graph that is asked for.
pub record IsMomentOf (asked : Arguments) (t : Sourced) (m : Moment) : Type 0 where
  pub graph : Graph
  pub reads : Reads t graph
  pub name : m.name.now ≡ name_of t.0 (codes "-")
  pub part : m.graph ≡ part_of asked graph

-- The children of a history are counted in the first and in the last moment together.
abbrev pub guide_of_moments : Arguments → (Key → Key) → List Moment → Graph
guide_of_moments asked names ms =
    guide_of true (turned asked names (first_graph ms)) (turned asked names (last_graph ms))

-- The moment s is what is shown of the moment m, if u guides its outline.
pub record IsMomentShown (asked : Arguments) (names : Key → Key) (u : Graph) (m s : Moment) : Type 0 where
  pub name : s.name.now ≡ m.name.now
  pub shown : IsShown asked u (turned asked names m.graph) s.graph

-- The text is the picture of the history of what is shown of some moments, with lines of the eight paths that changed
-- most. All moments have the same names for keys, and one guide.
pub record DrawsMoments (asked : Arguments) (ms : List Moment) (made : List ℕ) : Type 0 where
  pub names : Key → Key
  pub moments : List Moment
  pub shown : AllZip (IsMomentShown asked names (guide_of_moments asked names ms)) ms moments
  pub o : Options
  pub options : IsOptions asked o
  pub is : IsHistoryPicture o 8 moments made

-- What is written of the texts of a history is its picture, in which each text is a moment. The last one has bytes if
-- it is asked not to be empty.
pub record IsMadeOfMoments (asked : Arguments) (after : List Sourced) (made : List ℕ) : Type 0 where
  pub moments : List Moment
  pub read : AllZip (IsMomentOf asked) after moments
  pub some : IsTrue asked.not_empty → 0 < total (last_graph moments)
  pub draws : DrawsMoments asked moments made

-- What is written of these texts is what the arguments ask for: the picture of a history, or what is made of sums.
abbrev pub IsMade : Arguments → List Text → List Sourced → List ℕ → Type 0
IsMade asked before after made = MatchBool asked.history (IsMadeOfMoments asked after made)
    (IsMadeOfSums asked before after made)

-- ---- what stops a run
-- Why no graph is read of a text: memory runs out; it is not UTF-8; it is in the differential form; or it is not, and a
-- line of it is none, or its bytes exceed a word.
abbrev pub StopsReading : Sourced → Fault → Type 0
StopsReading t Memory = ⊤
StopsReading t (NotText s) = (s ≡ t.0) × ¬ IsUtf8 t.1
StopsReading t (TwoCounts s) = (s ≡ t.0) × IsUtf8 t.1 × IsDifferential t.1
StopsReading t (Line s n w) = (s ≡ t.0) × IsUtf8 t.1 × (¬ IsDifferential t.1) × IsFault t.1 n w
StopsReading t TooLarge = IsUtf8 t.1 × (¬ IsDifferential t.1) × Exceeds t.1
StopsReading t _ = ⊥

-- Why two graphs with so many bytes together are not joined: memory runs out, or these exceed a word.
abbrev pub StopsJoining : ℕ → Fault → Type 0
StopsJoining bytes Memory = ⊤
StopsJoining bytes TooLarge = 2 ^ 64 ≤ bytes
StopsJoining bytes _ = ⊥

-- Why a text is not added to the graph g.
abbrev pub StopsAdding : Graph → Sourced → Fault → Type 0
StopsAdding g t f = StopsReading t f ⊎ ((read : Graph) × Reads t read × StopsJoining (total g + total read) f)

-- Why some texts are not added to the graph g, one after another: one of them is not, once those before it are.
abbrev pub StopsAddingUp : Graph → List Sourced → Fault → Type 0
StopsAddingUp g [] f = ⊥
StopsAddingUp g (t ∷ ts) f = StopsAdding g t f ⊎ ((next : Graph) × Adds g t next × StopsAddingUp next ts f)

-- Why nothing is made of the graph g of the earlier texts and of that of the others: memory runs out, or a change is
-- asked for, and the bytes of their parts together exceed a word.
abbrev pub StopsWriting : Arguments → Bool → Graph → List Sourced → Fault → Type 0
StopsWriting asked change g after f = (h : Graph) × AddUp after h
    × StopsJoining (cond change (total (part_of asked g) + total (part_of asked h)) 0) f

-- Why a profile is refused: the part that is asked for has 0 bytes, and is asked not to be empty.
abbrev pub StopsEmpty : Arguments → List Sourced → Fault → Type 0
StopsEmpty asked after f =
    (h : Graph) × AddUp after h × IsTrue asked.not_empty × (total (part_of asked h) ≡ 0) × (f ≡ Empty)

-- Why nothing is made of texts that add up: the earlier ones are not added up; or they are, and the others are not, or
-- the profile is refused, or nothing is made of both. So the first fault in the order of the texts is told.
abbrev pub StopsSums : Arguments → List Text → List Sourced → Fault → Type 0
StopsSums asked before after f = StopsAddingUp default (map sourced before) f
    ⊎ ((g : Graph) × AddUp (map sourced before) g × (StopsAddingUp default after f ⊎ StopsEmpty asked after f
    ⊎ StopsWriting asked (is_change asked (length before)) g after f))

-- Why some texts are not read, each by itself: one of them is not, once those before it are.
abbrev pub StopsReadingEach : List Sourced → Fault → Type 0
StopsReadingEach [] f = ⊥
StopsReadingEach (t ∷ ts) f = StopsReading t f ⊎ ((g : Graph) × Reads t g × StopsReadingEach ts f)

-- Why nothing is made of the texts of a history: they are not read; or they are, and the last moment has 0 bytes, and
-- is asked not to be empty, or memory runs out, or the bytes of the first and of the last moment together exceed a
-- word.
abbrev pub StopsMoments : Arguments → List Sourced → Fault → Type 0
StopsMoments asked after f = StopsReadingEach after f
    ⊎ ((ms : List Moment) × AllZip (IsMomentOf asked) after ms
    × ((IsTrue asked.not_empty × (total (last_graph ms) ≡ 0) × (f ≡ Empty))
    ⊎ StopsJoining (total (first_graph ms) + total (last_graph ms)) f))

-- Why the texts are not gathered: memory runs out, or the input, which is one of them, is not read.
abbrev pub StopsGathering : Option ℕ → Fault → Type 0
StopsGathering place f = (f ≡ Memory) ⊎ (IsTrue (is_some place) × IsReadingOf Input f)

-- Why nothing is made: the texts are not gathered, or nothing is made of them.
abbrev pub Stops : Arguments → List Text → List Text → List ℕ → Fault → Type 0
Stops asked before files known f = StopsGathering asked.input_at f
    ⊎ MatchBool asked.history (StopsMoments asked (named_texts files asked.input_at known) f)
    (StopsSums asked before (named_texts files asked.input_at known) f)
