-- What the roots of a document show, the lines that `exact` drops, and which reports are right.
use Rattle.std.specs.Prelude.{◌≡◌, ℕ, ℤ, ◌<◌, ⊤, cond, Bool, false, List, [], ◌∷◌, ◌++◌, length, Option, Some}
use Rattle.std.specs.Prelude.{codes, string_bytes}
use Rattle.std.specs.BTreeSet.{BTreeSet}
use Rattle.std.specs.Ordering.{eq_by_cmp}
use Rattle.serde_json.specs.Data.{Data}
use Rattle.serde_json.specs.View.{view}
use Rattle.serde_json.specs.declared.value.Value.{Value}
use Rattle.allocative.specs.Graph.{text, last_key, without_lines}
use Rattle.allocative.specs.Path.{key_cmp}
use Rattle.allocative.specs.Shows.{Showing, Nothing, Both, Inside, Field, each_shows}
use Rattle.allocative.specs.Visits.{Profile, IsProfileOf}
use Rattle.allocative.specs.Strict.{CanBeProfiled}
use Rattle.allocative.specs.JsonShows.{stored_value}
use Rattle.allocative.specs.Parts.{optional_shows}
use Rattle.allocative_json.specs.declared.fault.Fault.{Fault}
use Rattle.allocative_json.specs.declared.fault.Fault.TheVariants.{Memory, NotJson, NotWhole, TooLarge}
use Rattle.allocative_json.specs.declared.profile.Report.{Report}
use Rattle.allocative_json.specs.Roots.{is_whole, IsDocument, AreRoots}

-- What a set of numbers shows: of each a field `key`, with the number inside it.
abbrev pub index_shows : BTreeSet ℤ → Showing
index_shows s = Field (codes "BTreeSet") (Some 24) (Inside (codes "data") 8
    (each_shows (λ k. Field (codes "key") (Some 16) (Field (codes "i128") (Some 16) Nothing)) s.keys))

-- What a document shows, with the room of its texts and arrays, followed by what a set shows if there is one.
abbrev pub roots_show : Value → Option (BTreeSet ℤ) → Showing
roots_show v n = Both (stored_value v) (optional_shows index_shows n)

-- A line with its line feed, or nothing if its last key is `unused_capacity`.
abbrev pub kept_line : List ℕ → List ℕ
kept_line l = cond (eq_by_cmp key_cmp (codes "unused_capacity") (last_key l)) [] (l ++ 10 ∷ [])

-- A text without the lines whose last key is `unused_capacity`.
abbrev pub kept_lines : List ℕ → List ℕ
kept_lines t = without_lines (codes "unused_capacity") t

-- The texts of a profile: that of its graph, which with `exact` is without the lines that `exact` drops, and that of
-- its warnings.
abbrev pub AreTexts : Bool → Profile → Report → Type 0
AreTexts exact o made = (string_bytes made.profile ≡ cond exact (kept_lines (text o.graph)) (text o.graph))
    × (string_bytes made.warnings ≡ o.warnings)

-- The texts are those of some profile of what p allows.
pub record IsReportOf (p : Showing) (exact : Bool) (made : Report) : Type 0 where
  pub output : Profile
  pub is_profile : IsProfileOf p output
  pub texts : AreTexts exact output made

-- The input is a document whose numbers are whole, and the texts are those of some profile of it and, with `index`, of
-- the set of its numbers.
pub record IsRightReport (input : List ℕ) (index exact : Bool) (made : Report) : Type 0 where
  pub document : Value
  pub numbers : Option (BTreeSet ℤ)
  pub roots : AreRoots input index (view document) numbers
  pub report : IsReportOf (roots_show document numbers) exact made

-- The faults that making a report of what p allows may return: Memory; and TooLarge, if not all that p allows can be
-- profiled.
abbrev pub RefusesRoots : Showing → Fault → Type 0
RefusesRoots p Memory = ⊤
RefusesRoots p TooLarge = ¬ CanBeProfiled p
RefusesRoots p f = ⊥

-- The faults that making a report of the input may return: Memory only if the input is not empty; NotJson only if
-- it is no document; NotWhole only if it is a document with another number; TooLarge only if it has roots whose
-- report may be refused so; and no other.
abbrev pub RefusesReport : List ℕ → Bool → Fault → Type 0
RefusesReport input index Memory = 0 < length input
RefusesReport input index NotJson = (d : Data) → ¬ IsDocument input d
RefusesReport input index NotWhole = (d : Data) × IsDocument input d × (is_whole d ≡ false)
RefusesReport input index f =
    (v : Value) × (n : Option (BTreeSet ℤ)) × AreRoots input index (view v) n × RefusesRoots (roots_show v n) f
