-- What entering a shared value returns, and how a collector or a visitor ends after a nested visitor borrowed it.
use Rattle.std.specs.Prelude.{◌≡◌, ℕ, ◌+◌, ◌<◌, ◌^◌, [], Bool, true, false, not, Option, None, Some, Result, Ok, Err}
use Rattle.std.specs.Prelude.{IfErr, IfOk, OnOk}
use Rattle.std.specs.Borrow.{Fml, MutBor, Lends, RestsIfErr, follows_so, name_if_ok}
use Rattle.std.specs.FinSet.{contains}
use mir.Syntax.{named}
use Rattle.allocative_graph.specs.declared.refusal.Refusal.{Refusal}
use Rattle.allocative_graph.specs.declared.refusal.Refusal.TheVariants.{TooLarge}
use Rattle.allocative_graph.specs.Path.{Key}
use Rattle.allocative_graph.specs.Identity.{Identity}
use Rattle.allocative_graph.specs.Sums.{bytes_entered}
use Rattle.allocative_graph.specs.Collector.{OfGraph, OfSum, State, Failed, Going, entry_bytes, no_outer}
use Rattle.allocative_graph.specs.Visits.{OpensEntry, OpensShared, OpensRoot, RefusesEntry, Refuses, ExceedsSum}
use Rattle.allocative.specs.declared.visitor.Visitor.{Visitor}
use Rattle.allocative.specs.contracts.visitor.Visitor as visitor
use Rattle.allocative.specs.contracts.visitor.collector.Collector as collector

-- ---- what entering a shared value returns
-- What is returned for a pointer of n bytes to i. A failed collector returns its first cause. A flame graph's collector
-- returns, if no bound is exceeded, that the content is shown exactly if i was not met; or an error as for an inline
-- entry. That of a sum counts the pointer: it returns that nothing is shown, or TooLarge if the sum does not fit, which
-- is never so for held bytes.
abbrev pub AnswersShared : Key → ℕ → Identity → State → Result Bool Refusal → Type 0
AnswersShared k n i (Failed r) result = result ≡ Err r
AnswersShared k n i (Going (OfGraph c)) (Ok is_first) = (bytes_entered c.sums + n < 2 ^ 63)
    × (contains c.met i ≡ not is_first)
AnswersShared k n i (Going (OfGraph c)) (Err e) = Refuses false n (OfGraph c) e
AnswersShared k n i (Going (OfSum s)) (Ok is_first) =
    (s.sum + entry_bytes s.figure true n < 2 ^ 64) × (is_first ≡ false)
AnswersShared k n i (Going (OfSum s)) (Err e) = (e ≡ TooLarge) × ExceedsSum true n s

-- The result if no visitor is returned: nothing is shown, or an error.
abbrev pub answer_without_visitor : Option Refusal → Result Bool Refusal
answer_without_visitor None = Ok false
answer_without_visitor (Some e) = Err e

-- The result of `enter_shared` in the form of `enter_content`: a visitor, or what is returned without one.
abbrev pub visitor_or : Result (Option Visitor) Refusal → Result Visitor (Option Refusal)
visitor_or (Ok (Some v)) = Ok v
visitor_or (Ok None) = Err None
visitor_or (Err e) = Err (Some e)

-- ---- how a collector ends
-- The collector ends as the visitor that is returned leaves it or, if none is returned, as `ends` says.
abbrev pub CollectorEnds : {E : Type 0} → (E → State → Type 0) → MutBor State → Result Visitor E → Fml
CollectorEnds ends s r =
    RestsIfErr collector.the_row s (λ v. v.collector.ghost_name) r (λ t. IfErr r (λ e. ends e t))

-- The collector ends as the visitor leaves it or, if the entry was refused, as opening it says.
abbrev pub LendsEntered : Bool → Key → Option ℕ → MutBor State → Result Visitor Refusal → Fml
LendsEntered is_unique k size s = CollectorEnds (λ e. OpensEntry is_unique k size s.now (Err e)) s

-- The collector ends as the visitor at the content of a shared value leaves it or, if no visitor is returned, as
-- entering says.
abbrev pub LendsPointed : Key → ℕ → Identity → MutBor State → Result Visitor (Option Refusal) → Fml
LendsPointed k n i s = CollectorEnds (λ o. OpensShared k n i s.now (answer_without_visitor o)) s

-- The collector ends as the root visitor leaves it or, if no visitor is returned, as beginning says.
abbrev pub LendsBegun : MutBor State → Result Visitor Refusal → Fml
LendsBegun s = CollectorEnds (λ e. OpensRoot s.now (Err e)) s

-- The visitor v borrows the collector s.
abbrev pub Borrows : MutBor State → Visitor → Type 0
Borrows s v = v.collector.ghost_name ≡ s.ghost_name

-- The visitor v is at the entry that was opened at s.
abbrev pub OpensEntryAt : Bool → Key → Option ℕ → State → Visitor → Type 0
OpensEntryAt is_unique k size s v = OpensEntry is_unique k size s (Ok v.outer) v.collector.now

-- The visitor v is at the content of the shared value that was entered at s.
abbrev pub OpensSharedAt : Key → ℕ → Identity → State → Visitor → Type 0
OpensSharedAt k n i s v = (v.outer ≡ no_outer) × OpensShared k n i s (Ok true) v.collector.now

-- ---- how a visitor ends
-- The visitor with another collector state, and nothing else changed.
abbrev pub with_state : Visitor → State → Visitor
with_state v s = record v { collector = record v.collector { now = s } }

-- The visitor ends with the last state of its collector.
abbrev pub LendsCollector : MutBor Visitor → MutBor State → Fml
LendsCollector s r =
    Lends (visitor.the_row (record { mir = named 1; lft = [] })) collector.the_row s r (with_state s.now)

-- The visitor ends with what the visitor that is returned leaves of the collector or, if none is returned, with what
-- `ends` says of it. Nothing else of it changes.
abbrev pub VisitorEnds : {E : Type 0} → (E → State → Type 0) → MutBor Visitor → Result Visitor E → Fml
VisitorEnds ends s r =
    follows_so (visitor.the_row (record { mir = named 1; lft = [] })) collector.the_row s.ghost_name
    (name_if_ok (λ v. v.collector.ghost_name) r)
    (λ w v. OnOk r (v ≡ with_state s.now w))
    (λ v. IfErr r (λ e. ends e v.collector.now × (v ≡ with_state s.now v.collector.now)))

-- The visitor ends with what the nested visitor leaves of the collector or, if the entry was refused, with what opening
-- it says.
abbrev pub LendsNested : Bool → Key → Option ℕ → MutBor Visitor → Result Visitor Refusal → Fml
LendsNested is_unique k size s = VisitorEnds (λ e. OpensEntry is_unique k size s.now.collector.now (Err e)) s

-- The visitor ends with what the visitor at a shared value's content leaves of the collector or, if none is returned,
-- with what entering says.
abbrev pub LendsShared : Key → ℕ → Identity → MutBor Visitor → Result (Option Visitor) Refusal → Fml
LendsShared k n i s r =
    VisitorEnds (λ o. OpensShared k n i s.now.collector.now (answer_without_visitor o)) s (visitor_or r)

-- The nested visitor v is at the entry that was opened at s.
abbrev pub Nests : Bool → Key → Option ℕ → Visitor → Visitor → Type 0
Nests is_unique k size s v = OpensEntry is_unique k size s.collector.now (Ok v.outer) v.collector.now

-- What entering a pointer of n bytes to the shared value i at s returns: a visitor, none, or an error.
pub record EntersShared (k : Key) (n : ℕ) (i : Identity) (s : Visitor) (r : Result (Option Visitor) Refusal) : Type 0
  where
    -- The visitor is at the value's content, and leaving it restores nothing.
    pub entered : IfOk (visitor_or r) (OpensSharedAt k n i s.collector.now)
    -- Which of the others comes.
    pub answer : IfErr (visitor_or r) (λ o. AnswersShared k n i s.collector.now (answer_without_visitor o))

-- An entry of a declared size at s is refused with e.
abbrev pub IsRefused : Bool → Option ℕ → Visitor → Refusal → Type 0
IsRefused is_unique size s e = RefusesEntry is_unique size s.collector.now e
