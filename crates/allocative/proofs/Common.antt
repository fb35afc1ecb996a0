-- The names that most proofs of this crate cite, passed on from one place. Declares nothing.
pub use Rattle.std.specs.Borrow.{name_if_ok}
pub use Rattle.std.specs.Fn.{FnOnceReturnsAtMut}
pub use Rattle.std.specs.Iterator.{Yields}
pub use Rattle.std.specs.Map.Iter.{deref}
pub use Rattle.allocative_described.specs.Sizes.{checked, size_product}
pub use Rattle.allocative_graph.specs.Collector.{Failed, Going, Kind, Live, OfGraph, OfSum, Restore, State}
pub use Rattle.allocative_graph.specs.Collector.{Takes, begin, enter, enter_first, failed_with, is_graph, outer_of}
pub use Rattle.allocative_graph.specs.Collector.{leave, close_entry, nothing_held, plus, visitors}
pub use Rattle.allocative_graph.specs.Forest.{Again, Empty, First, Forest, entry_of, followed_by}
pub use Rattle.allocative_graph.specs.Owned.{ShowsNoContent, held}
pub use Rattle.allocative_graph.specs.Identity.{Identity}
pub use Rattle.allocative_graph.specs.Path.{Key}
pub use Rattle.allocative_graph.specs.Shows.{Both, Field, Inside, InsideAs, Unique, IsField, Nothing, Shared}
pub use Rattle.allocative_graph.specs.Shows.{Showing, each_shows, sized, slice_shows}
pub use Rattle.allocative_graph.specs.Sums.{add_all}
pub use Rattle.allocative_graph.specs.Visits.{RefusesEntry, OpensRoot, OpensEntry, OpensShared, HasFailed, IsProfileOf}
pub use Rattle.allocative_graph.specs.Visits.{Profile, VisitsRoot, Settles, AddsForest, already, enters_again}
pub use Rattle.allocative_graph.specs.Visits.{enters_first, forgotten, hidden, is_entered, is_refused}
pub use Rattle.allocative_graph.specs.Visits.{is_refused_shared, refused, stays_failed, stays_shared, ClosesEntry}
pub use Rattle.allocative_graph.specs.Visits.{is_too_large_shared, counts}
pub use Rattle.allocative_graph.specs.declared.refusal.Refusal.{Refusal}
pub use Rattle.allocative_graph.specs.declared.refusal.Refusal.TheVariants.{Memory, TooLarge}
pub use Rattle.serde_json.specs.declared.value.Value.{out-Value, the_lemmas}
pub use Rattle.serde_json.specs.declared.value.Value.TheOpen.{Value-F}
pub use Rattle.slab.specs.Slab.{values}
pub use Rattle.allocative.specs.Bodies.{are_shown_each, buffer_shows, bytes_shown, table_shows, with_room, without_room}
pub use Rattle.allocative.specs.Bodies.{without_size}
pub use Rattle.allocative.specs.Strict.{CanTake, HasRoomFor, IsDeclared, MayRefuse, FailsOnlyIfFull, RootFailsOnlyIfFull}
pub use Rattle.allocative.specs.Strict.{ShowsContents, all_bytes, has_added, has_refused}
pub use Rattle.allocative.specs.Kinds.{IsSum}
pub use Rattle.allocative.specs.Levels.{levels_shown}
pub use Rattle.allocative.specs.Making.{Done, Entry, Makes, MakesPlan, Plan, entry_refused, gives, inside_refused, made}
pub use Rattle.allocative.specs.Making.{made_none, makes, one}
pub use Rattle.allocative.specs.Lending.{IsRefused, LendsCollector, LendsNested, Nests, VisitorEnds, with_state}
pub use Rattle.allocative.specs.Runs.{CountsRun}
pub use Rattle.allocative.specs.Lending.{AnswersShared, CollectorEnds, answer_without_visitor, visitor_or}
pub use Rattle.allocative.specs.StdShows.{in_any_order}
pub use Rattle.allocative.specs.Visited.{Entered, Means, OnlyIf, Visited}
pub use Rattle.allocative.specs.declared.visitor.Visitor.{Visitor}
