-- The names that proofs of this crate cite, passed on from one place. Declares nothing.
pub use Rattle.allocative.specs.Graph.{after_last, Lacks, lines_from, before_last}
pub use Rattle.allocative.specs.Shows.{Showing, Nothing, Both, each_shows}
pub use Rattle.allocative_graph.proofs.Graphs.{total-add_at, total-default, total-all}
pub use Rattle.allocative_graph.proofs.Common.{Graph, default, add_self, total, sum_of_all, length-map, map-append}
pub use Rattle.allocative_graph.proofs.Common.{take_more, map_push, list_any-append, fold-map, fold-append}
pub use Rattle.allocative_graph.specs.declared.flamegraph.Child.{Child}
pub use Rattle.allocative_json.specs.Fault.{fault_of}
pub use Rattle.allocative_json.specs.Fields.{bytes_alone, all_fields, is_blank, filled, lines_in, texts_of, AreDocuments}
pub use Rattle.allocative_json.specs.Fields.{AddsDocument, AddsLine, RefusesLine, TakesLine, WritesSum, Makes, RefusesDocument, RefusesGraph, RefusesFields, MayEndFields}
pub use Rattle.allocative_json.specs.Fields.{array_bytes, value_below, fields_of, member_below, escaped_char, member_of}
pub use Rattle.allocative_json.specs.Profile.{roots_show, AreTexts, IsReportOf, IsRightReport, RefusesRoots, RefusesReport}
pub use Rattle.allocative_json.specs.Profile.{kept_lines, kept_line}
pub use Rattle.allocative_json.specs.Run.{Word, AreWords, IsReportFor, MayEndRun, Asks, StopsReading, words_of, IsKnown}
pub use Rattle.allocative_json.specs.declared.fault.Fault.{Fault}
pub use Rattle.serde_json.specs.Data.{Data, Num}
pub use Rattle.serde_json.specs.View.{view, items_view, members_view}
pub use Rattle.serde_json.specs.declared.value.Value.{Value}
pub use Rattle.std.proofs.lemmas.Iterator.{items_from_drains, YieldsList-from_chars}
pub use Rattle.std.proofs.lemmas.List.{drop_more, get_or_at, get_or_append_left, map-id, length_push}
pub use Rattle.std.proofs.lemmas.Result.{IfOk-weaker, IfErr-weaker}
pub use Rattle.std.specs.BTreeSet.{contains, IsOrdered}
pub use Rattle.std.specs.List.{list_all}
pub use Rattle.std.specs.Map.Iter.{deref_pair}
