-- The names that proofs of this crate cite, passed on from one place, and the type of paths with their bytes.
use Rattle.std.proofs.Common.{ℕ, List}
pub use Rattle.allocative_collectors.specs.Warned.{warning_of}
pub use Rattle.allocative_graph.proofs.Basics.{on_test, same_path, each-append, path_total}
pub use Rattle.allocative_graph.proofs.Children.{total_of-cons, total-node}
pub use Rattle.allocative_graph.proofs.Nodes.{total-path}
pub use Rattle.allocative_graph.proofs.ReadBack.{size_at-path}
pub use Rattle.allocative_graph.proofs.Text.{texts, popped}
pub use Rattle.allocative_graph.proofs.Common.{total, Graph, begins, default, size_at, sum_of, under, total_at}
pub use Rattle.allocative_graph.proofs.Common.{IsBehind, HasNothing, Path, key_cmp, path_cmp, is_same_path, Key}
pub use Rattle.allocative_graph.proofs.Common.{graph_of_path, InOrder, first, second, total_of, sum_of_all}
pub use Rattle.allocative_graph.proofs.Common.{node, AreChildren, eq_by_cmp_equiv, map-append}
pub use Rattle.allocative_graph.proofs.Common.{length-map, fold-map, sum_by-IsPermutation, sum_by-cons, fold-append}
pub use Rattle.allocative_graph.proofs.Common.{sum_by-append, tied_itself, nat_list_cmp_total, entries, entries_sorted}
pub use Rattle.allocative_graph.proofs.Common.{get-entries, len, len-entries, is_sorted, below_all, find}
pub use Rattle.allocative_graph.proofs.Common.{AllByRecursion, list_any, ordering_then, ordering_reverse}
pub use Rattle.allocative_graph.specs.Graph.{ends_in}
pub use Rattle.allocative_graph.specs.declared.flamegraph.Child.{Child}
pub use Rattle.allocative_picture.specs.Boxes.{is_drawn, edge, element}
pub use Rattle.allocative_picture.specs.Frames.{FrameData, frame_of, frame_behind, frame_from, mark_with}
pub use Rattle.allocative_picture.specs.Frames.{mark_by, size_in, total_in, warned_mark, frame_data}
pub use Rattle.allocative_picture.specs.Picture.{levels, warning_lines, all_of}
pub use Rattle.std.proofs.lemmas.List.{drop-map, take_rest, get_or-map}
pub use Rattle.std.proofs.lemmas.List.Elements.{filter-append}
pub use Rattle.std.proofs.lemmas.List.Sorted.{IsPermutation-map}
pub use Rattle.std.proofs.lemmas.List.Sums.{sum_by-le-sum_by, sum_by_more_le, sum_by_more, sum_by-take-le}

-- Paths with their bytes.
abbrev pub Sizes : Type 0
Sizes = List (Path × ℕ)
