-- The names that most proofs of this crate cite, passed on from one place. Declares nothing.
pub use Rattle.std.proofs.lemmas.Iterator.Splits.{YieldsList-from_str_split}
pub use Rattle.std.proofs.lemmas.List.{length-map, map-append, map_push, nil_from_length, take_more}
pub use Rattle.std.proofs.lemmas.List.Folds.{fold-map, list_any-append}
pub use Rattle.std.proofs.lemmas.List.Sorted.{list_any-IsPermutation, sum_by-IsPermutation}
pub use Rattle.std.proofs.lemmas.List.Sums.{sum_by-cons, fold-append, sum_by-append, sum_by_push}
pub use lib.Chars.{codes}
pub use Rattle.std.specs.Cmp.{tied_itself, Equal-is, IsTotalOrder, tied_then}
pub use Rattle.std.specs.FinMap.{IsAntisymmetric, contains_key, entries, entries-from_sorted, entries-insert}
pub use Rattle.std.specs.FinMap.{entries_sorted, from_entries, get, get-entries, get-from_entries, get-from_sorted}
pub use Rattle.std.specs.FinMap.{get-insert, insert, keys, len, len-entries, nat_cmp-IsAntisymmetric, same_entries_map}
pub use Rattle.std.specs.FinMap.{same_map, slice_cmp-IsAntisymmetric}
pub use Rattle.std.specs.Ordering.{eq_by_cmp, is_eq, is_lt, ordering_reverse, ordering_then, nat_cmp}
pub use Rattle.std.specs.declared.cmp.Ordering.TheVariants.{Equal, Greater, Less}
pub use Rattle.allocative_graph.specs.Forest.{Again, AsInline, AsShared, AsUnique, Bag, Empty, Entry, First, Fits}
pub use Rattle.allocative_graph.specs.Forest.{Forest, Inline, Unique, all, content_entries, contents, followed_by}
pub use Rattle.allocative_graph.specs.Forest.{insert_all, met_after, own, own_behind, content_identities, Mark}
pub use Rattle.allocative_graph.specs.Graph.{CanBeAdded, Graph, HasNothing, IsBehind, IsTree, Lacks, add_self, begins}
pub use Rattle.allocative_graph.specs.Graph.{default, graph, is_root, joined, remaining, size_at, sizes, sum_of, text}
pub use Rattle.allocative_graph.specs.Graph.{text_of_entries, total, total_at, under, warnings}
pub use Rattle.allocative_graph.specs.Identity.{Identities, Identity, identity_cmp, is_same_identity}
pub use Rattle.allocative_graph.specs.Rows.{sum_of_all, total_of, AreChildren, Figures, figures_behind, keys_of, node}
pub use Rattle.allocative_graph.specs.Rows.{rows_of, rows_of_child, under_rows, row_figures}
pub use Rattle.allocative_graph.specs.Path.{Key, Path, is_one_below, is_same_path, key_cmp, path_cmp}
pub use Rattle.allocative_graph.specs.Read.{AreStacks, IsCut, IsRead, SaysStacks, Stack, all_bytes, bytes_at}
pub use Rattle.allocative_graph.specs.Read.{is_path_of, line_stack}
pub use Rattle.allocative_graph.specs.Representation.Children.{Adds, AllAbove, InOrder, IsChildGap, IsFound, size_under}
pub use Rattle.allocative_graph.specs.Representation.Children.{Added, Merged, child_of_path, IsNode, AddsUp, line_after}
pub use Rattle.allocative_graph.specs.Representation.Children.{graph_of_path, one_stack, sum_of_stacks, MergesFirst}
pub use Rattle.allocative_graph.specs.Representation.NodeRows.{both, entries-node, first, len-child, second}
pub use Rattle.allocative_graph.specs.Sums.{Node, Sums, add, add_all, below, bytes_in, is_entered_in, is_unique_in}
pub use Rattle.allocative_graph.specs.Sums.{node_of, sums_of, together}
pub use Rattle.std.proofs.lemmas.{Fn.always_returns_same, Grind.flat_map-append, List.Elements.All-from_recursion}
pub use Rattle.std.proofs.lemmas.{Cmp.eq_by_cmp_equiv, List.Filters.sum_by-filter_both, Map.Lookups.exact_bytes}
pub use Rattle.std.specs.{Cmp.Lexicographic.nat_list_cmp_total, Cmp.Lexicographic.slice_cmp, FinMap.Entries.below_all}
pub use Rattle.std.specs.{FinMap.Entries.find, FinMap.Entries.is_sorted, FinMap.Entries.put, FinSet.contains}
pub use Rattle.std.specs.{FinSet.contains-empty, FinSet.contains-insert, List.AllByRecursion, List.list_any}
pub use Rattle.std.specs.{List.slice_split, List.All, List.Sorted.IsPermutation, Option.is_some, Option.option_map}
pub use Rattle.std.specs.{Option.unwrap_or, Prelude.⊤, Str.Lines.lines, Str.Lines.lines_of_parts, Vec.vec_capacity}
pub use Rattle.allocative_graph.specs.{Collector.entries_at, declared.flamegraph.Child.Child, declared.read.Line.Line}
