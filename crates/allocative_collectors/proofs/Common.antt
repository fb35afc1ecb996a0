-- The names that most proofs of this crate cite, passed on from one place. Declares nothing.
pub use Rattle.std.specs.FinMap.{entries, get}
pub use Rattle.std.specs.FinSet.{contains}
pub use Rattle.std.specs.Ordering.{is_eq, is_lt, ordering_reverse}
pub use Rattle.std.specs.declared.cmp.Ordering.{Ordering}
pub use Rattle.std.specs.declared.cmp.Ordering.TheVariants.{Greater, Less}
pub use Rattle.allocative_graph.specs.Collector.{Live, enter_live, go, leave_live}
pub use Rattle.allocative_graph.specs.Format.{newline}
pub use Rattle.allocative_graph.specs.Graph.{Graph, add_self, default, graph, is_root, sum_of, under, warning_text}
pub use Rattle.allocative_graph.specs.Path.{Key, Path, is_one_below, is_same_path, key_cmp, path_cmp}
pub use Rattle.allocative_graph.specs.Sums.{Sums, below, bytes_entered}
pub use Rattle.allocative_graph.specs.declared.refusal.Refusal.{Refusal}
pub use Rattle.allocative_graph.specs.declared.refusal.Refusal.TheVariants.{Memory}
pub use Rattle.allocative_collectors.specs.Warned.{size_at_place, is_std_data, is_std_entry, warning_of, warning_lines}
pub use Rattle.allocative_collectors.specs.Warned.{MakesGraph, MakesPart, is_short, rows_behind}
pub use Rattle.allocative_collectors.specs.Listed.{IsEntered, Listed, Sum, put, map_of, path_at, root_sum, row, sum_at}
pub use Rattle.allocative_collectors.specs.Listed.{IsAbove, rows, raise}
pub use Rattle.allocative_collectors.specs.Nodes.{IsTree, sums, HasKey, IsArena, IsChild, IsKeyGap, KeysRise, at}
pub use Rattle.allocative_collectors.specs.Nodes.{bytes_at, children_at, key_at, key_in, keys_at, keys_of, leaf}
pub use Rattle.allocative_collectors.specs.Nodes.{no_node, parent_at, before, chunk_at, flat, numbers, numbers_in, grow}
pub use Rattle.allocative_collectors.specs.Nodes.{path_from, sum_from, place_in}
pub use Rattle.allocative_collectors.specs.Places.{IsPlaced, live}
pub use Rattle.allocative_collectors.specs.declared.output.WarnedPath.{WarnedPath}
pub use Rattle.allocative_collectors.specs.declared.children.Children.{Children}
pub use Rattle.allocative_collectors.specs.declared.children.Chunk.{Chunk}
pub use Rattle.allocative_collectors.specs.declared.tree.Node.{Node}
pub use Rattle.allocative_graph.specs.Rows.{ComesLast}
pub use Rattle.std.proofs.lemmas.Bool.{cases_eq, cond-false, cond-true, false_from_ne_true, cond_both}
pub use Rattle.std.proofs.lemmas.Bool.Decides.{nat_tests}
pub use Rattle.std.proofs.lemmas.Cmp.{tied_itself}
pub use Rattle.std.proofs.lemmas.Fn.{always_returns_same}
pub use Rattle.std.proofs.lemmas.Grind.{common_steps, flat_map-append}
pub use Rattle.std.proofs.lemmas.List.{get_or-map, get_or_append_left, get_or_default, get_or_push, length-map}
pub use Rattle.std.proofs.lemmas.List.{length_push, map-append, nil_from_length, same_from_push, get_or_past, take_all}
pub use Rattle.std.proofs.lemmas.List.{reverse-append, length-reverse, set_past, take-map, drop-map, get_or-set_same}
pub use Rattle.std.proofs.lemmas.List.{get_or-set_other, map-set, map_push, map_more}
pub use Rattle.std.proofs.lemmas.List.Sums.{sum_by-cons}
pub use Rattle.std.specs.Cmp.{tied_then}
pub use Rattle.std.specs.List.{slice_get, insert, Contains, list_any, All, filter}
pub use Rattle.std.proofs.Math.Seq.{take-length, drop-length, map-set_same}
