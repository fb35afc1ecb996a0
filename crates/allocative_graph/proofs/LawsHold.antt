-- The laws of the definitions, each from the lemmas on what it is about, and the lemmas that the functions cite.
use Rattle.std.proofs.Common.{◌≡◌, ℕ, false, true, List, ◌∷◌, [], true≢false, refl, ap, sym, ◌∙◌}
use Rattle.allocative_graph.proofs.Common.{contains-insert, contains-empty, identity_cmp, all, codes, Forest}
use Rattle.allocative_graph.proofs.Common.{text_of_entries, nat_cmp-IsAntisymmetric, slice_cmp-IsAntisymmetric, key_cmp}
use Rattle.allocative_graph.proofs.Common.{tied_itself, nat_cmp}
use Rattle.allocative_graph.specs.Laws.{ReadLaw, PathOrderLaw, GraphSumsLaw, GraphLaw}
use Rattle.allocative_graph.specs.WorkedExamples.{Prints, WorkedExamples, one, part_inline, part_unique}
use Rattle.allocative_graph.proofs.Basics.{identity_total, order, key_itself}
use Rattle.allocative_graph.proofs.Sums.{get-sums_of, below-sums_of, nodes_of, sizes_list, warnings_list, text_added}
use Rattle.allocative_graph.proofs.Sums.{entries-graph, entries-sums_of}
use Rattle.allocative_graph.proofs.Showings.{agree_back, get-graph, get-graph-root, graphs_add, same_reached}
use Rattle.allocative_graph.proofs.Showings.{same_sums_of, whole_following, all_is_meaning, reaches_exactly}
use Rattle.allocative_graph.proofs.ReadBack.{text_tells, reads_back, never_refused, never_exceeds, exact_is}
use Rattle.allocative_graph.proofs.Plus.{plus-nothing, plus-following, takes_following, inside_entry, takes_entry}
use Rattle.allocative_graph.proofs.Plus.{inside_first, takes_shared, held_again, counted_again}
use Rattle.allocative_graph.proofs.Graphs.{total-sum_of, sum_of-commutes, sum_of-associates, sum_of-default}
use Rattle.allocative_graph.proofs.Graphs.{total-under, graph-tree}
use Rattle.allocative_graph.proofs.Owned.{owned-following, owned-reordered, owned-total, direct-owned}
use Rattle.std.specs.{Cmp.nat_cmp_total, Fmt.digits, FinSet.empty}

-- The lines of the text are those of the entries, and each is read as its entry.
pub read_law : ReadLaw
read_law = record {
  same_sizes = λ g h plain fits. reads_back g plain fits h;
  no_fault = never_refused;
  fits = never_exceeds;
}

-- The law holds element by element.
pub path_order_law : PathOrderLaw
path_order_law = record {
  paths = order key_cmp (slice_cmp-IsAntisymmetric nat_cmp-IsAntisymmetric) key_itself;
  keys = order nat_cmp nat_cmp-IsAntisymmetric (tied_itself nat_cmp_total);
}

-- The law holds path by path.
pub graph_sums_law : GraphSumsLaw
graph_sums_law = record {
  same_total = total-sum_of;
  commutes = sum_of-commutes;
  associates = sum_of-associates;
  unchanged = sum_of-default;
  under_total = total-under;
}

-- The law follows from the entries of the sums.
pub graph_law : GraphLaw
graph_law = record { root = get-graph-root; paths = get-graph; is_tree = graph-tree }

-- A forest prints the lines and the warnings that are computed from the list of its entries.
prints : (f : Forest) (lines complaints : List ℕ) → text_of_entries (sizes_list (nodes_of (all f))) ≡ lines →
    warnings_list (nodes_of (all f)) ≡ complaints → Prints f lines complaints
prints f lines complaints p q =
    record {
      text_is = ap text_of_entries (entries-graph (all f)) ∙ p;
      warnings_are = ap warnings_list (entries-sums_of (all f)) ∙ q;
    }

-- Each example is computed.
pub rows_law : WorkedExamples
unfolding digits
rows_law = record {
  unique_pointer_prints = prints _ _ _ refl refl;
  unique_field_prints = prints _ _ _ refl refl;
  shared_twice_prints = prints _ _ _ refl refl;
  shared_ring_prints = prints _ _ _ refl refl;
  first_content_prints = prints _ _ _ refl refl;
  first_content_turned_prints = prints _ _ _ refl refl;
  short_of_children_prints = prints _ _ _ refl refl;
  inline_and_unique_prints = prints _ _ _ refl refl;
  boxed_bytes_prints = prints _ _ _ refl refl;
  shared_value_prints = prints _ _ _ refl refl;
  map_pair_prints = prints _ _ _ refl refl;
  vec_body_prints = prints _ _ _ refl refl;
  inline_and_unique_added = text_added (all part_inline) (all part_unique);
  shared_twice_whole = (
    (tt, (contains-empty identity_cmp one, (tt, tt), tt)),
    ((tt, (contains-insert identity_total empty one one, tt)), tt),
  );
  shared_ring_whole = (contains-empty identity_cmp one, (contains-insert identity_total empty one one, tt), tt);
  unique_in_unique_held = refl;
  vec_body_held = refl;
  inline_and_unique_cannot_be_added = λ can. true≢false
      (sym (can (codes "n" ∷ []) (record { bytes = 8; is_unique = false }) (record { bytes = 8; is_unique = true })
      (get-sums_of (all part_inline) (codes "n" ∷ [])) (get-sums_of (all part_unique) (codes "n" ∷ []))).0);
}

-- All laws, as the functions cite them.
pub ruleset showings = (same_sums_of, same_reached, agree_back, reaches_exactly, all_is_meaning, whole_following)

pub ruleset graphs = (graphs_add, text_tells, exact_is, read_law, path_order_law, graph_sums_law, graph_law, rows_law)

pub ruleset collectors = (plus-nothing, plus-following, takes_following, inside_entry, takes_entry)

pub ruleset shared = (inside_first, takes_shared, held_again, counted_again)

pub ruleset bytes = (get-sums_of, below-sums_of, owned-following, owned-reordered, owned-total, direct-owned)

pub ruleset laws = (showings, graphs, collectors, shared, bytes)
