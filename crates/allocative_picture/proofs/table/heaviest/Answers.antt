-- of heaviest: the result
use Rattle.std.proofs.Common.{[], ap, subst, ◌∙◌, option_copied}
use Rattle.allocative_picture.proofs.Common.{Sizes, texts}
use Rattle.allocative_picture.specs.Table.{behind, growths, IsKept}
use Rattle.allocative_picture.proofs.Heaviest.{none_kept, top_of_heap}
use Rattle.allocative_picture.proofs.Walking.{behind_none}
use Rattle.allocative_picture.proofs.table.heaviest.Goals as goal

pub returns : goal.returns
returns c =
    let es = growths c.args.size (option_copied c.args.other) c.args.graph.now in
    let heap = c.keep_all.new.heaviest in
    let kept : IsKept c.args.most (behind (texts c.new-path.result.items) es) heap =
    c.in_ok-keep_all.ensures.kept [] (record {
      ordered = c.new-heaviest.ensures.heap_order;
      heaviest = none_kept c.args.most c.new-heaviest.result c.new-heaviest.ensures.items;
    }) in
    let all : IsKept c.args.most es heap = subst (λ (fs : Sizes). IsKept c.args.most fs heap)
    (ap (λ ks. behind (texts ks) es) c.new-path.ensures.items ∙ behind_none es) kept in
    top_of_heap c.args.most es heap c.into_sorted_vec.result.items all c.into_sorted_vec.ensures.permutation
    (c.into_sorted_vec.ensures.sorted all.ordered)
