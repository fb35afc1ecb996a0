-- of most_changed: the result
use Rattle.std.proofs.Common.{◌≡◌, [], ◌++◌, ap, subst, ◌∙◌, Some}
use Rattle.allocative_picture.proofs.Common.{Sizes, texts}
use Rattle.allocative_picture.specs.declared.table.Size.TheVariants.{Own}
use Rattle.allocative_picture.specs.Table.{behind, changes, growths, IsKept}
use Rattle.allocative_picture.proofs.Heaviest.{keeps_then, none_kept, top_of_heap}
use Rattle.allocative_picture.proofs.Walking.{behind_none}
use Rattle.allocative_picture.proofs.table.most_changed.Goals as goal

pub returns : goal.returns
returns c =
    let n = c.args.most in
    let g = c.args.before.now in
    let h = c.args.after.now in
    let heap = c.keep_all-2.new.heaviest in
    let ks = texts c.new-path.result.items in
    let ls = texts c.keep_all.new.path.items in
    let both = keeps_then n (behind ks (growths Own (Some g) h)) (behind ls (growths Own (Some h) g))
    c.new-heap.result c.keep_all.new.heaviest heap c.in_ok-keep_all.ensures.kept c.in_ok-keep_all-2.ensures.kept in
    let none : ks ≡ [] = ap texts c.new-path.ensures.items in
    let still : ls ≡ [] = ap texts (c.in_ok-keep_all.ensures.path ∙ c.new-path.ensures.items) in
    let same : behind ks (growths Own (Some g) h) ++ behind ls (growths Own (Some h) g) ≡ changes g h =
    λ i. (ap (λ p. behind p (growths Own (Some g) h)) none ∙ behind_none (growths Own (Some g) h)) i
    ++ (ap (λ p. behind p (growths Own (Some h) g)) still ∙ behind_none (growths Own (Some h) g)) i in
    let all : IsKept n (changes g h) heap = subst (λ (fs : Sizes). IsKept n fs heap) same (both [] (record {
      ordered = c.new-heap.ensures.heap_order;
      heaviest = none_kept n c.new-heap.result c.new-heap.ensures.items;
    })) in
    top_of_heap n (changes g h) heap c.into_sorted_vec.result.items all c.into_sorted_vec.ensures.permutation
    (c.into_sorted_vec.ensures.sorted all.ordered)
