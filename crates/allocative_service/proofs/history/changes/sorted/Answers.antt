-- of sorted: the result
use Rattle.std.proofs.Common.{◌≡◌, ◌∙◌, ap, arith, cond, filter, map, rules, take, take_all}
use Rattle.std.proofs.lemmas.List.Sorted.{All-permutation, IsNonDecreasingBy-from_sort_by_key, IsPermutation-map}
use Rattle.allocative_service.specs.Changes.{change_data, is_grown, IsWord, rank}
use Rattle.allocative_service.proofs.Compared.{falls}
use Rattle.allocative_service.proofs.history.changes.sorted.Goals as goal

pub returns : goal.returns
returns c =
    let l = c.loop-change in
    let all : take l.change-index c.args.changes.now ≡ c.args.changes.now =
    take_all l.change-index c.args.changes.now (omega arith) in
    let is = l.invariant.copied
    ∙ ap (λ cs. cond c.args.only_grown (filter is_grown (map change_data cs)) (map change_data cs)) all in
    let moved = c.in_ok-sort_by_key.ensures.permutation in
    record {
      same = rw (← is) (IsPermutation-map change_data _ _ moved);
      falling = falls _ (All-permutation IsWord _ _ moved l.invariant.words)
          (IsNonDecreasingBy-from_sort_by_key (λ d. rank (change_data d)) _ c.in_ok-sort_by_key.ensures.sorted
          (λ a r q k. search rules));
    }
