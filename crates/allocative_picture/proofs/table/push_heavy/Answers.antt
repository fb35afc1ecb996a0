-- of push_heavy: the heap has the path
use Rattle.std.proofs.Common.{◌≡◌, ◌∷◌, subst, IsPermutation}
use Rattle.allocative_picture.proofs.Common.{texts, IsPermutation-map}
use Rattle.std.proofs.lemmas.List.Elements.{same_from_all_zip}
use Rattle.allocative_picture.specs.Table.{weight_of, weights_of}
use Rattle.allocative_picture.proofs.table.push_heavy.Goals as goal

pub returns : goal.returns
returns c =
    let copied : c.in_ok-path.path.items ≡ c.args.path.now.items =
    same_from_all_zip _ _ _ c.in_ok-path.ensures.cases.0 (λ x y e. e) in
    record {
      items = subst (λ ks. IsPermutation ((texts ks, c.args.bytes) ∷ weights_of c.args.heaviest.now)
          (weights_of c.push.new.self)) copied
          (IsPermutation-map weight_of _ _ c.in_ok-push.ensures.permutation);
      order = c.in_ok-push.ensures.heap_order;
    }
