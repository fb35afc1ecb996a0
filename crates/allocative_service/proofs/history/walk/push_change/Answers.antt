-- of push_change: the result
use Rattle.std.proofs.Common.{◌≡◌, ◌==◌, false, refl, arith}
use Rattle.std.proofs.lemmas.Bool.Decides.{nat_tests}
use Rattle.std.proofs.lemmas.List.{map_push}
use Rattle.std.proofs.lemmas.List.Elements.{same_from_all_zip}
use Rattle.allocative_service.proofs.history.walk.push_change.Goals as goal

pub returns : goal.returns
returns c =
    let copied : c.in_ok-clone.field-0.items ≡ c.args.path.now.items =
    same_from_all_zip _ _ _ c.in_ok-clone.ensures.cases.0 (λ x y e. e) in
    let apart : (c.args.earlier == c.args.later) ≡ false = grind (arith, nat_tests) in
    rw (c.in_ok-push.ensures.items, map_push, copied, apart) refl
