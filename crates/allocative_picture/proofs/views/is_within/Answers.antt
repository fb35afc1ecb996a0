-- of is_within: the result
use Rattle.std.proofs.Common.{List, ℕ, ◌∙◌, Bor, Vec, Global, rules, tests}
use Rattle.std.specs.List.{starts_with}
use Rattle.std.proofs.lemmas.Iterator.{YieldsList-from_slice}
use Rattle.std.proofs.lemmas.Iterator.Search.{any_from_yields_List}
use Rattle.allocative_picture.proofs.Viewing.{is_same_text, within_starts}
use Rattle.allocative_picture.proofs.views.is_within.Goals as goal

pub returns : goal.returns
returns c =
    let ps = c.args.paths.now in
    let path = c.args.path.now in
    any_from_yields_List (λ (p : Vec (Bor (List ℕ)) Global). starts_with is_same_text path p.items) _ _ c.any.result
    c.any.ensures.ran (YieldsList-from_slice ps cc) (λ x b q k. search (rules, tests)) ∙ within_starts ps path
