-- of is_metric_name: the result for a text whose first byte is no digit
use Rattle.std.proofs.Common.{rules, tests, ◌∙◌}
use Rattle.std.proofs.lemmas.Iterator.{YieldsList-from_slice}
use Rattle.std.proofs.lemmas.Iterator.Search.{all_from_yields_List}
use Rattle.allocative_service.specs.Metrics.{is_name_byte}
use Rattle.allocative_service.proofs.metrics.is_metric_name.Goals as goal

pub returns-then-not-is_ascii_digit : goal.returns-then-not-is_ascii_digit
returns-then-not-is_ascii_digit c =
    let all = all_from_yields_List is_name_byte _ _ c.all.result c.all.ensures.ran
    (YieldsList-from_slice c.args.name.now cc) (λ x b q k. search (rules, tests)) in
    all ∙ search (rules, c.in-Some.ensures, c.in-Some.is)
