-- of is_numeral: a text that is not empty
use Rattle.std.proofs.Common.{◌≡◌, ◌<◌, true, length, sym, ◌∙◌, rules, tests, arith}
use Rattle.std.proofs.lemmas.{Iterator.YieldsList-from_slice, Iterator.Search.all_from_yields_List}
use Rattle.std.proofs.lemmas.{Bool.Decides.nat_tests, Str.Parse.IsNumeralModel, Str.Parse.numerals_by_value}
use Rattle.std.specs.{Char.is_ascii_digit, List.list_all, Str.Parse.digits_value}
use Rattle.allocative_graph.proofs.read.is_numeral.Goals as goal

-- The test of each byte tells the texts of digits.
own : IsNumeralModel (λ ds. list_all is_ascii_digit ds ≡ true) (digits_value 10)
own = numerals_by_value _ (search rules)

pub returns-then-not-is_empty : goal.returns-then-not-is_empty
returns-then-not-is_empty c =
    let all = all_from_yields_List is_ascii_digit _ _ c.all.result c.all.ensures.ran
    (YieldsList-from_slice c.args.text.now cc) (λ x b q k. search (rules, tests)) in
    let some : 0 < length c.args.text.now = grind (arith, nat_tests) in
    (λ passes. (some, own.to _ (sym all ∙ passes)), λ digits. all ∙ own.from _ digits.1)
