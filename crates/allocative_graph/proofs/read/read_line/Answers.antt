-- of read_line: wrong and ok
use Rattle.std.proofs.Common.{◌≡◌, length, sym, ◌∙◌, true≢false, arith, lit<}
use Rattle.allocative_graph.proofs.Common.{YieldsList-from_str_split}
use Rattle.std.proofs.lemmas.Iterator.Consumers.{count_from_yields_List}
use Rattle.allocative_graph.specs.Read.{keys_of}
use Rattle.allocative_graph.proofs.ReadBack.{cut_of, no_path, not_zero, stack_of, too_large, unsigned}
use Rattle.allocative_graph.proofs.read.read_line.Goals as goal

pub returns-then-is_empty-clause-wrong : goal.returns-then-is_empty-clause-wrong
returns-then-is_empty-clause-wrong c = no_path (cut_of (c.in-Some.path, c.in-Some.size) c.in-Some.ensures.cases)
    (sym c.is_empty.ensures ∙ c.if-is_empty.true)

pub returns-then-not-is_numeral-clause-wrong : goal.returns-then-not-is_numeral-clause-wrong
returns-then-not-is_numeral-clause-wrong c = (
  c.in-Some.path.now,
  c.in-Some.size.now,
  cut_of (c.in-Some.path, c.in-Some.size) c.in-Some.ensures.cases,
  not_zero _ (sym c.is_empty.ensures ∙ c.if-is_empty.false),
  λ digits. true≢false (sym (c.is_numeral.ensures.1 digits) ∙ c.if-not-is_numeral.true),
)

pub returns-in_default-parse-clause-wrong : goal.returns-in_default-parse-clause-wrong
returns-in_default-parse-clause-wrong c =
    let digits = c.is_numeral.ensures.0 c.if-not-is_numeral.false in (
      c.in-Some.path.now,
      c.in-Some.size.now,
      cut_of (c.in-Some.path, c.in-Some.size) c.in-Some.ensures.cases,
      not_zero _ (sym c.is_empty.ensures ∙ c.if-is_empty.false),
      digits,
      too_large _ digits (rw (unsigned c.in-Some.size.now digits) at c.in_default-parse.ensures.value.0),
    )

pub returns-then-count-gt-LEVELS-clause-wrong : goal.returns-then-count-gt-LEVELS-clause-wrong
returns-then-count-gt-LEVELS-clause-wrong c =
    let keys : c.count.result ≡ length (keys_of c.in-Some.path.now) =
    count_from_yields_List c.split.result _ c.count.ensures.ran
    (YieldsList-from_str_split 59 c.in-Some.path.now (lit< tt) c.split.ensures.text c.split.ensures.has_more
    c.split.ensures.pattern) in (
      c.in-Some.path.now,
      c.in-Some.size.now,
      cut_of (c.in-Some.path, c.in-Some.size) c.in-Some.ensures.cases,
      (rw (unsigned c.in-Some.size.now (c.is_numeral.ensures.0 c.if-not-is_numeral.false)) at
          c.in-Ok.ensures.value.0).0,
      omega (arith, keys),
    )

pub returns-clause-ok : goal.returns-clause-ok
returns-clause-ok c =
    let keys : c.count.result ≡ length (keys_of c.in-Some.path.now) =
    count_from_yields_List c.split.result _ c.count.ensures.ran
    (YieldsList-from_str_split 59 c.in-Some.path.now (lit< tt) c.split.ensures.text c.split.ensures.has_more
    c.split.ensures.pattern) in
    stack_of (cut_of (c.in-Some.path, c.in-Some.size) c.in-Some.ensures.cases)
    (sym c.is_empty.ensures ∙ c.if-is_empty.false)
    (rw (unsigned c.in-Some.size.now (c.is_numeral.ensures.0 c.if-not-is_numeral.false)) at c.in-Ok.ensures.value.0)
    (omega (arith, keys))
