-- One more line was read, and none is left.
use Rattle.std.proofs.Common.{string_bytes, rules}
use Rattle.allocative_json.proofs.LinesLemmas.{line_more, line_none}
use Rattle.allocative_json.proofs.texts.without_unused.Goals as goal

-- One line more is kept or left out.
pub loop-line-preserved : goal.loop-line-preserved
loop-line-preserved c = (
  search rules,
  line_more _ c.loop-line.rest.now (string_bytes c.loop-line.kept) _ c.in-Some.line c.in-Some.after
      c.in-Some.ensures.cases c.loop-line.invariant.1 c.in_ok-push_line.ensures,
)

-- After the last line the kept lines are those of the whole text.
pub returns : goal.returns
returns c = line_none _ c.loop-line.rest.now (string_bytes c.loop-line.kept) c.in_default.ensures.cases
    c.loop-line.invariant.1
