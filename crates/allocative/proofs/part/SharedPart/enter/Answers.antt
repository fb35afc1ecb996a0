-- A pointer to a value met for the first time: what its content shows.
use Rattle.std.proofs.Common.{rules}
use Rattle.allocative.proofs.Strict.{only_if_full_content}
use Rattle.allocative.proofs.Visits.{content_shown}
use Rattle.allocative.proofs.Showing.{showing}
use Rattle.allocative.proofs.part.SharedPart.enter.Goals as goal

pub returns-then-is_first : goal.returns-then-is_first
returns-then-is_first g c =
    let opens = rw c.if-is_first.true at c.in_ok-is_first.ensures.opens in record {
      same_reference = search rules;
      same_outer = search rules;
      shown = content_shown c.enter-answer.result opens c.enter-answer.ensures.shown c.close_entry.ensures;
      cause = search (rules, showing);
      only_if_full = λ i. only_if_full_content opens (c.enter-answer.ensures.only_if_full i) c.close_entry.ensures;
    }
