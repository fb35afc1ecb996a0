-- A root visitor, what the closure does there, and its end.
use Rattle.std.proofs.Common.{rules}
use Rattle.allocative.proofs.Closures.{sum_answered, refusal_answered}
use Rattle.allocative.proofs.Visits.{same_err}
use Rattle.allocative.proofs.run.size_of.size_of_entries.Goals as goal

pub returns-in_err-check : goal.returns-in_err-check
returns-in_err-check g c = record {
  before = c.in_ok-visitor.visitor;
  after = c.call.new.self;
  begun = rw c.of_sum-collector.ensures at c.in_ok-visitor.ensures.begun;
  called = (_, c.call.ensures);
  answers = refusal_answered c.call.new.self.outer c.call.new.self.collector.now
      (same_err {e = c.in_err-check.field-0.0} _ c.from_residual-in_err-check.ensures.0 (search rules)) (search rules)
      c.check.ensures (search rules);
}

pub returns : goal.returns
returns g c = record {
  before = c.in_ok-visitor.visitor;
  after = c.call.new.self;
  begun = rw c.of_sum-collector.ensures at c.in_ok-visitor.ensures.begun;
  called = (_, c.call.ensures);
  answers = sum_answered c.call.new.self.outer c.call.new.self.collector.now c.sum.result (search rules) c.check.ensures
      (search rules) c.sum.ensures;
}
