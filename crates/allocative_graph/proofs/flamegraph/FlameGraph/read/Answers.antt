-- of read: too_large, graph and reads_back
use Rattle.std.proofs.Common.{◌≡◌, ℕ, List, map, ap, subst, ◌∙◌}
use Rattle.std.proofs.lemmas.Result.{IfOk-weaker}
use Rattle.allocative_graph.proofs.Common.{Graph, Line, default, IsRead, sum_of_stacks, line_stack}
use Rattle.allocative_graph.specs.Read.{ReadsBack}
use Rattle.allocative_graph.proofs.ReadBack.{is_read, reads_back, text_exceeds}
use Rattle.allocative_graph.proofs.flamegraph.FlameGraph.read.Goals as goal

pub returns-clause-too_large : goal.returns-clause-too_large
returns-clause-too_large c = λ e.
    text_exceeds c.args.text.now c.in_ok-lines.lines.items c.sort_unstable_by.new.self.items c.as_slice.result.now
    c.in_ok-lines.ensures.ok c.sort_unstable_by.ensures.permutation c.as_slice.ensures.value
    (c.add_up.ensures.too_large e)

pub returns-clause-graph : goal.returns-clause-graph
returns-clause-graph c =
    IfOk-weaker c.add_up.result (λ (g : Graph). g ≡ sum_of_stacks default (map line_stack c.as_slice.result.now))
    (IsRead c.args.text.now) (λ g is.
    is_read c.args.text.now c.in_ok-lines.lines.items c.sort_unstable_by.new.self.items g c.in_ok-lines.ensures.ok
    c.sort_unstable_by.ensures.permutation
    (is ∙ ap (λ (xs : List Line). sum_of_stacks default (map line_stack xs)) c.as_slice.ensures.value))
    c.add_up.ensures.graph

pub returns-clause-reads_back : goal.returns-clause-reads_back
returns-clause-reads_back c =
    IfOk-weaker c.add_up.result (IsRead c.args.text.now) (ReadsBack c.args.text.now)
    (λ h read g plain fits e. reads_back g plain fits h (subst (λ (t : List ℕ). IsRead t h) e read))
    (returns-clause-graph c)
