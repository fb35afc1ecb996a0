-- of add_text: stops and ok
use Rattle.std.proofs.Common.{◌+◌, ◌^◌, ◌≤◌, inr, arith}
use Rattle.allocative_picture_filter.proofs.Common.{total}
use Rattle.allocative_picture_filter.proofs.Faults.{stops-joining, holds-of}
use Rattle.allocative_picture_filter.proofs.run.add_text.Goals as goal

-- A graph that is not added stops the run, once its text is read.
pub returns-in_err-add-clause-stops : goal.returns-in_err-add-clause-stops
returns-in_err-add-clause-stops c =
    let read = c.in_ok-graph_of.field-0 in
    holds-of c.from_residual-in_err-add.result _ _ c.from_residual-in_err-add.ensures.1
    (inr (
      read,
      c.in_ok-graph_of.ensures.ok,
      stops-joining (total c.args.graph.now + total read) c.in_err-add.field-0.0 c.in_err-add.ensures.too_large.0,
    ))

-- A text that is added is read, and its bytes fit with those before.
pub returns-clause-ok : goal.returns-clause-ok
returns-clause-ok c =
    let read = c.in_ok-graph_of.field-0 in
    let added : 2 ^ 64 ≤ total c.args.graph.now + total read → ⊥ =
    λ exceeds. let refused = c.in_ok-add.ensures.too_large.1 exceeds in cc in record {
      read = read;
      reads = c.in_ok-graph_of.ensures.ok;
      fits = omega (arith, added);
      is = c.in_ok-add.ensures.sum;
    }
