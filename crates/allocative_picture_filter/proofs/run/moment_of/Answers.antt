-- of moment_of: the moment
use Rattle.allocative_picture_filter.proofs.run.moment_of.Goals as goal

pub returns-clause-ok : goal.returns-clause-ok
returns-clause-ok c = record {
  graph = c.in_ok-graph.graph;
  reads = c.in_ok-graph.ensures.ok;
  name = c.name_of.ensures;
  part = c.in_ok-part_of.ensures;
}
