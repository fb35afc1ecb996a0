-- The warning's pieces, one after another, are its text.
use Rattle.std.proofs.Common.{◌≡◌, append_assoc, rules}
use Rattle.allocative_collectors.proofs.Common.{warning_of, warning_text}
use Rattle.allocative_graph.specs.Graph.{joined}
use Rattle.allocative_collectors.proofs.output.WarnedPath.push_warning.Goals as goal

pub returns : goal.returns
returns c =
    let w = warning_of c.args.self.now in
    let path : c.as_str-path.result.now ≡ joined w.path = search rules in
    let whole : c.as_str.result.now ≡ warning_text w =
    rw (c.as_str.ensures.value, c.in_ok-warning.ensures.ok, path) (simp append_assoc) in
    rw (← whole) (search rules)
