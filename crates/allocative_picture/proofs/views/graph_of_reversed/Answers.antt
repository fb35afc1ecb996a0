-- of graph_of_reversed: the result
use Rattle.std.proofs.Common.{◌≡◌, ◌++◌, length, take, drop, reverse, ap, ◌∙◌, arith}
use Rattle.std.proofs.Math.Seq.{take-append_seam}
use Rattle.allocative_picture.proofs.Common.{graph_of_path, sum_of, texts}
use Rattle.allocative_picture.proofs.Viewing.{reversed_alone}
use Rattle.allocative_picture.proofs.views.graph_of_reversed.Goals as goal

pub returns : goal.returns
returns c =
    let new = c.reverse.new.self in
    let rest = drop (length new) c.in_ok-keys.keys.items in
    let many : c.in_ok-keys.keys.len ≡ length new = omega (arith, c.reverse.ensures.len, c.as_mut_slice.ensures.len) in
    let keys = c.as_slice.ensures.value ∙ (λ i. take (many i) (new ++ rest)) ∙ take-append_seam new rest
    ∙ c.reverse.ensures.after ∙ ap reverse (c.as_mut_slice.ensures.value ∙ c.in_ok-keys.ensures.items) in
    c.in_ok-add_at.ensures.sum
    ∙ (λ i. sum_of (c.default-graph.ensures i) (graph_of_path (texts (keys i)) c.args.bytes))
    ∙ reversed_alone c.args.path.now c.args.bytes
