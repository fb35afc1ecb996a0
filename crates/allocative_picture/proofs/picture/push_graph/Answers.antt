-- of push_graph: the result
use Rattle.std.proofs.Common.{◌≡◌, ◌++◌, map, sym, ◌∙◌, filter, rules}
use Rattle.allocative_picture.proofs.Common.{entries, is_drawn, len, frame_behind, frame_data, texts, all_of}
use Rattle.allocative_picture.proofs.Common.{mark_by}
use Rattle.allocative_picture.proofs.Placing.{frames_alone, length-frames_of}
use Rattle.allocative_picture.proofs.picture.push_graph.Goals as goal

-- The frames that are appended are the wide ones among the graph's.
pub returns-clause-frames : goal.returns-clause-frames
returns-clause-frames c =
    let M = mark_by c.args.marks c.args.other.now in
    let o = c.args.options.now.order in
    let g = c.args.graph.now in
    let least = c.args.options.now.narrowest in
    let before = map frame_data c.args.frames.now.items in
    c.in_ok-push_frames.ensures.frames
    ∙ (λ i. before ++ filter (is_drawn least (c.all.ensures i))
    (map (frame_behind o M 0 (texts (c.new-path.ensures.items i)) g) (entries g)))
    ∙ (λ i. before ++ filter (is_drawn least (all_of c.args.subject)) (frames_alone o M g i))

-- The number of the frames is that of the paths.
pub returns-clause-paths : goal.returns-clause-paths
returns-clause-paths c =
    let M = mark_by c.args.marks c.args.other.now in
    let paths : c.in_ok-paths.paths ≡ len c.args.graph.now = search rules in
    paths ∙ sym (length-frames_of c.args.options.now.order M c.args.graph.now)
