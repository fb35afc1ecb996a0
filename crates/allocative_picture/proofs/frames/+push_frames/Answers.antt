-- of push_frames: what starts and push_frames require, the step of its loop, and the frames
use Rattle.std.proofs.Common.{◌≡◌, refl, ◌+◌, ◌<◌, ◌++◌, [], ◌∷◌, length, List, map, arith, ap, sym, subst, append_assoc}
use Rattle.std.proofs.Common.{append-nil, ◌∙◌, filter, take_all}
use Rattle.allocative_picture.proofs.Common.{is_drawn, len, Child, Path, total, FrameData}
use Rattle.allocative_picture.proofs.Common.{frame_data, frame_behind, frame_from, filter-append, size_at}
use Rattle.allocative_picture.proofs.Common.{texts, popped, mark_by, mark_with}
use Rattle.allocative_graph.specs.Rows.{rows_of}
use Rattle.allocative_picture.proofs.Placing.{child_frame, node_frames, start_total}
use Rattle.allocative_picture.proofs.Walking.{node_total, pushed_key, rows_more}
use Rattle.allocative_picture.proofs.Starting.{start_of}
use Rattle.allocative_picture.specs.Places.{bytes_before}
use Rattle.allocative_picture.proofs.frames.+push_frames.Goals as goal

-- The bytes of a graph are those of its root and of its children.
pub overflow_add-first : goal.overflow_add-first
overflow_add-first t c = omega (
  arith,
  c.self_size.ensures,
  c.requires.fits,
  node_total c.args.graph.now _ c.children-children.ensures.whole c.children-children.ensures.children,
)

pub starts-requires-clause-fits : goal.starts-requires-clause-fits
starts-requires-clause-fits t c = omega (
  arith,
  c.self_size.ensures,
  c.requires.fits,
  node_total c.args.graph.now _ c.children-children.ensures.whole c.children-children.ensures.children,
)

-- A child has fewer paths, and its bytes fit with those before it.
pub push_frames-requires : goal.push_frames-requires
push_frames-requires t c =
    let g = c.args.graph.now in
    let o = c.args.shown.now.order in
    let cs = c.children-children.result.now in
    let node = c.children-children.ensures in
    let i = c.loop-index.index in
    let d = c.index-children-index.result in
    let w : i < length cs = omega arith in
    let small : len d.graph < len g =
    subst (λ (x : Child). len x.graph < len g) (sym c.index-children-index.is) (node.smaller i d w) in
    let start : c.index.result.now ≡ c.args.before + size_at g [] + bytes_before o cs d =
    start_of o cs i d _ _ (size_at g []) _ c.in_ok-starts.ensures
    w c.index-children-index.is c.self_size.ensures c.index.ensures in
    let M = mark_by c.args.shown.now.marks c.args.shown.now.other.now in
    let ks = texts c.args.path.now.items in
    let pushed : c.push.new.self.items ≡ c.args.path.now.items ++ c.as_str.result ∷ [] =
    rw (c.in_ok-push.ensures.items, c.loop-index.invariant.path) refl in
    let behind_it = pushed_key _ _ c.as_str.result d.key pushed c.as_str.ensures in
    let falls = c.decreases in (
      omega (arith, small, falls),
      (
        omega (
          arith,
          start,
          start_total o cs i d w c.index-children-index.is,
          c.requires.fits,
          node_total g cs node.whole node.children,
        ),
        λ p. ap (λ (q : Path). M (q ++ p)) behind_it ∙ ap M (append_assoc ks (d.key ∷ []) p)
            ∙ c.requires.other (d.key ∷ p)
            ∙ (λ j. mark_with c.args.shown.now.marks
            (c.below-below.ensures.sizes p j) (c.below-below.ensures.totals p j)),
      ),
    )

-- The frames of one child more are appended.
pub loop-index-preserved : goal.loop-index-preserved
loop-index-preserved t c =
    let g = c.args.graph.now in
    let n = size_at g [] in
    let o = c.args.shown.now.order in
    let cs = c.children-children.result.now in
    let node = c.children-children.ensures in
    let i = c.loop-index.index in
    let d = c.index-children-index.result in
    let w : i < length cs = omega arith in
    let M = mark_by c.args.shown.now.marks c.args.shown.now.other.now in
    let ks = texts c.args.path.now.items in
    let wide = is_drawn c.args.shown.now.least c.args.shown.now.all in
    let start = start_of o cs i d _ _ n _ c.in_ok-starts.ensures
    w c.index-children-index.is c.self_size.ensures c.index.ensures in
    let pushed : c.push.new.self.items ≡ c.args.path.now.items ++ c.as_str.result ∷ [] =
    rw (c.in_ok-push.ensures.items, c.loop-index.invariant.path) refl in
    let behind_it = pushed_key _ _ c.as_str.result d.key pushed c.as_str.ensures in
    let F = frame_behind o M c.args.before ks g in
    let more = rows_more F (frame_behind o M c.index.result.now (ks ++ d.key ∷ []) d.graph) cs i d w
    c.index-children-index.is (child_frame o M c.args.before ks g n cs node.whole node.children i d c.index.result.now w
    c.index-children-index.is start) in
    record {
      path = popped _ _ _ c.as_str.result _ c.pop.ensures.rest c.push_frames.new.path.ok.0
          (c.in_ok-push_frames.ensures.path ∙ pushed);
      frames = rw (more, filter-append, ← append_assoc, ← c.loop-index.invariant.frames, ← behind_it)
          c.in_ok-push_frames.ensures.frames;
    }

-- After the last child the wide frames of the graph are appended.
pub returns-clause-frames : goal.returns-clause-frames
returns-clause-frames t c =
    let g = c.args.graph.now in
    let n = size_at g [] in
    let o = c.args.shown.now.order in
    let cs = c.children-children.result.now in
    let node = c.children-children.ensures in
    let M = mark_by c.args.shown.now.marks c.args.shown.now.other.now in
    let wide = is_drawn c.args.shown.now.least c.args.shown.now.all in
    let ks = texts c.args.path.now.items in
    let b = c.args.before in
    let start = map frame_data c.args.frames.now.items in
    let F = frame_behind o M b ks g in
    let root : FrameData = frame_from M b (record { path = ks; self_size = n; total_size = total g }) in
    let whole = node_frames o M b ks g n cs node.whole node.children in
    let below : List FrameData = map F (rows_of cs) in
    let mark : c.of-mark.result ≡ M ks = c.of-mark.ensures ∙ sym (c.requires.other []) ∙ ap M (append-nil ks) in
    let frame : frame_data c.frame_from-frame.result ≡ root =
    c.frame_from-frame.ensures ∙ (λ j. frame_from (λ _. mark j) b
    (record { path = texts (c.as_slice.ensures.value j); self_size = n; total_size = total g })) in
    c.loop-index.invariant.frames
    ∙ (λ j. map frame_data c.push_wide.new.frames.items
    ++ filter wide (map F (rows_of (take_all c.loop-index.index cs (omega arith) j))))
    ∙ ap (λ (rs : List FrameData). rs ++ filter wide below)
    (c.in_ok-push_wide.ensures ∙ ap (λ (r : FrameData). start ++ filter wide (r ∷ [])) frame)
    ∙ append_assoc start (filter wide (root ∷ [])) (filter wide below)
    ∙ ap (λ (rs : List FrameData). start ++ rs) (sym (filter-append wide (root ∷ []) below)
    ∙ ap (filter wide) (sym whole))
