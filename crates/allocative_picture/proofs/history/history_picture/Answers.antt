-- of history_picture: no error is TooLarge without cause, and the text
use Rattle.std.proofs.Common.{◌≡◌, ℕ, List, ◌+◌, ◌++◌, map, length, codes, string_bytes, ap, ◌∙◌, arith, rules}
use Rattle.allocative_picture.proofs.Common.{frame_data, length-map, total}
use Rattle.allocative_picture.specs.Escape.{escaped}
use Rattle.allocative_picture.specs.Picture.{change_frames, change_of, content_of, height_of, opening, wide_of}
use Rattle.allocative_picture.specs.History.{chart, first_graph, history_of, inner_opening, last_graph, place_below}
use Rattle.allocative_picture.specs.declared.fixed.TheConstants.{CHANGE, CLOSING}
use Rattle.allocative_picture.specs.Table.{IsTop, changes, weight_of}
use Rattle.allocative_picture.proofs.history.history_picture.Goals as goal

pub returns-in_err-changed-clause-too_large : goal.returns-in_err-changed-clause-too_large
returns-in_err-changed-clause-too_large c = (
  search rules,
  λ w. cc (c.in_ok-paths.ensures.too_large.1
      (omega (arith, w, ap total c.first_graph-first.ensures, ap total c.last_graph-last.ensures))),
)

-- The paths that changed most have the lines, and the parts of the picture are appended in order.
pub returns-clause-text : goal.returns-clause-text
unfolding history_of
returns-clause-text c =
    let o = c.args.options.now in
    let ms = c.args.moments.now in
    let g = first_graph ms in
    let h = last_graph ms in
    let s = change_of g h in
    let ws = wide_of s o (change_frames o g h) in
    let top = map weight_of c.in_ok-changed.changed.items in
    let place = place_below (length top) in
    let start = opening (place + height_of s o ws) (escaped o.title.now) in
    let lines = chart (escaped o.title.now) (escaped o.unit.now) top ms in
    let inner = inner_opening place (height_of s o ws) in
    let change = content_of CHANGE.now s o ws (length (change_frames o g h)) in
    let first : c.first_graph-first.result.now ≡ g = c.first_graph-first.ensures in
    let last : c.last_graph-last.result.now ≡ h = c.last_graph-last.ensures in
    let most : IsTop c.args.most (changes g h) top = rw (← first, ← last) c.in_ok-changed.ensures in
    let shown : map weight_of c.as_slice.result.now ≡ top = ap (map weight_of) c.as_slice.ensures.value in
    let many : c.len.result ≡ length top = omega (
      arith,
      c.len.ensures,
      c.in_ok-changed.changed.ok.0,
      length-map c.in_ok-changed.changed.items weight_of,
    ) in
    let subject : c.change_of-subject.result ≡ s = c.change_of-subject.ensures ∙ (λ i. change_of (first i) (last i)) in
    let frames : map frame_data c.as_slice-frames.result.now ≡ ws =
    ap (map frame_data) c.as_slice-frames.ensures.value ∙ c.in_ok-paths.ensures.frames
    ∙ (λ i. map frame_data (c.new-frames.ensures.items i)
    ++ wide_of (change_of (first i) (last i)) o (change_frames o (first i) (last i))) in
    let paths : c.in_ok-paths.paths ≡ length (change_frames o g h) =
    c.in_ok-paths.ensures.paths ∙ (λ i. length (change_frames o (first i) (last i))) in
    let height : c.height_of-height.result ≡ height_of s o ws =
    c.height_of-height.ensures.height ∙ (λ i. height_of (subject i) o (frames i)) in
    let title : c.as_str-title.result.now ≡ escaped o.title.now =
    c.as_str-title.ensures.value ∙ c.in_ok-title.ensures in
    let unit : c.as_str-unit.result.now ≡ escaped o.unit.now = c.as_str-unit.ensures.value ∙ c.in_ok-unit.ensures in
    let one : string_bytes c.push_opening.new.text ≡ start = c.in_ok-push_opening.ensures
    ∙ (λ i. c.new-text.ensures.bytes i ++ opening (place_below (many i) + height i) (title i)) in
    let two : string_bytes c.push_chart.new.text ≡ start ++ lines =
    c.in_ok-push_chart.ensures ∙ (λ i. one i ++ chart (title i) (unit i) (shown i) ms) in
    let three : string_bytes c.push_inner_opening.new.text ≡ (start ++ lines) ++ inner =
    c.in_ok-push_inner_opening.ensures ∙ (λ i. two i ++ inner_opening (place_below (many i)) (height i)) in
    let four : string_bytes c.push_content.new.text ≡ ((start ++ lines) ++ inner) ++ change =
    c.in_ok-push_content.ensures
    ∙ (λ i. three i
    ++ content_of CHANGE.now (subject i) o (frames i) (paths i)) in (
      top,
      most,
      c.in_ok-push_str-2.ensures.bytes
          ∙ ap (λ (t : List ℕ). t ++ codes "</svg>\n")
          (c.in_ok-push_str.ensures.bytes ∙ ap (λ (t : List ℕ). t ++ CLOSING.now) four),
    )
