-- The start of a line is cut back to its length, and the lines of each child follow those before.
use Rattle.std.proofs.Common.{◌≡◌, ◌≤◌, ◌++◌, [], ◌∷◌, take, length, length-take, arith, ap, sym, subst, ◌∙◌}
use Rattle.std.proofs.Common.{append_assoc, append-nil, take_all, string_bytes, flat_map, unwrap_or}
use Rattle.std.specs.Str.{IsUtf8}
use Rattle.allocative_graph.proofs.Common.{entries, entries_sorted, find, get-entries, line_after, path_cmp, rows_of}
use Rattle.allocative_graph.specs.Graph.{line}
use Rattle.std.proofs.lemmas.{Bool.OnTrue_at, Str.IsUtf8-string_bytes, Str.IsCharBoundary-from_take}
use Rattle.allocative_graph.proofs.{Nodes.entries_of_node, Text.child_lines, Text.child_written, Text.kept_of_start}
use Rattle.allocative_graph.proofs.flamegraph.FlameGraph.+write_lines.Goals as goal

-- What is kept of the start of a line is the start before the child.
kept : (t : _) (c : goal.After-truncate-arg-1 t) →
    take c.len-length.result (string_bytes c.if-not-is_leaf.start) ≡ string_bytes c.args.start.now
unfolding lib.Utf8.encode
kept t c =
    let start = string_bytes c.args.start.now in
    let key = c.child-item.result.key in
    let named : string_bytes c.push_str.new.self ≡ start ++ key =
    c.in_ok-push_str.ensures.bytes ∙ (λ j. c.loop-child.invariant.start j ++ c.as_str.ensures j) in
    let len : c.len-length.result ≡ length start = c.len-length.ensures ∙ c.args.start.now.bytes.ok.0 in
    elim c.if-not-is_leaf.branch [
      | goal.then-not-is_leaf+in_ok-push+in_ok-write_lines w ↦ kept_of_start start key (59 ∷ []) len
          (ap string_bytes w.start-is ∙ w.in_ok-write_lines.ensures.start ∙ w.in_ok-push.ensures.bytes
          ∙ ap (λ l. l ++ 59 ∷ []) named)
      | goal.else-not-is_leaf w ↦ kept_of_start start key [] len
          (ap string_bytes w.start-is ∙ named ∙ sym (append-nil _))
    ]

pub truncate-requires : goal.truncate-requires
truncate-requires t c =
    let n = c.len-length.result in
    let longer = string_bytes c.if-not-is_leaf.start in
    let len : n ≡ length (string_bytes c.args.start.now) = c.len-length.ensures ∙ c.args.start.now.bytes.ok.0 in
    let within : n ≤ length longer = omega (arith, len, ap length (kept t c), length-take n longer) in
    let at = IsCharBoundary-from_take longer n (IsUtf8-string_bytes c.if-not-is_leaf.start) within
    (subst IsUtf8 (sym (kept t c)) (IsUtf8-string_bytes c.args.start.now)) in
    λ _. (at.0, λ _ within. at.1 within)

pub loop-child-preserved : goal.loop-child-preserved
unfolding lib.Utf8.encode
loop-child-preserved t c =
    let start = string_bytes c.args.start.now in
    let d = c.child-item.result in
    let cs = c.deref-child-items.result.now in
    let i = c.loop-child.child-index in
    let es = entries d.graph in
    let before = string_bytes c.args.text.now ++ flat_map (line_after start) (rows_of (take i cs)) in
    let own = line ((start ++ d.key) ∷ [], unwrap_or (find path_cmp [] es) 0) in
    let deeper = line_after ((start ++ d.key) ++ 59 ∷ []) in
    let key : string_bytes c.push_str.new.self ≡ start ++ d.key =
    c.in_ok-push_str.ensures.bytes ∙ (λ j. c.loop-child.invariant.start j ++ c.as_str.ensures j) in
    let path = c.as_str-in-loop-child.ensures.value ∙ key in
    let size = c.self_size.ensures ∙ ap (λ o. unwrap_or o 0) (get-entries d.graph []) in
    let pushed : string_bytes c.push_line.new.text ≡ before ++ own =
    c.in_ok-push_line.ensures ∙ (λ k. c.loop-child.invariant.text k ++ line (path k ∷ [], size k)) in
    let below : string_bytes c.if-not-is_leaf.text ≡ string_bytes c.push_line.new.text ++ flat_map deeper es =
    elim c.if-not-is_leaf.branch [
      | goal.then-not-is_leaf+in_ok-push+in_ok-write_lines w ↦
          let done = w.in_ok-push.ensures.bytes ∙ ap (λ l. l ++ 59 ∷ []) key in
          ap string_bytes w.text-is ∙ w.in_ok-write_lines.ensures.text
          ∙ (λ j. string_bytes c.push_line.new.text ++ flat_map (line_after (done j)) es)
      | goal.else-not-is_leaf w ↦
          let leaf = OnTrue_at w.if-not-is_leaf.false c.is_leaf.ensures in
          ap string_bytes w.text-is ∙ sym (append-nil _)
          ∙ ap (λ rs. string_bytes c.push_line.new.text ++ flat_map deeper rs) (sym leaf)
    ] in
    record {
      start = c.truncate.ensures.bytes ∙ kept t c.before;
      text = below ∙ ap (λ l. l ++ flat_map deeper es) pushed ∙ append_assoc before _ _
          ∙ ap (λ l. before ++ l) (child_lines start d.key es (entries_sorted d.graph))
          ∙ child_written (line_after start) cs i d (string_bytes c.args.text.now) (omega arith) c.child-item.is;
    }

pub returns-clause-text : goal.returns-clause-text
returns-clause-text t c =
    let all = take_all c.loop-child.child-index c.deref-child-items.result.now (omega arith)
    ∙ c.deref-child-items.ensures.value in
    rw (entries_of_node c.self.view_is c.self.invariant, ← all) c.loop-child.invariant.text
