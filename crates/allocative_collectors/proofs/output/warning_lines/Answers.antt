-- One more line.
use Rattle.std.proofs.Common.{◌≡◌, [], ◌∷◌, ◌++◌, map, take, append_assoc, ap, ◌∙◌, arith, string_bytes, append-nil}
use Rattle.allocative_collectors.proofs.Common.{newline, warning_text, warning_of, flat_map-append, map_more}
use Rattle.allocative_collectors.proofs.output.warning_lines.Goals as goal

pub loop-one-preserved : goal.loop-one-preserved
loop-one-preserved c =
    let ws = c.args.warned.now in
    let i = c.loop-one.one-index in
    let text = warning_text (warning_of c.one-item.result) in
    let before = string_bytes c.loop-one.text in
    let is : string_bytes c.push_str.new.self ≡ (before ++ text) ++ newline ∷ [] =
    c.in_ok-push_str.ensures.bytes ∙ ap (λ t. t ++ newline ∷ []) c.in_ok-push_warning.ensures in
    let all = map_more warning_of ws i c.one-item.result (omega arith) in
    let lines = flat_map-append (λ v. warning_text v ++ newline ∷ [])
    (map warning_of (take i ws)) (warning_of c.one-item.result ∷ []) in
    let joined = append_assoc before text (newline ∷ []) in let last = append-nil (text ++ newline ∷ []) in
    grind (arith, is, all, lines, joined, last, c.one-item.is, c.loop-one.invariant)
