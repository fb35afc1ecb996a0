-- of push_path: the old length is a place where the text can be cut
use Rattle.std.proofs.Common.{◌≡◌, ◌≤◌, take, length, length-take, arith, ap, sym, subst, ◌∙◌, string_bytes}
use Rattle.std.proofs.lemmas.Str.{IsUtf8-string_bytes, IsCharBoundary-from_take}
use Rattle.std.specs.Str.{IsUtf8}
use Rattle.allocative_graph.proofs.flamegraph.push_path.Goals as goal

pub truncate-requires : goal.truncate-requires
truncate-requires c =
    let n = c.len-length.result in
    let old = string_bytes c.args.text.now in
    let longer = string_bytes c.push_keys.new.text in
    let len : n ≡ length old = c.len-length.ensures ∙ c.args.text.now.bytes.ok.0 in
    let kept : take n longer ≡ old = ap (λ m. take m longer) len ∙ c.in-Err.ensures.start in
    let within : n ≤ length longer = omega (arith, len, ap length kept, length-take n longer) in
    let at = IsCharBoundary-from_take longer n (IsUtf8-string_bytes c.push_keys.new.text) within
    (subst IsUtf8 (sym kept) (IsUtf8-string_bytes c.args.text.now)) in
    λ _. (at.0, λ _ within. at.1 within)
