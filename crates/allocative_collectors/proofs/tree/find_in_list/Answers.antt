-- What the search finds among the keys of the numbers.
use Rattle.std.proofs.Common.{ℕ, Ok, Err, rules}
use Rattle.allocative_collectors.proofs.Common.{key_cmp, key_at, always_returns_same}
use Rattle.std.proofs.lemmas.List.Elements.{Contains-get_or}
use Rattle.allocative_collectors.proofs.Chunks.{searched}
use Rattle.allocative_collectors.proofs.tree.find_in_list.Goals as goal

pub returns-in-Ok-clause-found : goal.returns-in-Ok-clause-found
returns-in-Ok-clause-found c =
    let K = key_at c.args.nodes.now in
    let by_key = c.in-Ok.ensures.position (λ (n : ℕ). key_cmp (K n) c.args.key.now)
    (always_returns_same _ _ _ (λ a r g called. search rules)) in
    let s = (searched c.args.nodes.now c.args.list.now c.requires.rise c.args.key.now (Ok c.in-Ok.place)
    c.in-Ok.ensures.bound by_key).0 in
    (Contains-get_or c.args.list.now c.in-Ok.place 0 s.0, s.1)

pub returns-in-Err-clause-absent : goal.returns-in-Err-clause-absent
returns-in-Err-clause-absent c =
    let K = key_at c.args.nodes.now in
    let by_key = c.in-Err.ensures.position (λ (n : ℕ). key_cmp (K n) c.args.key.now)
    (always_returns_same _ _ _ (λ a r g called. search rules)) in
    (searched c.args.nodes.now c.args.list.now c.requires.rise c.args.key.now (Err c.in-Err.place)
    c.in-Err.ensures.bound by_key).1
