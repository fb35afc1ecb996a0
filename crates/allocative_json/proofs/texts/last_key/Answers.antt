-- The keys before the last space, and the key after their last `;`.
use Rattle.std.proofs.Common.{◌∙◌, ap, sym, Some, None, [], arith}
use Rattle.allocative_json.proofs.Common.{after_last}
use Rattle.allocative_json.proofs.LinesLemmas.{rsplit_read}
use Rattle.allocative_json.proofs.texts.last_key.Goals as goal

-- A line without a space has no key.
pub returns-in_default : goal.returns-in_default
returns-in_default c = sym (ap (after_last 59 [])
    (rsplit_read 32 c.args.line.now None c.in_default.ensures.cases (omega arith)).0)

-- The key is what follows the last `;` of the keys.
pub returns-in-Some-rsplit_once : goal.returns-in-Some-rsplit_once
returns-in-Some-rsplit_once c =
    let keys = (rsplit_read 32 c.args.line.now (Some (c.in-Some.keys, c.in-Some._size)) c.in-Some.ensures.cases
    (omega arith)).0 in
    sym (ap (after_last 59 []) keys ∙ (rsplit_read 59 c.in-Some.keys.now
    (Some (c.in-Some-rsplit_once._path, c.in-Some-rsplit_once.key)) c.in-Some-rsplit_once.ensures.cases
    (omega arith)).1)

-- Keys without a `;` are one key.
pub returns-in-None : goal.returns-in-None
returns-in-None c =
    let keys = (rsplit_read 32 c.args.line.now (Some (c.in-Some.keys, c.in-Some._size)) c.in-Some.ensures.cases
    (omega arith)).0 in
    sym (ap (after_last 59 []) keys ∙ (rsplit_read 59 c.in-Some.keys.now None c.in-None.ensures.cases (omega arith)).1)
