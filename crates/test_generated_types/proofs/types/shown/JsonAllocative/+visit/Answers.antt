-- Written by bin/implement.
use Rattle.test_generated_types.specs.declared.types.Json.{out-Json, the_lemmas, Json-F}
use Rattle.std.proofs.Common.{ap, refl, ◌≡◌, ◌∙◌}
use Rattle.allocative.proofs.Levels.{means_opened}
use Rattle.allocative.proofs.Meaning.{means_field, means_same, visited_as}
use Rattle.test_generated_types.proofs.types.shown.JsonAllocative.+visit.Goals as goal

pub returns-in-Null : goal.returns-in-Null
returns-in-Null t c =
    visited_as c.enter.ensures
    (means_opened _ _ refl (let e : out-Json c.args.self.now ≡ Json-F.Null = ap out-Json c.in-Null.is ∙ search the_lemmas in e)
    (means_field refl c.size.ensures means_same))

pub returns-in-Table : goal.returns-in-Table
returns-in-Table t c =
    visited_as c.enter-in-Table.ensures
    (means_opened _ _ refl (let e : out-Json c.args.self.now ≡ Json-F.Table c.in-Table.a = ap out-Json c.in-Table.is ∙ search the_lemmas in e)
    (means_field refl c.size-in-Table.ensures means_same))

pub returns-in-Pair : goal.returns-in-Pair
returns-in-Pair t c =
    visited_as c.enter-in-Pair.ensures
    (means_opened _ _ refl (let e : out-Json c.args.self.now ≡ Json-F.Pair c.in-Pair.first c.in-Pair.rest = ap out-Json c.in-Pair.is ∙ search the_lemmas in e)
    (means_field refl c.size-in-Pair-2.ensures (means_field refl c.size-in-Pair.ensures means_same)))

pub returns-in-Part : goal.returns-in-Part
returns-in-Part t c =
    visited_as c.enter-in-Part.ensures
    (means_opened _ _ refl (let e : out-Json c.args.self.now ≡ Json-F.Part c.in-Part._a c.in-Part.b = ap out-Json c.in-Part.is ∙ search the_lemmas in e)
    (means_field refl c.size-in-Part-2.ensures (means_field refl c.size-in-Part.ensures means_same)))
