-- Written by bin/implement.
use Rattle.std.proofs.Common.{refl, ap, ◌≡◌, ◌∙◌}
use Rattle.allocative.proofs.Levels.{means_recursive, means_opened}
use Rattle.allocative.proofs.Meaning.{means_field, means_same, visited_as}
use Rattle.test_generated_types.specs.declared.types.Payload.{out-Payload, the_lemmas, Payload-F}
use Rattle.test_generated_types.proofs.types.shown.+jobs.Goals as goal

pub JobAllocative::visit-returns : goal.JobAllocative::visit-returns
JobAllocative::visit-returns t c =
    visited_as c.enter.ensures
    (means_recursive (means_field refl c.size.ensures means_same))

pub PayloadAllocative::visit-returns-in-Nothing : goal.PayloadAllocative::visit-returns-in-Nothing
PayloadAllocative::visit-returns-in-Nothing t c =
    visited_as c.enter.ensures
    (means_opened _ _ refl (let e : out-Payload c.args.self.now ≡ Payload-F.Nothing = ap out-Payload c.in-Nothing.is ∙ search the_lemmas in e)
    (means_field refl c.size.ensures means_same))

pub PayloadAllocative::visit-returns-in-Done : goal.PayloadAllocative::visit-returns-in-Done
PayloadAllocative::visit-returns-in-Done t c =
    visited_as c.enter-in-Done.ensures
    (means_opened _ _ refl (let e : out-Payload c.args.self.now ≡ Payload-F.Done c.in-Done.job c.in-Done.within_seconds = ap out-Payload c.in-Done.is ∙ search the_lemmas in e)
    (means_field refl c.size-in-Done-2.ensures (means_field refl c.size-in-Done.ensures means_same)))
