-- of History::take_profile: taken
use Rattle.std.proofs.Common.{◌∷◌, take, ap, ◌∙◌}
use Rattle.allocative.specs.Graph.{Graph}
use Rattle.allocative_service.proofs.history.History.take_profile.Goals as goal

-- The profile of the value is kept as the latest.
pub returns-clause-taken : goal.returns-clause-taken
returns-clause-taken g c =
    let old = c.args.self.now in
    record {
      profile = c.in_ok-profile.profile;
      is_profile = c.in_ok-profile.ensures.profile;
      kept = c.in_ok-keep.ensures.kept ∙ ap (λ (h : Graph). take old.most (h ∷ old.profiles.items))
          c.into_flamegraph.ensures;
    }
