-- of profile_text: the text is that of the profile
use Rattle.std.proofs.Common.{rules, Result, Ok, Err, String, Global}
use Rattle.allocative_graph.specs.Format.{IfText, ReturnsText}
use Rattle.allocative_graph.specs.Graph.{text}
use Rattle.allocative_graph.specs.Shows.{Showing}
use Rattle.allocative_graph.specs.Visits.{Profile, IsProfileOf}
use Rattle.allocative_graph.specs.declared.refusal.Refusal.{Refusal}
use Rattle.allocative.specs.Runs.{IsTextOf}
use Rattle.allocative.proofs.run.profile.profile_text.Goals as goal

-- The text of a profile's graph is that of a profile.
written : (r : Result (String Global) Refusal) (p : Showing) (o : Profile) →
    IsProfileOf p o → ReturnsText r (text o.graph) →
    IfText r (IsTextOf p)
written (Ok t) p o shown is = record { profile = o; shown = shown; written = is }
written (Err e) p o shown is = tt

pub returns-clause-text : goal.returns-clause-text
returns-clause-text g c = written c.write.result _ _ c.in_ok-profile_value.ensures.profile (search rules)
