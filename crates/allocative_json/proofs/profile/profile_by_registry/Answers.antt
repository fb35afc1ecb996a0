-- What each box shows, and that its type is strict, is read off the box.
use Rattle.std.proofs.Common.{Bool, true, ◌∙◌, ap, arith, refl, inl, inr}
use Rattle.allocative_json.proofs.Common.{Showing}
use Rattle.std.proofs.lemmas.Grind.{common_steps}
use denote.Param.Object.{read_made}
use Rattle.allocative.specs.JsonShows.{stored_value}
use Rattle.allocative_json.specs.Profile.{index_shows}
use Rattle.allocative_json.proofs.Reports.{one_profiled, two_profiled}
use Rattle.allocative_json.proofs.profile.profile_by_registry.OwnLists.{own-1}
use Rattle.allocative_json.proofs.profile.profile_by_registry.Goals as goal

-- What the box made of a document shows, and that of a set of numbers.
pub returns : goal.returns
returns c =
    let document = read_made own-1 _ (inl tt) refl (Showing × Bool) (λ j v. (j.1.may_show v, j.1.is_strict))
    _ _ c.in_ok-new.field-0.value c.into_dyn_box.ensures.1
    ∙ ap (λ v. (stored_value v, true)) c.in_ok-new.ensures.ok in
    let numbers = read_made own-1 _ (inr (inl tt)) refl (Showing × Bool) (λ j v. (j.1.may_show v, j.1.is_strict))
    _ _ c.in_ok-new-2.field-0.value c.into_dyn_box-in_ok-new-2.ensures.1
    ∙ ap (λ v. (index_shows v, true)) c.in_ok-new-2.ensures.ok in
    rw c.in-Some.is (two_profiled (λ b. ((own-1.entry b.vtable).1.may_show b.value, (own-1.entry b.vtable).1.is_strict))
    _ c.profile_roots-2.result
    c.into_dyn_box.result c.into_dyn_box-in_ok-new-2.result _ _ (grind (arith, common_steps)) document numbers
    (record { profile = c.profile_roots-2.ensures.profile; refused = c.profile_roots-2.ensures.refused }))

-- The profile of a registry with one root is that of the document.
pub returns-in_default : goal.returns-in_default
returns-in_default c =
    let document = read_made own-1 _ (inl tt) refl (Showing × Bool) (λ j v. (j.1.may_show v, j.1.is_strict))
    _ _ c.in_ok-new.field-0.value c.into_dyn_box.ensures.1
    ∙ ap (λ v. (stored_value v, true)) c.in_ok-new.ensures.ok in
    rw c.in_default.is (one_profiled
    (λ b. ((own-1.entry b.vtable).1.may_show b.value, (own-1.entry b.vtable).1.is_strict)) _ c.profile_roots.result
    c.into_dyn_box.result _ (grind (arith, common_steps)) document
    (record { profile = c.profile_roots.ensures.profile; refused = c.profile_roots.ensures.refused }))
