-- A hand-written proof of `root_visitor`: the collector is lent, and a root visitor may hold it.
use Rattle.allocative.proofs.Lent.{visitor_row, collector_row, refusal_row, result_row, refusal_laws, result_laws}
use Rattle.allocative.proofs.Lent.{visitor_laws, nest, ◌≡◌, List, [], ◌∷◌, refl, sym, ap, subst, MutBor, proved}
use Rattle.allocative.proofs.Lent.{says_two, id⊢, ftrue, flft, named, Lfts, fact, tables, ‵, raw, ◌⊛◌, some, later, ◌$◌}
use Rattle.allocative.proofs.Lent.{◌∵◌, !, qed, done, move, keep, drop, use1, use2, split, join, fsplit, fjoin, feq_i}
use Rattle.allocative.proofs.Lent.{feq_l, pick, await, suffices, frame, enter, addr, stop, no_more, and_then, returns}
use Rattle.allocative.proofs.Lent.{alloc_all, pass_all, free_all, look_at, get, through, sets, lands_as, no, shows}
use Rattle.allocative.proofs.Lent.{RattleType, MutRef, mut_vals, mut_Tells, plain, named_lft, nothing, heard, peeks}
use Rattle.allocative.proofs.Lent.{only, calls_at, Lasts, lasts, triple_of, framed, Stays, stay_dropped, Goes-spent_ref}
use Rattle.allocative.proofs.Lent.{ends_at, Result, Ok, Err, IfOk, IfErr, OnOk, OnErr, name_if_ok, Refusal, State}
use Rattle.std.proofs.Common.{◌∙◌}
use Rattle.std.proofs.lemmas.Result.{on_ok_weaker}
use Rattle.allocative.proofs.Common.{Failed, Going}
use Rattle.allocative.proofs.Lent.{OpensRoot, Settles, Visitor, LendsBegun}
use Rattle.allocative.specs.Kinds.{as_graph}
use Rattle.allocative.specs.Roots.{LendsBuilt, LendsRoot}
use Rattle.allocative.specs.Visited.{OpensRootAt}
use Rattle.allocative.specs.contracts.run.builder.FlameGraphBuilder as builder
use Rattle.allocative.specs.contracts.run.builder.FlameGraphBuilder.root_visitor as f
use Rattle.allocative.proofs.run.builder.FlameGraphBuilder.root_visitor.Statement.{statement}
use Rattle.allocative.proofs.run.builder.FlameGraphBuilder.root_visitor.Code as code
use Rattle.allocative.specs.contracts.run.builder.FlameGraphBuilder.lend as g
use Rattle.allocative.proofs.run.builder.FlameGraphBuilder.lend.Met as g-met
use Rattle.allocative.specs.contracts.visitor.collector.Collector.root_visitor as h
use Rattle.allocative.proofs.visitor.collector.Collector.root_visitor.Met as h-met

-- The type of the result.
abbrev Answer : Lfts 1 → RattleType
Answer κs = result_row (visitor_row (named_lft 1 0 tt κs)) refusal_row

-- If no root visitor is returned, the builder ends as a refused beginning says.
ends_refused : (c : State) → as_graph c ≡ c → (r : Result Visitor Refusal) (z : State) →
    OnErr r (IfErr r (λ e. OpensRoot c (Err e) z)) → IfErr r (λ e. OpensRoot c (Err e) (as_graph z))
ends_refused c g (Ok v) z h = h
ends_refused (Failed q) g (Err e) z h = (h.0, ap as_graph h.1)
ends_refused (Going b) g (Err e) z h = (h.0, h.1, ap as_graph h.2 ∙ g)

-- Which parameters the call gives back.
abbrev stayed : Stays f.ended.signature.params f.ended.kept
stayed = (stay_dropped _ no, tt)

-- The code of `root_visitor` meets its contract.
pub root_visitor_spec : {M : Type 1} → statement M
root_visitor_spec 𝓤 𝓛 𝓜 𝓡 wired =
    let c = f.clauses 𝓛 𝓜.mem 𝓡.returns in
    proved 𝓛 f.ended stayed c 𝓜 𝓡 (Goes-spent_ref 𝓛 1 (0 ∷ []) tt (plain (λ _. builder.the_row)), tt)
    f.Key.name code.function (code.unfolded 𝓤 𝓛.H 𝓜 𝓡 wired)
    (λ κs. (mut_vals, tt)) (λ κs. (mut_Tells (named 0) κs.0 builder.the_row, tt)) (λ κs qs bounds a _ are.
    let κ = κs.0 in let q = qs.0 in let s = a.0 in
    let Self = ‵ ((MutRef (named 0) κ builder.the_row).own_val s (mut_vals s)) in
    qed 𝓛 (((‵ (flft κ q) ⊛ ‵ ftrue) ⊛ Self ⊛ ‵ ftrue) ∷ ‵ ftrue ∷ []) ∵
    split ! $ move ! (1 ∷ []) $ split ! $ keep ! (0 ∷ 2 ∷ []) $
    enter ! _ _ _ _ _ $ alloc_all ! (λ l. pass_all ! refl ((tt, tt), tt) $
    sets ! (addr ! (through ! refl (stop !))) refl (tt, tt) $
    -- [self; the token]
    let fm = framed 𝓤 𝓛.H 𝓜 (tables 𝓤 𝓛.H 𝓜 𝓡 𝓡.env) in
    let G = triple_of 𝓛 g.signature (g.spec 𝓛 𝓜.mem 𝓡.returns) in
    let x : G.Ghost = ((κs, qs, bounds, (s, tt), (mut_vals s, tt)), tt) in
    nothing ! $ move ! (1 ∷ 0 ∷ []) $ join ! $ move ! (1 ∷ 0 ∷ []) $ join ! $ nothing ! $ move ! (1 ∷ 0 ∷ []) $
    use2 𝓛 (raw (G.pre x)) (id⊢ 𝓤 _) $
    calls_at ! fm G (g-met.met 𝓤 𝓛 𝓜 𝓡 (code.calls-allocative::run::builder::FlameGraphBuilder::lend 𝓡.env wired)) x
    (and_then ! (get ! refl) (no_more !)) (λ v.
    let Token = ‵ (flft κ q) ⊛ ‵ ftrue in
    let Part = MutRef (named 0) κ collector_row in
    use1 𝓛 (later (some (λ (r : MutBor State). (Token ⊛ ‵ (Part.own_val r (v ∷ []))) ⊛
    some (λ (ws : Lasts g.ended κs (s, tt)). ‵ (lasts g.ended κs (s, tt) ws) ⊛ ‵ (LendsBuilt s r) ⊛ raw
    (fact 𝓤 (s.now ≡ r.now)) ⊛ raw (fact 𝓤 (as_graph r.now ≡ r.now)))))) (id⊢ 𝓤 _) $
    await ! tt $ pick ! (λ r. split ! $ split ! $ move ! (2 ∷ []) $ pick ! (λ ws. split ! $ drop ! $ split ! $
    move ! (1 ∷ []) $ split ! $ heard ! _ (λ same. heard ! _ (λ graph.
    -- [what the builder ends as; the token; the part lent]
    move ! (2 ∷ []) $ fsplit ! $ feq_l ! (λ is. feq_i ! (List _) (mut_vals r) (mut_vals r) refl $ fjoin ! $
    lands_as ! (ap only is) refl (tt, tt) $
    -- [the part lent; what the builder ends as; the token]
    let H = triple_of 𝓛 h.signature (h.spec 𝓛 𝓜.mem 𝓡.returns) in
    let z : H.Ghost = ((κs, qs, tt, (r, tt), (mut_vals r, tt)), tt) in
    nothing ! $ move ! (1 ∷ 0 ∷ []) $ join ! $ move ! (2 ∷ 0 ∷ []) $ join ! $ nothing ! $ move ! (1 ∷ 0 ∷ []) $
    use2 𝓛 (raw (H.pre z)) (id⊢ 𝓤 _) $
    -- [what the call asks; what the builder ends as]
    calls_at ! fm H (h-met.met 𝓤 𝓛 𝓜 𝓡 (code.calls-allocative::visitor::collector::Collector::root_visitor 𝓡.env
    wired)) z
    (and_then ! (get ! refl) (no_more !)) (λ u.
    use1 𝓛 (later (some (λ (res : Result Visitor Refusal). (Token ⊛ ‵ ((Answer κs).own_val res (u ∷ []))) ⊛
    some (λ (vs : Lasts h.ended κs z.0.3). ‵ (lasts h.ended κs z.0.3 vs) ⊛ ‵ (LendsBegun r res) ⊛
    raw (fact 𝓤 (IfOk res (λ w. w.collector.ghost_name ≡ r.ghost_name))) ⊛ raw
    (fact 𝓤 (IfOk res (OpensRootAt r.now))) ⊛
    raw (fact 𝓤 (IfErr res (λ w. Settles r.now (Err w)))))))) (id⊢ 𝓤 _) $
    await ! tt $ pick ! (λ res. split ! $ split ! $ move ! (2 ∷ []) $ pick ! (λ vs. split ! $ drop ! $ split ! $
    move ! (1 ∷ []) $ split ! $ heard ! _ (λ _. split ! $ heard ! _ (λ begun. heard ! _ (λ refused.
    -- [what the part ends as; the token; the result; what the builder ends as]
    move ! (3 ∷ 0 ∷ []) $ use2 𝓛 (‵ (LendsRoot s res))
    (nest 𝓛 builder.the_row collector_row as_graph s.ghost_name r.ghost_name
    (λ w x'. OnOk res (x' ≡ w)) (λ x'. OnErr res (IfErr res (λ w. OpensRoot r.now (Err w) x')))
    (λ w b. OnOk res (b ≡ as_graph w)) (λ b. IfErr res (λ e. OpensRoot s.now (Err e) b))
    (λ w z. on_ok_weaker res (ap as_graph))
    (λ z h. subst (λ (x : State). IfErr res (λ e. OpensRoot x (Err e) (as_graph z))) (sym same)
    (ends_refused r.now graph res z h))
    (name_if_ok (λ w. w.collector.ghost_name) res)) $
    move ! (2 ∷ []) $ peeks ! (Answer κs) _ (shows 𝓛 (Answer κs)) res (u ∷ []) (λ told.
    let good = (((result_laws _ _ (visitor_laws (named_lft 1 0 tt κs)) refusal_laws).lawful 𝓛).typed res (u ∷ [])
    told).0 in
    lands_as ! refl refl good $ returns ! (look_at ! 0 refl) $ free_all ! refl $
    -- [the result; what the builder ends as; the token]
    suffices ! _ (ends_at 𝓛 f.ended stayed c ((κs, qs, bounds, a, (mut_vals s, tt)), tt) u res (tt, tt) (tt, tt)) $
    nothing ! $ nothing ! $ fjoin ! $ join ! $ move ! (2 ∷ 0 ∷ []) $ join ! $ frame ! $
    says_two ! (
      subst (λ (x : State). IfOk res (OpensRootAt x)) (sym same) begun,
      subst (λ (x : State). IfErr res (λ e. Settles x (Err e))) (sym same) refused,
    ) $ done !)))))))))))))))
