-- A hand-written proof of `enter_shared`: the collector is lent, a visitor of the content may hold it, and the result
-- is converted.
use Rattle.allocative.proofs.Lent.{collector_row, refusal_row, result_row, option_row, key_row, Lfts, RattleType}
use Rattle.allocative.proofs.Lent.{Lender, Nested, key_laws, option_laws, refusal_laws, result_laws, visitor_laws}
use Rattle.allocative.proofs.Lent.{one_value, at_values, ◌≡◌, List, [], ◌∷◌, refl, sym, ap, subst, MutBor, proved_at}
use Rattle.allocative.proofs.Lent.{says, rewrite, Goes-blank, id⊢, ftrue, flft, named, w64, Val, fact, tables, ‵, raw}
use Rattle.allocative.proofs.Lent.{◌⊛◌, some, later, ◌$◌, ◌∵◌, !, qed, done, move, keep, drop, use1, use2, split, join}
use Rattle.allocative.proofs.Lent.{fsplit, fjoin, feq_i, feq_l, pick, await, suffices, frame, enter, addr, stop}
use Rattle.allocative.proofs.Lent.{no_more, and_then, returns, alloc_all, pass_all, free_all, look_at, get, through}
use Rattle.allocative.proofs.Lent.{sets, lands_as, usize, yes, no, shows, uint_vals, uint_Tells, MutRef, mut_vals}
use Rattle.allocative.proofs.Lent.{mut_Tells, plain, named_lft, nothing, heard, peeks, only, calls_at, Lasts, lasts}
use Rattle.allocative.proofs.Lent.{triple_of, framed, Stays, stay_dropped, Goes-dropped, Goes-spent_ref, ends_at, IfOk}
use Rattle.allocative.proofs.Lent.{IfErr, Option, Result, State, OpensShared, LendsCollector, AnswersShared}
use Rattle.allocative.proofs.Lent.{answer_without_visitor, Refusal, Visitor, OpensSharedAt}
use Rattle.allocative.proofs.Lent.{WpFn, Is, walk_of, lent_on, visitor_or, VisitorEnds, CollectorEnds}
use Rattle.allocative.specs.Lending.{EntersShared}
use Rattle.allocative_graph.specs.contracts.shared.Identity as identity
use Rattle.allocative_graph.proofs.shared.Identity.TheLaws.{the_row_laws as identity_laws}
use Rattle.allocative.specs.contracts.visitor.Visitor.enter_shared as f
use Rattle.allocative.proofs.visitor.Visitor.enter_shared.Statement.{statement}
use Rattle.allocative.proofs.visitor.Visitor.enter_shared.Code as code
use Rattle.allocative.specs.contracts.visitor.by_hand.collector_of as g
use Rattle.allocative.proofs.visitor.by_hand.collector_of.Met as g-met
use Rattle.allocative.specs.contracts.visitor.by_hand.enter_content as h
use Rattle.allocative.proofs.visitor.by_hand.enter_content.Met as h-met
use Rattle.allocative.specs.contracts.visitor.transpose as t
use Rattle.allocative.proofs.visitor.transpose.Met as t-met

-- The result of the collector's call.
abbrev Try : Type 0
Try = Result Visitor (Option Refusal)

-- The result that is returned.
abbrev Given : Type 0
Given = Result (Option Visitor) Refusal

-- The type of the collector's result.
abbrev TryAnswer : Lfts 2 → RattleType
TryAnswer κs = result_row (Nested κs) (option_row refusal_row)

-- The type of the result that is returned.
abbrev SharedAnswer : Lfts 2 → RattleType
SharedAnswer κs = result_row (option_row (Nested κs)) refusal_row

-- Which parameters the call gives back.
abbrev stayed : Stays f.ended.signature.params f.ended.kept
stayed = (stay_dropped _ no, (stay_dropped _ yes, (stay_dropped _ yes, (stay_dropped _ yes, tt))))

-- The code of `enter_shared` meets its contract.
pub enter_shared_spec : {M : Type 1} → statement M
enter_shared_spec 𝓤 𝓛 𝓜 𝓡 wired =
    let c = f.clauses 𝓛 𝓜.mem 𝓡.returns in
    let 𝓣 = tables 𝓤 𝓛.H 𝓜 𝓡 𝓡.env in
    let key_goes = Goes-blank 𝓛 2 (plain (λ _. key_row)) yes (λ κs x w. tt) in
    let size_goes = Goes-dropped 𝓛 2 (plain (λ _. usize)) yes (λ κs x w. refl) in
    let identity_goes = Goes-blank 𝓛 2 (plain (λ _. identity.the_row)) yes (λ κs x w. tt) in
    proved_at 𝓛 f.ended stayed c 𝓜 𝓡
    (Goes-spent_ref 𝓛 2 (0 ∷ []) tt (plain Lender), (key_goes, (size_goes, (identity_goes, tt))))
    f.Key.name code.function (code.unfolded 𝓤 𝓛.H 𝓜 𝓡 wired) (λ y₀ are.
    let κs = y₀.0.0 in let qs = y₀.0.1 in let bounds = y₀.0.2 in let a = y₀.0.3 in
    let κ = κs.0 in let q = qs.0 in let s = a.0 in let k = a.1.0 in let n = a.1.1.0 in let j = a.1.1.1.0 in
    let kv = one_value y₀.0.4.1.0 (key_laws.single k y₀.0.4.1.0 are.1.0) in
    let jv = one_value y₀.0.4.1.1.1.0 (identity_laws.single j y₀.0.4.1.1.1.0 are.1.1.1.0) in
    let e : y₀.0.4 ≡ (mut_vals s, (kv.0 ∷ [], (uint_vals w64 n, (jv.0 ∷ [], tt)))) = λ i. (
      mut_Tells (named 0) κ (Lender κs) s y₀.0.4.0 are.0 i,
      (kv.1 i, (uint_Tells w64 n y₀.0.4.1.1.0 are.1.1.0 i, (jv.1 i, tt))),
    ) in
    let kis = subst (λ (us : List Val). Is key_row k us) kv.1 are.1.0 in
    let ktyped = ((key_laws.lawful 𝓛).typed k (kv.0 ∷ []) kis).0 in
    let jis = subst (λ (us : List Val). Is identity.the_row j us) jv.1 are.1.1.1.0 in
    let jtyped = ((identity_laws.lawful 𝓛).typed j (jv.0 ∷ []) jis).0 in
    at_values 𝓛 f.ended stayed c (WpFn 𝓤 𝓛.H 𝓣.C 𝓣.Λ code.function) y₀
    (mut_vals s, (kv.0 ∷ [], (uint_vals w64 n, (jv.0 ∷ [], tt)))) e (
    let y : (walk_of 𝓛 f.ended stayed c).Ghost =
    ((κs, qs, bounds, a, (mut_vals s, (kv.0 ∷ [], (uint_vals w64 n, (jv.0 ∷ [], tt))))), tt) in
    let Self = ‵ ((MutRef (named 0) κ (Lender κs)).own_val s (mut_vals s)) in
    let Rest = ‵ (key_row.own_val k (kv.0 ∷ [])) ⊛ ‵ (usize.own_val n (uint_vals w64 n)) ⊛ ‵
    (identity.the_row.own_val j (jv.0 ∷ [])) ⊛ ‵ ftrue in
    let Tokens = ‵ (flft κ q) ⊛ ‵ (flft κs.1.0 qs.1.0) ⊛ ‵ ftrue in
    qed 𝓛 ((Tokens ⊛ Self ⊛ Rest) ∷ ‵ ftrue ∷ []) ∵
    split ! $ move ! (1 ∷ []) $ split ! $ keep ! (0 ∷ 1 ∷ 2 ∷ []) $
    enter ! _ _ _ _ _ $ alloc_all !
    (λ l. pass_all ! refl ((tt, tt), (ktyped, ((tt, record { fits = are.1.1.0.1 }), (jtyped, tt)))) $
    sets ! (addr ! (through ! refl (stop !))) refl (tt, tt) $
    -- [self; the other parameters; the tokens]
    let fm = framed 𝓤 𝓛.H 𝓜 𝓣 in
    let G = triple_of 𝓛 g.signature (g.spec 𝓛 𝓜.mem 𝓡.returns) in
    let x : G.Ghost = ((κs, qs, bounds, (s, tt), (mut_vals s, tt)), tt) in
    nothing ! $ move ! (1 ∷ 0 ∷ []) $ join ! $ move ! (2 ∷ 0 ∷ []) $ join ! $ nothing ! $ move ! (1 ∷ 0 ∷ []) $
    use2 𝓛 (raw (G.pre x)) (id⊢ 𝓤 _) $
    calls_at ! fm G (g-met.met 𝓤 𝓛 𝓜 𝓡 (code.calls-allocative::visitor::by_hand::collector_of 𝓡.env wired)) x
    (and_then ! (get ! refl) (no_more !)) (λ v.
    let Part = MutRef (named 0) κ collector_row in
    let Ends : State → Option Refusal → State → Type 0 = λ x o. OpensShared k n j x (answer_without_visitor o) in
    use1 𝓛 (later (some (λ (r : MutBor State). (Tokens ⊛ ‵ (Part.own_val r (v ∷ []))) ⊛
    some (λ (ws : Lasts g.ended κs (s, tt)). ‵ (lasts g.ended κs (s, tt) ws) ⊛ ‵ (LendsCollector s r) ⊛ raw
    (fact 𝓤 (r.now ≡ s.now.collector.now)))))) (id⊢ 𝓤 _) $
    await ! tt $ pick ! (λ r. split ! $ split ! $ move ! (2 ∷ []) $ pick ! (λ ws. split ! $ drop ! $ split ! $
    move ! (1 ∷ []) $ heard ! _ (λ same.
    -- [what self ends as; the tokens; the part lent; the other parameters]
    move ! (2 ∷ []) $ fsplit ! $ feq_l ! (λ is. feq_i ! (List _) (mut_vals r) (mut_vals r) refl $ fjoin ! $
    lands_as ! (ap only is) refl (tt, tt) $
    -- [the part lent; what self ends as; the tokens; the other parameters]
    let H = triple_of 𝓛 h.signature (h.spec 𝓛 𝓜.mem 𝓡.returns) in
    let z : H.Ghost = (
      ((κ, tt), (q, tt), tt, (r, (k, (n, (j, tt)))), (mut_vals r, (kv.0 ∷ [], (uint_vals w64 n, (jv.0 ∷ [], tt))))),
      tt,
    ) in
    move ! (0 ∷ 3 ∷ []) $ join ! $ move ! (2 ∷ []) $ split ! $ nothing ! $ move ! (1 ∷ 0 ∷ []) $ join ! $
    move ! (0 ∷ 2 ∷ []) $ join ! $
    nothing ! $ move ! (1 ∷ 0 ∷ []) $ use2 𝓛 (raw (H.pre z)) (id⊢ 𝓤 _) $
    -- [what the call asks; the other tokens; what self ends as]
    calls_at ! fm H (h-met.met 𝓤 𝓛 𝓜 𝓡 (code.calls-allocative::visitor::by_hand::enter_content 𝓡.env wired)) z
    (and_then ! (get ! refl) (and_then ! (get ! refl) (and_then ! (get ! refl) (and_then ! (get ! refl) (no_more !)))))
    (λ u.
    use1 𝓛 (later (some (λ (res : Try). ((‵ (flft κ q) ⊛ ‵ ftrue) ⊛ ‵ ((TryAnswer κs).own_val res (u ∷ []))) ⊛
    some (λ (vs : Lasts h.ended (κ, tt) z.0.3). ‵ (lasts h.ended (κ, tt) z.0.3 vs) ⊛
    ‵ (CollectorEnds (Ends r.now) r res) ⊛ raw (fact 𝓤 (IfOk res (λ w. w.collector.ghost_name ≡ r.ghost_name))) ⊛ raw
    (fact 𝓤 (IfOk res (OpensSharedAt k n j r.now))) ⊛
    raw (fact 𝓤 (IfErr res (λ w. AnswersShared k n j r.now (answer_without_visitor w)))))))) (id⊢ 𝓤 _) $
    await ! tt $ pick ! (λ res. split ! $ split ! $ move ! (2 ∷ []) $ pick ! (λ vs. split ! $ drop ! $ split ! $
    move ! (1 ∷ []) $ split ! $ heard ! _ (λ _. split ! $ heard ! _ (λ content. heard ! _ (λ refused.
    -- [what the part ends as; the token; the answer; the other tokens; what self ends as]
    move ! (4 ∷ 0 ∷ []) $ use2 𝓛 (‵ (VisitorEnds (Ends s.now.collector.now) s res)) (lent_on 𝓛 Ends s r same res) $
    move ! (2 ∷ []) $ peeks ! (TryAnswer κs) _ (shows 𝓛 (TryAnswer κs)) res (u ∷ []) (λ known.
    let good = (((result_laws _ _ (visitor_laws (named_lft 2 0 tt κs)) (option_laws _ refusal_laws)).lawful 𝓛).typed res
    (u ∷ []) known).0 in
    lands_as ! refl refl good $
    -- [the answer; what self ends as; the token; the other tokens]
    let T = triple_of 𝓛 t.signature (t.spec 𝓛 𝓜.mem 𝓡.returns) in
    let b : T.Ghost = (((κ, tt), (q, tt), tt, (res, tt), (u ∷ [], tt)), tt) in
    nothing ! $ move ! (1 ∷ 0 ∷ []) $ join ! $ move ! (2 ∷ 0 ∷ []) $ join ! $ nothing ! $ move ! (1 ∷ 0 ∷ []) $
    use2 𝓛 (raw (T.pre b)) (id⊢ 𝓤 _) $
    -- [what the call asks; what self ends as; the other tokens]
    calls_at ! fm T (t-met.met 𝓤 𝓛 𝓜 𝓡 (code.calls-allocative::visitor::transpose 𝓡.env wired)) b
    (and_then ! (get ! refl) (no_more !)) (λ o.
    use1 𝓛 (later (some (λ (out : Given). ((‵ (flft κ q) ⊛ ‵ ftrue) ⊛ ‵ ((SharedAnswer κs).own_val out (o ∷ []))) ⊛
    some (λ (us : Lasts t.ended (κ, tt) b.0.3). ‵ (lasts t.ended (κ, tt) b.0.3 us) ⊛
    raw (fact 𝓤 (visitor_or out ≡ res)))))) (id⊢ 𝓤 _) $
    await ! tt $ pick !
    (λ out. split ! $ split ! $ move ! (2 ∷ []) $ pick ! (λ us. split ! $ drop ! $ heard ! _ (λ is_turned.
    -- [the token; the result; what self ends as; the other tokens]
    move ! (1 ∷ []) $ peeks ! (SharedAnswer κs) _ (shows 𝓛 (SharedAnswer κs)) out (o ∷ []) (λ said.
    let fine = (((result_laws _ _ (option_laws _ (visitor_laws (named_lft 2 0 tt κs))) refusal_laws).lawful 𝓛).typed out
    (o ∷ []) said).0 in
    lands_as ! refl refl fine $ returns ! (look_at ! 0 refl) $ free_all ! refl $
    -- [the result; the token; what self ends as; the other tokens]
    move ! (2 ∷ []) $ rewrite ! 0 (λ (x : Try). ‵ (VisitorEnds (Ends s.now.collector.now) s x)) (sym is_turned) refl $
    suffices ! _ (ends_at 𝓛 f.ended stayed c y o out (tt, (tt, (tt, (tt, tt)))) (tt, (tt, (tt, (tt, tt))))) $
    -- [what self ends as; the result; the token; the other tokens]
    move ! (2 ∷ []) $ split ! $ move ! (0 ∷ 4 ∷ []) $ join ! $ move ! (1 ∷ []) $ nothing ! $ fjoin ! $ nothing ! $
    fjoin ! $ nothing ! $ fjoin ! $ nothing ! $ fjoin ! $
    -- [nothing of the parameters; the tokens; what self ends as; the result]
    move ! (0 ∷ 3 ∷ []) $ join ! $ move ! (1 ∷ 0 ∷ []) $ join ! $ frame ! $
    let P : State → Try → Type 0 = λ x y. IfOk y (OpensSharedAt k n j x) in
    let Q : State → Try → Type 0 = λ x y. IfErr y (λ o. AnswersShared k n j x (answer_without_visitor o)) in
    let shown : EntersShared k n j s.now out = record {
      entered = subst (P s.now.collector.now) (sym is_turned) (subst (λ (x : State). P x res) same content);
      answer = subst (Q s.now.collector.now) (sym is_turned) (subst (λ (x : State). Q x res) same refused);
    } in
    says ! shown $ done !))))))))))))))))))))
