-- A hand-written proof of `enter_self`: it passes on what `enter_self_sized` states of the visitor outside.
use Rattle.allocative.proofs.Lent.{Ghosts, visitor_row, Answer, refusal_laws, result_laws, visitor_laws, [], ◌∷◌, refl}
use Rattle.allocative.proofs.Lent.{proved, says_two, id⊢, ftrue, flft, named, Lfts, fact, tables, ‵, raw, ◌⊛◌, some}
use Rattle.allocative.proofs.Lent.{later, ◌$◌, ◌∵◌, !, qed, done, move, keep, drop, use1, split, join, fjoin, pick}
use Rattle.allocative.proofs.Lent.{await, suffices, frame, enter, addr, stop, no_more, and_then, returns, alloc_all}
use Rattle.allocative.proofs.Lent.{pass_all, free_all, look_at, get, through, sets, lands_as, yes, no, shows}
use Rattle.allocative.proofs.Lent.{RattleType, MutRef, mut_vals, mut_Tells, plain, named_lft, nothing, heard, peeks}
use Rattle.allocative.proofs.Lent.{calls_at, Lasts, lasts, triple_of, framed, Stays, stay_dropped, Goes-dropped}
use Rattle.allocative.proofs.Lent.{Goes-spent_ref, ends_at, Result, IfOk, IfErr, Refusal, Visitor, false, LendsNested}
use Rattle.allocative.proofs.Lent.{Nests, IsRefused, emp, ◌⊑◌, fact_i, RefOf, bounded, param, ShrRef, shr_vals}
use Rattle.allocative.proofs.Lent.{shr_Tells, Slot, inst_fn, Args, Fn, Dict, a_type, dcons, dnil, use0, use3}
use Rattle.allocative.specs.contracts.visitor.Visitor.enter_self as f
use Rattle.allocative.proofs.visitor.Visitor.enter_self.Statement.{statement}
use Rattle.allocative.proofs.visitor.Visitor.enter_self.Code as code
use Rattle.allocative.specs.contracts.visitor.Visitor.enter_self_sized as h
use Rattle.allocative.proofs.visitor.Visitor.enter_self_sized.Met as h-met

-- The lender, whose own lifetime is the second of four, and the value.
abbrev Lender : Lfts 4 → RattleType
Lender κs = visitor_row (named_lft 4 1 tt κs)

-- The parameter that is only looked at.
abbrev This : RattleType → Slot 4
This T = RefOf (2 ∷ []) tt (plain (λ _. param 0 T)) (λ _. tt)

-- The arguments of the generic code.
abbrev args : RattleType → Dict → Args
args T d = bounded (a_type ∷ []) (T, tt) (dcons d dnil)

-- The code at a type.
abbrev function : RattleType → Dict → Fn
function T d = inst_fn (args T d) code.function

-- Which parameters the call gives back.
abbrev stayed : (T : RattleType) (g : Ghosts T.Denot) (d : Dict) →
    Stays (f.ended T g d).signature.params (f.ended T g d).kept
stayed T g d = (stay_dropped _ no, (stay_dropped (This T) yes, tt))

-- The code of `enter_self` meets its contract.
pub enter_self_spec : {M : Type 1} → statement M
enter_self_spec 𝓤 𝓛 𝓜 𝓡 wired T laws g d bound =
    let c = f.clauses T g d 𝓛 𝓜.mem 𝓡.returns in
    proved 𝓛 (f.ended T g d) (stayed T g d) c 𝓜 𝓡
    (Goes-spent_ref 𝓛 4 (0 ∷ []) tt (plain Lender), (Goes-dropped 𝓛 4 (This T) yes (λ κs x w. refl), tt))
    (f.Key.name (args T d)) (function T d) (code.unfolded 𝓤 𝓛.H 𝓜 𝓡 wired (T, tt) d)
    (λ κs. (mut_vals, (shr_vals, tt))) (λ κs.
    (mut_Tells (named 0) κs.0 (Lender κs), (shr_Tells (named 2) κs.1.1.0 (param 0 T), tt))) (λ κs qs bounds a _ are.
    let κ = κs.0 in let q = qs.0 in let μ = κs.1.0 in let p = qs.1.0 in let σ = κs.1.1.0 in let o = qs.1.1.0 in
    let ρ = κs.1.1.1.0 in let t = qs.1.1.1.0 in let s = a.0 in let b = a.1.0 in
    let Self = ‵ ((MutRef (named 0) κ (Lender κs)).own_val s (mut_vals s)) in
    let Other = ‵ ((ShrRef (named 2) σ (param 0 T)).own_val b (shr_vals b)) in
    qed 𝓛 (((‵ (flft κ q) ⊛ ‵ (flft μ p) ⊛ ‵ (flft σ o) ⊛ ‵ (flft ρ t) ⊛ ‵ ftrue) ⊛ Self ⊛ Other ⊛ ‵ ftrue) ∷ raw
    (fact 𝓤 (ρ ⊑ T.lives)) ∷ ‵ ftrue ∷ []) ∵
    split ! $ move ! (2 ∷ []) $ heard ! _ (λ lives. move ! (1 ∷ []) $ split ! $ keep ! (0 ∷ 2 ∷ []) $
    enter ! _ _ _ _ _ $ alloc_all ! (λ l. pass_all ! refl ((tt, tt), ((tt, tt), tt)) $
    sets ! (addr ! (through ! refl (stop !))) refl (tt, tt) $
    -- [self; the tokens]
    move ! (1 ∷ []) $ split ! $ move ! (1 ∷ []) $ split ! $ move ! (1 ∷ []) $ split ! $ move ! (1 ∷ []) $
    -- [the token of T; the third token; the second token; the first token; self]
    let fm = framed 𝓤 𝓛.H 𝓜 (tables 𝓤 𝓛.H 𝓜 𝓡 𝓡.env) in
    let Tokens = ‵ (flft κ q) ⊛ ‵ (flft μ p) ⊛ ‵ (flft ρ t) ⊛ ‵ ftrue in
    let H = triple_of 𝓛 (h.signature T) (h.spec T g d 𝓛 𝓜.mem 𝓡.returns) in
    let z : H.Ghost = (((κ, (μ, (ρ, tt))), (q, (p, (t, tt))), (bounds.0, tt), (s, tt), (mut_vals s, tt)), tt) in
    move ! (2 ∷ 0 ∷ []) $ join ! $ move ! (2 ∷ 0 ∷ []) $ join ! $ nothing ! $ move ! (3 ∷ 0 ∷ []) $ join ! $
    move ! (1 ∷ 0 ∷ []) $ join ! $
    -- [the tokens and self; the third token]
    nothing ! $ use0 𝓛 (raw (fact 𝓤 (ρ ⊑ T.lives))) (fact_i 𝓤 (ρ ⊑ T.lives) (emp 𝓤) lives) $ move ! (2 ∷ 0 ∷ 1 ∷ []) $
    use3 𝓛 (raw (H.pre z)) (id⊢ 𝓤 _) $
    calls_at ! fm H (h-met.met 𝓤 𝓛 𝓜 𝓡 (code.calls-allocative::visitor::Visitor::enter_self_sized 𝓡.env wired) T laws g
    d bound) z
    (and_then ! (get ! refl) (no_more !)) (λ u.
    use1 𝓛 (later (some (λ (res : Result Visitor Refusal). (Tokens ⊛ ‵ ((Answer (κ, (μ, tt))).own_val res (u ∷ []))) ⊛
    some (λ (vs : Lasts (h.ended T g d) z.0.0 z.0.3). ‵ (lasts (h.ended T g d) z.0.0 z.0.3 vs) ⊛ ‵
    (LendsNested false g.layout.name g.layout.size s res) ⊛
    raw (fact 𝓤 (IfOk res (Nests false g.layout.name g.layout.size s.now))) ⊛ raw
    (fact 𝓤 (IfErr res (IsRefused false g.layout.size s.now))))))) (id⊢ 𝓤 _) $
    await ! tt $ pick ! (λ res. split ! $ split ! $ move ! (2 ∷ []) $ pick ! (λ vs. split ! $ drop ! $ split ! $
    move ! (1 ∷ []) $ split ! $ heard ! _ (λ entered. heard ! _ (λ refused.
    -- [what self ends as; the tokens; the result; the third token]
    move ! (2 ∷ []) $ peeks ! (Answer (κ, (μ, tt))) _ (shows 𝓛 (Answer (κ, (μ, tt)))) res (u ∷ []) (λ told.
    let good = (((result_laws _ _ (visitor_laws (named_lft 2 0 tt (κ, (μ, tt)))) refusal_laws).lawful 𝓛).typed res
    (u ∷ []) told).0 in
    lands_as ! refl refl good $ returns ! (look_at ! 0 refl) $ free_all ! refl $
    -- [the result; what self ends as; the tokens; the third token]
    suffices ! _ (ends_at 𝓛 (f.ended T g d) (stayed T g d) c ((κs, qs, bounds, a, (mut_vals s, (shr_vals b, tt))), tt) u
    res (tt, (tt, tt)) (tt, (tt, tt))) $
    move ! (2 ∷ []) $ split ! $ move ! (1 ∷ []) $ split ! $ move ! (5 ∷ 1 ∷ []) $ join ! $ move ! (1 ∷ 0 ∷ []) $
    join ! $ move ! (1 ∷ 0 ∷ []) $ join ! $
    nothing ! $ nothing ! $ fjoin ! $ nothing ! $ fjoin ! $ move ! (0 ∷ 2 ∷ []) $ join ! $ move ! (1 ∷ 0 ∷ []) $
    join ! $ frame ! $
    says_two ! (entered, refused) $ done !)))))))))
