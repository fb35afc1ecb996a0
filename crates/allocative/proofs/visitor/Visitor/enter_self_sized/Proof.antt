-- A hand-written proof of `enter_self_sized`: it passes on what `enter_sized` states of the visitor outside, at the
-- declared name and size.
use Rattle.allocative.proofs.Lent.{Ghosts, visitor_row, key_row, Answer, Size, size_laws, key_laws, refusal_laws}
use Rattle.allocative.proofs.Lent.{result_laws, visitor_laws, ◌≡◌, ℕ, [], ◌∷◌, refl, subst, proved, says_two, id⊢}
use Rattle.allocative.proofs.Lent.{ftrue, flft, named, Lfts, fact, tables, ‵, raw, ◌⊛◌, some, later, ◌$◌, ◌∵◌, !, qed}
use Rattle.allocative.proofs.Lent.{done, move, keep, drop, use1, use2, split, join, fjoin, pick, await, rewrite}
use Rattle.allocative.proofs.Lent.{suffices, frame, enter, addr, stop, no_more, and_then, returns, alloc_all, pass_all}
use Rattle.allocative.proofs.Lent.{free_all, look_at, get, through, sets, lands_as, no, shows, RattleType, MutRef}
use Rattle.allocative.proofs.Lent.{mut_vals, mut_Tells, plain, named_lft, nothing, heard, peeks, calls_at, Lasts, lasts}
use Rattle.allocative.proofs.Lent.{triple_of, framed, Stays, stay_dropped, Goes-spent_ref, ends_at, Option, Result}
use Rattle.allocative.proofs.Lent.{IfOk, IfErr, Refusal, Key, Visitor, false, LendsNested, Nests, IsRefused, emp, ◌⊑◌}
use Rattle.allocative.proofs.Lent.{fact_i, bounded, inst_fn, Args, Fn, Dict, a_type, dcons, dnil, use0, use3}
use Rattle.allocative.specs.contracts.visitor.Visitor.enter_self_sized as f
use Rattle.allocative.proofs.visitor.Visitor.enter_self_sized.Statement.{statement}
use Rattle.allocative.proofs.visitor.Visitor.enter_self_sized.Code as code
use Rattle.allocative_graph.specs.contracts.key.Key.for_type_name as k
use Rattle.allocative_graph.proofs.key.Key.for_type_name.Met as k-met
use Rattle.allocative_described.specs.contracts.described.Described.size as m
use Rattle.allocative_described.proofs.described.Described.size.Met as m-met
use Rattle.allocative.specs.contracts.visitor.Visitor.enter_sized as h
use Rattle.allocative.proofs.visitor.Visitor.enter_sized.Met as h-met

-- The lender, whose own lifetime is the second of three.
abbrev Lender : Lfts 3 → RattleType
Lender κs = visitor_row (named_lft 3 1 tt κs)

-- The arguments of the generic code.
abbrev args : RattleType → Dict → Args
args T d = bounded (a_type ∷ []) (T, tt) (dcons d dnil)

-- The code at a type.
abbrev function : RattleType → Dict → Fn
function T d = inst_fn (args T d) code.function

-- Which parameters the call gives back.
abbrev stayed : (T : RattleType) (g : Ghosts T.Denot) (d : Dict) →
    Stays (f.ended T g d).signature.params (f.ended T g d).kept
stayed T g d = (stay_dropped _ no, tt)

-- The code of `enter_self_sized` meets its contract.
pub enter_self_sized_spec : {M : Type 1} → statement M
enter_self_sized_spec 𝓤 𝓛 𝓜 𝓡 wired T laws g d bound =
    let c = f.clauses T g d 𝓛 𝓜.mem 𝓡.returns in
    proved 𝓛 (f.ended T g d) (stayed T g d) c 𝓜 𝓡 (Goes-spent_ref 𝓛 3 (0 ∷ []) tt (plain Lender), tt)
    (f.Key.name (args T d)) (function T d) (code.unfolded 𝓤 𝓛.H 𝓜 𝓡 wired (T, tt) d)
    (λ κs. (mut_vals, tt)) (λ κs. (mut_Tells (named 0) κs.0 (Lender κs), tt)) (λ κs qs bounds a _ are.
    let κ = κs.0 in let q = qs.0 in let μ = κs.1.0 in let p = qs.1.0 in let ρ = κs.1.1.0 in let t = qs.1.1.0 in
    let s = a.0 in
    let Self = ‵ ((MutRef (named 0) κ (Lender κs)).own_val s (mut_vals s)) in
    qed 𝓛 (((‵ (flft κ q) ⊛ ‵ (flft μ p) ⊛ ‵ (flft ρ t) ⊛ ‵ ftrue) ⊛ Self ⊛ ‵ ftrue) ∷ raw (fact 𝓤 (ρ ⊑ T.lives)) ∷ ‵
    ftrue ∷ []) ∵
    split ! $ move ! (2 ∷ []) $ heard ! _ (λ lives. move ! (1 ∷ []) $ split ! $ keep ! (0 ∷ 2 ∷ []) $
    enter ! _ _ _ _ _ $ alloc_all ! (λ l. pass_all ! refl ((tt, tt), tt) $
    sets ! (addr ! (through ! refl (stop !))) refl (tt, tt) $
    -- [self; the tokens]
    move ! (1 ∷ []) $ split ! $ move ! (1 ∷ []) $ split ! $ move ! (1 ∷ []) $
    -- [the token of T; the second token; the first token; self]
    let fm = framed 𝓤 𝓛.H 𝓜 (tables 𝓤 𝓛.H 𝓜 𝓡 𝓡.env) in
    let Token = ‵ (flft ρ t) ⊛ ‵ ftrue in
    let K = triple_of 𝓛 (k.signature T) (k.spec T g d 𝓛 𝓜.mem 𝓡.returns) in
    let x : K.Ghost = (((ρ, tt), (t, tt), tt, tt, tt), tt) in
    nothing ! $ move ! (1 ∷ 0 ∷ []) $ join ! $ nothing ! $
    use0 𝓛 (raw (fact 𝓤 (ρ ⊑ T.lives))) (fact_i 𝓤 (ρ ⊑ T.lives) (emp 𝓤) lives) $
    move ! (2 ∷ 0 ∷ 1 ∷ []) $ use3 𝓛 (raw (K.pre x)) (id⊢ 𝓤 _) $
    calls_at ! fm K (k-met.met 𝓤 𝓛 𝓜 𝓡 (code.calls-allocative_graph::key::Key::for_type_name 𝓡.env wired) T laws g d
    bound) x (no_more !) (λ v.
    use1 𝓛 (later (some (λ (name : Key). (Token ⊛ ‵ (key_row.own_val name (v ∷ []))) ⊛
    some (λ (ws : Lasts (k.ended T g d) (ρ, tt) tt). ‵ (lasts (k.ended T g d) (ρ, tt) tt ws) ⊛ raw
    (fact 𝓤 (name ≡ g.layout.name)))))) (id⊢ 𝓤 _) $
    await ! tt $ pick !
    (λ name. split ! $ split ! $ move ! (2 ∷ []) $ pick ! (λ ws. split ! $ drop ! $ heard ! _ (λ is_name.
    move ! (1 ∷ []) $ peeks ! key_row _ (shows 𝓛 key_row) name (v ∷ []) (λ name_told.
    lands_as ! refl refl ((key_laws.lawful 𝓛).typed name (v ∷ []) name_told).0 $
    -- [the key; the token of T; the second token; the first token; self]
    let J = triple_of 𝓛 (m.signature T) (m.spec T g d 𝓛 𝓜.mem 𝓡.returns) in
    let j : J.Ghost = (((ρ, tt), (t, tt), tt, tt, tt), tt) in
    move ! (1 ∷ []) $
    nothing ! $ move ! (1 ∷ 0 ∷ []) $ join ! $ nothing ! $
    use0 𝓛 (raw (fact 𝓤 (ρ ⊑ T.lives))) (fact_i 𝓤 (ρ ⊑ T.lives) (emp 𝓤) lives) $
    move ! (2 ∷ 0 ∷ 1 ∷ []) $ use3 𝓛 (raw (J.pre j)) (id⊢ 𝓤 _) $
    calls_at ! fm J (m-met.met 𝓤 𝓛 𝓜 𝓡 (code.calls-allocative_described::described::Described::size 𝓡.env wired) T laws
    g d bound) j (no_more !) (λ w.
    use1 𝓛 (later (some (λ (size : Option ℕ). (Token ⊛ ‵ (Size.own_val size (w ∷ []))) ⊛
    some (λ (ws : Lasts (m.ended T g d) (ρ, tt) tt). ‵ (lasts (m.ended T g d) (ρ, tt) tt ws) ⊛ raw
    (fact 𝓤 (size ≡ g.layout.size)))))) (id⊢ 𝓤 _) $
    await ! tt $ pick !
    (λ size. split ! $ split ! $ move ! (2 ∷ []) $ pick ! (λ ws. split ! $ drop ! $ heard ! _ (λ is_size.
    move ! (1 ∷ []) $ peeks ! Size _ (shows 𝓛 Size) size (w ∷ []) (λ size_told.
    lands_as ! refl refl ((size_laws.lawful 𝓛).typed size (w ∷ []) size_told).0 $
    -- [the size; the token of T; the key; the second token; the first token; self]
    let Tokens = ‵ (flft κ q) ⊛ ‵ (flft μ p) ⊛ ‵ ftrue in
    let H = triple_of 𝓛 h.signature (h.spec 𝓛 𝓜.mem 𝓡.returns) in
    let z : H.Ghost =
    (((κ, (μ, tt)), (q, (p, tt)), bounds, (s, (name, (size, tt))), (mut_vals s, (v ∷ [], (w ∷ [], tt)))), tt) in
    nothing ! $ move ! (1 ∷ 0 ∷ []) $ join ! $ move ! (2 ∷ 0 ∷ []) $ join ! $ move ! (4 ∷ 0 ∷ []) $ join ! $
    nothing ! $ move ! (3 ∷ 0 ∷ []) $ join ! $ move ! (3 ∷ 0 ∷ []) $ join ! $ join ! $
    nothing ! $ move ! (1 ∷ 0 ∷ []) $ use2 𝓛 (raw (H.pre z)) (id⊢ 𝓤 _) $
    -- [what the call asks; the token of T]
    calls_at ! fm H (h-met.met 𝓤 𝓛 𝓜 𝓡 (code.calls-allocative::visitor::Visitor::enter_sized 𝓡.env wired)) z
    (and_then ! (get ! refl) (and_then ! (get ! refl) (and_then ! (get ! refl) (no_more !)))) (λ u.
    use1 𝓛 (later (some (λ (res : Result Visitor Refusal). (Tokens ⊛ ‵ ((Answer z.0.0).own_val res (u ∷ []))) ⊛
    some (λ (vs : Lasts h.ended z.0.0 z.0.3). ‵ (lasts h.ended z.0.0 z.0.3 vs) ⊛ ‵ (LendsNested false name size s res) ⊛
    raw (fact 𝓤 (IfOk res (Nests false name size s.now))) ⊛ raw (fact 𝓤 (IfErr res (IsRefused false size s.now)))))))
    (id⊢ 𝓤 _) $
    await ! tt $ pick ! (λ res. split ! $ split ! $ move ! (2 ∷ []) $ pick ! (λ vs. split ! $ drop ! $ split ! $
    move ! (1 ∷ []) $ split ! $ heard ! _ (λ entered. heard ! _ (λ refused.
    -- [what self ends as; the two tokens; the result; the token of T]
    rewrite ! 0 (λ (k' : Key). ‵ (LendsNested false k' size s res)) is_name refl $
    rewrite ! 0 (λ (n : Option ℕ). ‵ (LendsNested false g.layout.name n s res)) is_size refl $
    move ! (2 ∷ []) $ peeks ! (Answer z.0.0) _ (shows 𝓛 (Answer z.0.0)) res (u ∷ []) (λ told.
    let good = (((result_laws _ _ (visitor_laws (named_lft 2 0 tt z.0.0)) refusal_laws).lawful 𝓛).typed res (u ∷ [])
    told).0 in
    lands_as ! refl refl good $ returns ! (look_at ! 0 refl) $ free_all ! refl $
    -- [the result; what self ends as; the two tokens; the token of T]
    suffices ! _ (ends_at 𝓛 (f.ended T g d) (stayed T g d) c ((κs, qs, bounds, a, (mut_vals s, tt)), tt) u res (tt, tt)
    (tt, tt)) $
    move ! (2 ∷ []) $ split ! $ move ! (1 ∷ []) $ split ! $ move ! (0 ∷ 5 ∷ []) $ join ! $ move ! (2 ∷ 0 ∷ []) $
    join ! $
    move ! (1 ∷ []) $ nothing ! $ fjoin ! $ move ! (0 ∷ 2 ∷ []) $ join ! $ move ! (1 ∷ 0 ∷ []) $ join ! $ frame ! $
    says_two ! (
      subst (λ (n : Option ℕ). IfOk res (Nests false g.layout.name n s.now)) is_size
          (subst (λ (k' : Key). IfOk res (Nests false k' size s.now)) is_name entered),
      subst (λ (n : Option ℕ). IfErr res (IsRefused false n s.now)) is_size refused,
    ) $ done !)))))))))))))))))))
