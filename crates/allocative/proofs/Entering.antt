-- A call that enters: it lends the visitor's collector to a call of `by_hand`, and a nested visitor may hold it.
use Rattle.allocative.proofs.Lent.{visitor_row, collector_row, refusal_row, result_row, key_row, Lender, Answer}
use Rattle.allocative.proofs.Lent.{key_laws, refusal_laws, result_laws, visitor_laws, one_value, at_values, ◌≡◌, List}
use Rattle.allocative.proofs.Lent.{[], ◌∷◌, refl, ap, subst, MutBor, proved_at, says_two, Goes-blank, id⊢, ftrue, flft}
use Rattle.allocative.proofs.Lent.{named, Val, fact, tables, ‵, raw, ◌⊛◌, some, later, ◌$◌, ◌∵◌, !, qed, done, move}
use Rattle.allocative.proofs.Lent.{keep, drop, use1, use2, split, join, fsplit, fjoin, feq_i, feq_l, pick, await}
use Rattle.allocative.proofs.Lent.{suffices, frame, enter, addr, stop, no_more, and_then, returns, alloc_all, pass_all}
use Rattle.allocative.proofs.Lent.{free_all, look_at, get, through, sets, lands_as, yes, no, shows, MutRef, mut_vals}
use Rattle.allocative.proofs.Lent.{mut_Tells, plain, named_lft, nothing, heard, peeks, only, calls_at, Lasts, lasts}
use Rattle.allocative.proofs.Lent.{triple_of, framed, Stays, stay_dropped, Goes-spent_ref, ends_at, Result, Ok, Err}
use Rattle.allocative.proofs.Lent.{IfOk, IfErr, Refusal, Key, State, Visitor, LendsCollector, Ura, sep, emp, Logic, sem}
use Rattle.allocative.proofs.Lent.{Running, WpFn, Closed, Ty, Lifetime, erased, Fn, Callee, local, value_local, seq}
use Rattle.allocative.proofs.Lent.{assign, addr_of, deref, call, copy, place, return, Is, Typed, RattleType, RefMutOf}
use Rattle.allocative.proofs.Lent.{rest, layout, Laws, Ended, Clauses, closing, Meets, walk_of, Goes, lent_on}
use Rattle.allocative.proofs.Lent.{VisitorEnds, CollectorEnds}
use mathlib.Core.List.{map}
use Rattle.allocative_graph.specs.Collector as model
use prog.Model.{Model}
use Rattle.allocative.specs.contracts.visitor.Visitor.enter as f
use Rattle.allocative.specs.contracts.visitor.by_hand.collector_of as g
use Rattle.allocative.specs.contracts.visitor.by_hand.enter as i

-- A visitor at a lifetime, as the code names it.
abbrev At : Lifetime → RattleType
At ℓ = visitor_row (record { mir = ℓ; lft = [] })

-- N is the type of the last parameter. In says what entering does, and No how it is refused.
module _ (N : RattleType) (told : Laws N) (In : Key → N.Denot → State → Result model.Restore Refusal → State → Type 0)
    (No : Key → N.Denot → State → Refusal → Type 0) where
  -- The code, where h is the collector's call.
  abbrev function : Callee → Fn
  function h = record {
    lifetimes = 2;
    outlives = (1, 0) ∷ [];
    ty_params = [];
    givens = 0;
    params = 3;
    locals = map (λ T. local (layout T) value_local)
        (result_row (At (named 0)) refusal_row ∷ MutRef (named 0) [] (At (named 1)) ∷ key_row ∷ N ∷ MutRef erased []
        collector_row ∷ MutRef erased [] (At erased) ∷ []);
    body = seq (assign (place 5 []) (addr_of (place 1 (deref (layout (At erased)) ∷ []))))
        (seq (call g.Key.name (copy (place 5 []) ∷ []) (place 4 []))
        (seq (call h (copy (place 4 []) ∷ copy (place 2 []) ∷ copy (place 3 []) ∷ []) (place 0 [])) return));
  }

  -- The signature of the visitor's call.
  abbrev Restore : Ended
  Restore = record {
    signature = record f.signature {
      params =
          RefMutOf (0 ∷ []) tt (plain Lender) (λ κs. tt) ∷ plain (λ κs. key_row) ∷ plain (λ κs. N) ∷ [];
    };
    kept = (no, (yes, (yes, tt)));
  }

  -- The signature of the collector's call.
  abbrev Inner : Ended
  Inner = record {
    signature = record i.signature {
      params =
          RefMutOf (0 ∷ []) tt (plain (λ κs. collector_row)) (λ κs. tt) ∷ plain (λ κs. key_row) ∷ plain (λ κs. N) ∷ [];
    };
    kept = (no, (yes, (yes, tt)));
  }

  -- The clauses of the visitor's call.
  abbrev outer : {M : Type 1} {𝓤 : Ura M} → Logic 𝓤 → Clauses 𝓤 Restore
  outer {𝓤 = 𝓤} 𝓛 κs a = record {
    ghost = Unit {0};
    requires = λ g. emp 𝓤;
    ensures = λ g r e. sep 𝓤
        (sem 𝓛 (VisitorEnds (λ e. In a.1.0 a.1.1.0 a.0.now.collector.now (Err e)) a.0 r)) (sep 𝓤
        (fact 𝓤 (IfOk r (λ v. In a.1.0 a.1.1.0 a.0.now.collector.now (Ok v.outer) v.collector.now)))
        (fact 𝓤 (IfErr r (No a.1.0 a.1.1.0 a.0.now.collector.now))));
  }

  -- The clauses of the collector's call.
  abbrev inner : {M : Type 1} {𝓤 : Ura M} → Logic 𝓤 → Clauses 𝓤 Inner
  inner {𝓤 = 𝓤} 𝓛 κs a = record {
    ghost = Unit {0};
    requires = λ g. emp 𝓤;
    ensures = λ g r e. sep 𝓤
        (sem 𝓛 (CollectorEnds (λ e. In a.1.0 a.1.1.0 a.0.now (Err e)) a.0 r)) (sep 𝓤
        (fact 𝓤 (IfOk r (λ v. v.collector.ghost_name ≡ a.0.ghost_name))) (sep 𝓤
        (fact 𝓤 (IfOk r (λ v. In a.1.0 a.1.1.0 a.0.now (Ok v.outer) v.collector.now)))
        (fact 𝓤 (IfErr r (No a.1.0 a.1.1.0 a.0.now)))));
  }

  -- Which parameters the visitor's call gives back.
  abbrev stayed : Stays Restore.signature.params Restore.kept
  stayed = (stay_dropped _ no, (stay_dropped _ yes, (stay_dropped _ yes, tt)))

  -- If the collector's call meets its contract, so does the visitor's, which lends the collector to it.
  pub enters : {M : Type 1} (𝓤 : Ura M) (𝓛 : Logic 𝓤) (𝓜 : Model 𝓤 𝓛.H) (𝓡 : Running 𝓤 𝓛.H 𝓜) →
      Goes 𝓛 2 (plain (λ κs. N)) yes (stay_dropped (plain (λ κs. N)) yes) → {name h : Callee} →
      Closed 𝓤 𝓛.H (tables 𝓤 𝓛.H 𝓜 𝓡 𝓡.env).C (tables 𝓤 𝓛.H 𝓜 𝓡 𝓡.env).Λ name (function h) →
      Meets 𝓛 g.signature ((tables 𝓤 𝓛.H 𝓜 𝓡 𝓡.env).C g.Key.name) (g.spec 𝓛 𝓜.mem 𝓡.returns) →
      Meets 𝓛 Inner.signature ((tables 𝓤 𝓛.H 𝓜 𝓡 𝓡.env).C h) (closing 𝓛 Inner (inner 𝓛)) →
      Meets 𝓛 Restore.signature ((tables 𝓤 𝓛.H 𝓜 𝓡 𝓡.env).C name) (closing 𝓛 Restore (outer 𝓛))
  enters 𝓤 𝓛 𝓜 𝓡 goes {name = name} {h = h} closed lent met =
      let c = outer 𝓛 in
      let 𝓣 = tables 𝓤 𝓛.H 𝓜 𝓡 𝓡.env in
      let key_goes = Goes-blank 𝓛 2 (plain (λ _. key_row)) yes (λ κs x w. tt) in
      proved_at 𝓛 Restore stayed c 𝓜 𝓡 (Goes-spent_ref 𝓛 2 (0 ∷ []) tt (plain Lender), (key_goes, (goes, tt)))
      name (function h) closed (λ y₀ are.
      let κs = y₀.0.0 in let qs = y₀.0.1 in let bounds = y₀.0.2 in let a = y₀.0.3 in
      let κ = κs.0 in let q = qs.0 in let s = a.0 in let k = a.1.0 in let n = a.1.1.0 in
      let kv = one_value y₀.0.4.1.0 (key_laws.single k y₀.0.4.1.0 are.1.0) in
      let nv = one_value y₀.0.4.1.1.0 (told.single n y₀.0.4.1.1.0 are.1.1.0) in
      let e : y₀.0.4 ≡ (mut_vals s, (kv.0 ∷ [], (nv.0 ∷ [], tt))) =
      λ i. (mut_Tells (named 0) κ (Lender κs) s y₀.0.4.0 are.0 i, (kv.1 i, (nv.1 i, tt))) in
      let kis = subst (λ (us : List Val). Is key_row k us) kv.1 are.1.0 in
      let ktyped = ((key_laws.lawful 𝓛).typed k (kv.0 ∷ []) kis).0 in
      let nis = subst (λ (us : List Val). Is N n us) nv.1 are.1.1.0 in
      let ntyped = (subst (λ (τs : List Ty). Typed τs (nv.0 ∷ [])) told.one ((told.lawful 𝓛).typed n (nv.0 ∷ []) nis)).0
      in
      at_values 𝓛 Restore stayed c (WpFn 𝓤 𝓛.H 𝓣.C 𝓣.Λ (function h)) y₀ (mut_vals s, (kv.0 ∷ [], (nv.0 ∷ [], tt))) e (
      let y : (walk_of 𝓛 Restore stayed c).Ghost =
      ((κs, qs, bounds, a, (mut_vals s, (kv.0 ∷ [], (nv.0 ∷ [], tt)))), tt) in
      let Self = ‵ ((MutRef (named 0) κ (Lender κs)).own_val s (mut_vals s)) in
      qed 𝓛 (((‵ (flft κ q) ⊛ ‵ (flft κs.1.0 qs.1.0) ⊛ ‵ ftrue) ⊛ Self ⊛ ‵ (key_row.own_val k (kv.0 ∷ [])) ⊛ ‵
      (N.own_val n (nv.0 ∷ [])) ⊛ ‵ ftrue) ∷ ‵ ftrue ∷ []) ∵
      split ! $ move ! (1 ∷ []) $ split ! $ keep ! (0 ∷ 1 ∷ 2 ∷ []) $
      enter ! _ _ _ _ _ $ alloc_all ! (λ l. pass_all ! refl ((tt, tt), (ktyped, (ntyped, tt))) $
      sets ! (addr ! (through ! refl (stop !))) refl (tt, tt) $
      -- [self; the key and the size; the tokens]
      let fm = framed 𝓤 𝓛.H 𝓜 𝓣 in
      let G = triple_of 𝓛 g.signature (g.spec 𝓛 𝓜.mem 𝓡.returns) in
      let x : G.Ghost = ((κs, qs, bounds, (s, tt), (mut_vals s, tt)), tt) in
      nothing ! $ move ! (1 ∷ 0 ∷ []) $ join ! $ move ! (2 ∷ 0 ∷ []) $ join ! $ nothing ! $ move ! (1 ∷ 0 ∷ []) $
      use2 𝓛 (raw (G.pre x)) (id⊢ 𝓤 _) $
      calls_at ! fm G lent x
      (and_then ! (get ! refl) (no_more !)) (λ v.
      let Ends : State → Refusal → State → Type 0 = λ x e. In k n x (Err e) in
      let Tokens = ‵ (flft κ q) ⊛ ‵ (flft κs.1.0 qs.1.0) ⊛ ‵ ftrue in
      let Part = MutRef (named 0) κ collector_row in
      use1 𝓛 (later (some (λ (r : MutBor State). (Tokens ⊛ ‵ (Part.own_val r (v ∷ []))) ⊛
      some (λ (ws : Lasts g.ended κs (s, tt)). ‵ (lasts g.ended κs (s, tt) ws) ⊛ ‵ (LendsCollector s r) ⊛ raw
      (fact 𝓤 (r.now ≡ s.now.collector.now)))))) (id⊢ 𝓤 _) $
      await ! tt $ pick ! (λ r. split ! $ split ! $ move ! (2 ∷ []) $ pick ! (λ ws. split ! $ drop ! $ split ! $
      move ! (1 ∷ []) $ heard ! _ (λ same.
      -- [what self ends as; the tokens; the part lent; the key and the size]
      move ! (2 ∷ []) $ fsplit ! $ feq_l ! (λ is. feq_i ! (List _) (mut_vals r) (mut_vals r) refl $ fjoin ! $
      lands_as ! (ap only is) refl (tt, tt) $
      -- [the part lent; what self ends as; the tokens; the key and the size]
      let H = triple_of 𝓛 Inner.signature (closing 𝓛 Inner (inner 𝓛)) in
      let z : H.Ghost = (((κ, tt), (q, tt), tt, (r, (k, (n, tt))), (mut_vals r, (kv.0 ∷ [], (nv.0 ∷ [], tt)))), tt) in
      move ! (0 ∷ 3 ∷ []) $ join ! $ move ! (2 ∷ []) $ split ! $ nothing ! $ move ! (1 ∷ 0 ∷ []) $ join ! $
      move ! (0 ∷ 2 ∷ []) $ join ! $
      nothing ! $ move ! (1 ∷ 0 ∷ []) $ use2 𝓛 (raw (H.pre z)) (id⊢ 𝓤 _) $
      -- [what the call asks; the other tokens; what self ends as]
      calls_at ! fm H met z
      (and_then ! (get ! refl) (and_then ! (get ! refl) (and_then ! (get ! refl) (no_more !)))) (λ u.
      use1 𝓛 (later (some (λ (res : Result Visitor Refusal).
      ((‵ (flft κ q) ⊛ ‵ ftrue) ⊛ ‵ ((Answer κs).own_val res (u ∷ []))) ⊛
      some (λ (vs : Lasts Inner (κ, tt) z.0.3). ‵ (lasts Inner (κ, tt) z.0.3 vs) ⊛
      ‵ (CollectorEnds (Ends r.now) r res) ⊛ raw (fact 𝓤 (IfOk res (λ w. w.collector.ghost_name ≡ r.ghost_name))) ⊛ raw
      (fact 𝓤 (IfOk res (λ w. In k n r.now (Ok w.outer) w.collector.now))) ⊛
      raw (fact 𝓤 (IfErr res (No k n r.now))))))) (id⊢ 𝓤 _) $
      await ! tt $ pick ! (λ res. split ! $ split ! $ move ! (2 ∷ []) $ pick ! (λ vs. split ! $ drop ! $ split ! $
      move ! (1 ∷ []) $ split ! $ heard ! _ (λ _. split ! $ heard ! _ (λ entered. heard ! _ (λ refused.
      -- [what the part ends as; the token; the result; the other tokens; what self ends as]
      move ! (4 ∷ 0 ∷ []) $ use2 𝓛 (‵ (VisitorEnds (Ends s.now.collector.now) s res)) (lent_on 𝓛 Ends s r same res) $
      move ! (2 ∷ []) $ peeks ! (Answer κs) _ (shows 𝓛 (Answer κs)) res (u ∷ []) (λ told.
      let good = (((result_laws _ _ (visitor_laws (named_lft 2 0 tt κs)) refusal_laws).lawful 𝓛).typed res (u ∷ [])
      told).0 in
      lands_as ! refl refl good $ returns ! (look_at ! 0 refl) $ free_all ! refl $
      -- [the result; what self ends as; the token; the other tokens]
      suffices ! _ (ends_at 𝓛 Restore stayed c y u res (tt, (tt, (rest (N.exit yes) n, tt))) (tt, (tt, (tt, tt)))) $
      move ! (2 ∷ []) $ split ! $ move ! (0 ∷ 4 ∷ []) $ join ! $ move ! (1 ∷ []) $ nothing ! $ fjoin ! $ nothing ! $
      fjoin ! $ nothing ! $ fjoin ! $
      move ! (0 ∷ 2 ∷ []) $ join ! $ move ! (1 ∷ 0 ∷ []) $ join ! $ frame ! $
      says_two ! (
        subst (λ (x : State). IfOk res (λ w. In k n x (Ok w.outer) w.collector.now)) same entered,
        subst (λ (x : State). IfErr res (No k n x)) same refused,
      ) $ done !)))))))))))))))
