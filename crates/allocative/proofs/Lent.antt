-- What the hand-written proofs of calls that lend a collector cite: the steps of a walk, the one machine value of a
-- parameter, and what such a call passes on.
pub use Rattle.std.proofs.Common.{◌≡◌, ℕ, List, [], ◌∷◌, refl, sym, ap, subst, MutBor, Result, Ok, Err, IfOk}
pub use Rattle.std.proofs.Common.{IfErr, OnOk, OnErr, true, false, Option, Some}
pub use Rattle.std.proofs.raw_atomic.Walks.{proved, proved_at}
pub use Rattle.std.proofs.mem.Facts.{says_two}
pub use Rattle.std.proofs.alloc.Calls.{Goes-blank}
pub use base.Logic.{id⊢, ent, sep, emp}
pub use base.Fml.{ftrue, flft, Fml, GName, fres}
pub use mir.Syntax.{named, w64, Ty, Lifetime, erased, Fn, Callee, local, value_local, seq, assign, addr_of, deref, call}
pub use mir.Syntax.{copy, place, return, Args, Dict, a_type, dcons, dnil}
pub use mir.Val.{Val}
pub use contract.Lifetimes.{Lfts}
pub use contract.Monad.{fact, Fun, fact_i}
pub use contract.Running.{tables, Running}
pub use types.Kit.{‵, raw, ◌⊛◌, some, later, ◌$◌, ◌∵◌, !, qed, done, move, keep, drop, use1, use2, split, join, fsplit}
pub use types.Kit.{fjoin, feq_i, feq_l, pick, await, rewrite, suffices, frame, fpick, fpack, use0, use3}
pub use types.Run.{enter, addr, stop, no_more, and_then, returns}
pub use types.ByLocal.{alloc_all, pass_all, free_all, look_at, get, through, sets, lands_as}
pub use denote.Builtin.{usize, RefMutOf, RefOf}
pub use denote.Exit.{yes, no, rest}
pub use denote.Laws.{shows, Is, Typed}
pub use denote.Plain.{uint_vals, uint_Tells}
pub use denote.RattleType.{RattleType}
pub use denote.Ref.{MutRef, mut_vals, mut_Tells, ShrRef, shr_vals, shr_Tells}
pub use denote.Signature.{plain, named_lft, Slot}
pub use denote.Steps.{nothing, heard, peeks, only}
pub use denote.Triple.Call.{calls_at}
pub use denote.Triple.Clauses.{Lasts, lasts, Ended, Clauses, closing}
pub use denote.Triple.Spec.{triple_of, Meets}
pub use denote.Triple.Table.{framed}
pub use Rattle.allocative_graph.proofs.key.Key.TheLaws.{the_row_laws as key_laws}
pub use Rattle.allocative_graph.proofs.refusal.Refusal.TheLaws.{the_row_laws as refusal_laws}
pub use Rattle.std.proofs.option.Option.TheLaws.{the_row_laws as option_laws}
pub use Rattle.std.proofs.result.Result.TheLaws.{the_row_laws as result_laws}
pub use Rattle.allocative.proofs.visitor.Visitor.TheLaws.{the_row_laws as visitor_laws}
pub use denote.Triple.Walked.{Stays, stay_dropped, Goes-dropped, Goes-spent_ref, ends_at, says, walk_of, Goes}
pub use seplogic.Ra.Ura.{Ura}
pub use types.Logic.{Logic, sem}
use denote.Struct.Members.{Lone}
use denote.Triple.Entry.{Vals}
pub use denote.Follow.{follows, follows_so, follows_by, such_by, followed, follows_then}
pub use denote.Param.Laws.{Laws, of_field}
use denote.Param.Shared.{copy_shared}
use denote.Struct.Field.{usize-field}
use denote.Struct.Laws.{usize-laws, usize-copy}
pub use Rattle.allocative.proofs.Common.{name_if_ok, Refusal, Key, State, Visitor, LendsCollector, with_state}
pub use Rattle.allocative.proofs.Common.{OpensRoot, Settles, OpensShared, VisitorEnds, CollectorEnds, AnswersShared}
pub use Rattle.allocative.proofs.Common.{answer_without_visitor, visitor_or, Identity, LendsNested, Nests}
pub use Rattle.allocative.proofs.Common.{IsRefused, OpensEntry, RefusesEntry}
pub use prog.Wp.{WpFn, Closed}
pub use denote.Param.{layout, bounded, param}
pub use Rattle.allocative.specs.Lending.{LendsBegun, OpensSharedAt}
pub use contract.BorrowLft.{◌⊑◌}
pub use mir.MapTy.{inst_fn}
pub use Rattle.allocative.specs.contracts.visitor.collector.Collector.{the_row as collector_row}
pub use Rattle.allocative_graph.specs.contracts.key.Key.{the_row as key_row}
pub use Rattle.std.specs.contracts.option.Option.{the_row as option_row}
pub use Rattle.allocative_graph.specs.contracts.refusal.Refusal.{the_row as refusal_row}
pub use Rattle.std.specs.contracts.result.Result.{the_row as result_row}
pub use Rattle.allocative.specs.contracts.visitor.Visitor.{the_row as visitor_row}
pub use Rattle.allocative_described.specs.declared.described.Described.{Ghosts}
use mathlib.Core.Option as maybe

-- The lender, whose own lifetime is the second one; the visitor that is returned has the first.
abbrev pub Lender : Lfts 2 → RattleType
Lender κs = visitor_row (named_lft 2 1 tt κs)

-- The visitor that is returned.
abbrev pub Nested : Lfts 2 → RattleType
Nested κs = visitor_row (named_lft 2 0 tt κs)

-- The result that has it.
abbrev pub Answer : Lfts 2 → RattleType
Answer κs = result_row (Nested κs) refusal_row

-- The type of a declared size.
abbrev pub Size : RattleType
Size = option_row usize

-- A machine word obeys the laws that a proof asks of a parameter's type.
pub number_laws : Laws usize
number_laws = of_field usize-field usize-laws refl (copy_shared usize-field usize-copy)

-- A declared size obeys the laws that a proof asks of a parameter's type.
pub size_laws : Laws Size
size_laws = option_laws usize number_laws

-- A value that the machine stores as one word or one struct is one machine value.
pub one_value : (vs : List Val) → Lone vs → (v : Val) × (vs ≡ v ∷ [])
one_value [] h = absurd h
one_value (v ∷ []) h = (v, refl)
one_value (v ∷ u ∷ us) h = absurd h

-- A walk at the parameters' machine values written out is a walk at those passed.
pub at_values : {M : Type 1} {𝓤 : Ura M} (𝓛 : Logic 𝓤) (T : Ended) (hs : Stays T.signature.params T.kept)
    (c : Clauses 𝓤 T) (run : Fun 𝓤)
    (y : (walk_of 𝓛 T hs c).Ghost) (us : Vals T.signature y.0.0) → y.0.4 ≡ us →
    ent 𝓤 ((walk_of 𝓛 T hs c).pre ((y.0.0, y.0.1, y.0.2, y.0.3, us), y.1))
    (run ((walk_of 𝓛 T hs c).args ((y.0.0, y.0.1, y.0.2, y.0.3, us), y.1))
    ((walk_of 𝓛 T hs c).post ((y.0.0, y.0.1, y.0.2, y.0.3, us), y.1))) →
    ent 𝓤 ((walk_of 𝓛 T hs c).pre y) (run ((walk_of 𝓛 T hs c).args y) ((walk_of 𝓛 T hs c).post y))
at_values {𝓤 = 𝓤} 𝓛 T hs c run y us e h =
    subst (λ (ws : Vals T.signature y.0.0). ent 𝓤 ((walk_of 𝓛 T hs c).pre ((y.0.0, y.0.1, y.0.2, y.0.3, ws), y.1))
    (run ((walk_of 𝓛 T hs c).args ((y.0.0, y.0.1, y.0.2, y.0.3, ws), y.1))
    ((walk_of 𝓛 T hs c).post ((y.0.0, y.0.1, y.0.2, y.0.3, ws), y.1)))) (sym e) h

-- How a lender ends whose part is lent further by a call that may return it. The whole is V and ends as F of its
-- part, which is C. P and P₀ say how the part ends, with a loan and without; Q and Q₀ follow for the whole.
module _ {M : Type 1} {𝓤 : Ura M} (𝓛 : Logic 𝓤) (V C : RattleType) (F : C.Denot → V.Denot) (γ γ' : GName)
    (P : C.Denot → C.Denot → Type 0) (P₀ : C.Denot → Type 0) (Q : C.Denot → V.Denot → Type 0) (Q₀ : V.Denot → Type 0)
    (kept : (w z : C.Denot) → P w z → Q w (F z)) (kept₀ : (z : C.Denot) → P₀ z → Q₀ (F z)) where
  -- The ends of the whole that P and P₀ allow: with a loan, and without.
  abbrev Both : Type 0
  Both = (s : (C.Denot → V.Denot) × V.Denot) × ((w : C.Denot) → Q w (s.0 w)) × Q₀ s.1

  -- How the whole ends, by the two ends, if the call returns the loan m.
  abbrev Whole : maybe.Option GName → Both → Fml
  Whole m s = follows_by V.Denot C.Denot V.coded.code C.coded.code γ m s.0.0 s.0.1

  -- The whole follows its part, and the part follows the loan or ends without; so the whole does.
  pub nest : (m : maybe.Option GName) → ent 𝓤 (sep 𝓤 (sem 𝓛 (follows V C γ γ' F)) (sem 𝓛 (follows_so C C γ' m P P₀)))
      (sem 𝓛 (follows_so V C γ m Q Q₀))
  unfolding such_by follows_by
  nest maybe.none =
      qed 𝓛 (‵ (follows V C γ γ' F) ∷ ‵ (follows_so C C γ' maybe.none P P₀) ∷ []) ∵ move ! (1 ∷ []) $ fpick ! (λ s.
      let t : Both = ((λ w. F (s.0.0 w), F s.0.1), λ w. kept w (s.0.0 w) (s.1 w), kept₀ s.0.1 s.2) in
      move ! (1 ∷ 0 ∷ []) $ use2 𝓛 (‵ (fres γ (V.coded.code (F s.0.1)))) (followed 𝓛 V C F γ γ' s.0.1) $
      fpack ! Both (Whole maybe.none) t $ done !)
  nest (maybe.some δ) =
      qed 𝓛 (‵ (follows V C γ γ' F) ∷ ‵ (follows_so C C γ' (maybe.some δ) P P₀) ∷ []) ∵ move ! (1 ∷ []) $ fpick ! (λ s.
      let t : Both = ((λ w. F (s.0.0 w), F s.0.1), λ w. kept w (s.0.0 w) (s.1 w), kept₀ s.0.1 s.2) in
      move ! (1 ∷ 0 ∷ []) $ use2 𝓛 (‵ (follows V C γ δ (λ w. F (s.0.0 w)))) (follows_then 𝓛 V C C F s.0.0 γ γ' δ) $
      fpack ! Both (Whole (maybe.some δ)) t $ done !)

-- How a visitor ends whose collector is lent to a call that returns a visitor. `Ends` says how the collector ends if
-- none is returned.
module _ {E : Type 0} (Ends : State → E → State → Type 0) (s : Visitor) where
  -- With a loan, the visitor ends with what the visitor that is returned leaves.
  with_loan : (r : Result Visitor E) (w z : State) → OnOk r (z ≡ w) → OnOk r (with_state s z ≡ with_state s w)
  with_loan (Ok v) w z h = ap (with_state s) h
  with_loan (Err e) w z h = h

  -- How the visitor ends without a loan.
  abbrev Refused : Result Visitor E → Visitor → Type 0
  Refused r v = IfErr r (λ e. Ends s.collector.now e v.collector.now × (v ≡ with_state s v.collector.now))

  -- Without a loan, the visitor ends with the state that `Ends` allows.
  without_loan : (c : State) → c ≡ s.collector.now → (r : Result Visitor E) (z : State) →
      OnErr r (IfErr r (λ e. Ends c e z)) → Refused r (with_state s z)
  without_loan c i (Ok v) z h = h
  without_loan c i (Err e) z h = let P : State → Type 0 = λ x. Ends x e z in (subst P i h, refl)

-- If the visitor lends its collector, and the collector ends as the call says, so does the visitor.
pub lent_on : {M : Type 1} {𝓤 : Ura M} (𝓛 : Logic 𝓤) {E : Type 0} (Ends : State → E → State → Type 0)
    (s : MutBor Visitor) (c : MutBor State) → c.now ≡ s.now.collector.now → (r : Result Visitor E) →
    ent 𝓤 (sep 𝓤 (sem 𝓛 (LendsCollector s c)) (sem 𝓛 (CollectorEnds (Ends c.now) c r)))
    (sem 𝓛 (VisitorEnds (Ends s.now.collector.now) s r))
lent_on 𝓛 Ends s c same r =
    nest 𝓛 (visitor_row (record { mir = named 1; lft = [] })) collector_row (with_state s.now) s.ghost_name c.ghost_name
    (λ w z. OnOk r (z ≡ w)) (λ z. OnErr r (IfErr r (λ e. Ends c.now e z))) (λ w v. OnOk r (v ≡ with_state s.now w))
    (Refused Ends s.now r) (with_loan Ends s.now r) (without_loan Ends s.now c.now same r)
    (name_if_ok (λ v. v.collector.ghost_name) r)
