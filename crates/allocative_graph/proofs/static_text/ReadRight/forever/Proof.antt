-- `forever` keeps the right that a `&'static` slice holds. Assumes `Logic`.
use Rattle.std.proofs.Common.{List, [], ◌∷◌, ◌++◌, length, refl, arith}
use mir.Val.{Val, vstruct, vnil, vptr, vcons}
use prog.Wp.{WpFn}
use contract.Running.{tables}
use types.Kit.{prop, ‵, raw, ◌⊛◌, ◌$◌, ◌∵◌, !, qed, move, drop, keep, split, fsplit, fjoin, feq_i, feq_l, flt_l, regoal}
use types.Kit.{suffices, done, fpack}
use denote.RattleType.{RattleType, owns, Valss}
use denote.Triple.Walked.{walk_of, Stays, stay_dropped, Goes-dropped, ends_at, says}
use Rattle.std.proofs.raw_atomic.Walks.{proved_at}
use types.Part.{agg, sub, whole}
use types.Run.{no_more, enter, returns, fld, stop, addr, from, hop, and_then}
use types.ByLocal.{sets, alloc_all, pass_all, free_all, look_at, look_in_at, get}
use Rattle.allocative_graph.specs.contracts.static_text.ReadRight.forever.{ended, clauses}
use Rattle.allocative_graph.specs.contracts.static_text.ReadRight.forever.Key.{name as #self}
use Rattle.allocative_graph.proofs.static_text.ReadRight.forever.Statement.{statement}
use Rattle.allocative_graph.proofs.static_text.ReadRight.forever.Code.{function, unfolded}
use denote.{Signature.plain, Signature.types_at, Triple.Entry.alive, Exit.yes, RawPtr.block_ptr, Slice.slice_val}
use denote.{Opens.unhide, Steps.nothing, Builtin.u8, Builtin.SliceRefOf, Builtin.RawPtr, Struct.Struct.within}
use Rattle.allocative_graph.specs.contracts.static_text.ReadRight as ReadRight

abbrev stayed : Stays ended.signature.params ended.kept
stayed = (stay_dropped _ yes, tt)

-- `forever` meets its contract: it returns the pointer of the slice and the right to read its bytes there.
pub forever_spec : {M : Type 1} → statement M
forever_spec 𝓤 𝓛 𝓜 𝓡 wired =
    let held = clauses 𝓛 𝓜.mem 𝓡.returns in
    let 𝓣 = tables 𝓤 𝓛.H 𝓜 𝓡 𝓡.env in
    proved_at 𝓛 ended stayed held 𝓜 𝓡
    (Goes-dropped 𝓛 0 (SliceRefOf [] tt (plain (λ _. u8)) (λ _. tt)) yes (λ κs x f. refl), tt) #self function
    (unfolded 𝓤 𝓛.H 𝓜 𝓡 wired) (λ z are.
    let Post = (walk_of 𝓛 ended stayed held).post z in
    let a = z.0.3 in
    let xs = a.0.now in
    let b = a.0.ref_ptr.0 in
    let o = a.0.ref_ptr.1 in
    let none : Val = vstruct vnil in
    let pair : Val = vstruct (vcons (vptr b o) (vcons none vnil)) in
    let both : List RattleType = RawPtr ∷ ReadRight.the_row ∷ [] in
    qed 𝓛 ((raw (alive 𝓛 ended.signature z.0.0 z.0.1) ⊛ ‵ (owns (types_at ended.signature.params z.0.0) a z.0.4)) ∷ raw
    ((held z.0.0 a).requires z.1) ∷ []) ∵
    keep ! (0 ∷ []) $ split ! $ move ! (1 ∷ []) $ fsplit ! $ fsplit ! $ fsplit ! $
    feq_l ! (λ is. fsplit ! $ flt_l ! (λ count. flt_l ! (λ size. unhide ! $ move ! (1 ∷ []) $ drop ! $
    let seen : (ReadRight.the_row).Denot = record { ptr = block_ptr b o; items = xs; placed = (refl, omega arith) } in
    regoal ! (λ (us : List Val). prop (WpFn 𝓤 𝓛.H 𝓣.C 𝓣.Λ function (us ++ []) Post)) is refl $
    enter ! 𝓣.C 𝓣.Λ function (slice_val (b, o) (length xs) ∷ []) Post $
    alloc_all ! (λ l. pass_all ! refl ((tt, (tt, (record { fits = count }, tt))), tt) $
    sets ! (addr ! (from ! (fld ! refl (hop ! (look_in_at ! 1 (sub ! 0 refl (whole !))) (stop !))))) refl (tt, tt) $
    sets ! (agg ! (no_more !)) refl (tt, tt) $
    sets ! (agg ! (and_then ! (get ! refl) (and_then ! (get ! refl) (no_more !)))) refl (tt, (tt, (tt, tt))) $
    nothing ! $ feq_i ! (List Val) (none ∷ []) (none ∷ []) refl $ fjoin ! $
    fpack ! (Valss []) (within (record { name = []; args = []; types = []; fields = [] }) tt (none ∷ [])) tt $ fjoin ! $
    feq_i ! (List Val) (vptr b o ∷ []) (vptr b o ∷ []) refl $
    nothing ! $ move ! (2 ∷ 0 ∷ []) $ fjoin ! $ move ! (1 ∷ 0 ∷ []) $ fjoin ! $
    feq_i ! (List Val) (pair ∷ []) (pair ∷ []) refl $ fjoin ! $
    fpack ! (Valss both) (within (record { name = []; args = []; types = []; fields = both })
    (block_ptr b o, (seen, tt)) (pair ∷ [])) (vptr b o ∷ [], (none ∷ [], tt)) $
    returns ! (look_at ! 0 refl) $ free_all ! refl $
    suffices ! _ (ends_at 𝓛 ended stayed held z pair (block_ptr b o, seen) (tt, tt) (tt, tt)) $
    says ! (refl, refl) $
    nothing ! $ nothing ! $ fjoin ! $ move ! (2 ∷ 0 ∷ 1 ∷ []) $ done !)))))
