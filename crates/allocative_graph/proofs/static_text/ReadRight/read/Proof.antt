-- `read` returns what a `ReadRight` holds. Assumes `Logic`.
use Rattle.std.proofs.Common.{◌≡◌, ◌^◌, List, [], ◌∷◌, ◌++◌, length, refl, sym, ap, ◌∙◌, arith, ◌*◌, w64}
use mir.Val.{Val, vptr, vint}
use prog.Wp.{WpFn}
use contract.Running.{tables}
use types.Kit.{prop, ‵, raw, ◌⊛◌, ◌$◌, ◌∵◌, !, qed, move, drop, split, fsplit, fjoin, feq_i, feq_l, flt_l, regoal}
use types.Kit.{suffices, done, at_ret, flt_i}
use denote.Triple.Walked.{walk_of, Stays, stay_dropped, Goes-dropped, ends_at, says}
use Rattle.std.proofs.raw_atomic.Walks.{proved_at}
use denote.RawPtr.{block_ptr, block_of, count_of, ptr_val}
use types.ByLocal.{sets, alloc_all, pass_all, free_all, look_at, get, sets_last, env}
use mir.Syntax.{seq, assign, place, rv_opd, copy, return}
use contract.Monad.{fact}
use Rattle.allocative_graph.specs.contracts.static_text.ReadRight.read.{ended, clauses}
use Rattle.allocative_graph.specs.contracts.static_text.ReadRight.read.Key.{name as #self}
use Rattle.allocative_graph.proofs.static_text.ReadRight.read.Statement.{statement}
use Rattle.allocative_graph.proofs.static_text.ReadRight.read.Code.{function, unfolded}
use denote.{RattleType.owns, Signature.plain, Signature.types_at, Triple.Entry.alive, Exit.yes, Slice.slice_val}
use denote.{Opens.unhide, Opens.hide, Steps.nothing, Steps.heard, Builtin.RawPtr, Builtin.RefOf, Builtin.usize}
use types.{Part.agg, Run.no_more, Run.enter, Run.returns, Run.and_then, Run.of_opd, Run.first, Run.blocks, Run.exec}
use Rattle.allocative_graph.specs.contracts.static_text.ReadRight as ReadRight

abbrev stayed : Stays ended.signature.params ended.kept
stayed = (stay_dropped _ yes, (stay_dropped _ yes, (stay_dropped _ yes, tt)))

-- `read` meets its contract: it returns the bytes that the right allows to read.
pub read_spec : {M : Type 1} → statement M
read_spec 𝓤 𝓛 𝓜 𝓡 wired =
    let held = clauses 𝓛 𝓜.mem 𝓡.returns in
    let 𝓣 = tables 𝓤 𝓛.H 𝓜 𝓡 𝓡.env in
    let of_right = Goes-dropped 𝓛 1 (RefOf (0 ∷ []) tt (plain (λ _. ReadRight.the_row)) (λ _. tt)) yes (λ κs x f. refl)
    in
    proved_at 𝓛 ended stayed held 𝓜 𝓡 (
      of_right,
      (
        Goes-dropped 𝓛 1 (plain (λ _. RawPtr)) yes (λ κs x f. refl),
        (Goes-dropped 𝓛 1 (plain (λ _. usize)) yes (λ κs x f. refl), tt),
      ),
    ) #self function
    (unfolded 𝓤 𝓛.H 𝓜 𝓡 wired) (λ z are.
    let Post = (walk_of 𝓛 ended stayed held).post z in
    let a = z.0.3 in
    let vss = z.0.4 in
    let s = a.0.now in
    let p = a.1.0 in
    let n = a.1.1.0 in
    let b = block_of s.ptr in
    let o = count_of s.ptr in
    let ys = s.items in
    let Asked = (p ≡ s.ptr) × (n ≡ length s.items) in
    qed 𝓛 ((raw (alive 𝓛 ended.signature z.0.0 z.0.1) ⊛ ‵ (owns (types_at ended.signature.params z.0.0) a vss)) ∷ raw
    (fact 𝓤 Asked) ∷ []) ∵
    move ! (1 ∷ []) $ heard ! Asked (λ asked. split ! $ move ! (1 ∷ []) $
    let at : p ≡ block_ptr b o = asked.0 ∙ s.placed.0 in
    let long : length ys ≡ n = sym asked.1 in
    fsplit ! $ fsplit ! $ feq_l ! (λ is₀. unhide ! $ fsplit ! $ drop ! $ move ! (1 ∷ []) $
    fsplit ! $ feq_l ! (λ is₁. fsplit ! $ fsplit ! $ feq_l ! (λ is₂. flt_l ! (λ fits. drop ! $
    regoal ! (λ (us : List Val). prop (WpFn 𝓤 𝓛.H 𝓣.C 𝓣.Λ function (us ++ (vss.1.0 ++ (vss.1.1.0 ++ []))) Post)) is₀
    refl $
    regoal ! (λ (us : List Val). prop (WpFn 𝓤 𝓛.H 𝓣.C 𝓣.Λ function
    ((vptr a.0.ref_ptr.0 a.0.ref_ptr.1 ∷ []) ++ (us ++ (vss.1.1.0 ++ []))) Post))
    (is₁ ∙ ap (λ r. ptr_val r ∷ []) at) refl $
    regoal ! (λ (us : List Val). prop (WpFn 𝓤 𝓛.H 𝓣.C 𝓣.Λ function
    ((vptr a.0.ref_ptr.0 a.0.ref_ptr.1 ∷ []) ++ ((vptr b o ∷ []) ++ (us ++ []))) Post)) is₂ refl $
    enter ! 𝓣.C 𝓣.Λ function (vptr a.0.ref_ptr.0 a.0.ref_ptr.1 ∷ vptr b o ∷ vint w64 n ∷ []) Post $
    alloc_all ! (λ l. pass_all ! refl ((tt, tt), ((tt, tt), ((tt, record { fits = fits }), tt))) $
    first ! $ blocks ! $
    sets_last ! (agg ! (and_then ! (get ! refl) (and_then ! (get ! refl) (no_more !)))) refl
    (tt, (tt, (record { fits = fits }, tt))) $
    exec ! 𝓣.C 𝓣.Λ (env function.locals l) (seq (assign (place 0 []) (rv_opd (copy (place 4 [])))) return)
    (at_ret (env function.locals l) Post) $
    sets ! (of_opd ! (get ! refl)) refl (tt, (tt, (record { fits = fits }, tt))) $
    hide ! $
    flt_i ! (length ys * 1) (2 ^ 63) (omega (arith, s.placed.1)) $
    flt_i ! (length ys) (2 ^ 64) (omega (arith, s.placed.1)) $ fjoin ! $
    feq_i ! (List Val) (slice_val (b, o) n ∷ []) (slice_val (b, o) (length ys) ∷ [])
    (ap (λ k. slice_val (b, o) k ∷ []) (sym long)) $ fjoin ! $ fjoin ! $
    returns ! (look_at ! 0 refl) $ free_all ! refl $
    suffices ! _ (ends_at 𝓛 ended stayed held z (slice_val (b, o) n) (record { ref_ptr = (b, o); now = ys })
    (tt, (tt, (tt, tt))) (tt, (tt, (tt, tt)))) $ says ! refl $
    nothing ! $ nothing ! $ fjoin ! $ nothing ! $ fjoin ! $ nothing ! $ fjoin ! $ move ! (2 ∷ 0 ∷ 1 ∷ []) $
    done !)))))))
