-- What a `ReadRight` owns can be copied, so a `&` holds it too. Assumes `Logic`.
use Rattle.std.proofs.Common.{List, [], ◌∷◌, ℕ}
use base.Logic.{sep, wand, snd∗, apply∗, ent}
use base.Fml.{fbor}
use base.Before.{before}
use types.Logic.{sem, lfts, Logic}
use types.Kit.{‵, raw, ◌⊛◌, later, ◌$◌, ◌∵◌, !, qed, move, keep, use1, use2, split, await, updating, now, done}
use Rattle.allocative_graph.proofs.static_text.ReadRight.TheLaw.Statement.{statement}
use seplogic.Ra.Ura.{Ura}
use mir.Syntax.{w8}
use Rattle.allocative_graph.specs.Static.{static_owns}
use denote.{Struct.Lending.of_Lends, SharingLaws.contraction, Slice.elements_shared, Slice.elements_shr_laws}
use denote.{Builtin.u8, Plain.uint_row_laws, RawPtr.block_of, RawPtr.count_of, RawPtr.Ptr}
use Rattle.allocative_graph.specs.contracts.static_text.ReadRight as C

-- What a `ReadRight` owns can be copied.
module _ {M : Type 1} {𝓤 : Ura M} (𝓛 : Logic 𝓤) where
  static_dup : (p : Ptr) (xs : List ℕ) →
      ent 𝓤 (sem 𝓛 (static_owns p xs)) (sep 𝓤 (sem 𝓛 (static_owns p xs)) (sem 𝓛 (static_owns p xs)))
  static_dup p xs =
      contraction 𝓛 (elements_shared u8 xs (block_of p) (count_of p))
      (elements_shr_laws u8 (uint_row_laws w8) xs (block_of p) (count_of p)) []

-- A `&ReadRight` holds the right to read that the `ReadRight` owns.
pub shares : statement
shares =
    of_Lends C.struct C.the_codes C.the_heap C.the_lent
    (λ d p. record {
      contraction = λ M 𝓤 𝓛 _. static_dup 𝓛 d.ptr d.items;
      mono = λ M 𝓤 𝓛 κ' κ. snd∗ 𝓤 (sem 𝓛 (before κ' κ)) (sem 𝓛 (C.the_heap d));
    })
    tt (λ M 𝓤 𝓛 d p κ ts inc sp.
    let P = C.the_heap d in
    let back = 𝓛.H.⇛ (sep 𝓤 (𝓛.A.bor κ P) (lfts 𝓛 ts)) in
    qed 𝓛 (‵ (fbor κ P) ∷ raw (lfts 𝓛 ts) ∷ []) ∵ updating ! $
    use2 𝓛 (later (‵ P ⊛ raw (wand 𝓤 (sem 𝓛 P) back))) (𝓛.more.bor_acc_by κ ts P sp) $ await ! tt $ split ! $
    use1 𝓛 (‵ P ⊛ ‵ P) (static_dup 𝓛 d.ptr d.items) $ split ! $ move ! (0 ∷ 2 ∷ []) $
    use2 𝓛 (later (‵ (fbor κ P) ⊛ raw (lfts 𝓛 ts))) (apply∗ 𝓤 (sem 𝓛 P) back) $ await ! tt $ split ! $
    keep ! (2 ∷ 1 ∷ []) $ now ! $ done !)
