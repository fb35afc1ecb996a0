-- of add_outline: its returns, and the start and the step of its loop
use Rattle.std.proofs.Common.{◌≡◌, ◌<◌, ◌^◌, All, refl, suc, inl, inr, List, [], ◌∷◌, ◌++◌, ap, sym, subst, subst₂, ◌∙◌, arith, append_assoc, append-nil}
use Rattle.allocative_picture.proofs.Common.{len, Child, Graph, InOrder, size_at, sum_of, sum_of_all, total, under}
use Rattle.std.specs.List.Sorted.{IsStrictlySortedBy}
use Rattle.std.proofs.lemmas.List.Elements.{All-head, All-tail, AllZip-push}
use Rattle.std.proofs.lemmas.Result.{on_ok_weaker}
use Rattle.allocative_picture.specs.declared.views.Guided.{Guided}
use Rattle.allocative_picture.specs.Views.{bytes_alone, GuidesChild, InStep, IsOutline, TakesNext}
use Rattle.allocative_picture.proofs.Viewing.{all_push, sum_of_children}
use Rattle.allocative_picture.proofs.Guiding.{AreLeft, all_left, guides-taken, left-taken, left_in_order}
use Rattle.allocative_picture.proofs.views.+add_outline.Goals as goal

-- All bytes are the root's if no key is left.
pub returns-in_default-clause-outline : goal.returns-in_default-clause-outline
unfolding IsOutline
returns-in_default-clause-outline t c =
    let none : c.args.depth ≡ 0 = omega (arith, c.in_default.ensures) in
    on_ok_weaker c.add_bytes.result (λ is. rw none (is ∙ ap bytes_alone (c.total_size.ensures.total
    ∙ ap (λ (b : Guided). total b.graph) c.deref.ensures))) c.add_bytes.ensures

pub returns-in_default-clause-whole : goal.returns-in_default-clause-whole
returns-in_default-clause-whole t c =
    let none : c.args.depth ≡ 0 = omega (arith, c.in_default.ensures) in
    on_ok_weaker c.add_bytes.result (λ _ few all. absurd (omega (arith, few, none))) c.add_bytes.ensures

-- Children that are too many are one child.
pub returns-then-count_guides-most-clause-outline : goal.returns-then-count_guides-most-clause-outline
unfolding IsOutline
returns-then-count_guides-most-clause-outline t c =
    let some : c.args.depth ≡ suc c.in-Some.rest = omega (arith, c.in-Some.ensures.0, c.in-Some.ensures.1) in
    on_ok_weaker c.put.result (λ is. rw some (
      c.in_ok-level.level.value.guides.items,
      c.in_ok-level.level.value.waiting.items,
      c.in_ok-level.ensures.guides,
      c.in_ok-level.ensures.children,
      inl (
        omega arith,
        c.add_outline.new.view,
        subst₂ (λ x y. IsOutline c.in-Some.rest c.args.most x y c.add_outline.new.view)
            c.in_ok-both.ensures.guide c.in_ok-both.ensures.graph
            c.in_ok-add_outline.ensures.outline,
        is ∙ (λ i. sum_of ((c.in_ok-add_bytes.ensures
            ∙ ap bytes_alone (c.self_size.ensures ∙ ap (λ (b : Guided). size_at b.graph []) c.deref-2.ensures)) i)
            (under (c.new.ensures i) c.add_outline.new.view)),
      ),
    )) c.put.ensures.sum

pub returns-then-count_guides-most-clause-whole : goal.returns-then-count_guides-most-clause-whole
returns-then-count_guides-most-clause-whole t c =
    on_ok_weaker c.put.result (λ _ few all. absurd (omega (arith, all))) c.put.ensures.sum

-- Before the first child all guides are left.
pub loop-below-init : goal.loop-below-init
loop-below-init t c =
    let cs = c.in_ok-level.level.value.waiting.items in
    let own = bytes_alone (size_at c.args.both.value.graph []) in
    let view = c.in_ok-add_bytes.ensures
    ∙ ap bytes_alone (c.self_size.ensures ∙ ap (λ (b : Guided). size_at b.graph []) c.deref-2.ensures) in
    record {
      empty = c.default-below.ensures;
      order = c.in_ok-level.ensures.children.children.sorted;
      smaller = c.in_ok-level.ensures.smaller;
      left = all_left _ _;
      outlined = ([], [], refl, tt, view, λ few all. view);
    }

-- The guides that are left are in the order of their keys.
pub next_child-requires : goal.next_child-requires
next_child-requires t c = left_in_order c.in_ok-level.level.value.guides.items
    c.loop-below.level.value.guides.items c.loop-below.level.value.waiting.items
    c.loop-below.invariant.left c.in_ok-level.ensures.guides.children.sorted

-- One child more is outlined.
pub loop-below-preserved : goal.loop-below-preserved
unfolding IsStrictlySortedBy
loop-below-preserved t c =
    let us = c.in_ok-level.level.value.guides.items in
    let vs = c.loop-below.level.value.guides.items in
    let ws = c.next_child.new.level.value.guides.items in
    let g = c.args.both.value.guide in
    let n = size_at g [] in
    let b : Child = record { key = c.in-Some-2.key; graph = c.in-Some-2.both.value.graph } in
    let rest = c.next_child.new.level.value.waiting.items in
    let x = c.in-Some-2.both.value.guide in
    let next : TakesNext b x vs ws c.loop-below.level.value.waiting.items rest =
    rw c.in-Some-2.is at c.in_ok-key.ensures.some in
    let below = c.add_outline-in-Some-2.new.view in
    let d : Child = record { key = b.key; graph = below } in
    let own = bytes_alone (size_at c.args.both.value.graph []) in
    let inv = c.loop-below.invariant in
    let at : c.loop-below.level.value.waiting.items ≡ b ∷ rest = next.front in
    let order : InOrder (b ∷ rest) = subst InOrder at inv.order in
    let Small : Child → Type 0 = λ y. len y.graph < len c.args.both.value.graph in
    let small : All Small (b ∷ rest) = subst (All Small) at inv.smaller in
    let left : AreLeft us vs (b ∷ rest) = subst (AreLeft us vs) at inv.left in
    let fits : total g < 2 ^ 64 =
    omega (arith, c.total_size-all.ensures.total, ap (λ (b : Guided). total b.guide) c.deref-3.ensures) in
    let whole = c.in_ok-level.ensures.guides.whole in
    let guides = c.in_ok-level.ensures.guides.children in
    let guided : GuidesChild g b x = guides-taken g n us whole guides fits vs ws rest b x left order next.taken in
    let R : Child → Graph → Type 0 = λ y o. (u : Graph)
    × GuidesChild g y u × IsOutline c.in-Some.rest c.args.most u y.graph o in
    let done = inv.outlined.0 in
    let ds = inv.outlined.1 in
    record {
      empty = c.in_ok-put.ensures.empty;
      order = order.1;
      smaller = All-tail Small b rest small;
      left = left-taken g n us whole guides fits vs ws rest b x left order next.taken;
      outlined = (
        done ++ b ∷ [],
        ds ++ d ∷ [],
        inv.outlined.2 ∙ ap (λ (ys : List Child). done ++ ys) at ∙ sym (append_assoc done (b ∷ []) rest),
        AllZip-push (λ y o. (o.key ≡ y.key) × R y o.graph) done ds b d inv.outlined.3
            (refl, (x, guided, c.in_ok-add_outline-2.ensures.outline)),
        c.in_ok-put.ensures.sum ∙ ap (λ (h : Graph). sum_of h (under b.key below)) inv.outlined.4 ∙ all_push own ds d,
        λ few all. c.in_ok-put.ensures.sum
            ∙ (λ j. sum_of (inv.outlined.5 few all j) (under b.key (c.in_ok-add_outline-2.ensures.whole
            (omega (arith, few, All-head Small b rest small, c.in-Some.ensures.0, c.in-Some.ensures.1)) all j)))
            ∙ all_push own done b,
      );
    }

-- After the last child all are outlined.
pub returns-clause-outline : goal.returns-clause-outline
unfolding IsOutline
returns-clause-outline t c =
    let cs = c.in_ok-level.level.value.waiting.items in
    let inv = c.loop-below.invariant in
    let none : c.loop-below.level.value.waiting.items ≡ [] = rw c.in_default-2.is at c.in_ok-key.ensures.none in
    let all : inv.outlined.0 ≡ cs =
    sym (inv.outlined.2 ∙ ap (λ (ys : List Child). inv.outlined.0 ++ ys) none ∙ append-nil inv.outlined.0) in
    let some : c.args.depth ≡ suc c.in-Some.rest = omega (arith, c.in-Some.ensures.0, c.in-Some.ensures.1) in
    let R : Child → Graph → Type 0 = λ y o. (u : Graph)
    × GuidesChild c.args.both.value.guide y u × IsOutline c.in-Some.rest c.args.most u y.graph o in
    rw some (
      c.in_ok-level.level.value.guides.items,
      cs,
      c.in_ok-level.ensures.guides,
      c.in_ok-level.ensures.children,
      inr (omega arith, inv.outlined.1, subst (λ ys. InStep R ys inv.outlined.1) all inv.outlined.3, inv.outlined.4),
    )

pub returns-clause-whole : goal.returns-clause-whole
returns-clause-whole t c = λ few all.
    let cs = c.in_ok-level.level.value.waiting.items in
    let inv = c.loop-below.invariant in
    let none : c.loop-below.level.value.waiting.items ≡ [] = rw c.in_default-2.is at c.in_ok-key.ensures.none in
    let done : inv.outlined.0 ≡ cs =
    sym (inv.outlined.2 ∙ ap (λ (ys : List Child). inv.outlined.0 ++ ys) none ∙ append-nil inv.outlined.0) in
    inv.outlined.5 few all
    ∙ ap (λ (ys : List Child). sum_of_all (bytes_alone (size_at c.args.both.value.graph [])) ys) done
    ∙ sum_of_children (size_at c.args.both.value.graph []) cs c.in_ok-level.ensures.children.children
    ∙ sym c.in_ok-level.ensures.children.whole
