-- of read_lines: the steps of its loop, line and ok
use Rattle.std.proofs.Common.{◌≡◌, ℕ, ◌+◌, ◌∷◌, [], List, length, sym, ◌∙◌, arith, rules, eqb-true, refl, subst}
use Rattle.std.proofs.Common.{append-nil}
use Rattle.allocative_graph.proofs.Common.{AreStacks, nil_from_length}
use Rattle.std.proofs.lemmas.Iterator.Splits.{YieldsList-from_lines}
use Rattle.std.proofs.lemmas.Iterator.Consumers.{YieldsList-so_far, YieldsList-turn, YieldsList-end}
use Rattle.std.proofs.lemmas.List.{length_push}
use Rattle.allocative_graph.proofs.ReadBack.{lines_fit, read-more, stacks-cons, fault_at, not_zero}
use Rattle.allocative_graph.proofs.read.read_lines.Goals as goal

pub returns-in-Err-clause-line : goal.returns-in-Err-clause-line
returns-in-Err-clause-line c = λ n w is.
    let road = YieldsList-from_lines c.args.text.now cc in
    let xs = c.loop-line.yielded in
    let t = YieldsList-turn road xs _ c.loop-line.yielded_by _ _ c.in-Some.line c.in-Some.is c.next.ensures.steps in
    let number : c.saturating_add-number.result ≡ length xs + 1 = omega (arith, t.0, lines_fit c.args.text.now) in
    let told : c.saturating_add-number.result ≡ n = cc (is) in
    let said : c.in-Err.wrong ≡ w = cc (is) in
    fault_at c.args.text.now xs c.in-Some.line n w c.loop-line.lines.items
    (YieldsList-so_far road xs _ c.loop-line.yielded_by) t c.loop-line.invariant.came
    (not_zero _ (sym c.is_empty.ensures ∙ c.if-is_empty.false)) (rw (← said) c.in-Err.ensures.wrong)
    (sym told ∙ number)

pub loop-line-preserved : goal.loop-line-preserved
loop-line-preserved c =
    let t = YieldsList-turn (YieldsList-from_lines c.args.text.now cc) c.loop-line.yielded _ c.loop-line.yielded_by
    _ _ c.in-Some.line c.in-Some.is c.next.ensures.steps in
    record {
      number = omega (arith, t.0, lines_fit c.args.text.now, length_push c.loop-line.yielded c.in-Some.line);
      came = read-more c.loop-line.yielded c.in-Some.line c.loop-line.lines.items (c.in-Ok.read ∷ [])
          c.push.new.self.items c.loop-line.invariant.came
          (stacks-cons _ [] _ [] c.in-Ok.ensures.ok refl) (search rules);
    }

pub loop-line-preserved-then-is_empty : goal.loop-line-preserved-then-is_empty
loop-line-preserved-then-is_empty c =
    let t = YieldsList-turn (YieldsList-from_lines c.args.text.now cc) c.loop-line.yielded _ c.loop-line.yielded_by
    _ _ c.in-Some.line c.in-Some.is c.next.ensures.steps in
    record {
      number = omega (arith, t.0, lines_fit c.args.text.now, length_push c.loop-line.yielded c.in-Some.line);
      came = read-more c.loop-line.yielded c.in-Some.line c.loop-line.lines.items [] c.loop-line.lines.items
          c.loop-line.invariant.came (subst (λ (l : List ℕ). AreStacks (l ∷ []) [])
          (sym (nil_from_length _ (eqb-true _ 0 (sym c.is_empty.ensures ∙ c.if-is_empty.true)))) refl)
          (sym (append-nil _));
    }

pub returns-clause-ok : goal.returns-clause-ok
returns-clause-ok c =
    let t = YieldsList-end (YieldsList-from_lines c.args.text.now cc) c.loop-line.yielded _ c.loop-line.yielded_by
    _ _ c.in-None.is c.next.ensures.steps in
    rw (← t.0) c.loop-line.invariant.came
