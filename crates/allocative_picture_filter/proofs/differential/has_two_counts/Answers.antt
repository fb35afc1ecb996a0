-- of has_two_counts: a line that is cut at its last space, or at none
use Rattle.std.proofs.Common.{List, ℕ, subst}
use Rattle.allocative_picture_filter.proofs.Common.{IsNumeral, Lacks, IsCut, HasTwoCounts}
use Rattle.allocative_graph.proofs.Text.{lacks_not}
use Rattle.allocative_graph.proofs.ReadBack.{no_space, cut_of, one_cut}
use Rattle.allocative_picture_filter.proofs.differential.has_two_counts.Goals as goal

-- A line without a space is not cut.
uncut : {line a x : List ℕ} → Lacks 32 line → IsCut line a x → ⊥
uncut {a = a} {x = x} lacks cut = lacks_not 32 a x (subst (Lacks 32) cut.parts lacks)

-- What stands before the second count is what stands before the last space.
inner : {line front second : List ℕ} → IsCut line front second → (h : HasTwoCounts line) → IsCut front h.path h.first
inner cut h = subst (λ f. IsCut f h.path h.first) (one_cut h.last_cut cut).0 h.cut

-- The two counts stand behind the last two spaces.
counts : {line front second path first : List ℕ} → IsCut line front second → IsCut front path first → HasTwoCounts line
    → IsNumeral 10 first × IsNumeral 10 second
counts last cut h = (
  subst (IsNumeral 10) (one_cut (inner last h) cut).1 h.first_count,
  subst (IsNumeral 10) (one_cut h.last_cut last).1 h.second_count,
)

pub returns-in_default : goal.returns-in_default
returns-in_default c =
    (λ f. absurd (cc), λ h. absurd (uncut (no_space c.args.line.now c.in_default.ensures.cases) h.last_cut))

pub returns-in_default-rsplit_once : goal.returns-in_default-rsplit_once
returns-in_default-rsplit_once c =
    let last = cut_of (c.in-Some.front, c.in-Some.second) c.in-Some.ensures.cases in
    let lacks = no_space c.in-Some.front.now c.in_default-rsplit_once.ensures.cases in
    (λ f. absurd (cc), λ h. absurd (uncut lacks (inner last h)))

pub returns-then-is_numeral : goal.returns-then-is_numeral
returns-then-is_numeral c =
    let last = cut_of (c.in-Some.front, c.in-Some.second) c.in-Some.ensures.cases in
    let cut =
    cut_of (c.in-Some-rsplit_once.field-0-0, c.in-Some-rsplit_once.first) c.in-Some-rsplit_once.ensures.cases in (
      λ passes. record {
        front = c.in-Some.front.now;
        path = c.in-Some-rsplit_once.field-0-0.now;
        first = c.in-Some-rsplit_once.first.now;
        second = c.in-Some.second.now;
        last_cut = last;
        cut = cut;
        first_count = c.is_numeral.ensures.0 c.if-is_numeral.true;
        second_count = c.is_numeral-then-is_numeral.ensures.0 passes;
      },
      λ h. c.is_numeral-then-is_numeral.ensures.1 (counts last cut h).1,
    )

pub returns-else-is_numeral : goal.returns-else-is_numeral
returns-else-is_numeral c =
    let last = cut_of (c.in-Some.front, c.in-Some.second) c.in-Some.ensures.cases in
    let cut =
    cut_of (c.in-Some-rsplit_once.field-0-0, c.in-Some-rsplit_once.first) c.in-Some-rsplit_once.ensures.cases in
    (λ passes. absurd (cc), λ h. c.is_numeral.ensures.1 (counts last cut h).0)
