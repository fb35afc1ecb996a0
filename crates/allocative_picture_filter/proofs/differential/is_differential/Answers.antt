-- of is_differential: that its two passes tell such a text
use Rattle.std.proofs.Common.{◌≡◌, ◌<◌, ◌⊎◌, inl, inr, Bool, true, false, ℕ, List, [], length, refl, rules, tests}
use Rattle.std.proofs.Common.{arith, MatchBool, HoldsAt}
use Rattle.allocative_picture_filter.proofs.Common.{AllWithin, lines, cases_from_all, cases_from_any, HasTwoCounts}
use Rattle.allocative_picture_filter.proofs.Common.{IsDifferential}
use Rattle.std.proofs.lemmas.Iterator.Splits.{YieldsList-from_lines}
use Rattle.std.proofs.lemmas.List.Elements.{All-from_all_within}
use Rattle.allocative_picture_filter.proofs.differential.is_differential.Goals as goal

-- The line is blank or ends in two counts.
abbrev Passes : List ℕ → Type 0
Passes l = (length l ≡ 0) ⊎ HasTwoCounts l

-- The line is not blank and does not end in two counts.
abbrev Fails : List ℕ → Type 0
Fails l = (0 < length l) × ¬ HasTwoCounts l

-- No line passes and fails.
not_both : (l : List ℕ) → Passes l → Fails l → ⊥
not_both l (inl blank) (some, none) = omega (arith, blank, some)
not_both l (inr two) (some, none) = none two

-- If a line is not blank, the pass over all lines tells a differential text.
told : (t : List ℕ) (each : Bool) → (k : ℕ) × (k < length (lines t)) × HoldsAt (λ l. 0 < length l) (lines t) k
    → MatchBool each (AllWithin Passes (lines t) 0 (length (lines t))) ((k : ℕ)
    × (k < length (lines t)) × HoldsAt Fails (lines t) k)
    → (each ≡ true → IsDifferential t) × (IsDifferential t → each ≡ true)
told t true (k, within, some) all = (
  λ _. record {
    some = λ blank. omega (arith, blank k [] within, some []);
    each = All-from_all_within Passes (lines t) all;
  },
  λ _. refl,
)
told t false some (k, within, fails) = (λ e. absurd (cc), λ d. absurd (not_both _ (d.each k [] within) (fails [])))

-- If each line is blank, the text is not differential.
untold : (t : List ℕ) (some : Bool) → some ≡ false
    → MatchBool some ((k : ℕ) × (k < length (lines t))
    × HoldsAt (λ l. 0 < length l) (lines t) k) (AllWithin (λ l. length l ≡ 0) (lines t) 0 (length (lines t)))
    → (some ≡ true → IsDifferential t) × (IsDifferential t → some ≡ true)
untold t true e h = absurd (cc)
untold t false e h = (λ f. absurd (cc), λ d. absurd (d.some (All-from_all_within (λ l. length l ≡ 0) (lines t) h)))

pub returns-else-any : goal.returns-else-any
returns-else-any c = untold c.args.text.now c.any.result c.if-any.false
    (cases_from_any _ _ _ (λ l. 0 < length l) (λ l. length l ≡ 0) c.any.ensures.ran
    (YieldsList-from_lines c.args.text.now c.lines.ensures.rest)
    (λ x q k. search (rules, tests)) (λ x q k. search (rules, tests)))

pub returns-then-any : goal.returns-then-any
returns-then-any c =
    let some = cases_from_any _ _ c.any.result (λ l. 0 < length l) (λ l. length l ≡ 0) c.any.ensures.ran
    (YieldsList-from_lines c.args.text.now c.lines.ensures.rest)
    (λ x q k. search (rules, tests)) (λ x q k. search (rules, tests)) in
    told c.args.text.now c.all.result (rw c.if-any.true at some)
    (cases_from_all _ _ _ Passes Fails c.all.ensures.ran
    (YieldsList-from_lines c.args.text.now c.lines-then-any.ensures.rest)
    (λ x q k. search (rules, tests)) (λ x q k. search (rules, tests)))
