-- The lines of a text, and the last key of a line, as `split_once` and `rsplit_once` find them.
use Rattle.std.proofs.Common.{◌≡◌, ℕ, ◌+◌, ◌<◌, ◌≤◌, List, [], ◌∷◌, ◌++◌, length, take, drop, Option, None, Some, refl}
use Rattle.std.proofs.Common.{ap, sym, subst, ◌∙◌, arith, append_assoc, append-nil, Bor, MatchOption, ne_eqb}
use Rattle.std.proofs.Common.{take-append-drop}
use Rattle.allocative_json.proofs.Common.{after_last, kept_lines, Lacks, lines_from, before_last, kept_line}
use Rattle.allocative_graph.proofs.ReadBack.{after_lacking, after_skip, before_read, lacks_from, line_read, none_before}
use Rattle.std.specs.Str.Pattern.{RFindsChar}
use Rattle.std.proofs.lemmas.Str.Pattern.{NoCharPasses-char, drop_at_char, IsSplitOnceResult, split_parts}

-- ---- the last key
-- What `rsplit_once` returns at an ASCII character.
abbrev pub IsRsplit : ℕ → List ℕ → Option (Bor (List ℕ) × Bor (List ℕ)) → Type 0
IsRsplit c bs r = MatchOption r (RFindsChar c bs None)
    (λ x. (i : ℕ) × (j : ℕ) × RFindsChar c bs (Some (i, j)) × (x.0.now ≡ take i bs) × (x.1.now ≡ drop j bs) × (i ≤ j)
    × (length x.0.now ≡ i) × (length x.1.now + j ≡ length bs))

-- The text before the last c, and that after it, in one line.
pub rsplit_read : (c : ℕ) (bs : List ℕ) (r : Option (Bor (List ℕ) × Bor (List ℕ))) → IsRsplit c bs r → c < 128
    → MatchOption r ((before_last c [] [] bs ≡ []) × (after_last c [] bs ≡ bs))
    (λ x. (before_last c [] [] bs ≡ x.0.now) × (after_last c [] bs ≡ x.1.now))
rsplit_read c bs None h low =
    let lacks : Lacks c bs = lacks_from c bs (λ i. NoCharPasses-char c bs i h low) in
    (none_before c [] [] bs lacks, after_lacking c [] bs lacks)
rsplit_read c bs (Some (x, y)) (i, j, finds, front, back, ordered, one, other) low =
    let parts : bs ≡ x.now ++ c ∷ y.now =
    sym (ap (λ l. take i bs ++ l) (sym (drop_at_char c bs i j finds.1 low)) ∙ take-append-drop i bs)
    ∙ (λ k. sym front k ++ c ∷ sym back k) in
    let lacks : Lacks c y.now =
    subst (Lacks c) (sym back) (lacks_from c (drop j bs) (λ k. NoCharPasses-char c (drop j bs) k finds.0 low)) in (
      ap (before_last c [] []) parts ∙ before_read c [] [] x.now y.now lacks,
      ap (after_last c []) parts ∙ after_skip c [] x.now y.now ∙ after_lacking c [] y.now lacks,
    )

-- ---- the lines
-- Bytes without a line feed are no line.
no_line : (acc a : List ℕ) → Lacks 10 a → lines_from acc a ≡ []
no_line acc [] h = refl
no_line acc (b ∷ a) h = rw (ne_eqb b 10 h.0) (no_line (acc ++ b ∷ []) a h.1)

-- One line was cut off, and kept or dropped.
pub line_more : (all rest kept more : List ℕ) (line after : Bor (List ℕ)) →
    IsSplitOnceResult 10 rest (Some (line, after))
    → kept ++ kept_lines rest ≡ all → more ≡ kept ++ kept_line line.now → more ++ kept_lines after.now ≡ all
line_more all rest kept more line after cut h e =
    let parts = split_parts 10 rest (Some (line, after)) cut (omega arith) in
    let lines : lines_from [] rest ≡ line.now ∷ lines_from [] after.now =
    ap (lines_from []) parts.0 ∙ line_read [] line.now after.now (lacks_from 10 line.now parts.1) in
    rw (e, append_assoc) (rw lines at h)

-- No line is left.
pub line_none : (all rest kept : List ℕ) → IsSplitOnceResult 10 rest None → kept ++ kept_lines rest ≡ all → kept ≡ all
line_none all rest kept cut h =
    let none : lines_from [] rest ≡ [] = no_line [] rest
    (lacks_from 10 rest (split_parts 10 rest None cut (omega arith))) in
    sym (append-nil kept) ∙ rw none at h
