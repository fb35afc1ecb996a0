-- The characters that stand for a text in the value of a label.
use Rattle.std.proofs.Common.{◌≡◌, ℕ, ◌==◌, true, false, Bool, cond, List, [], ◌∷◌, ◌++◌, append_assoc, encode_utf8_all}
use Rattle.std.proofs.Common.{refl, rules}
use Rattle.std.proofs.lemmas.Bool.{eqb-true, eqb-false}
use Rattle.std.proofs.lemmas.List.Concat.{flat_map-append}
use Rattle.std.proofs.lemmas.Str.{encodes-append}
use Rattle.allocative_service.specs.Metrics.{LabelLaw, ReadsAs, escaped, escaped_char, end, backslash, quote, feed}
use Rattle.allocative_service.specs.Metrics.{itself}

-- What holds in both cases holds of a choice.
by_cond : {X : Type 0} (P : X → Type 0) (b : Bool) (x y : X) → (b ≡ true → P x) → (b ≡ false → P y) → P (cond b x y)
by_cond P true x y f g = f refl
by_cond P false x y f g = g refl

-- The characters that stand for a text read as the text.
pub label_reads : LabelLaw
label_reads [] = end
label_reads (c ∷ cs) =
    let rest = label_reads cs in
    let P = λ (x : List ℕ). ReadsAs (x ++ escaped cs) (c ∷ cs) in
    by_cond P (c == 92) _ _ (λ e. rw (eqb-true c 92 e) (backslash _ _ rest)) (λ e1.
    by_cond P (c == 34) _ _ (λ e. rw (eqb-true c 34 e) (quote _ _ rest)) (λ e2.
    by_cond P (c == 10) _ _ (λ e. rw (eqb-true c 10 e) (feed _ _ rest)) (λ e3.
    itself c _ _ (eqb-false c 92 e1) (eqb-false c 34 e2) (eqb-false c 10 e3) rest)))

-- One more character is appended.
pub appends_char : (bs cs : List ℕ) (c : ℕ) →
    (bs ++ encode_utf8_all (escaped cs)) ++ encode_utf8_all (escaped_char c)
    ≡ bs ++ encode_utf8_all (escaped (cs ++ c ∷ []))
appends_char bs cs c =
    rw (append_assoc bs (encode_utf8_all (escaped cs)) (encode_utf8_all (escaped_char c)))
    (search (rules, flat_map-append, encodes-append))
