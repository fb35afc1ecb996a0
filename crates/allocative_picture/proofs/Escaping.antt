-- The markup of a character has plain bytes only, and unescapes to that character.
use Rattle.std.proofs.Common.{◌≡◌, ℕ, ◌≤◌, ◌&&◌, Bool, true, false, not, cond, List, [], ◌∷◌, ◌++◌, refl, arith, codes}
use Rattle.std.proofs.Common.{nat_lt, ◌==◌, encode_utf8, flat_map}
use Rattle.allocative_picture.proofs.Common.{AllByRecursion, each-append}
use Rattle.allocative_picture.specs.Escape.{escaped_char, is_unfit, IsPlain, Unescapes, end, ampersand, less, greater}
use Rattle.allocative_picture.specs.Escape.{quote, apostrophe, itself, EscapeLaws}
use Rattle.std.proofs.lemmas.Bool.{and_parts, eqb-true, eqb-false}
use Rattle.std.proofs.lemmas.Bool.Decides.{nat_tests}
use Rattle.std.specs.List.{list_all}
use Rattle.std.specs.Str.{chars}

-- What holds in both cases holds of a choice.
by_cond : {X : Type 0} (P : X → Type 0) (b : Bool) (x y : X) → (b ≡ true → P x) → (b ≡ false → P y) → P (cond b x y)
by_cond P true x y f g = f refl
by_cond P false x y f g = g refl

-- ---- plain bytes
-- Whether a byte is plain, by tests.
abbrev is_plain : ℕ → Bool
is_plain b = not (b == 60) && not (b == 62) && not (b == 34) && not (b == 39) && not (nat_lt b 32)

-- A byte that passes the tests is plain.
plain_by : (b : ℕ) → is_plain b ≡ true → IsPlain b
plain_by b e = record {
  no_less = λ s. grind (arith, nat_tests);
  no_greater = λ s. grind (arith, nat_tests);
  no_quote = λ s. grind (arith, nat_tests);
  no_apostrophe = λ s. grind (arith, nat_tests);
  no_control = grind (arith, nat_tests);
}

-- A character that is not unfit is no control.
fit : (c : ℕ) → is_unfit c ≡ false → nat_lt c 32 ≡ false
fit c e = grind (arith, nat_tests)

-- Bytes that pass the tests are plain.
all_plain_by : (bs : List ℕ) → list_all is_plain bs ≡ true → AllByRecursion IsPlain bs
all_plain_by [] e = tt
all_plain_by (b ∷ bs) e = (plain_by b (and_parts _ _ e).0, all_plain_by bs (and_parts _ _ e).1)

-- ---- characters
-- The markup x has plain bytes only, and unescapes to s wherever it stands.
abbrev IsMarkup : List ℕ → List ℕ → Type 0
IsMarkup x s = AllByRecursion IsPlain x × ((m t : List ℕ) → Unescapes m t → Unescapes (x ++ m) (s ++ t))

-- All bytes are from 128 on.
abbrev High : List ℕ → Type 0
High bs = AllByRecursion (λ b. 128 ≤ b) bs

-- Bytes from 128 on are markup of themselves.
high : (bs : List ℕ) → High bs → IsMarkup bs bs
high [] h = (tt, λ m t r. r)
high (b ∷ bs) h =
    let low : 128 ≤ b = h.0 in (
      (plain_by b (grind (arith, nat_tests)), (high bs h.1).0),
      λ m t r. itself b (bs ++ m) (bs ++ t) (λ e. omega arith) (λ e. omega arith) ((high bs h.1).1 m t r),
    )

-- The bytes that a reader finds for a character.
abbrev legible_char : ℕ → List ℕ
legible_char c = cond (is_unfit c) (encode_utf8 65533) (encode_utf8 c)

-- Each of the five references unescapes to its character. Other characters are one byte below 128, or bytes from 128
-- on.
char : (c : ℕ) → IsMarkup (escaped_char c) (legible_char c)
unfolding lib.Utf8.encode
char c =
    by_cond (λ x. IsMarkup x (legible_char c)) (c == 38)
    _ _ (λ e. rw (eqb-true c 38 e) (all_plain_by (codes "&amp;") refl, ampersand)) (λ e1.
    by_cond (λ x. IsMarkup x (legible_char c)) (c == 60)
    _ _ (λ e. rw (eqb-true c 60 e) (all_plain_by (codes "&lt;") refl, less)) (λ e2.
    by_cond (λ x. IsMarkup x (legible_char c)) (c == 62)
    _ _ (λ e. rw (eqb-true c 62 e) (all_plain_by (codes "&gt;") refl, greater)) (λ e3.
    by_cond (λ x. IsMarkup x (legible_char c)) (c == 34)
    _ _ (λ e. rw (eqb-true c 34 e) (all_plain_by (codes "&quot;") refl, quote)) (λ e4.
    by_cond (λ x. IsMarkup x (legible_char c)) (c == 39)
    _ _ (λ e. rw (eqb-true c 39 e) (all_plain_by (codes "&#39;") refl, apostrophe)) (λ e5.
    by_cond (λ x. IsMarkup x x) (is_unfit c) _ _ (λ _. high (encode_utf8 65533)
    (omega arith, (omega arith, (omega arith, tt)))) (λ e.
    by_cond (λ x. IsMarkup x x) (nat_lt c 128) _ _
    (λ _. (
      (plain_by c (rw (e2, e3, e4, e5, fit c e) refl), tt),
      λ m t r. itself c m t (eqb-false c 38 e1) (eqb-false c 60 e2) r,
    ))
    (λ _. high _ (by_cond High (nat_lt c 2048) _ _ (λ _. (omega arith, (omega arith, tt))) (λ _.
    by_cond High (nat_lt c 65536) _ _ (λ _. (omega arith, (omega arith, (omega arith, tt))))
    (λ _. (omega arith, (omega arith, (omega arith, (omega arith, tt))))))))))))))

-- The markup of some characters has plain bytes only, and unescapes to these characters.
markup : (cs : List ℕ) → AllByRecursion IsPlain (flat_map escaped_char cs)
    × Unescapes (flat_map escaped_char cs) (flat_map legible_char cs)
markup [] = (tt, end)
markup (c ∷ cs) = (
  each-append IsPlain (escaped_char c) (flat_map escaped_char cs) (char c).0 (markup cs).0,
  (char c).1 _ _ (markup cs).1,
)

-- Markup of a text has plain bytes only, and unescapes to that text.
pub escapes : (t : List ℕ) → EscapeLaws t
escapes t = record { plain = (markup (chars t)).0; unescapes = (markup (chars t)).1 }
