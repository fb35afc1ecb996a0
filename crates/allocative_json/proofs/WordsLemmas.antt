-- Words accepted one after another.
use Rattle.std.proofs.Common.{◌≡◌, ◌≢◌, ℕ, ◌+◌, ◌<◌, List, [], ◌∷◌, ◌++◌, length, length-append, get_or, take, drop}
use Rattle.std.proofs.Common.{refl, ap, sym, ◌∙◌, subst, arith, Contains, String, Global, string_bytes}
use Rattle.std.proofs.Common.{take-append-drop}
use Rattle.allocative_json.proofs.Common.{Word, words_of, AreWords, get_or_at, get_or_append_left, map-append}
use Rattle.allocative_json.proofs.Common.{drop_more, IsKnown}
use Rattle.std.proofs.lemmas.List.Elements.{All-push, All-contains, Contains-get_or, Contains-append_right}
use Rattle.std.proofs.lemmas.List.Quantifiers.{all_pairs_push}

-- The words around the one at i.
pub at_word : (texts : List (String Global)) (i : ℕ) (t : String Global) → i < length texts → t ≡ get_or texts i t
    → words_of texts ≡ words_of (take i texts) ++ string_bytes t ∷ words_of (drop (i + 1) texts)
at_word texts i t h e =
    ap words_of (sym (ap (λ l. take i texts ++ l) (ap (λ w. w ∷ drop (i + 1) texts) e ∙ sym (drop_more texts i t h))
    ∙ take-append-drop i texts)) ∙ map-append string_bytes (take i texts) (t ∷ drop (i + 1) texts)

-- A word is one of the three, and not among those before it.
abbrev IsAccepted : List Word → Word → Type 0
IsAccepted ws w = IsKnown w × (Contains ws w → ⊥)

-- Accepted words with one more accepted word are accepted.
pub one_more : (ws : List Word) (w : Word) → AreWords ws → IsAccepted ws w → AreWords (ws ++ w ∷ [])
one_more ws w a h = record {
  known = All-push IsKnown ws w a.known h.0;
  once = all_pairs_push (λ u v. u ≢ v) ws w a.once
      (λ i d l e. let P : Word → Type 0 = λ v. Contains ws v in h.1 (subst P e (Contains-get_or ws i d l)));
}

-- Each word of accepted words is accepted after those before it.
pub each_accepted : (ws rest : List Word) (w : Word) → AreWords (ws ++ w ∷ rest) → IsAccepted ws w
each_accepted ws rest w a = (
  All-contains IsKnown _ w a.known (Contains-append_right ws (w ∷ rest) w (0, omega arith, refl)),
  λ c. a.once c.0 (length ws) w c.1 (omega (arith, length-append ws (w ∷ rest)))
      (get_or_append_left ws (w ∷ rest) w c.0 c.1 ∙ c.2 ∙ sym (get_or_at ws w rest w (length ws) refl)),
)
