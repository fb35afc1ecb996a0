-- of has: the result
use Rattle.std.proofs.Common.{◌≡◌, ◌||◌, Bool, List, [], ◌∷◌, refl, ap, sym, ◌∙◌, String, Global, string_bytes}
use Rattle.std.proofs.Common.{bytes_eq, rules, tests}
use Rattle.std.specs.List.{list_any}
use Rattle.std.proofs.lemmas.Bool.Decides.{Decides-by_or}
use Rattle.std.proofs.lemmas.Iterator.{YieldsList-from_slice}
use Rattle.std.proofs.lemmas.Iterator.Search.{any_from_yields_List}
use Rattle.std.proofs.lemmas.List.Elements.{Decides-contains}
use Rattle.std.proofs.lemmas.Slice.Eq.{bytes_eq-Decides}
use Rattle.allocative_json.proofs.Common.{Word, words_of}
use Rattle.allocative_json.proofs.words.has.Goals as goal

-- A test of words is a test of their texts.
list_any-words : (p : Word → Bool) (ts : List (String Global)) →
    list_any p (words_of ts) ≡ list_any (λ t. p (string_bytes t)) ts
list_any-words p [] = refl
list_any-words p (t ∷ ts) = ap (λ b. p (string_bytes t) || b) (list_any-words p ts)

-- The word is found exactly if it is among the words.
pub returns : goal.returns
returns c =
    let word = c.args.word.now in
    let same : Word → Bool = λ w. bytes_eq w word in
    let found = any_from_yields_List (λ (t : String Global). same (string_bytes t)) _ _ c.any.result c.any.ensures.ran
    (YieldsList-from_slice c.args.words.now cc) (λ x b q k. search (rules, tests)) in
    Decides-contains (words_of c.args.words.now) word c.any.result
    (rw (found ∙ sym (list_any-words same c.args.words.now)) (Decides-by_or same (λ w. w ≡ word) (list_any same)
    (λ w. bytes_eq-Decides w word) refl (λ x xs. refl) (words_of c.args.words.now)))
