-- Texts in a line, byte by byte.
use Rattle.std.proofs.Common.{◌≡◌, ℕ, map, Bor, ◌+◌, ◌/◌, ◌%◌, ◌<◌, ◌≤◌, true, false, List, [], ◌∷◌, ◌++◌, length, take, drop}
use Rattle.std.proofs.Common.{refl, sym, ap, ◌∙◌, append_assoc, take-append-drop, slice_index, get_or}
use Rattle.std.proofs.lemmas.Grind.{flat_map-append}
use Rattle.std.proofs.lemmas.List.{take_more, drop_more, drop_all}
use Rattle.std.specs.Char.{digit_char, is_ascii_control}
use Rattle.allocative_io.specs.Lines.{printable_byte, printable, line_of}

-- Bytes without a control character are as they are, with one more such byte.
pub plain_more : (bs : List ℕ) (i : ℕ) → i < length bs → false ≡ is_ascii_control (slice_index bs i) →
    printable (take i bs) ≡ take i bs → printable (take (i + 1) bs) ≡ take (i + 1) bs
plain_more bs i h e same = rw (take_more bs i 0 h, flat_map-append, same, ← e) refl

-- A text is the bytes before its first control character, and the others.
pub plain_split : (bs front back : List ℕ) (i : ℕ) → printable (take i bs) ≡ take i bs → front ≡ take i bs →
    back ≡ drop i bs → printable bs ≡ front ++ printable back
plain_split bs front back i same p q = rw (p, q)
    (ap printable (sym (take-append-drop i bs)) ∙ flat_map-append printable_byte (take i bs) (drop i bs)
    ∙ ap (λ l. l ++ printable (drop i bs)) same)

-- A text that begins with a control character is this character, and the bytes behind it.
pub control_split : (bs after : List ℕ) (b high low : ℕ) → bs ≡ b ∷ after → is_ascii_control b ≡ true →
    high ≡ digit_char (b / 16 % 16) → low ≡ digit_char (b % 16) →
    printable bs ≡ (92 ∷ 120 ∷ high ∷ low ∷ []) ++ printable after
control_split bs after b high low first control p q = rw (first, p, q, control) refl

-- ---- lines
-- The texts from one on are this text and those behind it.
pub texts_split : (texts : List (Bor (List ℕ))) (i : ℕ) (t : Bor (List ℕ)) → i < length texts →
    line_of (map (λ text. text.now) (drop i texts))
    ≡ printable (get_or texts i t).now ++ line_of (map (λ text. text.now) (drop (i + 1) texts))
texts_split texts i t h = ap (λ l. line_of (map (λ (text : Bor (List ℕ)). text.now) l)) (drop_more texts i t h)
    ∙ append_assoc (printable (get_or texts i t).now) _ _

-- Behind all texts is the line feed.
pub texts_end : (texts : List (Bor (List ℕ))) (i : ℕ) → length texts ≤ i →
    line_of (map (λ text. text.now) (drop i texts)) ≡ (10 ∷ []) ++ []
texts_end texts i h = ap (λ l. line_of (map (λ (text : Bor (List ℕ)). text.now) l)) (drop_all i texts h)
