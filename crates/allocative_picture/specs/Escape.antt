-- Text as markup: how each character is written.
use Rattle.std.specs.Prelude.{◌≢◌, ℕ, ◌==◌, ◌||◌, ◌≤◌, Bool, cond, nat_lt, List, [], ◌∷◌, flat_map, ◌++◌, codes}
use Rattle.std.specs.Prelude.{encode_utf8, chars}
use Rattle.std.specs.List.{AllByRecursion}

-- Whether a character is an ASCII control, U+FFFE or U+FFFF. Of these XML 1.0 allows only tab, line feed, carriage
-- return and delete.
abbrev pub is_unfit : ℕ → Bool
is_unfit c = nat_lt c 32 || (c == 127) || (c == 65534) || (c == 65535)

-- The markup of a character: a reference for `&`, `<`, `>`, `"` and `'`, U+FFFD for an unfit character, and otherwise
-- the character itself.
abbrev pub escaped_char : ℕ → List ℕ
escaped_char c =
    cond (c == 38) (codes "&amp;")
    (cond (c == 60) (codes "&lt;")
    (cond (c == 62) (codes "&gt;")
    (cond (c == 34) (codes "&quot;")
    (cond (c == 39) (codes "&#39;")
    (cond (is_unfit c) (encode_utf8 65533) (encode_utf8 c))))))

-- A text as markup.
abbrev pub escaped : List ℕ → List ℕ
escaped t = flat_map escaped_char (chars t)

-- The byte neither ends a text or an attribute nor begins an element, and is no control below 32.
pub record IsPlain (b : ℕ) : Type 0 where
  pub no_less : b ≢ 60
  pub no_greater : b ≢ 62
  pub no_quote : b ≢ 34
  pub no_apostrophe : b ≢ 39
  pub no_control : 32 ≤ b

-- The markup unescapes to the text: each of the five references stands for its character, and each other byte except
-- `&` and `<` stands for itself.
pub data Unescapes : List ℕ → List ℕ → Type 0 where
  end : Unescapes [] []
  ampersand : (m t : List ℕ) → Unescapes m t → Unescapes (codes "&amp;" ++ m) (38 ∷ t)
  less : (m t : List ℕ) → Unescapes m t → Unescapes (codes "&lt;" ++ m) (60 ∷ t)
  greater : (m t : List ℕ) → Unescapes m t → Unescapes (codes "&gt;" ++ m) (62 ∷ t)
  quote : (m t : List ℕ) → Unescapes m t → Unescapes (codes "&quot;" ++ m) (34 ∷ t)
  apostrophe : (m t : List ℕ) → Unescapes m t → Unescapes (codes "&#39;" ++ m) (39 ∷ t)
  itself : (b : ℕ) (m t : List ℕ) → b ≢ 38 → b ≢ 60 → Unescapes m t → Unescapes (b ∷ m) (b ∷ t)

-- The text with U+FFFD in place of each unfit character.
abbrev pub legible : List ℕ → List ℕ
legible t = flat_map (λ c. cond (is_unfit c) (encode_utf8 65533) (encode_utf8 c)) (chars t)

-- No byte of the markup of a text ends a text or an attribute, begins an element or is a control below 32, and the
-- markup unescapes to the legible text.
pub record EscapeLaws (t : List ℕ) : Type 0 where
  pub plain : AllByRecursion IsPlain (escaped t)
  pub unescapes : Unescapes (escaped t) (legible t)

-- The markup of every text is plain, and unescapes to the legible text.
abbrev pub EscapeLaw : Type 0
EscapeLaw = (t : List ℕ) → EscapeLaws t
