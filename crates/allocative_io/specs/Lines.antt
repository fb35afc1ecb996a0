-- The lines that programs print of their faults.
use Rattle.std.specs.Prelude.{ℕ, ◌/◌, ◌%◌, cond, List, [], ◌∷◌, ◌++◌, flat_map}
use Rattle.std.specs.Char.{digit_char, is_ascii_control}

-- A byte of a text in a line: a control character of ASCII as `\x` and two digits, and any other as it is.
abbrev pub printable_byte : ℕ → List ℕ
printable_byte b = cond (is_ascii_control b) (92 ∷ 120 ∷ digit_char (b / 16 % 16) ∷ digit_char (b % 16) ∷ []) (b ∷ [])

-- A text in a line.
abbrev pub printable : List ℕ → List ℕ
printable text = flat_map printable_byte text

-- The line of some texts: one after another, and a line feed. No other byte of it is a line feed.
abbrev pub line_of : List (List ℕ) → List ℕ
line_of texts = flat_map printable texts ++ 10 ∷ []
