-- The bytes that the text of a graph has between its keys, paths and lines, and what calls do to texts.
use Rattle.std.specs.Prelude.{◌≡◌, ℕ, List, ◌++◌, Result, IfOk, String, string_bytes}
use Rattle.std.specs.Global.{Global}

-- The byte `;`, which stands between the keys of a path.
abbrev pub semicolon : ℕ
semicolon = 59

-- The byte between a path and its bytes.
abbrev pub space : ℕ
space = 32

-- The byte that ends a line.
abbrev pub newline : ℕ
newline = 10

-- The new text is the old one with these bytes at its end.
abbrev pub AppendsText : String Global → String Global → List ℕ → Type 0
AppendsText old new bytes = string_bytes new ≡ string_bytes old ++ bytes

-- If a text is returned, P holds of its bytes.
abbrev pub IfText : {E : Type 0} → Result (String Global) E → (List ℕ → Type 0) → Type 0
IfText r P = IfOk r (λ text. P (string_bytes text))

-- If a text is returned, it has these bytes.
abbrev pub ReturnsText : {E : Type 0} → Result (String Global) E → List ℕ → Type 0
ReturnsText r bytes = IfText r (λ text. text ≡ bytes)
