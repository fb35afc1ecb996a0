-- Texts that are made of parts.
use Rattle.std.proofs.Common.{◌≡◌, ℕ, List, ◌++◌, append_assoc}

-- Parts that are appended one after the other.
pub appended : (t a b c d e : List ℕ) → ((((t ++ a) ++ b) ++ c) ++ d) ++ e ≡ t ++ ((((a ++ b) ++ c) ++ d) ++ e)
appended t a b c d e = simp append_assoc
