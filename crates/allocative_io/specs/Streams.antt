-- What is read and written, and what may stop that.
use Rattle.std.specs.Prelude.{◌≡◌, ℕ, ◌<◌, ⊤, List, ◌++◌, length, Option, IfSome}
use Rattle.std.specs.Io.KnownBytes.{Appends}
use Rattle.allocative_io.specs.declared.ReadError.{ReadError}
use Rattle.allocative_io.specs.declared.ReadError.TheVariants.{Memory, Failed}

-- Why an input may not be read: Memory only if it is not empty; or a read fails.
abbrev pub StopsReading : Option (List ℕ) → ReadError → Type 0
StopsReading known Memory = IfSome known (λ bytes. 0 < length bytes)
StopsReading known (Failed k) = ⊤

-- What is written of a text, all but its rest, follows what the writer held, if that is known.
pub record IsWrittenUpTo (old new : Option (List ℕ)) (text rest : List ℕ) : Type 0 where
  pub written : List ℕ
  pub split : text ≡ written ++ rest
  pub follows : Appends old new written

-- A beginning of a text, maybe all of it or nothing, follows what the writer held, if that is known.
abbrev pub AppendsBeginning : Option (List ℕ) → Option (List ℕ) → List ℕ → Type 0
AppendsBeginning old new text = (rest : List ℕ) × IsWrittenUpTo old new text rest
