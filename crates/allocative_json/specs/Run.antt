-- The words of a command line, and what a whole run does.
use Rattle.std.specs.Prelude.{◌≡◌, ◌≢◌, ℕ, ◌<◌, ⊤, ◌⊎◌, ◌↔◌, IsTrue, List, map, length, All, AllPairs, Contains, Option}
use Rattle.std.specs.Prelude.{IfSome, codes, String, string_bytes}
use Rattle.std.specs.declared.alloc.Global.{Global}
use Rattle.std.specs.Io.KnownBytes.{Appends}
use Rattle.allocative_io.specs.Streams.{AppendsBeginning}
use Rattle.allocative_json.specs.declared.fault.Fault.{Fault}
use Rattle.allocative_json.specs.declared.fault.Fault.TheVariants.{Memory, Reading, Writing, Open}
use Rattle.allocative_json.specs.declared.fault.Fault.TheVariants as fault
use Rattle.allocative_json.specs.declared.profile.Report.{Report}
use Rattle.allocative_json.specs.declared.words.Words.{Words}
use Rattle.allocative_json.specs.Fault.{status_of, line_of}
use Rattle.allocative_json.specs.Profile.{IsRightReport, RefusesReport}

-- ---- words
-- A word is its bytes.
abbrev pub Word : Type 0
Word = List ℕ

-- The words of some texts.
abbrev pub words_of : List (String Global) → List Word
words_of texts = map string_bytes texts

-- The word is one of the three.
abbrev pub IsKnown : Word → Type 0
IsKnown w = (w ≡ codes "exact") ⊎ (w ≡ codes "index") ⊎ (w ≡ codes "registry")

-- Each word is one of the three, and none occurs twice.
pub record AreWords (ws : List Word) : Type 0 where
  pub known : All IsKnown ws
  pub once : AllPairs (λ v w. v ≢ w) ws

-- Each field is true exactly if its word is there.
pub record Asks (ws : List Word) (asked : Words) : Type 0 where
  pub exact : IsTrue asked.exact ↔ Contains ws (codes "exact")
  pub index : IsTrue asked.index ↔ Contains ws (codes "index")
  pub registry : IsTrue asked.registry ↔ Contains ws (codes "registry")

-- ---- a run
-- The words are accepted, all bytes of the reader are read if they are known, and the report of them is right.
pub record IsReportFor (texts : List Word) (known : Option (List ℕ)) (made : Report) : Type 0 where
  pub words : AreWords texts
  pub asked : Words
  pub asks : Asks texts asked
  pub input : List ℕ
  pub is_read : IfSome known (λ bytes. input ≡ bytes)
  pub right : IsRightReport input asked.index asked.exact made

-- The report follows what the two writers held, if that is known.
pub record IsWritten (output output' errors errors' : Option (List ℕ)) (made : Report) : Type 0 where
  pub profile : Appends output output' (string_bytes made.profile)
  pub warnings : Appends errors errors' (string_bytes made.warnings)

-- A beginning of the profile follows what the output held, and the errors are as they were; or all of the profile, and
-- a beginning of the warnings follows what the errors held.
abbrev pub IsBegun : Option (List ℕ) → Option (List ℕ) → Option (List ℕ) → Option (List ℕ) → Report → Type 0
IsBegun output output' errors errors' made =
    (AppendsBeginning output output' (string_bytes made.profile) × (errors' ≡ errors))
    ⊎ (Appends output output' (string_bytes made.profile)
    × AppendsBeginning errors errors' (string_bytes made.warnings))

-- The beginning of the line of a fault.
abbrev pub program : List ℕ
program = codes "allocative-json: "

-- A report is right for what is read, and follows what the two writers held.
pub record EndsWell (texts : List Word) (known output output' errors errors' : Option (List ℕ)) : Type 0 where
  pub made : Report
  pub report : IsReportFor texts known made
  pub written : IsWritten output output' errors errors' made

-- A report is right for what is read, and a beginning of it follows what the two writers held. The line of a failed
-- write, or a beginning of it, follows what the errors then hold.
pub record EndsCutOff (texts : List Word) (known output output' errors errors' : Option (List ℕ)) : Type 0 where
  pub made : Report
  pub report : IsReportFor texts known made
  pub warned : Option (List ℕ)
  pub begun : IsBegun output output' errors warned made
  pub told : AppendsBeginning warned errors' (line_of program Writing)

-- The faults that reading the input may return: Memory only if the input is not empty; or Reading.
abbrev pub StopsReading : Option (List ℕ) → Fault → Type 0
StopsReading known Memory = IfSome known (λ bytes. 0 < length bytes)
StopsReading known Reading = ⊤
StopsReading known f = ⊥

-- The faults that may end a run before anything is written: Words exactly if the words are not accepted;
-- otherwise a fault of reading, or of a report of the bytes that were read. Open is none of them.
abbrev pub MayEndRun : List Word → Option (List ℕ) → Fault → Type 0
MayEndRun texts known fault.Words = ¬ AreWords texts
MayEndRun texts known Reading = AreWords texts
MayEndRun texts known Writing = ⊥
MayEndRun texts known Open = ⊥
MayEndRun texts known f = AreWords texts
    × ((asked : Words) × Asks texts asked × IfSome known (λ bytes. RefusesReport bytes asked.index f))

-- The status is that of a fault that may end the run before anything is written. Its line, or a beginning of it,
-- follows what the errors held; the line begins with `start`.
pub record EndsIn (start : List ℕ) (may_end : Fault → Type 0) (errors errors' : Option (List ℕ)) (status : ℕ)
    : Type 0 where
  pub cause : Fault
  pub is_status : status ≡ status_of cause
  pub ends : may_end cause
  pub told : AppendsBeginning errors errors' (line_of start cause)
