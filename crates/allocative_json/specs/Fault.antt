-- The status and the line of each fault, and the fault of each refusal.
use Rattle.std.specs.Prelude.{ℕ, List, [], ◌∷◌, codes}
use Rattle.allocative_io.specs.Lines as Lines
use Rattle.allocative.specs.Refusal.{Refusal}
use Rattle.allocative.specs.Refusal.TheVariants as refused
use Rattle.allocative_json.specs.declared.fault.Fault.{Fault}
use Rattle.allocative_json.specs.declared.fault.Fault.TheVariants.{Memory, NotJson, NotWhole, TooLarge, Words, Reading}
use Rattle.allocative_json.specs.declared.fault.Fault.TheVariants.{Writing, Open}

-- The status of a fault.
abbrev pub status_of : Fault → ℕ
status_of Memory = 1
status_of NotJson = 2
status_of NotWhole = 3
status_of TooLarge = 4
status_of Words = 5
status_of Reading = 6
status_of Writing = 7
status_of Open = 8

-- The message of a fault.
abbrev pub message_of : Fault → List ℕ
message_of Memory = codes "out of memory"
message_of NotJson = codes "input is not JSON"
message_of NotWhole = codes "a number is not a 64-bit whole number"
message_of TooLarge = codes "sizes do not fit"
message_of Words = codes "unknown or repeated word"
message_of Reading = codes "cannot read input"
message_of Writing = codes "cannot write output"
message_of Open = codes "a visitor was forgotten"

-- The line of a fault on standard error: its start, which names the program, the message, and a line feed.
abbrev pub line_of : List ℕ → Fault → List ℕ
line_of start f = Lines.line_of (start ∷ message_of f ∷ [])

-- The fault of a refusal: the one with its name.
abbrev pub fault_of : Refusal → Fault
fault_of refused.Memory = Memory
fault_of refused.TooLarge = TooLarge
fault_of refused.Open = Open
