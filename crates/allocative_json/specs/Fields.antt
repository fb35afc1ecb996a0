-- The fields of JSON documents: a graph with the bytes that the values at each path declare, and what a run writes.
use Rattle.std.specs.Prelude.{◌≡◌, ◌≢◌, ℕ, ◌+◌, ◌-◌, ◌*◌, ◌^◌, ◌<◌, ◌≤◌, ◌==◌, ⊤, ◌⊎◌, Bool, true, false, ◌&&◌, not, cond}
use Rattle.std.specs.Prelude.{List, [], ◌∷◌, ◌++◌, map, filter, flat_map, length, Option, None, Some, IfSome, Result, All}
use Rattle.std.specs.Prelude.{MatchResult, codes, decimal, encode_utf8, String, string_bytes, string_capacity}
use Rattle.std.specs.Prelude.{vec_capacity, bytes_eq, chars}
use Rattle.std.specs.Char.{is_ascii_whitespace}
use Rattle.std.specs.Fmt.InlineText.{inline_text}
use Rattle.std.specs.List.{AllZip, list_all, slice_split}
use Rattle.std.specs.Io.KnownBytes.{Appends, Consumes}
use Rattle.std.specs.declared.alloc.Global.{Global}
use Rattle.serde_json.specs.Data.{Data}
use Rattle.serde_json.specs.View.{view}
use Rattle.serde_json.specs.declared.value.Value.{Value, fold-Value}
use Rattle.serde_json.specs.declared.value.Value.TheOpen.{Value-F}
use Rattle.allocative_graph.specs.Graph.{Graph, default, add_self, text, total}
use Rattle.allocative_graph.specs.Rows.{sum_of_all}
use Rattle.allocative_graph.specs.declared.flamegraph.Child.{Child}
use Rattle.allocative_graph.specs.declared.refusal.Refusal.{Refusal}
use Rattle.allocative_io.specs.Streams.{AppendsBeginning}
use Rattle.allocative_json.specs.declared.fault.Fault.TheVariants.{Memory, TooLarge, Reading, Writing}
use Rattle.allocative_json.specs.declared.fields.FieldsFault.{FieldsFault}
use Rattle.allocative_json.specs.declared.fields.FieldsFault.TheVariants.{NotJson, Other}
use Rattle.allocative_json.specs.Fault.{status_of, line_of, fault_of}
use Rattle.allocative_json.specs.Roots.{IsDocument}
use Rattle.allocative_graph.specs.declared.refusal.Refusal.TheVariants as refused
use Rattle.allocative_io.specs.Lines as Lines
use Rattle.allocative_json.specs.declared.fault.Fault.TheVariants as fault

-- ---- keys
-- A character of a name in a key: `%`, `;`, `[`, a line feed and a carriage return by `%` and two digits, and any other
-- as it is.
abbrev pub escaped_char : ℕ → List ℕ
escaped_char c =
    cond (c == 37) (codes "%25")
    (cond (c == 59) (codes "%3B")
    (cond (c == 91) (codes "%5B")
    (cond (c == 10) (codes "%0A")
    (cond (c == 13) (codes "%0D") (encode_utf8 c)))))

-- The key of a member: its name, with five characters escaped.
abbrev pub escaped : List ℕ → List ℕ
escaped name = flat_map escaped_char (chars name)

-- ---- graphs
-- The graph whose root alone has n bytes.
abbrev pub bytes_alone : ℕ → Graph
bytes_alone n = add_self n default

-- The bytes of an array of n items with room for so many: 32 for itself, and 32 for each unused place.
abbrev pub array_bytes : ℕ → ℕ → ℕ
array_bytes n capacity = (1 + (capacity - n)) * 32

-- What stands under a key: under `[]` an item of an array, under `$` a document.
abbrev pub below : List ℕ → Graph → Child
below k g = record { key = k; graph = g }

-- A member of an object stands under its key, with the 24 bytes and the capacity of its name.
abbrev pub member_below : String Global × Graph → Child
member_below m = below (escaped (string_bytes m.0)) (add_self (24 + string_capacity m.0) m.1)

-- The graph of a value from the graphs of the values in it: 32 bytes, the capacity of a text, the unused places of an
-- array, and what is below.
abbrev pub fields_step : Value-F Graph → Graph
fields_step Value-F.Null = bytes_alone 32
fields_step (Value-F.Bool b) = bytes_alone 32
fields_step (Value-F.Number n) = bytes_alone 32
fields_step (Value-F.String s) = bytes_alone (32 + string_capacity s)
fields_step (Value-F.Array v) =
    sum_of_all (bytes_alone (array_bytes (length v.items) (vec_capacity v))) (map (below (codes "[]")) v.items)
fields_step (Value-F.Object m) = sum_of_all (bytes_alone 32) (map member_below m.entries)

-- The graph of a value: at each path the bytes that the values there declare.
abbrev pub fields_of : Value → Graph
fields_of = fold-Value Graph fields_step

-- A value under a key, with its graph.
abbrev pub value_below : List ℕ → Value → Child
value_below k v = below k (fields_of v)

-- A member of an object, with its graph.
abbrev pub member_of : String Global × Value → Child
member_of m = member_below (m.0, fields_of m.1)

-- The graph of some documents, each of which stands under `$`.
abbrev pub all_fields : List Value → Graph
all_fields vs = sum_of_all default (map (value_below (codes "$")) vs)

-- ---- what is made
-- Why the graph g is not made: memory runs out, or its bytes exceed a word.
abbrev pub RefusesGraph : Graph → Refusal → Type 0
RefusesGraph g refused.Memory = ⊤
RefusesGraph g refused.TooLarge = 2 ^ 64 ≤ total g
RefusesGraph g refused.Open = ⊥

-- The graph g is made, or refused.
abbrev pub Makes : Graph → Result Graph Refusal → Type 0
Makes g r = MatchResult r (λ made. made ≡ g) (RefusesGraph g)

-- ---- what is read
-- Whether a line is white space alone.
abbrev pub is_blank : List ℕ → Bool
is_blank l = list_all is_ascii_whitespace l

-- The lines that are not blank.
abbrev pub filled : List (List ℕ) → List (List ℕ)
filled ls = filter (λ l. not (is_blank l)) ls

-- The lines of an input.
abbrev pub lines_in : List ℕ → List (List ℕ)
lines_in input = slice_split (λ b. b == 10) input

-- The texts of an input that are to be documents: all of it or, by lines, its lines but the blank ones.
abbrev pub texts_of : Bool → List ℕ → List (List ℕ)
texts_of false input = input ∷ []
texts_of true input = filled (lines_in input)

-- The texts are these documents, in their order.
abbrev pub AreDocuments : List (List ℕ) → List Value → Type 0
AreDocuments ts vs = AllZip (λ t v. IsDocument t (view v)) ts vs

-- The line of this number, from 1 on, is the first that is neither blank nor a document.
pub record IsFirstFault (input : List ℕ) (number : ℕ) : Type 0 where
  pub earlier : List (List ℕ)
  pub documents : List Value
  pub line : List ℕ
  pub later : List (List ℕ)
  pub parts : lines_in input ≡ earlier ++ line ∷ later
  pub are : AreDocuments (filled earlier) documents
  pub some : is_blank line ≡ false
  pub none : (d : Data) → ¬ IsDocument line d
  pub counted : number ≡ length earlier + 1

-- A sum of some documents becomes that of these and of one more. A sum that is refused stays so.
abbrev pub AddsDocument : Value → Result Graph Refusal → Result Graph Refusal → Type 0
AddsDocument v old new = (vs : List Value) → Makes (all_fields vs) old → Makes (all_fields (vs ++ v ∷ [])) new

-- A sum of some documents becomes that of these and of the document of a line, unless the line is blank.
abbrev pub AddsLine : List ℕ → Result Graph Refusal → Result Graph Refusal → Type 0
AddsLine l old new = (vs : List Value) → Makes (all_fields vs) old →
    (more : List Value) × AreDocuments (filled (l ∷ [])) more × Makes (all_fields (vs ++ more)) new

-- A line was read, which has no line feed. If one ended it, the reader lost both; otherwise the line is all that was
-- left.
pub record TakesLine (is_ended : Bool) (known known' : Option (List ℕ)) (line : List ℕ) : Type 0 where
  pub one : All (λ b. b ≢ 10) line
  pub taken : Consumes known known' (cond is_ended (line ++ 10 ∷ []) line)
  pub last : is_ended ≡ false → IfSome known (λ bytes. bytes ≡ line)

-- The text of the graph is made of a sum, or the sum's refusal is told, or memory runs out.
abbrev pub WritesSum : Result Graph Refusal → Result (String Global) FieldsFault → Type 0
WritesSum sum result = (g : Graph) → Makes g sum → MatchResult result (λ made. string_bytes made ≡ text g)
    (λ f. (r : Refusal) × RefusesGraph g r × (f ≡ Other (fault_of r)))

-- Why a text is not read: NotJson only if it is no document, with the line that is given, if one is; Memory only if the
-- text is not empty; and no other.
abbrev pub RefusesDocument : List ℕ → Option ℕ → FieldsFault → Type 0
RefusesDocument t given (NotJson line column said) = ((d : Data) → ¬ IsDocument t d) × IfSome given (λ n. line ≡ n)
RefusesDocument t given (Other Memory) = 0 < length t
RefusesDocument t given (Other f) = ⊥

-- Why a line with a number is not read: it is not blank, and is refused as a document.
abbrev pub RefusesLine : List ℕ → ℕ → FieldsFault → Type 0
RefusesLine l n f = (is_blank l ≡ false) × RefusesDocument l (Some n) f

-- The texts of the input are documents, and `made` is the text of their fields, with some room in their texts, names
-- and arrays.
pub record AreFields (by_lines : Bool) (input made : List ℕ) : Type 0 where
  pub documents : List Value
  pub are_read : AreDocuments (texts_of by_lines input) documents
  pub is_text : made ≡ text (all_fields documents)

-- Why there is no text of the fields of an input: NotJson only if it is no document or, by lines, for the first line
-- that is none; Memory, but not for an empty input that is one document; TooLarge only if the texts are documents whose
-- bytes, with some room, exceed a word; and no other.
abbrev pub RefusesFields : Bool → List ℕ → FieldsFault → Type 0
RefusesFields false input (NotJson line column said) = (d : Data) → ¬ IsDocument input d
RefusesFields true input (NotJson line column said) = IsFirstFault input line
RefusesFields false input (Other Memory) = 0 < length input
RefusesFields true input (Other Memory) = ⊤
RefusesFields by_lines input (Other TooLarge) =
    (vs : List Value) × AreDocuments (texts_of by_lines input) vs × (2 ^ 64 ≤ total (all_fields vs))
RefusesFields by_lines input (Other f) = ⊥

-- ---- a run
-- Whether documents are lines: asked for by the word `--lines`. No other word, and no second one, is accepted.
abbrev pub lines_asked : List (String Global) → Option Bool
lines_asked [] = Some false
lines_asked (w ∷ ws) = cond ((length ws == 0) && bytes_eq (string_bytes w) (codes "--lines")) (Some true) None

-- The words are accepted, all bytes of the reader are read if they are known, and `made` is the text of their fields.
pub record AreFieldsFor (asked : Option Bool) (known : Option (List ℕ)) (made : List ℕ) : Type 0 where
  pub by_lines : Bool
  pub is_asked : asked ≡ Some by_lines
  pub input : List ℕ
  pub is_read : IfSome known (λ bytes. input ≡ bytes)
  pub fields : AreFields by_lines input made

-- The faults that may end a run before anything is written: Words exactly if the words are not accepted; otherwise
-- Reading, or a fault of the text of the fields of what is read.
abbrev pub MayEndFields : Option Bool → Option (List ℕ) → FieldsFault → Type 0
MayEndFields None known f = f ≡ Other fault.Words
MayEndFields (Some by_lines) known f = (f ≡ Other Reading)
    ⊎ ((input : List ℕ) × IfSome known (λ bytes. input ≡ bytes) × RefusesFields by_lines input f)

-- The beginning of the line of a fault.
abbrev pub program : List ℕ
program = codes "allocative-fields: "

-- The status of a fault.
abbrev pub fields_status : FieldsFault → ℕ
fields_status (NotJson line column said) = status_of fault.NotJson
fields_status (Other f) = status_of f

-- The line of a text that is not JSON, with its place and what is said of it.
abbrev pub place_line : List ℕ → List ℕ → List ℕ → List ℕ
place_line line column said = Lines.line_of (codes "allocative-fields: input is not JSON: line " ∷ line
    ∷ codes ", column " ∷ column ∷ codes ": " ∷ said ∷ [])

-- The line of a fault on standard error.
abbrev pub fields_line : FieldsFault → List ℕ
fields_line (NotJson line column said) = place_line (decimal line) (decimal column) (inline_text said)
fields_line (Other f) = line_of program f

-- The text of the fields of what is read follows what the output held.
pub record EndsWithFields (asked : Option Bool) (known output output' : Option (List ℕ)) : Type 0 where
  pub made : List ℕ
  pub fields : AreFieldsFor asked known made
  pub written : Appends output output' made

-- A beginning of that text follows what the output held, and the line of a failed write, or a beginning of it, what the
-- errors held.
pub record CutsOffFields (asked : Option Bool) (known output output' errors errors' : Option (List ℕ)) : Type 0 where
  pub made : List ℕ
  pub fields : AreFieldsFor asked known made
  pub begun : AppendsBeginning output output' made
  pub told : AppendsBeginning errors errors' (line_of program Writing)

-- The status is that of a fault that may end the run before anything is written. Its line, or a beginning of it,
-- follows what the errors held.
pub record FailsFields (asked : Option Bool) (known errors errors' : Option (List ℕ)) (status : ℕ) : Type 0 where
  pub cause : FieldsFault
  pub is_status : status ≡ fields_status cause
  pub ends : MayEndFields asked known cause
  pub told : AppendsBeginning errors errors' (fields_line cause)
