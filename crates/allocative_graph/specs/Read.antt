-- What a text of collapsed stacks says, which line of it is none, and the graph that its lines add up to.
use Rattle.std.specs.Prelude.{◌≡◌, ℕ, ◌+◌, ◌^◌, ◌<◌, ◌≤◌, ◌||◌, ◌==◌, Bool, not, cond, filter, List, [], ◌∷◌, ◌++◌}
use Rattle.std.specs.Prelude.{length, Some, None, sum_by, Result, IsErrOf}
use Rattle.std.specs.List.{AllByRecursion, list_any, slice_split}
use Rattle.std.specs.Str.Lines.{lines}
use Rattle.std.specs.Str.Parse.{IsNumeral, digits_value}
use Rattle.std.specs.FinMap.{get, entries}
use Rattle.allocative_graph.specs.declared.read.TheConstants.{LEVELS}
use Rattle.allocative_graph.specs.declared.read.Line.{Line}
use Rattle.allocative_graph.specs.declared.read.LineFault.{LineFault}
use Rattle.allocative_graph.specs.declared.read.LineFault.TheVariants.{NoSpace, NoPath, NoNumber, TooLarge, TooDeep}
use Rattle.allocative_graph.specs.declared.read.ReadFault.{ReadFault}
use Rattle.allocative_graph.specs.Path.{Key, Path, is_same_path}
use Rattle.allocative_graph.specs.Format.{semicolon, space}
use Rattle.allocative_graph.specs.Graph.{Graph, size_at, total, begins, is_root, joined, text, Lacks, HasPlainKeys}
use Rattle.allocative_graph.specs.Graph.{HasWords}
use Rattle.allocative_graph.specs.declared.read.ReadFault.TheVariants as faults

-- ---- lines
-- A path with its bytes.
pub record Stack : Type 0 where
  pub path : Path
  pub size : ℕ

-- The keys of a path, which stand between its `;`.
abbrev pub keys_of : List ℕ → Path
keys_of p = slice_split (λ b. b == semicolon) p

-- What a line of code says.
abbrev pub line_stack : Line → Stack
line_stack l = record { path = keys_of l.path.now; size = l.size }

-- The number that a text writes.
abbrev pub number_of : List ℕ → ℕ
number_of bs = digits_value 10 bs

-- The text is one digit or more, and nothing else, and the number that they write is a word.
abbrev pub IsNumber : List ℕ → Type 0
IsNumber bs = IsNumeral 10 bs × (number_of bs < 2 ^ 64)

-- The line is a path of at least one byte and at most `LEVELS` keys, a space and a number of bytes, and says that.
pub record IsStack (line : List ℕ) (s : Stack) : Type 0 where
  pub path : List ℕ
  pub number : List ℕ
  pub parts : line ≡ path ++ space ∷ number
  pub some : 0 < length path
  pub reads : IsNumber number
  pub fits : length (keys_of path) ≤ LEVELS
  pub is : s ≡ record { path = keys_of path; size = number_of number }

-- The line is cut at its last space.
pub record IsCut (line path number : List ℕ) : Type 0 where
  pub parts : line ≡ path ++ space ∷ number
  pub last : Lacks space number

-- What is wrong with the line: it has no space; nothing stands before its last one; no digits alone stand behind it;
-- the number exceeds a word; or the path has too many keys.
abbrev pub IsWrong : LineFault → List ℕ → Type 0
IsWrong NoSpace line = Lacks space line
IsWrong NoPath line = (number : List ℕ) × IsCut line [] number
IsWrong NoNumber line = (path : List ℕ) × (number : List ℕ) × IsCut line path number × (0 < length path)
    × ¬ IsNumeral 10 number
IsWrong TooLarge line = (path : List ℕ) × (number : List ℕ) × IsCut line path number × (0 < length path)
    × IsNumeral 10 number × (2 ^ 64 ≤ number_of number)
IsWrong TooDeep line = (path : List ℕ) × (number : List ℕ) × IsCut line path number × IsNumber number
    × (LEVELS < length (keys_of path))

-- ---- texts
-- The lines are these stacks, one for each line that is not blank, in their order.
abbrev pub AreStacks : List (List ℕ) → List Stack → Type 0
AreStacks [] ss = ss ≡ []
AreStacks ([] ∷ ls) ss = AreStacks ls ss
AreStacks (line ∷ ls) ss = (s : Stack) × (rest : List Stack) × (ss ≡ s ∷ rest) × IsStack line s × AreStacks ls rest

-- Each line of the text but the blank ones is a stack, and these are the stacks.
abbrev pub SaysStacks : List ℕ → List Stack → Type 0
SaysStacks t ss = AreStacks (lines t) ss

-- The line of this number, from 1 on, is the first one of the text that is neither blank nor a stack, and this is
-- wrong with it.
pub record IsFault (t : List ℕ) (number : ℕ) (w : LineFault) : Type 0 where
  pub before : List (List ℕ)
  pub line : List ℕ
  pub rest : List (List ℕ)
  pub stacks : List Stack
  pub parts : lines t ≡ before ++ line ∷ rest
  pub counted : number ≡ length before + 1
  pub read : AreStacks before stacks
  pub some : 0 < length line
  pub wrong : IsWrong w line
  pub none : (s : Stack) → ¬ IsStack line s

-- If a line is told as wrong, it is the first one of the text that is, and this is wrong with it.
abbrev pub TellsFault : {A : Type 0} → List ℕ → Result A ReadFault → Type 0
TellsFault t r = (n : ℕ) (w : LineFault) → IsErrOf r (faults.Line n w) → IsFault t n w

-- ---- the graph
-- The bytes of the stacks with the path p.
abbrev pub bytes_at : List Stack → Path → ℕ
bytes_at ss p = sum_by (λ s. cond (is_same_path p s.path) s.size 0) ss

-- Whether p is the root's path, or the path of a stack, or a beginning of one.
abbrev pub is_path_of : List Stack → Path → Bool
is_path_of ss p = is_root p || list_any (λ s. begins p s.path) ss

-- The graph has these paths and no others, and at each of them the bytes of the stacks with this path.
abbrev pub IsGraphOfStacks : List Stack → Graph → Type 0
IsGraphOfStacks ss g = (p : Path) → get g p ≡ cond (is_path_of ss p) (Some (bytes_at ss p)) None

-- The bytes of all stacks.
abbrev pub all_bytes : List Stack → ℕ
all_bytes ss = sum_by (λ s. s.size) ss

-- Each line of the text but the blank ones is a stack, and the graph is that of these stacks, with all their bytes.
pub record IsRead (t : List ℕ) (g : Graph) : Type 0 where
  pub stacks : List Stack
  pub means : SaysStacks t stacks
  pub graph : IsGraphOfStacks stacks g
  pub bytes : total g ≡ all_bytes stacks

-- Each line of the text but the blank ones is a stack, and their bytes exceed a word.
pub record Exceeds (t : List ℕ) : Type 0 where
  pub stacks : List Stack
  pub means : SaysStacks t stacks
  pub exceeds : 2 ^ 64 ≤ all_bytes stacks

-- Each path that has a line in the text of g has at most `LEVELS` keys, and is not one empty key.
abbrev pub CanBeRead : Graph → Type 0
CanBeRead g = AllByRecursion (λ e. (length e.0 ≤ LEVELS) × (0 < length (joined e.0)))
    (filter (λ e. not (is_root e.0 || (e.1 == 0))) (entries g))

-- If the text is that of a graph in which no key has a `;` or a line feed, h has the sizes of that graph at each path
-- but the root.
abbrev pub ReadsBack : List ℕ → Graph → Type 0
ReadsBack t h = (g : Graph) → HasPlainKeys g → HasWords g → t ≡ text g
    → (k : Key) (p : Path) → size_at h (k ∷ p) ≡ size_at g (k ∷ p)
