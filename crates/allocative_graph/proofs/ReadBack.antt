-- The graphs of stacks, which add up in any order. The lines of a text that is read, and what they say of its graph:
-- the text of a graph that is read is the graph again.
use Rattle.std.proofs.Common.{◌≡◌, ◌≢◌, ℕ, suc, ◌+◌, ◌^◌, ◌<◌, ◌≤◌, ◌==◌, true, false, List, [], ◌∷◌, ◌++◌, length}
use Rattle.std.proofs.Common.{get_or, take, drop, None, Some, refl, ap, sym, ◌∙◌, subst, arith, Bor, eqb-true}
use Rattle.std.proofs.Common.{take-append-drop, Bool, map, append-nil, drop-cons, ◌-◌, cond, not, flat_map}
use Rattle.std.proofs.Common.{length-append, true≢false, decimal, ne_eqb, eq-eqb, if◌then◌else◌, filter, append_assoc}
use Rattle.std.proofs.Common.{◌||◌, ◌&&◌, Option, is_some, sum_by, zero-add}
use Rattle.allocative_graph.proofs.Common.{All, All-from_recursion, AllByRecursion, AreStacks, Graph, IsCut, IsRead}
use Rattle.allocative_graph.proofs.Common.{Key, Lacks, Line, Path, SaysStacks, Stack, all_bytes, begins, bytes_at}
use Rattle.allocative_graph.proofs.Common.{codes, entries, eq_by_cmp, fold-map, get, is_path_of, is_same_path, joined}
use Rattle.allocative_graph.proofs.Common.{key_cmp, length-map, line_stack, lines, lines_of_parts, list_any, map_push}
use Rattle.allocative_graph.proofs.Common.{nil_from_length, size_at, slice_split, sum_by-cons, sum_by-filter_both, text}
use Rattle.allocative_graph.proofs.Common.{IsPermutation, is_eq, contains_key, get-insert, path_cmp, total, is_root}
use Rattle.allocative_graph.proofs.Common.{default, sum_of, graph_of_path, one_stack, sum_of_stacks}
use Rattle.allocative_graph.proofs.Common.{sum_by-IsPermutation, fold-append, tied_then, map-append}
use Rattle.std.proofs.lemmas.List.Elements.{All-from_get_or, recursion_from_All, All-weaker, All-filter}
use Rattle.std.specs.Str.Parse.{IsNumeral, without_leading_plus}
use Rattle.std.proofs.lemmas.Str.Parse.{digit_at, without_leading_plus_none}
use Rattle.allocative_graph.specs.declared.read.LineFault.TheVariants.{NoPath, NoNumber, TooLarge, TooDeep, NoSpace}
use Rattle.allocative_graph.specs.Read.{keys_of, Exceeds, CanBeRead, IsFault, IsNumber, IsStack, IsWrong, number_of}
use Rattle.allocative_graph.specs.Read.{line_stack, IsGraphOfStacks}
use Rattle.allocative_graph.proofs.Text.{lacks_not, texts, Plain, Sized, Good, is_shown, full, body, written_entries}
use Rattle.allocative_graph.proofs.Text.{good_entries, said, size_said, shown_lines, body_lacks, decimal_lacks}
use Rattle.std.proofs.lemmas.List.Splits.{length-slice_split, slice_split_none, slice_split_at}
use Rattle.allocative_graph.proofs.Basics.{each-implies, each-map, path_total, same_path, key_itself}
use Rattle.allocative_graph.specs.Graph.{line, ends_in, exact_text, lines_from, before_last, after_last, last_key}
use Rattle.allocative_graph.specs.Graph.{without_lines, HasPlainKeys, HasWords}
use Rattle.allocative_graph.proofs.Graphs.{size_at-default, get-default, get-under, get-under-root, size_at-added_up}
use Rattle.allocative_graph.proofs.Graphs.{has-added_up, total-added_up, added_up-permuted, total-default}
use Rattle.allocative_graph.proofs.Nodes.{total-path}
use Rattle.std.proofs.lemmas.{Bool.eqb-false, Str.Pattern.NoCharPasses-char, Str.Pattern.drop_at_char}
use Rattle.std.proofs.lemmas.{Fmt.decimal_is_IsNumeral, List.get_or-append_right, List.Sorted.IsPermutation-map}
use Rattle.std.proofs.{lemmas.List.Sums.count_by-le-length, lemmas.List.Sums.sum_by_more_le, Padding.cond_same}
use Rattle.std.specs.{Str.Pattern.RFindsChar, Str.Lines.strip_carriage_return}
use Rattle.allocative_graph.specs.{declared.read.TheConstants.LEVELS, declared.read.LineFault.LineFault}

-- ---- the graphs of stacks
-- A path begins with itself.
begins_itself : (p : Path) → begins p p ≡ true
begins_itself [] = refl
begins_itself (k ∷ p) = ap (λ o. is_eq o && begins p p) (key_itself k) ∙ begins_itself p

-- If two paths are equal, each begins with the other.
pub same_begins : (p q : Path) → is_same_path p q ≡ true → begins p q ≡ true
same_begins p q h = ap (begins p) (sym (same_path p q h)) ∙ begins_itself p

-- The root begins each path, so a test for the root adds nothing to `begins`.
root_begins : (p q : Path) → (is_root p || begins p q) ≡ begins p q
root_begins [] q = refl
root_begins (k ∷ p) q = refl

-- ---- one path
-- What a path has in the graph of n bytes at the path ks.
abbrev one_at : Path → ℕ → Path → Option ℕ
one_at ks n p = cond (is_root p || begins p ks) (Some (cond (is_same_path p ks) n 0)) None

-- What a path has in the graph of one path.
get-path : (ks : Path) (n : ℕ) (p : Path) → get (graph_of_path ks n) p ≡ one_at ks n p
get-path [] n [] = get-insert path_total default [] (size_at default [] + n) []
    ∙ ap (λ m. Some (m + n)) (size_at-default []) ∙ ap Some (zero-add n)
get-path [] n (k ∷ p) = get-insert path_total default [] (size_at default [] + n) (k ∷ p) ∙ get-default (k ∷ p)
get-path (k ∷ ks) n [] = get-under-root k (graph_of_path ks n)
get-path (k ∷ ks) n (l ∷ p) = rw (get-under k (graph_of_path ks n) l p, get-path ks n p)
    (grind (arith, root_begins p ks, tied_then (key_cmp l k) (path_cmp p ks)))

-- The graph of a path has its bytes at that path alone.
pub size_at-path : (ks : Path) (n : ℕ) (p : Path) → size_at (graph_of_path ks n) p ≡ cond (is_same_path p ks) n 0
size_at-path ks n p =
    rw (get-path ks n p, root_begins p ks) (grind (arith, same_begins p ks))

-- ---- some stacks
-- The sum of some stacks has a path exactly if one of them begins with it.
has-stacks : (ss : List Stack) (p : Path) → contains_key (sum_of_stacks default ss) p ≡ is_path_of ss p
has-stacks ss [] = has-added_up one_stack default ss []
    ∙ ap (λ o. is_some o || list_any (λ s. contains_key (one_stack s) []) ss) (get-default [])
has-stacks ss (k ∷ p) =
    let each : (s : Stack) → contains_key (one_stack s) (k ∷ p) ≡ begins (k ∷ p) s.path =
    λ s. rw (get-path s.path s.size (k ∷ p)) (grind arith) in
    has-added_up one_stack default ss (k ∷ p) ∙ (λ i. is_some (get-default (k ∷ p) i) || list_any (λ s. each s i) ss)

-- The stacks one after another are their graph.
graph-stacks : (ss : List Stack) → IsGraphOfStacks ss (sum_of_stacks default ss)
graph-stacks ss p =
    let each : sum_by (λ s. size_at (one_stack s) p) ss ≡ bytes_at ss p =
    λ i. sum_by (λ s. size_at-path s.path s.size p i) ss in
    let size : size_at (sum_of_stacks default ss) p ≡ bytes_at ss p =
    omega (arith, size_at-added_up one_stack default ss p, size_at-default p, each) in
    grind (arith, has-stacks ss p, size)

-- The bytes of some stacks, added up.
total-stacks : (ss : List Stack) → total (sum_of_stacks default ss) ≡ all_bytes ss
total-stacks ss =
    let each : sum_by (λ s. total (one_stack s)) ss ≡ all_bytes ss = λ i. sum_by (λ s. total-path s.path s.size i) ss in
    omega (arith, total-added_up one_stack default ss, total-default, each)

-- ---- lines in any order
-- What lines add up to in another order is what their text is read as.
pub is_read : (t : List ℕ) (ls sorted : List Line) (g : Graph) →
    SaysStacks t (map line_stack ls) → IsPermutation ls sorted →
    g ≡ sum_of_stacks default (map line_stack sorted) → IsRead t g
is_read t ls sorted g means moved e =
    let ss = map line_stack ls in
    subst (IsRead t) (sym (e ∙ added_up-permuted one_stack default ss (map line_stack sorted)
    (IsPermutation-map line_stack ls sorted moved)))
    (record { stacks = ss; means = means; graph = graph-stacks ss; bytes = total-stacks ss })

-- ---- the steps of the code
-- The bytes of all lines exceed a word if those of some, with the next one, do.
pub lines_exceed : (ls : List Line) (i : ℕ) (d : Line) (g : Graph) → i < length ls →
    g ≡ sum_of_stacks default (map line_stack (take i ls)) → 2 ^ 64 ≤ total g + (get_or ls i d).size →
    2 ^ 64 ≤ sum_by (λ l. l.size) ls
lines_exceed ls i d g within is more =
    let bytes = fold-map (λ n (s : Stack). n + s.size) line_stack 0 (take i ls) in
    let all = sum_by_more_le (λ (l : Line). l.size) ls i d within in
    omega (arith, more, ap total is, total-stacks (map line_stack (take i ls)), bytes, all)

-- One line more is added.
pub line_more : (ls : List Line) (i : ℕ) (l : Line) (g h : Graph) → take (i + 1) ls ≡ take i ls ++ l ∷ [] →
    g ≡ sum_of_stacks default (map line_stack (take i ls)) → h ≡ sum_of g (one_stack (line_stack l))
    → h ≡ sum_of_stacks default (map line_stack (take (i + 1) ls))
line_more ls i l g h more was is = rw (is, was, more, map_push line_stack (take i ls) l)
    (sym (fold-append (λ h s. sum_of h (one_stack s)) default (map line_stack (take i ls)) (line_stack l ∷ [])))

-- If the bytes of lines exceed a word in some order, those of their text do.
pub text_exceeds : (t : List ℕ) (ls sorted given : List Line) → SaysStacks t (map line_stack ls) →
    IsPermutation ls sorted → given ≡ sorted → 2 ^ 64 ≤ sum_by (λ l. l.size) given → Exceeds t
text_exceeds t ls sorted given means moved e h =
    let same = ap (λ (xs : List Line). sum_by (λ l. l.size) xs) e
    ∙ sum_by-IsPermutation (λ (l : Line). l.size) ls sorted moved in
    let bytes = fold-map (λ n (s : Stack). n + s.size) line_stack 0 ls in
    record { stacks = map line_stack ls; means = means; exceeds = omega (arith, h, same, bytes) }

-- ---- the parts of a line
-- If no place in a list has a byte, the list lacks it.
pub lacks_from : (c : ℕ) (bs : List ℕ) → ((i : ℕ) → i < length bs → get_or bs i 0 ≢ c) → Lacks c bs
lacks_from c bs h = recursion_from_All (λ b. b ≢ c) bs (All-from_get_or (λ b. b ≢ c) bs 0 h)

-- What `rsplit_once` gives at a space.
pub no_space : (bs : List ℕ) → RFindsChar 32 bs None → Lacks 32 bs
no_space bs h = lacks_from 32 bs (λ i. NoCharPasses-char 32 bs i h (omega arith))

-- The two parts that `rsplit_once` finds are the line cut at its last space.
pub cut_of : {bs : List ℕ} (x : Bor (List ℕ) × Bor (List ℕ)) →
    (i : ℕ) × (j : ℕ) × RFindsChar 32 bs (Some (i, j)) × (x.0.now ≡ take i bs) × (x.1.now ≡ drop j bs) × (i ≤ j)
    × (length x.0.now ≡ i) × (length x.1.now + j ≡ length bs) → IsCut bs x.0.now x.1.now
cut_of {bs = bs} x (i, j, finds, front, back, ordered, one, other) =
    let whole : take i bs ++ 32 ∷ drop j bs ≡ bs =
    ap (λ l. take i bs ++ l) (sym (drop_at_char 32 bs i j finds.1 (omega arith))) ∙ take-append-drop i bs in
    record {
      parts = sym whole ∙ (λ k. sym front k ++ 32 ∷ sym back k);
      last = subst (Lacks 32) (sym back) (lacks_from
          32 (drop j bs) (λ k. NoCharPasses-char 32 (drop j bs) k finds.0 (omega arith)));
    }

-- Digits alone have no plus.
pub unsigned : (bs : List ℕ) → IsNumeral 10 bs → without_leading_plus bs ≡ bs
unsigned bs h = without_leading_plus_none bs (λ e. omega (arith, digit_at bs 0 h.1 h.0, e))

-- The number of digits that are not parsed exceeds a word.
pub too_large : (bs : List ℕ) → IsNumeral 10 bs → ¬ IsNumber bs → 2 ^ 64 ≤ number_of bs
too_large bs digits none = let exceeds : number_of bs < 2 ^ 64 → ⊥ = λ fits. none (digits, fits) in
    omega (arith, exceeds)

-- ---- before and after the last c
-- If c does not come again, what comes before the last c is the best found so far.
pub none_before : (c : ℕ) (best acc d : List ℕ) → Lacks c d → before_last c best acc d ≡ best
none_before c best acc [] h = refl
none_before c best acc (b ∷ d) h = rw (ne_eqb b c h.0) (none_before c best (acc ++ b ∷ []) d h.1)

-- If no other c follows one, all that was read before it comes before the last c.
pub before_read : (c : ℕ) (best acc x d : List ℕ) → Lacks c d → before_last c best acc (x ++ c ∷ d) ≡ acc ++ x
before_read c best acc [] d h = rw (eq-eqb c c refl, none_before c acc (acc ++ c ∷ []) d h) (sym (append-nil acc))
before_read c best acc (b ∷ x) d h = cond_same (b == c)
    _ _ _ (before_read c acc (acc ++ b ∷ []) x d h ∙ append_assoc acc (b ∷ []) x)
    (before_read c best (acc ++ b ∷ []) x d h ∙ append_assoc acc (b ∷ []) x)

-- What comes before a c does not change the bytes after the last c.
pub after_skip : (c : ℕ) (acc a x : List ℕ) → after_last c acc (a ++ c ∷ x) ≡ after_last c [] x
after_skip c acc [] x = rw (eq-eqb c c refl) refl
after_skip c acc (b ∷ a) x = cond_same (b == c) _ _ _ (after_skip c [] a x) (after_skip c (acc ++ b ∷ []) a x)

-- If no c comes again, the bytes after the last c are those read since then and all the rest.
pub after_lacking : (c : ℕ) (acc a : List ℕ) → Lacks c a → after_last c acc a ≡ acc ++ a
after_lacking c acc [] h = sym (append-nil acc)
after_lacking c acc (b ∷ a) h = rw (ne_eqb b c h.0)
    (after_lacking c (acc ++ b ∷ []) a h.1 ∙ append_assoc acc (b ∷ []) a)

-- The parts of a line that is cut at its last space.
cut_at : {line a x : List ℕ} → IsCut line a x → (before_last 32 [] [] line ≡ a) × (after_last 32 [] line ≡ x)
cut_at {a = a} {x = x} cut = (
  ap (before_last 32 [] []) cut.parts ∙ before_read 32 [] [] a x cut.last,
  ap (after_last 32 []) cut.parts ∙ after_skip 32 [] a x ∙ after_lacking 32 [] x cut.last,
)

-- A stack is cut at its last space.
stack_cut : {line : List ℕ} {s : Stack} (is : IsStack line s) → IsCut line is.path is.number
stack_cut is = record {
  parts = is.parts;
  last = lacks_from 32 is.number (λ i within e. omega (arith, digit_at is.number i is.reads.0.1 within, e));
}

-- A line is cut at its last space in one way.
pub one_cut : {line a b x y : List ℕ} → IsCut line a x → IsCut line b y → (a ≡ b) × (x ≡ y)
one_cut one other = (sym (cut_at one).0 ∙ (cut_at other).0, sym (cut_at one).1 ∙ (cut_at other).1)

-- A line with which something is wrong is no stack.
pub wrong_is_none : (w : LineFault) (line : List ℕ) → IsWrong w line → (s : Stack) → IsStack line s → ⊥
wrong_is_none NoSpace line h s is = lacks_not 32 is.path is.number (subst (Lacks 32) is.parts h)
wrong_is_none NoPath line (back, cut) s is =
    let both = one_cut cut (stack_cut is) in
    omega (arith, is.some, ap length both.0)
wrong_is_none NoNumber line (front, back, cut, some, none) s is =
    none (subst (IsNumeral 10) (sym (one_cut cut (stack_cut is)).1) is.reads.0)
wrong_is_none TooLarge line (front, back, cut, some, digits, large) s is =
    omega (arith, is.reads.1, large, ap number_of (one_cut cut (stack_cut is)).1)
wrong_is_none TooDeep line (front, back, cut, reads, deep) s is =
    omega (arith, is.fits, deep, ap (λ (p : List ℕ). length (keys_of p)) (one_cut cut (stack_cut is)).0)

-- ---- what the code finds in a line
-- A line with nothing before its last space has no path.
pub no_path : {line front back : List ℕ} → IsCut line front back → (length front == 0) ≡ true → IsWrong NoPath line
no_path {line = line} {front = front} {back = back} cut e =
    (back, subst (λ (f : List ℕ). IsCut line f back) (nil_from_length front (eqb-true (length front) 0 e)) cut)

-- A number that is not 0 is above 0.
pub not_zero : (n : ℕ) → (n == 0) ≡ false → 0 < n
not_zero n e = omega (arith, eqb-false n 0 e)

-- A line whose last space stands behind a path and before a number is a stack.
pub stack_of : {line front back : List ℕ} {n : ℕ} → IsCut line front back → (length front == 0) ≡ false →
    IsNumber back × (n ≡ number_of back) → length (keys_of front) ≤ LEVELS
    → IsStack line (record { path = keys_of front; size = n })
stack_of {front = front} {back = back} cut e reads fits = record {
  path = front;
  number = back;
  parts = cut.parts;
  some = not_zero (length front) e;
  reads = reads.0;
  fits = fits;
  is = ap (λ (m : ℕ). record { path = keys_of front; size = m }) reads.1;
}

-- ---- one line after another
-- A text has at most as many lines as parts.
parts_fit : (ps : List (List ℕ)) → length (lines_of_parts ps) ≤ length ps
parts_fit [] = omega arith
parts_fit (x ∷ []) = grind arith
parts_fit (x ∷ y ∷ ps) = omega (arith, parts_fit (y ∷ ps))

-- A text has at most one line more than bytes.
pub lines_fit : (bs : List ℕ) → length (lines bs) ≤ length bs + 1
lines_fit bs =
    let newline : ℕ → Bool = λ b. b == 10 in
    omega (arith, parts_fit (slice_split newline bs), length-slice_split newline bs, count_by-le-length newline bs)

-- A stack stands before others. Its line is not blank.
pub stacks-cons : (l : List ℕ) (ls : List (List ℕ)) (s : Stack) (ss : List Stack) → IsStack l s → AreStacks ls ss →
    AreStacks (l ∷ ls) (s ∷ ss)
stacks-cons [] ls s ss is h = absurd (wrong_is_none NoSpace [] tt s is)
stacks-cons (b ∷ bs) ls s ss is h = (s, ss, refl, is, h)

-- If the first line is not blank, the first stack is its own, and the others are those of the other lines.
pub stacks-first : (l : List ℕ) (ls : List (List ℕ)) (ss : List Stack) → 0 < length l → AreStacks (l ∷ ls) ss
    → (s : Stack) × (others : List Stack) × (ss ≡ s ∷ others) × IsStack l s × AreStacks ls others
stacks-first [] ls ss some h = absurd (omega (arith, some))
stacks-first (b ∷ bs) ls ss some h = h

-- If two lists of lines are stacks, both lists together are the stacks of the first and then those of the second.
stacks-append : (ls : List (List ℕ)) (ss : List Stack) (ks : List (List ℕ)) (ts : List Stack) → AreStacks ls ss →
    AreStacks ks ts → AreStacks (ls ++ ks) (ss ++ ts)
stacks-append [] ss ks ts e g = rw e g
stacks-append ([] ∷ ls) ss ks ts h g = stacks-append ls ss ks ts h g
stacks-append ((b ∷ bs) ∷ ls) ss ks ts (s, others, e, is, rest) g =
    (s, others ++ ts, ap (λ l. l ++ ts) e, is, stacks-append ls others ks ts rest g)

-- One line more was passed, with or without a stack.
pub read-more : (xs : List (Bor (List ℕ))) (x : Bor (List ℕ)) (now more later : List Line) →
    AreStacks (texts xs) (map line_stack now) → AreStacks (x.now ∷ []) (map line_stack more) → later ≡ now ++ more →
    AreStacks (texts (xs ++ x ∷ [])) (map line_stack later)
read-more xs x now more later h is e =
    rw (e, map_push (λ (x : Bor (List ℕ)). x.now) xs x, map-append line_stack now more)
    (stacks-append (texts xs) (map line_stack now) (x.now ∷ []) (map line_stack more) h is)

-- The line behind those that were read is the first that is none.
pub fault_at : (text : List ℕ) (xs : List (Bor (List ℕ))) (x : Bor (List ℕ)) (n : ℕ) (w : LineFault) (ls : List Line) →
    texts xs ≡ take (length xs) (lines text)
    → (length xs < length (lines text)) × (x.now ≡ get_or (lines text) (length xs) x.now) →
    AreStacks (texts xs) (map line_stack ls) → 0 < length x.now → IsWrong w x.now → n ≡ length xs + 1 →
    IsFault text n w
fault_at text xs x n w ls front at h some wrong e = let next : suc (length xs) ≡ length xs + 1 = omega arith in record {
  before = texts xs;
  line = x.now;
  rest = drop (length xs + 1) (lines text);
  stacks = map line_stack ls;
  parts =
      sym (take-append-drop (length xs) (lines text))
      ∙ (λ i. sym front i ++ drop-cons (lines text) (length xs) x.now at.0 i)
      ∙ (λ i. texts xs ++ sym at.1 i ∷ drop (next i) (lines text));
  counted = e ∙ ap (λ k. k + 1) (sym (length-map {B = List ℕ} xs (λ (x : Bor (List ℕ)). x.now)));
  read = h;
  some = some;
  wrong = wrong;
  none = wrong_is_none w x.now wrong;
}

-- ---- reading back a text: lists that lack a byte
-- In a list that lacks a byte, no byte is equal to it.
no_byte : (c : ℕ) (xs : List ℕ) → Lacks c xs → All (λ b. (b == c) ≡ false) xs
no_byte c xs h = All-weaker (λ b. b ≢ c) (λ b. (b == c) ≡ false) (λ b. ne_eqb b c) xs
    (All-from_recursion (λ b. b ≢ c) xs h)

-- ---- lines
-- A part that is not the last one is a line, without a carriage return at its end.
lines_of_parts-cons : (x : List ℕ) (parts : List (List ℕ)) → 0 < length parts →
    lines_of_parts (x ∷ parts) ≡ strip_carriage_return x ∷ lines_of_parts parts
lines_of_parts-cons x [] l = absurd (omega arith)
lines_of_parts-cons x (y ∷ more) l = refl

-- A text that ends in a digit keeps its end.
kept_end : (a d : List ℕ) → Lacks 13 d → 0 < length d → strip_carriage_return (a ++ d) ≡ a ++ d
kept_end a d h some =
    let last : get_or (a ++ d) (length (a ++ d) - 1) 0 ≡ get_or d (length (a ++ d) - 1 - length a) 0 =
    get_or-append_right a d (length a) (length (a ++ d) - 1) 0 refl (omega (arith, length-append a d)) in
    let other : get_or (a ++ d) (length (a ++ d) - 1) 0 ≢ 13 =
    λ e. All-from_recursion (λ b. b ≢ 13) d h _ 0 (omega (arith, length-append a d)) (sym last ∙ e) in
    ap (λ (t : Bool). if t then take (length (a ++ d) - 1) (a ++ d) else (a ++ d)) (ne_eqb _ 13 other)

-- If all keys are plain, a text written entry by entry has one line for each entry.
lines-full : (es : List Sized) → AllByRecursion (λ e. AllByRecursion Plain e.0) es →
    lines (flat_map full es) ≡ map body es
lines-full [] h = refl
lines-full (e ∷ es) h =
    let newline : ℕ → Bool = λ b. b == 10 in
    let rest : List ℕ = flat_map full es in
    ap lines (append_assoc (body e) (10 ∷ []) rest)
    ∙ ap lines_of_parts (slice_split_at newline (body e) 10 rest (no_byte 10 (body e) (body_lacks e h.0)) refl)
    ∙ lines_of_parts-cons (body e) (slice_split newline rest) (omega (arith, length-slice_split newline rest))
    ∙ (λ i. kept_end (joined e.0) (32 ∷ decimal e.1) ((λ g. omega (arith, g)), decimal_lacks 13 e.1 (omega arith))
    (omega arith) i ∷ lines-full es h.1 i)

-- ---- one line
-- If plain keys are joined by semicolons, the path splits into these keys again.
keys-joined : (k : Key) (p : Path) → AllByRecursion Plain (k ∷ p) → keys_of (joined (k ∷ p)) ≡ k ∷ p
keys-joined k [] h = slice_split_none (λ b. b == 59) k (no_byte 59 k h.0.0)
keys-joined k (l ∷ p) h = slice_split_at (λ b. b == 59) k 59 (joined (l ∷ p)) (no_byte 59 k h.0.0) refl
    ∙ ap (λ (q : Path). k ∷ q) (keys-joined l p h.1)

-- The decimal of a number that fits a word is read as that number.
number-decimal : (n : ℕ) → n < 2 ^ 64 → IsNumber (decimal n) × (number_of (decimal n) ≡ n)
number-decimal n w =
    let read = decimal_is_IsNumeral n w in
    ((read.0, omega (arith, read.1, w)), read.1)

-- The keys and the number read from the line of a good entry are its own.
saying : (e : Sized) → Good e → ◌≡◌ {A = Stack} (record { path = keys_of (joined e.0); size = number_of (decimal e.1) })
    (said e)
saying ([], n) good = absurd (true≢false (sym good.shows))
saying (k ∷ p, n) good = λ i. record { path = keys-joined k p good.plain i; size = (number-decimal n good.word).1 i }

-- The last space in the line of an entry is the one between its keys and its size.
body_cut : (e : Sized) → IsCut (body e) (joined e.0) (decimal e.1)
body_cut e = record { parts = refl; last = decimal_lacks 32 e.1 (omega arith) }

-- What a line says, cut at its last space.
abbrev line_says : List ℕ → Stack
line_says l = record { path = keys_of (before_last 32 [] [] l); size = number_of (after_last 32 [] l) }

-- A line says what stands before its last space and behind it.
cut_says : {line a x : List ℕ} → IsCut line a x → line_says line ≡ record { path = keys_of a; size = number_of x }
cut_says cut = λ i. record { path = keys_of ((cut_at cut).0 i); size = number_of ((cut_at cut).1 i) }

-- The lines of good entries say the entries.
said_all : (es : List Sized) → AllByRecursion Good es → map line_says (map body es) ≡ map said es
said_all [] good = refl
said_all (e ∷ es) good = λ i. (cut_says (body_cut e) ∙ saying e good.0) i ∷ said_all es good.1 i

-- If the lines of good entries are stacks, these have the paths and the sizes of the entries, in their order.
entries_read : (es : List Sized) → AllByRecursion Good es → (ss : List Stack) → AreStacks (map body es) ss →
    ss ≡ map said es
entries_read [] good ss h = h
entries_read (e ∷ es) good ss h =
    let f = stacks-first (body e) (map body es) ss (omega (arith, length-append (joined e.0) (32 ∷ decimal e.1))) h in
    f.2 ∙ (λ i. (f.3.is ∙ sym (cut_says (stack_cut f.3)) ∙ cut_says (body_cut e) ∙ saying e good.0) i
    ∷ entries_read es good.1 f.1 f.4 i)

-- Stacks none of which begins with a path have no bytes there.
bytes-absent : (ss : List Stack) (q : Path) → list_any (λ s. begins q s.path) ss ≡ false → bytes_at ss q ≡ 0
bytes-absent [] q h = refl
bytes-absent (s ∷ ss) q h =
    let more = sum_by-cons (λ (t : Stack). cond (is_same_path q t.path) t.size 0) s ss in
    grind (arith, h, bytes-absent ss q, same_begins q s.path, more)

-- If good entries have at most `LEVELS` keys and not one empty key alone, their lines are stacks that say the same.
said_stacks : (es : List Sized) → AllByRecursion Good es →
    AllByRecursion (λ e. (length e.0 ≤ LEVELS) × (0 < length (joined e.0))) es → AreStacks (map body es) (map said es)
said_stacks [] good h = refl
said_stacks (e ∷ es) good h =
    let is = saying e good.0 in
    stacks-cons (body e) (map body es) (said e) (map said es) (record {
      path = joined e.0;
      number = decimal e.1;
      parts = refl;
      some = h.0.1;
      reads = (number-decimal e.1 good.0.word).0;
      fits = omega (arith, h.0.0, ap (λ (s : Stack). length s.path) is);
      is = sym is;
    }) (said_stacks es good.1 h.1)

-- If lines are stacks, each of them that is not blank is a stack.
no_fault : (before : List (List ℕ)) (line : List ℕ) (rest : List (List ℕ)) (ss : List Stack) →
    AreStacks (before ++ line ∷ rest) ss → 0 < length line → ((s : Stack) → IsStack line s → ⊥) → ⊥
no_fault [] line rest ss h some none = let f = stacks-first line rest ss some h in none f.0 f.3
no_fault ([] ∷ before) line rest ss h some none = no_fault before line rest ss h some none
no_fault ((b ∷ bs) ∷ before) line rest ss h some none = no_fault before line rest h.1 h.4 some none

-- ---- a graph with plain keys, whose total fits a word
module _ (g : Graph) (plain : HasPlainKeys g) (fits : HasWords g) where
  -- Its text has the lines of the entries shown.
  lines-text : lines (text g) ≡ map body (written_entries g)
  lines-text = ap lines (shown_lines (entries g)) ∙ lines-full (written_entries g)
      (each-implies Good _ (λ e good. good.plain) (written_entries g) (good_entries (entries g) plain fits))

  -- Its lines say these entries.
  text_says : map line_says (lines (text g)) ≡ map said (written_entries g)
  text_says = ap (map line_says) lines-text ∙ said_all (written_entries g) (good_entries (entries g) plain fits)

  -- The stacks of its text are its entries that have a line.
  stacks_of_text : (ss : List Stack) → SaysStacks (text g) ss → ss ≡ map said (written_entries g)
  stacks_of_text ss h = entries_read (written_entries g) (good_entries (entries g) plain fits) ss
      (subst (λ (ls : List (List ℕ)). AreStacks ls ss) lines-text h)

  -- What is read of its text has its sizes, but for the root.
  pub reads_back : (h : Graph) → IsRead (text g) h → (k : Key) (p : Path) → size_at h (k ∷ p) ≡ size_at g (k ∷ p)
  reads_back h read k p =
      let found : size_at h (k ∷ p) ≡ bytes_at read.stacks (k ∷ p) =
      rw (read.graph (k ∷ p)) (grind (arith, bytes-absent read.stacks (k ∷ p))) in
      found ∙ ap (λ ss. bytes_at ss (k ∷ p)) (stacks_of_text read.stacks read.means) ∙ sym (size_said g k p)

  -- If it can be read, no line of its text is refused.
  pub never_refused : CanBeRead g → (n : ℕ) (w : LineFault) → IsFault (text g) n w → ⊥
  never_refused can n w fault =
      no_fault fault.before fault.line fault.rest (map said (written_entries g))
      (subst (λ (ls : List (List ℕ)). AreStacks ls (map said (written_entries g))) (sym lines-text ∙ fault.parts)
      (said_stacks (written_entries g) (good_entries (entries g) plain fits) can)) fault.some fault.none

  -- The bytes in its text never exceed a word.
  pub never_exceeds : Exceeds (text g) → ⊥
  never_exceeds e =
      let is = ap all_bytes (stacks_of_text e.stacks e.means)
      ∙ fold-map (λ n (s : Stack). n + s.size) said 0 (written_entries g) in
      let all = sum_by-filter_both is_shown (λ x. not (is_shown x)) (λ x. refl) (λ x. x.1) (entries g) in
      omega (arith, is, all, e.exceeds, fits)

-- Graphs with plain keys, totals that fit a word and one text have equal sizes at each path but the root.
pub text_tells : (g h : Graph) → HasPlainKeys g → HasPlainKeys h → HasWords g → HasWords h → text g ≡ text h →
    (k : Key) (p : Path) → size_at g (k ∷ p) ≡ size_at h (k ∷ p)
text_tells g h a b v w e k p =
    let same = sym (text_says g a v) ∙ ap (λ t. map line_says (lines t)) e ∙ text_says h b w in
    size_said g k p ∙ ap (λ ss. bytes_at ss (k ∷ p)) same ∙ sym (size_said h k p)

-- ---- lines dropped from a text are paths left out of it
-- What was read and what comes before the next line feed is one line. The rest is read as further lines.
pub line_read : (acc a rest : List ℕ) → Lacks 10 a → lines_from acc (a ++ 10 ∷ rest) ≡ (acc ++ a) ∷ lines_from [] rest
line_read acc [] rest h = λ i. sym (append-nil acc) i ∷ lines_from [] rest
line_read acc (b ∷ a) rest h = rw (ne_eqb b 10 h.0, line_read (acc ++ b ∷ []) a rest h.1) (simp append_assoc)

-- Lines of paths with plain keys, one after another, are read as these lines without their line feeds.
lines_read : (es : List Sized) → AllByRecursion (λ e. AllByRecursion Plain e.0) es →
    lines_from [] (flat_map full es) ≡ map body es
lines_read [] h = refl
lines_read (e ∷ es) h = ap (lines_from []) (append_assoc (body e) (10 ∷ []) (flat_map full es))
    ∙ line_read [] (body e) (flat_map full es) (body_lacks e h.0) ∙ (λ i. body e ∷ lines_read es h.1 i)

-- A path with plain keys ends in a key exactly if its text has that key after the last `;`.
last_of : (key k : Key) (p : Path) → AllByRecursion Plain (k ∷ p) →
    eq_by_cmp key_cmp key (after_last 59 [] (joined (k ∷ p))) ≡ ends_in key (k ∷ p)
last_of key k [] h = ap (eq_by_cmp key_cmp key) (after_lacking 59 [] k h.0.0)
last_of key k (l ∷ p) h = ap (eq_by_cmp key_cmp key) (after_skip 59 [] k (joined (l ∷ p))) ∙ last_of key l p h.1

-- ---- all lines
-- If all keys are plain, leaving out the paths that end in a key leaves out the lines with that last key.
drop_each : (key : Key) (es : List Sized) → AllByRecursion (λ e. AllByRecursion Plain e.0) es →
    flat_map (λ e. cond (ends_in key e.0) [] (line e)) es
    ≡ flat_map (λ l. cond (eq_by_cmp key_cmp key (last_key l)) [] (l ++ 10 ∷ [])) (map body (filter is_shown es))
drop_each key [] h = refl
drop_each key (([], n) ∷ es) h = drop_each key es h.1
drop_each key ((k ∷ p, n) ∷ es) h =
    let last : eq_by_cmp key_cmp key (last_key (body (k ∷ p, n))) ≡ ends_in key (k ∷ p) =
    ap (λ l. eq_by_cmp key_cmp key (after_last 59 [] l))
    (before_read 32 [] [] (joined (k ∷ p)) (decimal n) (decimal_lacks 32 n (omega arith))) ∙ last_of key k p h.0 in
    grind (arith, drop_each key es h.1, last)

-- If all keys are plain, the exact text is the text without the lines whose last key is `unused_capacity`.
pub exact_is : (g : Graph) → HasPlainKeys g → exact_text g ≡ without_lines (codes "unused_capacity") (text g)
exact_is g h =
    let plain = each-map (AllByRecursion Plain) (λ e. e.0) (entries g) h in
    let kept = recursion_from_All (λ e. AllByRecursion Plain e.0) (filter is_shown (entries g))
    (All-filter is_shown (λ e. AllByRecursion Plain e.0) (entries g) (All-from_recursion _ (entries g) plain)) in
    let lines = ap (lines_from []) (shown_lines (entries g)) ∙ lines_read (filter is_shown (entries g)) kept in
    drop_each (codes "unused_capacity") (entries g) plain
    ∙ ap (flat_map (λ l. cond (eq_by_cmp key_cmp (codes "unused_capacity") (last_key l)) [] (l ++ 10 ∷ [])))
    (sym lines)
