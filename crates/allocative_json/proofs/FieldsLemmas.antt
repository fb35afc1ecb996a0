-- The graphs of fields: their totals, why they are refused, the documents of a text, and what a run makes of them.
use Rattle.std.proofs.Common.{◌≡◌, ℕ, ◌+◌, ◌^◌, ◌<◌, ◌≤◌, ◌==◌, Bool, true, false, List, [], ◌∷◌, ◌++◌, length, get_or}
use Rattle.std.proofs.Common.{take, map, Bor, Option, None, Some, Result, Ok, Err, IfErr, IfSome, IsErrAnd, inl}
use Rattle.std.proofs.Common.{inr, MatchResult, unwrap_or, refl, sym, ap, subst, subst₂, ◌∙◌, arith, append-nil}
use Rattle.std.proofs.Common.{option_map, take_all, ◌-◌, String, Global, string_bytes, IfOk, All, ◌≢◌, codes, append_assoc, length-append, ne_eqb}
use Rattle.allocative_json.proofs.Common.{fold-map, Graph, default, add_self, total, sum_of_all}
use Rattle.allocative_json.proofs.Common.{Child, total-add_at, total-default, total-all, view, Value, Fault, fault_of}
use Rattle.allocative_json.proofs.Common.{StopsReading, bytes_alone, all_fields, is_blank, filled, lines_in, texts_of, map_push, fold-append}
use Rattle.allocative_json.proofs.Common.{AreDocuments, AddsDocument, AddsLine, RefusesLine, TakesLine, WritesSum, Makes, value_below, fields_of, RefusesDocument, RefusesGraph, RefusesFields}
use Rattle.allocative_json.proofs.Common.{MayEndFields, IfErr-weaker, IfOk-weaker}
use Rattle.allocative_json.specs.Fields.{AreFields, AreFieldsFor}
use Rattle.std.proofs.lemmas.Bool.{eqb-false}
use Rattle.std.proofs.lemmas.List.Elements.{filter-append, All-weaker, All-nil, All-more}
use Rattle.std.specs.Io.{StopsAt}
use Rattle.std.specs.Option.{option_eq}
use Rattle.std.proofs.lemmas.List.Splits.{slice_split_none, slice_split_at}
use Rattle.std.proofs.lemmas.List.Sums.{sum_by_more_le}
use Rattle.std.proofs.BufReadLemmas.{take_through-append, take_through-nil}
use Rattle.std.proofs.KnownBytes.{Consumes-nil, Consumes-trans}
use Rattle.std.specs.Io.BufRead.{take_through}
use Rattle.std.specs.Io.KnownBytes.{Consumes}
use Rattle.allocative_graph.specs.Graph.{sum_of, under, text}
use Rattle.allocative_graph.specs.declared.refusal.Refusal.{Refusal}
use Rattle.allocative_json.specs.declared.fault.Fault.TheVariants.{Memory, Reading}
use Rattle.allocative_json.specs.declared.fields.FieldsFault.{FieldsFault}
use Rattle.allocative_json.specs.declared.fields.FieldsFault.TheVariants.{NotJson, Other}
use Rattle.allocative_json.specs.Roots.{IsDocument}
use Rattle.allocative_json.proofs.Reports.{some_text}
use Rattle.allocative_graph.specs.declared.refusal.Refusal.TheVariants as refused

-- ---- totals
-- The total of a graph whose root alone has bytes is these bytes.
pub total-bytes_alone : (n : ℕ) → total (bytes_alone n) ≡ n
total-bytes_alone n = omega (arith, total-add_at default ([], n), total-default)

-- Bytes added to the root add to the total.
pub total-add_self : (n : ℕ) (g : Graph) → total (add_self n g) ≡ total g + n
total-add_self n g = total-add_at g ([], n)

-- The bytes before any child are within those of all.
pub start_within : (start : Graph) (cs : List Child) → total start ≤ total (sum_of_all start cs)
start_within start cs = omega (arith, total-all start cs)

-- The bytes of the children so far and of the next one are within those of all.
pub more_within : {X : Type 0} (f : X → Child) (start : Graph) (xs : List X) (i : ℕ) (x : X) → i < length xs →
    x ≡ get_or xs i x
    → total (sum_of_all start (map f (take i xs))) + total (f x).graph ≤ total (sum_of_all start (map f xs))
more_within {X} f start xs i x within here =
    let bytes : X → ℕ = λ y. total (f y).graph in
    let same : bytes x ≡ bytes (get_or xs i x) = ap bytes here in
    omega (
      arith,
      same,
      total-all start (map f (take i xs)),
      total-all start (map f xs),
      fold-map (λ n (c : Child). n + total c.graph) f 0 (take i xs),
      fold-map (λ n (c : Child). n + total c.graph) f 0 xs,
      sum_by_more_le bytes xs i x within,
    )

-- ---- refusals
-- A refusal of a graph is one of a graph with as many bytes.
pub refused_more : {T : Type 0} (y : T) (g h : Graph) (x : Result T Refusal) (r : Refusal) → IsErrAnd x (λ q. q ≡ r) →
    total g ≤ total h → RefusesGraph g r → MatchResult x (λ made. made ≡ y) (RefusesGraph h)
refused_more y g h (Ok z) r is within e = absurd is
refused_more y g h (Err q) refused.Memory is within e = subst (RefusesGraph h) (sym is) tt
refused_more y g h (Err q) refused.TooLarge is within e =
    let exceeds : 2 ^ 64 ≤ total h = omega (arith, e) in subst (RefusesGraph h) (sym is) exceeds
refused_more y g h (Err q) refused.Open is within e = absurd e

-- A refusal to add bytes is one of a graph that has them.
pub refused_sum : {S T : Type 0} (y : T) (h : Graph) (bytes : ℕ) (x : Result T Refusal) (r : Refusal) →
    IsErrAnd x (λ q. q ≡ r) → (◌≡◌ {A = Result S Refusal} (Err r) (Err refused.TooLarge) → 2 ^ 64 ≤ bytes) →
    (◌≡◌ {A = Result S Refusal} (Err r) (Err refused.Open) → ⊥) → bytes ≤ total h →
    MatchResult x (λ made. made ≡ y) (RefusesGraph h)
refused_sum y h bytes (Ok z) r is large never within = absurd is
refused_sum y h bytes (Err q) refused.Memory is large never within = subst (RefusesGraph h) (sym is) tt
refused_sum y h bytes (Err q) refused.TooLarge is large never within =
    let exceeds : 2 ^ 64 ≤ total h = omega (arith, large refl) in subst (RefusesGraph h) (sym is) exceeds
refused_sum y h bytes (Err q) refused.Open is large never within = absurd (never refl)

-- The lemmas by which a graph is refused.
pub ruleset refusing = (refused_more, refused_sum, start_within, total-bytes_alone, total-add_self, total-all)

-- ---- documents
-- One document more is one child more.
all_push : (vs : List Value) (v : Value) →
    all_fields (vs ++ v ∷ []) ≡ sum_of_all (all_fields vs) (value_below (codes "$") v ∷ [])
all_push vs v = ap (sum_of_all default) (map_push (value_below (codes "$")) vs v)
    ∙ fold-append (λ h (c : Child). sum_of h (under c.key c.graph)) default (map (value_below (codes "$")) vs)
    (value_below (codes "$") v ∷ [])

-- The bytes of one document more.
total_push : (vs : List Value) (v : Value) →
    total (all_fields (vs ++ v ∷ [])) ≡ total (all_fields vs) + total (fields_of v)
total_push vs v = omega (arith, ap total (all_push vs v), total-all (all_fields vs) (value_below (codes "$") v ∷ []))

-- A sum that is refused stays so.
pub adds_refused : (v : Value) (e : Refusal) (r : Result Graph Refusal) → IsErrAnd r (λ q. q ≡ e) →
    AddsDocument v (Err e) r
adds_refused v e r is vs h =
    refused_more _ (all_fields vs) (all_fields (vs ++ v ∷ [])) r e is (omega (arith, total_push vs v)) h

-- The graph of the document is refused.
pub adds_unmade : (v : Value) (g : Graph) (e : Refusal) (r : Result Graph Refusal) → IsErrAnd r (λ q. q ≡ e) →
    RefusesGraph (fields_of v) e → AddsDocument v (Ok g) r
adds_unmade v g e r is refuses vs h =
    refused_more _ (fields_of v) (all_fields (vs ++ v ∷ [])) r e is (omega (arith, total_push vs v)) refuses

-- Adding that graph is refused.
pub adds_unadded : (v : Value) (g made : Graph) (e : Refusal) (r : Result Graph Refusal) → IsErrAnd r (λ q. q ≡ e) →
    (◌≡◌ {A = Result Unit Refusal} (Err e) (Err refused.TooLarge) → 2 ^ 64 ≤ total g + total made) →
    (◌≡◌ {A = Result Unit Refusal} (Err e) (Err refused.Open) → ⊥) → made ≡ fields_of v → AddsDocument v (Ok g) r
adds_unadded v g made e r is large never same vs h =
    refused_sum _ (all_fields (vs ++ v ∷ [])) (total g + total made) r e is large never
    (omega (arith, total_push vs v, ap total h, ap total same))

-- The graph is added.
pub adds_made : (v : Value) (g made sum : Graph) → made ≡ fields_of v → sum ≡ sum_of g (under (codes "$") made) →
    AddsDocument v (Ok g) (Ok sum)
adds_made v g made sum same e vs h = e ∙ (λ i. sum_of (h i) (under (codes "$") (same i))) ∙ sym (all_push vs v)

-- The lemmas by which a document is added.
pub ruleset adding = (adds_refused, adds_unmade, adds_unadded, adds_made)

-- The refusal of a sum is told.
pub writes_refused : (e : Refusal) (r : Result (String Global) FieldsFault) → IsErrAnd r (λ f. f ≡ Other (fault_of e)) →
    WritesSum (Err e) r
writes_refused e (Ok s) is g h = absurd is
writes_refused e (Err f) is g h = (e, h, is)

-- Its text is made, or memory runs out.
pub writes_text : (made : Graph) (r : Result (String Global) FieldsFault) →
    MatchResult r (λ s. string_bytes s ≡ text made) (λ f. f ≡ Other Memory) → WritesSum (Ok made) r
writes_text made (Ok s) is g h = is ∙ ap text h
writes_text made (Err f) is g h = (refused.Memory, tt, is)

-- The lemmas by which the text of a sum is made.
pub ruleset writing = (writes_refused, writes_text)

-- If an input is not read as one document, it has no fields.
pub stops_whole : {T : Type 0} (input : List ℕ) (f : FieldsFault) (r : Result T FieldsFault) →
    RefusesDocument input None f → IsErrAnd r (λ g. g ≡ f) → IfErr r (RefusesFields false input)
stops_whole input f (Ok y) h is = tt
stops_whole input (NotJson line column said) (Err g) h is = subst (RefusesFields false input) (sym is) h.0
stops_whole input (Other Memory) (Err g) h is = subst (RefusesFields false input) (sym is) h
stops_whole input (Other f) (Err g) h is = absurd h

-- A line that is given is the one that is told.
pub given_line : (given : Option ℕ) (n line : ℕ) → line ≡ unwrap_or given n → IfSome given (λ k. line ≡ k)
given_line None n line e = tt
given_line (Some k) n line e = e

-- The lemmas by which documents are read.
pub ruleset reading = (some_text, given_line, stops_whole)

-- ---- a run
-- If the graph of the documents is refused, there is no text of the fields.
pub refused_fields : (by_lines : Bool) (input : List ℕ) (vs : List Value) (r : Refusal) (f : Fault) → f ≡ fault_of r →
    AreDocuments (texts_of by_lines input) vs → RefusesGraph (all_fields vs) r → RefusesFields by_lines input (Other f)
refused_fields true input vs refused.Memory f e d h = rw e tt
refused_fields false input [] refused.Memory f e d h = absurd d
refused_fields false input (v ∷ vs) refused.Memory f e d h = rw e (some_text input (view v) d.0)
refused_fields true input vs refused.TooLarge f e d h = rw e (vs, d, h)
refused_fields false input vs refused.TooLarge f e d h = rw e (vs, d, h)
refused_fields by_lines input vs refused.Open f e d h = absurd h

-- The text of the sum of the documents of an input is that of its fields, or there is none.
pub written : (by_lines : Bool) (input : List ℕ) (vs : List Value) (r : Result (String Global) FieldsFault) →
    AreDocuments (texts_of by_lines input) vs →
    MatchResult r (λ made. string_bytes made ≡ text (all_fields vs))
    (λ f. (e : Refusal) × RefusesGraph (all_fields vs) e × (f ≡ Other (fault_of e))) →
    IfOk r (λ made. AreFields by_lines input (string_bytes made)) × IfErr r (RefusesFields by_lines input)
written by_lines input vs (Ok s) d m = (record { documents = vs; are_read = d; is_text = m }, tt)
written by_lines input vs (Err f) d (e, refuses, is) =
    (tt, subst (RefusesFields by_lines input) (sym is) (refused_fields by_lines input vs e (fault_of e) refl d refuses))

-- A fault of reading may end a run by lines, whatever was read.
lines_stop : (known : Option (List ℕ)) (f : Fault) → StopsReading None f → MayEndFields (Some true) known (Other f)
lines_stop None Memory h = inr ([], tt, tt)
lines_stop (Some bytes) Memory h = inr (bytes, refl, tt)
lines_stop known Reading h = inl refl
lines_stop known f h = absurd h

-- A fault of reading may end a run.
reading_stops : (by_lines : Bool) (known : Option (List ℕ)) (f : Fault) → StopsReading known f →
    MayEndFields (Some by_lines) known (Other f)
reading_stops true known Memory h = lines_stop known Memory tt
reading_stops false None Memory h = inr (0 ∷ [], tt, omega arith)
reading_stops false (Some bytes) Memory h = inr (bytes, refl, h)
reading_stops by_lines known Reading h = inl refl
reading_stops by_lines known f h = absurd h

-- If lines are asked for, memory for the reader's buffer may run out.
pub unbuffered : (asked : Option Bool) (by_lines : Bool) (known : Option (List ℕ)) → asked ≡ Some by_lines →
    by_lines ≡ true → MayEndFields asked known (Other Memory)
unbuffered asked by_lines known is e = rw (is, e) (lines_stop known Memory tt)

-- If the words are accepted, a fault of reading ends a run.
pub stops_reading : {T : Type 0} (asked : Option Bool) (by_lines : Bool) (known : Option (List ℕ)) (f : Fault)
    (r : Result T FieldsFault) → asked ≡ Some by_lines → IsErrAnd r (λ g. g ≡ Other f) → StopsReading known f →
    IfErr r (MayEndFields asked known)
stops_reading asked by_lines known f (Ok x) is e h = tt
stops_reading asked by_lines known f (Err g) is e h =
    subst₂ (λ (o : Option Bool) (k : FieldsFault). MayEndFields o known k) (sym is) (sym e)
    (reading_stops by_lines known f h)

-- A fault of the fields of the input that was read ends a run.
pub refused_for : {T : Type 0} (asked : Option Bool) (by_lines : Bool) (known : Option (List ℕ)) (input : List ℕ)
    (r : Result T FieldsFault) → asked ≡ Some by_lines → IfSome known (λ bytes. input ≡ bytes) →
    IfErr r (RefusesFields by_lines input) → IfErr r (MayEndFields asked known)
refused_for asked by_lines known input r is read e = rw is (IfErr-weaker r _ _ (λ f h. inr (input, read, h)) e)

-- The text of the fields of the input that was read is one for the reader's bytes.
pub fields_for : (asked : Option Bool) (by_lines : Bool) (known : Option (List ℕ)) (input : List ℕ)
    (r : Result (String Global) FieldsFault) → asked ≡ Some by_lines → IfSome known (λ bytes. input ≡ bytes) →
    IfOk r (λ made. AreFields by_lines input (string_bytes made)) →
    IfOk r (λ made. AreFieldsFor asked known (string_bytes made))
fields_for asked by_lines known input r is read e = IfOk-weaker r _ _
    (λ made h. record { by_lines = by_lines; is_asked = is; input = input; is_read = read; fields = h }) e

-- The lemmas by which the text of the fields and its faults are those of a run.
pub ruleset run_of_fields = (stops_reading, unbuffered, refused_for, fields_for)

-- ---- lines
-- No byte of a line is a line feed.
no_feed : (l : List ℕ) → All (λ b. b ≢ 10) l → All (λ b. (b == 10) ≡ false) l
no_feed l h = All-weaker _ _ (λ b n. ne_eqb b 10 n) l h

-- A line without a line feed is one line.
one_line : (l : List ℕ) → All (λ b. b ≢ 10) l → lines_in l ≡ l ∷ []
one_line l h = slice_split_none (λ b. b == 10) l (no_feed l h)

-- It ends at a line feed.
first_line : (l rest : List ℕ) → All (λ b. b ≢ 10) l → lines_in (l ++ 10 ∷ rest) ≡ l ∷ lines_in rest
first_line l rest h = slice_split_at (λ b. b == 10) l 10 rest (no_feed l h) refl

-- What is left of a reader's known bytes.
consumes_all : (known now : Option (List ℕ)) (t : List ℕ) → Consumes known now t →
    IfSome known (λ bytes. bytes ≡ t ++ unwrap_or now [])
consumes_all None now t h = tt
consumes_all (Some xs) None t h = absurd h
consumes_all (Some xs) (Some ys) t h = h

-- The known bytes are those that were taken, and then those that were left.
all_known : (known now : Option (List ℕ)) (t rest : List ℕ) → Consumes known now t →
    IfSome now (λ bytes. bytes ≡ rest) → IfSome known (λ bytes. t ++ rest ≡ bytes)
all_known None now t rest h e = tt
all_known (Some xs) None t rest h e = absurd h
all_known (Some xs) (Some ys) t rest h e = sym (h ∙ ap (λ l. t ++ l) e)

-- If what is read up to a line feed has none, it is all that the reader had.
pub at_end : (known now : Option (List ℕ)) (l : List ℕ) → Consumes known now l →
    IfSome known (λ xs. l ≡ take_through 10 xs) → All (λ b. b ≢ 10) l → IfSome known (λ xs. xs ≡ l)
at_end None now l t e h = tt
at_end (Some xs) None l t e h = absurd t
at_end (Some xs) (Some ys) l t e h =
    let all = e ∙ ap (take_through 10) t ∙ take_through-append 10 l ys h in
    t ∙ ap (λ r. l ++ r) (take_through-nil 10 ys (omega (arith, ap length all, length-append l (take_through 10 ys))))
    ∙ append-nil l

-- The lines of a reader up to some place: what was taken of it, the documents of these lines, and their sum.
pub record SumsLines (known now : Option (List ℕ)) (next : ℕ) (sum : Result Graph Refusal) : Type 0 where
  pub bytes : List ℕ
  pub lines : List (List ℕ)
  pub documents : List Value
  pub counted : next ≡ length lines + 1
  pub parts : (rest : List ℕ) → lines_in (bytes ++ rest) ≡ lines ++ lines_in rest
  pub taken : Consumes known now bytes
  pub are : AreDocuments (filled lines) documents
  pub made : Makes (all_fields documents) sum

-- Nothing is read yet.
pub no_lines : (known : Option (List ℕ)) (g : Graph) → g ≡ default → SumsLines known known 1 (Ok g)
no_lines known g e = record {
  bytes = [];
  lines = [];
  documents = [];
  counted = refl;
  parts = λ rest. refl;
  taken = Consumes-nil known;
  are = tt;
  made = e;
}

-- A blank line adds nothing.
pub adds_blank : (l : List ℕ) (sum : Result Graph Refusal) → true ≡ is_blank l → AddsLine l sum sum
adds_blank l sum e vs h = ([], rw (← e) tt, rw append-nil h)

-- A line that is read adds its document.
pub adds_line : (l : List ℕ) (v : Value) (old new : Result Graph Refusal) → false ≡ is_blank l → IsDocument l (view v) →
    AddsDocument v old new → AddsLine l old new
adds_line l v old new e is a vs h = (v ∷ [], rw (← e) (is, tt), a vs h)

-- The lemmas by which a line is added.
pub ruleset adding_lines = (adds_blank, adds_line)

-- The documents of some texts, and of some more.
all_zipped_append : (ts : List (List ℕ)) (vs : List Value) (us : List (List ℕ)) (ws : List Value) →
    AreDocuments ts vs → AreDocuments us ws → AreDocuments (ts ++ us) (vs ++ ws)
all_zipped_append [] [] us ws h k = k
all_zipped_append [] (v ∷ vs) us ws h k = absurd h
all_zipped_append (t ∷ ts) [] us ws h k = absurd h
all_zipped_append (t ∷ ts) (v ∷ vs) us ws h k = (h.0, all_zipped_append ts vs us ws h.1 k)

-- The documents of one line more.
more_documents : (ls : List (List ℕ)) (l : List ℕ) (vs more : List Value) → AreDocuments (filled ls) vs →
    AreDocuments (filled (l ∷ [])) more → AreDocuments (filled (ls ++ l ∷ [])) (vs ++ more)
more_documents ls l vs more h m = rw filter-append (all_zipped_append (filled ls) vs (filled (l ∷ [])) more h m)

-- One line more is read.
pub one_more_line : (known now next : Option (List ℕ)) (n : ℕ) (is_ended : Bool) (l : List ℕ)
    (old new : Result Graph Refusal) → SumsLines known now n old → TakesLine is_ended now next l → is_ended ≡ true →
    AddsLine l old new → SumsLines known next (n + 1) new
one_more_line known now next n is_ended l old new h takes ended a =
    let (more, are, made) = a h.documents h.made in
    let t = subst (λ (b : Bool). TakesLine b now next l) ended takes in
    record {
      bytes = h.bytes ++ (l ++ 10 ∷ []);
      lines = h.lines ++ l ∷ [];
      documents = h.documents ++ more;
      counted = omega (arith, h.counted, length-append h.lines (l ∷ []));
      parts = λ rest. ap lines_in (append_assoc h.bytes (l ++ 10 ∷ []) rest
          ∙ ap (λ r. h.bytes ++ r) (append_assoc l (10 ∷ []) rest)) ∙ h.parts (l ++ 10 ∷ rest)
          ∙ ap (λ r. h.lines ++ r) (first_line l rest t.one) ∙ sym (append_assoc h.lines (l ∷ []) (lines_in rest));
      taken = Consumes-trans known now next h.bytes (l ++ 10 ∷ []) h.taken t.taken;
      are = more_documents h.lines l h.documents more h.are are;
      made = made;
    }

-- The last line is read, and the text of the sum is made.
pub last_line : (known now next : Option (List ℕ)) (n : ℕ) (is_ended : Bool) (l : List ℕ)
    (old new : Result Graph Refusal) (r : Result (String Global) FieldsFault) → SumsLines known now n old →
    TakesLine is_ended now next l → is_ended ≡ false → AddsLine l old new → WritesSum new r →
    IfOk r (λ made. AreFieldsFor (Some true) known (string_bytes made)) × IfErr r (MayEndFields (Some true) known)
last_line known now next n is_ended l old new r h t unended a w =
    let (more, are, made) = a h.documents h.made in
    let parts : lines_in (h.bytes ++ l) ≡ h.lines ++ l ∷ [] =
    h.parts l ∙ ap (λ rest. h.lines ++ rest) (one_line l t.one) in
    let documents : AreDocuments (texts_of true (h.bytes ++ l)) (h.documents ++ more) =
    rw parts (more_documents h.lines l h.documents more h.are are) in
    let fields = written true (h.bytes ++ l) (h.documents ++ more) r documents (w _ made) in
    let read = all_known known now h.bytes l h.taken (t.last unended) in (
      fields_for (Some true) true known _ r refl read fields.0,
      refused_for (Some true) true known _ r refl read fields.1,
    )

-- A line is no document.
pub wrong_line : {T : Type 0} (known now next : Option (List ℕ)) (n : ℕ) (is_ended : Bool) (l : List ℕ)
    (sum : Result Graph Refusal) (f : FieldsFault) (r : Result T FieldsFault) → SumsLines known now n sum →
    TakesLine is_ended now next l → RefusesLine l n f → IsErrAnd r (λ g. g ≡ f) →
    IfErr r (MayEndFields (Some true) known)
wrong_line known now next n is_ended l sum f (Ok x) h t none is = tt
wrong_line known now next n true l sum (NotJson line column said) (Err g) h t none is =
    let rest = unwrap_or next [] in
    subst (MayEndFields (Some true) known) (sym is) (inr (
      h.bytes ++ ((l ++ 10 ∷ []) ++ rest),
      all_known known now h.bytes _ h.taken (consumes_all now next (l ++ 10 ∷ []) t.taken),
      record {
        earlier = h.lines;
        documents = h.documents;
        line = l;
        later = lines_in rest;
        parts = h.parts ((l ++ 10 ∷ []) ++ rest) ∙ ap (λ ls. h.lines ++ ls) (ap lines_in (append_assoc l (10 ∷ []) rest)
            ∙ first_line l rest t.one);
        are = h.are;
        some = none.0;
        none = none.1.0;
        counted = none.1.1 ∙ h.counted;
      },
    ))
wrong_line known now next n false l sum (NotJson line column said) (Err g) h t none is =
    subst (MayEndFields (Some true) known) (sym is) (inr (
      h.bytes ++ l,
      all_known known now h.bytes l h.taken (t.last refl),
      record {
        earlier = h.lines;
        documents = h.documents;
        line = l;
        later = [];
        parts = h.parts l ∙ ap (λ ls. h.lines ++ ls) (one_line l t.one);
        are = h.are;
        some = none.0;
        none = none.1.0;
        counted = none.1.1 ∙ h.counted;
      },
    ))
wrong_line known now next n is_ended l sum (Other Memory) (Err g) h t none is =
    subst (MayEndFields (Some true) known) (sym is) (lines_stop known Memory tt)
wrong_line known now next n is_ended l sum (Other f) (Err g) h t none is = absurd none.1

-- A line is not read.
pub unread_line : {T : Type 0} (known : Option (List ℕ)) (f : Fault) (r : Result T FieldsFault) → StopsReading None f →
    IsErrAnd r (λ g. g ≡ Other f) → IfErr r (MayEndFields (Some true) known)
unread_line known f (Ok x) h is = tt
unread_line known f (Err g) h is = subst (MayEndFields (Some true) known) (sym is) (lines_stop known f h)

-- The lemmas by which lines are read one by one.
pub ruleset by_lines = (no_lines, unread_line)

-- ---- the end of a line
-- A byte that is not the last one of a line, or 0, is no line feed.
other_byte : (o : Option (Bor ℕ)) (feed : Bor ℕ) (n : ℕ) → unwrap_or (option_map (λ (b : Bor ℕ). b.now) o) 0 ≡ n →
    feed.now ≡ 10 → false ≡ option_eq (λ (x y : Bor ℕ). x.now == y.now) o (Some feed) → n ≢ 10
other_byte None feed n e f h k = omega (arith, e, k)
other_byte (Some b) feed n e f h k = eqb-false b.now feed.now (sym h) (e ∙ k ∙ sym f)

-- If what is read up to a line feed does not end in one, it has none.
pub unended : (xs : List ℕ) (o : Option (Bor ℕ)) (feed : Bor ℕ) →
    unwrap_or (option_map (λ (b : Bor ℕ). b.now) o) 0 ≡ get_or xs (length xs - 1) 0 → feed.now ≡ 10 →
    false ≡ option_eq (λ (x y : Bor ℕ). x.now == y.now) o (Some feed) → StopsAt xs 10 → All (λ b. b ≢ 10) xs
unended [] o feed e f h s = All-nil (λ b. b ≢ 10)
unended (x ∷ xs) o feed e f h s =
    let all = take_all (length (x ∷ xs) - 1 + 1) (x ∷ xs) (omega arith) in
    subst (All (λ b. b ≢ 10)) all (All-more (λ b. b ≢ 10) (x ∷ xs) (length (x ∷ xs) - 1) 0 (omega arith) s
    (other_byte o feed _ e f h))
