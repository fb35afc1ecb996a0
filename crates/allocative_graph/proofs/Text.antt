-- A text determines the sizes: it splits into lines at the line feeds, a line at its last space, and a path at each
-- `;`. What the walk of `write` has written so far.
use Rattle.std.proofs.Common.{◌≡◌, ◌≢◌, ℕ, zero, suc, ◌^◌, ◌<◌, ◌≤◌, ◌/◌, ◌%◌, ◌==◌, Bool, false, cond, not, ◌||◌, T}
use Rattle.std.proofs.Common.{IsTrue, List, [], ◌∷◌, ◌++◌, map, flat_map, filter, refl, ap, sym, ◌∙◌, arith, unwrap_or}
use Rattle.std.proofs.Common.{append_assoc, decimal, sum_by, if◌then◌else◌, ◌+◌, take, length, get_or, Bor, ◌-◌}
use Rattle.std.proofs.Common.{length-append, None}
use Rattle.allocative_graph.proofs.Common.{AllByRecursion, entries, get-entries, entries_sorted, find, is_sorted}
use Rattle.allocative_graph.proofs.Common.{below_all, first, second, Key, Path, path_cmp, is_same_path, Graph}
use Rattle.allocative_graph.proofs.Common.{text_of_entries, joined, is_root, size_at, Lacks, sum_by-cons, Child}
use Rattle.allocative_graph.proofs.Common.{under_rows, rows_of, rows_of_child, line_after, flat_map-append, Stack}
use Rattle.allocative_graph.proofs.Common.{bytes_at}
use Rattle.allocative_graph.proofs.Basics.{each-append, each-implies, on_test, same_path}
use Rattle.allocative_graph.specs.Graph.{line}
use Rattle.std.proofs.Math.Seq.{take-append_seam}
pub use Rattle.allocative_graph.specs.Path.{texts}
use Rattle.std.proofs.lemmas.{Bool.Decides.nat_tests, Grind.common_steps}
use Rattle.std.specs.{Fmt.digits, Fmt.digits_onto, Fmt.digit_glyph}
use Rattle.allocative_graph.proofs.{Sums.find-below_all, Children.rows-more}

-- ---- lists parted at a byte
-- A list with a byte in it does not lack that byte.
pub lacks_not : (c : ℕ) (a x : List ℕ) → Lacks c (a ++ c ∷ x) → ⊥
lacks_not c [] x f = f.0 refl
lacks_not c (d ∷ a) x f = lacks_not c a x f.1

-- ---- decimals
-- If all bytes of a list are at least 48, so are all once digits are written before them.
high_digits : (k n : ℕ) (acc : List ℕ) → AllByRecursion (λ b. 48 ≤ b) acc →
    AllByRecursion (λ b. 48 ≤ b) (digits_onto k 10 false n acc)
high_digits zero n acc h = h
high_digits (suc k) n acc h =
    on_test (λ t. AllByRecursion (λ b. 48 ≤ b)
    (if t then digit_glyph false (n % 10) ∷ acc else digits_onto k 10 false (n / 10)
    (digit_glyph false (n % 10) ∷ acc))) (n / 10 == 0)
    (λ e. (grind arith, h)) (λ e. high_digits k (n / 10) (digit_glyph false (n % 10) ∷ acc) (grind arith, h))

-- The decimal of a number has no byte below 48, so neither a space nor a line feed.
pub decimal_lacks : (c n : ℕ) → c < 48 → Lacks c (decimal n)
unfolding digits
decimal_lacks c n h = each-implies (λ b. 48 ≤ b) (λ b. b ≢ c) (λ b g e. omega (arith, h, g, e)) (decimal n)
    (high_digits 64 n [] tt)

-- ---- paths
abbrev pub Plain : Key → Type 0
Plain k = Lacks 59 k × Lacks 10 k

-- If all keys of a path are plain, the joined keys have no line feed.
joined_lacks : (p : Path) → AllByRecursion Plain p → Lacks 10 (joined p)
joined_lacks [] h = tt
joined_lacks (k ∷ []) h = h.0.1
joined_lacks (k ∷ l ∷ p) h = each-append (λ b. b ≢ 10) k _ h.0.1 ((λ e. omega (arith, e)), joined_lacks (l ∷ p) h.1)

-- ---- lines
abbrev pub Sized : Type 0
Sized = Path × ℕ

-- Whether an entry has a line: it is not the root, and has bytes.
abbrev pub is_shown : Sized → Bool
is_shown e = not (is_root e.0 || (e.1 == 0))

-- The line of an entry, with its end.
abbrev pub full : Sized → List ℕ
full e = joined e.0 ++ 32 ∷ decimal e.1 ++ 10 ∷ []

-- The line of an entry, without its end.
abbrev pub body : Sized → List ℕ
body e = joined e.0 ++ 32 ∷ decimal e.1

-- The text of some entries is the lines of those that are shown.
pub shown_lines : (es : List Sized) → text_of_entries es ≡ flat_map full (filter is_shown es)
shown_lines [] = refl
shown_lines (e ∷ es) = grind (arith, shown_lines es)

-- An entry that has a line, keys without separators, and a size that fits a word.
pub record Good (e : Sized) : Type 0 where
  pub shows : IsTrue (is_shown e)
  pub plain : AllByRecursion Plain e.0
  pub word : e.1 < 2 ^ 64

-- If the keys of an entry are plain, its line has no line feed but the one at its end.
pub body_lacks : (e : Sized) → AllByRecursion Plain e.0 → Lacks 10 (body e)
body_lacks e h = each-append (λ b. b ≢ 10) (joined e.0) _ (joined_lacks e.0 h)
    ((λ g. omega (arith, g)), decimal_lacks 10 e.1 (omega arith))

-- ---- the entries that have a line
abbrev pub written_entries : Graph → List Sized
written_entries g = filter is_shown (entries g)

-- If the keys are plain and all sizes together fit a word, each entry that is shown is good.
pub good_entries : (es : List Sized) → AllByRecursion (λ p. AllByRecursion Plain p) (map (λ e. e.0) es) →
    sum_by (λ e. e.1) es < 2 ^ 64 → AllByRecursion Good (filter is_shown es)
good_entries [] a b = tt
good_entries (e ∷ es) a b =
    let parts = sum_by-cons (λ e. e.1) e es in
    let rest = good_entries es a.1 (omega (arith, parts)) in
    on_test (λ t. AllByRecursion Good (cond t (e ∷ filter is_shown es) (filter is_shown es))) (is_shown e)
    (λ h. (record { shows = h; plain = a.0; word = omega (arith, parts) }, rest)) (λ h. rest)

-- ---- a size is that of the line at its path
-- What an entry says.
abbrev pub said : Sized → Stack
said e = record { path = e.0; size = e.1 }

-- The size found at a path but the root, among entries in order, is the bytes of the stacks shown there.
shown-find : (k : Key) (p : Path) (es : List Sized) → T (is_sorted path_cmp es) →
    bytes_at (map said (filter is_shown es)) (k ∷ p) ≡ unwrap_or (find path_cmp (k ∷ p) es) 0
shown-find k p [] h = refl
shown-find k p (([], n) ∷ es) h = shown-find k p es (second (below_all path_cmp [] es) _ h)
shown-find k p ((l ∷ q, n) ∷ es) h =
    let rest = shown-find k p es (second (below_all path_cmp (l ∷ q) es) _ h) in
    let none = find-below_all path_cmp (l ∷ q) es (first (below_all path_cmp (l ∷ q) es) (is_sorted path_cmp es) h) in
    let more = sum_by-cons (λ (s : Stack). cond (is_same_path (k ∷ p) s.path) s.size 0) (said (l ∷ q, n)) in
    grind (arith, nat_tests, rest, none, same_path (k ∷ p) (l ∷ q), more (map said (filter is_shown es)))

-- A size of a graph, but for the root's, is that of the stacks that its lines say.
pub size_said : (g : Graph) (k : Key) (p : Path) → size_at g (k ∷ p) ≡ bytes_at (map said (written_entries g)) (k ∷ p)
size_said g k p = ap (λ o. unwrap_or o 0) (get-entries g (k ∷ p))
    ∙ sym (shown-find k p (entries g) (entries_sorted g))

-- ---- what the walk of `write` has written so far
-- Rows behind another one have no root, so the key before them can be written before their lines.
deeper_lines : (t : List ℕ) (k : Key) (p : Path) (es : List (Path × ℕ)) → T (below_all path_cmp p es) →
    (find path_cmp [] es ≡ None)
    × (flat_map (line_after ((t ++ k) ++ 59 ∷ [])) es ≡ flat_map (line_after t) (under_rows k es))
deeper_lines t k p [] h = (refl, refl)
deeper_lines t k [] (([], n) ∷ es) h = absurd h
deeper_lines t k (l ∷ p) (([], n) ∷ es) h = absurd h
deeper_lines t k p ((l ∷ q, n) ∷ es) h =
    let rest = deeper_lines t k p es (second _ _ h) in
    (rest.0, rw rest.1 (simp append_assoc))

-- The line of a child's own path, and then the lines of the paths below it.
pub child_lines : (t : List ℕ) (k : Key) (es : List (Path × ℕ)) → T (is_sorted path_cmp es) →
    line ((t ++ k) ∷ [], unwrap_or (find path_cmp [] es) 0) ++ flat_map (line_after ((t ++ k) ++ 59 ∷ [])) es
    ≡ flat_map (line_after t) (under_rows k es)
child_lines t k [] h = refl
child_lines t k (([], n) ∷ es) h = rw (deeper_lines t k [] es (first _ _ h)).1 (simp append_assoc)
child_lines t k ((l ∷ q, n) ∷ es) h =
    let rest = deeper_lines t k (l ∷ q) es (first _ _ h) in
    rw (rest.0, rest.1) (simp append_assoc)

-- The text after one more child, if F gives the line of a row.
pub child_written : (F : Path × ℕ → List ℕ) (cs : List Child) (i : ℕ) (d : Child) (before : List ℕ) → i < length cs →
    d ≡ get_or cs i d
    → (before ++ flat_map F (rows_of (take i cs))) ++ flat_map F (rows_of_child d)
    ≡ before ++ flat_map F (rows_of (take (i + 1) cs))
child_written F cs i d before h at =
    rw (rows-more cs i d h, ← at, flat_map-append F (rows_of (take i cs)) (rows_of_child d)) (append_assoc before _ _)

-- What is kept of a line is its start if as many bytes are kept as the start has.
pub kept_of_start : (start key more : List ℕ) {n : ℕ} {s : List ℕ} → n ≡ length start → s ≡ (start ++ key) ++ more →
    take n s ≡ start
kept_of_start start key more len longer =
    (λ i. take (len i) ((longer ∙ append_assoc start key more) i)) ∙ take-append_seam start (key ++ more)

-- What the line of a path is, by the test of its size.
pub ruleset of_lines = (nat_tests, common_steps)

-- A key pushed after the others is removed again.
pub popped : (xs ys zs : List (Bor (List ℕ))) (x : Bor (List ℕ)) (n : ℕ) → zs ≡ take (n - 1) ys → n ≡ length ys →
    ys ≡ xs ++ x ∷ [] → zs ≡ xs
popped xs ys zs x n rest len push =
    let l : n - 1 ≡ length xs = omega (arith, length-append xs (x ∷ []), ap length push) in
    rest ∙ ap (λ k. take k ys) l ∙ ap (λ s. take (length xs) s) push ∙ take-append_seam xs (x ∷ [])
