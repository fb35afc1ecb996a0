-- of add_up: the step of its loop
use Rattle.std.proofs.Common.{◌≡◌, ◌++◌, [], List, Bor, ℕ, get_or, ap, ◌∙◌, lit<, Ok}
use Rattle.allocative_graph.proofs.Common.{YieldsList-from_str_split, Line, Path, sum_of, graph_of_path, take_more}
use Rattle.allocative_graph.specs.Read.{keys_of}
use Rattle.std.proofs.lemmas.{Iterator.Adapters.fact_from_extend, Iterator.Consumers.YieldsList-at}
use Rattle.allocative_graph.proofs.{Text.texts, ReadBack.line_more}
use Rattle.allocative_graph.proofs.read.add_up.Goals as goal

-- What the code reads behind the last line.
abbrev no_line : Line
no_line = record { path = record { ref_ptr = (0, 0); now = [] }; size = 0 }

pub loop-line-preserved : goal.loop-line-preserved
loop-line-preserved c =
    let lines = c.args.lines.now in
    let i = c.loop-line.line-index in
    let line : Line = get_or lines i no_line in
    let road = YieldsList-from_str_split 59 line.path.now (lit< tt) c.split.ensures.text c.split.ensures.has_more
    c.split.ensures.pattern in
    let keys : texts c.extend.new.self.items ≡ keys_of line.path.now =
    fact_from_extend {E = Unit {0}} (λ (k : Bor (List ℕ)). k.now) (Ok c.in_ok-extend.field-0)
    c.in_ok-extend.ensures.ran
    (λ it is. YieldsList-at is road) (λ xs all gives. ap texts (gives.0 ∙ ap (λ ks. ks ++ xs) c.clear.ensures.items)
    ∙ all) in
    line_more lines i line c.loop-line.graph c.add_at.new.graph (take_more lines i no_line c.loop-line-test.true)
    c.loop-line.invariant
    (c.in_ok-add_at.ensures.sum ∙ ap (λ (ks : Path). sum_of c.loop-line.graph (graph_of_path ks line.size))
    (ap texts c.as_slice.ensures.value ∙ keys))
