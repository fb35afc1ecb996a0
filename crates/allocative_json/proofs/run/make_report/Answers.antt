-- of make_report: err
use Rattle.std.proofs.Common.{◌≡◌, IfSome}
use Rattle.allocative_json.proofs.Common.{words_of}
use Rattle.allocative_json.proofs.Reports.{refuses_run}
use Rattle.allocative_json.proofs.run.make_report.Goals as goal

-- The error is a fault of the input that was read.
pub returns-clause-err : goal.returns-clause-err
returns-clause-err g c =
    let is_read : IfSome (g.R.Read.remaining c.args.input.now) (λ known. c.as_slice.result.now ≡ known) =
    rw c.as_slice.ensures.value c.in_ok-bytes.ensures.ok in
    refuses_run (words_of c.args.words.now) _ c.as_slice.result.now c.in_ok-asked.asked c.profile_as_asked.result
    c.in_ok-asked.ensures.0 c.in_ok-asked.ensures.1 is_read c.profile_as_asked.ensures.err
