-- of admit_text: what the text is billed
use Rattle.example_service.proofs.inbox.admit_text.Goals as goal

pub returns-clause-billed : goal.returns-clause-billed
returns-clause-billed c =
    let a = c.in_ok-bytes.ensures.admitted in
    rw (c.text_bytes_law.ensures.text c.args.ledger.now.measure c.args.text.now a.0 a.1) at a.2
