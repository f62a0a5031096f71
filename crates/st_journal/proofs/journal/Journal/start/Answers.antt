use Rattle.std.proofs.Common.{[]}
use Rattle.st_journal.proofs.BlockLaws.{file_reads}
use Rattle.st_journal.proofs.journal.Journal.start.Goals as goal

pub returns-in-Ok-clause-stands : goal.returns-in-Ok-clause-stands
returns-in-Ok-clause-stands g c told =
    let ready = (c.in-Ok.ensures.found told).1 in
    record { reads = file_reads _ _ [] _ ready.is; ready = ready }
