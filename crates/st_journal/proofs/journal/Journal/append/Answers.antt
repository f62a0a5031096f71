use Rattle.std.proofs.Common.{[]}
use Rattle.st_journal.proofs.BlockLaws.{file_reads}
use Rattle.st_journal.proofs.journal.Journal.append.Goals as goal

pub returns-in-Ok-clause-appended : goal.returns-in-Ok-clause-appended
returns-in-Ok-clause-appended g c told bodies stands =
    let ready = c.in-Ok.ensures.added told bodies stands.ready in
    record { reads = file_reads _ _ [] _ ready.is; ready = ready }

pub returns-in-Ok-clause-any_moment : goal.returns-in-Ok-clause-any_moment
returns-in-Ok-clause-any_moment g c told bodies stands = c.add.ensures.any_moment told bodies stands.ready

pub returns-in-Err-clause-any_moment : goal.returns-in-Err-clause-any_moment
returns-in-Err-clause-any_moment g c told bodies stands = c.add.ensures.any_moment told bodies stands.ready

pub returns-in-Err-clause-lost : goal.returns-in-Err-clause-lost
returns-in-Err-clause-lost g c told bodies stands = c.in-Err.ensures.lost told bodies stands.ready
