-- The item is noted.
use Rattle.st_live.specs.Service.{list_serve}
use Rattle.st_live.proofs.LiveLaws.{stands_prepared}
use Rattle.st_live.proofs.live.Live.note_prepared.Goals as goal

pub returns-in_ok-note_prepared-clause-ok : goal.returns-in_ok-note_prepared-clause-ok
returns-in_ok-note_prepared-clause-ok c =
    λ q stands.
    let s = c.in-Prepare in
    stands_prepared c.args.self.now c.note_prepared.new.self c.args.statement.now c.args.quorum.now q stands
    (c.in_ok-note_prepared.ensures.ok c.args.self.now.pending.clients list_serve s.site s.view s.local s.value s.is)
