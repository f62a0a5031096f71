-- The item is noted.
use Rattle.st_live.specs.Service.{list_serve}
use Rattle.st_live.proofs.LiveLaws.{stands_accepted}
use Rattle.st_live.proofs.live.Live.note_accepted.Goals as goal

pub returns-in_ok-note_accepted-clause-ok : goal.returns-in_ok-note_accepted-clause-ok
returns-in_ok-note_accepted-clause-ok c =
    λ q stands.
    let s = c.in-Proposal in
    stands_accepted c.args.self.now c.note_accepted.new.self c.args.statement.now c.args.quorum.now q stands
    (c.in_ok-note_accepted.ensures.ok c.args.self.now.pending.clients list_serve s.site s.view s.local s.value s.is)
