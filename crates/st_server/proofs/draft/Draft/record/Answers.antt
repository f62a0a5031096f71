-- The short state notes the change, and the change stands last.
use Rattle.std.proofs.Common.{refl}
use Rattle.st_protocol.specs.Duty.{Course}
use Rattle.st_server.specs.Draw.{Draws}
use Rattle.st_server.proofs.DrawLaws.{here_noted, draws_record, drawn_record}
use Rattle.st_server.proofs.draft.Draft.record.Goals as goal

pub returns-clause-draws : goal.returns-clause-draws
returns-clause-draws c =
    λ made way draws. draws_record made c.args.self.now _ way c.args.change draws (c.in_ok-note.ensures.ok way.now draws.now) c.in_ok-push.ensures.ok refl refl

pub returns-clause-drawn : goal.returns-clause-drawn
returns-clause-drawn c =
    λ made drawn.
    drawn_record made c.args.self.now _ c.args.change c.requires.ready
    (λ (way : Course) (draws : Draws made c.args.self.now way).
    draws_record made c.args.self.now _ way c.args.change draws (c.in_ok-note.ensures.ok way.now draws.now) c.in_ok-push.ensures.ok refl refl)
    drawn

pub returns-clause-here : goal.returns-clause-here
returns-clause-here c = here_noted c.args.self.now.live c.note.new.self c.args.change c.requires.sound c.in_ok-note.ensures.ok
