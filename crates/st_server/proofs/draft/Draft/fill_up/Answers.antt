-- The step is the fill of what the state answers by now.
use Rattle.std.proofs.Common.{subst}
use Rattle.st_message.specs.declared.step.Step.{Step}
use Rattle.st_tables.specs.Entries.{entry}
use Rattle.st_protocol.specs.Duty.{carries, fills_up}
use Rattle.st_server.specs.Draw.{Draws}
use Rattle.st_sealing.specs.Sealing.{pen_by}
use Rattle.st_server.proofs.draft.Draft.fill_up.Goals as goal

pub returns-clause-draws : goal.returns-clause-draws
unfolding fills_up
returns-clause-draws g c =
    λ way draws.
    let made = entry c.args.replies.now in
    let pen = pen_by (g.S.Sealer.pen c.args.sealer.now) c.args.id in
    subst (λ (s : Step). Draws made c.carry.new.self (carries pen way s)) (c.in_ok-step.ensures.fill way.now draws.now) (c.in_ok-carry.ensures.draws way draws)
