-- The slots are those of the answers.
use Rattle.std.proofs.Common.{◌∙◌, ap, Option, None, Some}
use Rattle.st_protocol.specs.Keeping.{given}
use Rattle.st_protocol.specs.State.{Slots, Sealing, AtPrepare}
use Rattle.st_live.specs.Service.{list_serve}
use Rattle.st_server.proofs.DrawLaws.{slots_is}
use Rattle.st_server.proofs.draft.Draft.prepare_leaf.Goals as goal

pub returns : goal.returns
returns c =
    λ q stands.
    let live = c.args.self.now.live in
    c.made_leaf.ensures
    ∙ ap (λ (m : Option Sealing). given m None (λ x. Some x.leaf))
    (c.made_prepare.ensures live.pending.clients list_serve ∙ ap (λ (s : Slots). s.made (AtPrepare c.args.view.0 c.args.local.0 c.args.number.0)) (slots_is live q stands))
