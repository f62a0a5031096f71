-- The seals of the message.
use Rattle.std.proofs.Common.{◌∙◌, ap}
use Rattle.std.proofs.lemmas.Result.{IfOk-weaker}
use Rattle.st_world.specs.Honest.{first_forged}
use Rattle.st_world.proofs.ForgedLaws.{in_message, seals_kept}
use Rattle.st_world.proofs.world.World.forged_in.Goals as goal

pub first_forged-requires-clause-kept : goal.first_forged-requires-clause-kept
first_forged-requires-clause-kept c = seals_kept c.args.self.now.deployment c.args.message.now _ c.requires.found (c.as_slice.ensures ∙ c.in-Ok.ensures.listed)

pub returns-clause-place : goal.returns-clause-place
returns-clause-place c =
    IfOk-weaker c.first_forged.result _ _
    (λ place is d m stands. is d m stands ∙ (ap (first_forged d m) c.as_slice.ensures ∙ in_message c.args.self.now d m c.args.message.now c.in-Ok.seals stands.set c.in-Ok.ensures.listed))
    c.first_forged.ensures.place
