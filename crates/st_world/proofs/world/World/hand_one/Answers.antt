-- The message is noted, spelled and sent.
use Rattle.st_protocol.specs.World.{notes_seal}
use Rattle.st_deployment.specs.Deployed.{world_deployment}
use Rattle.st_world.proofs.SendLaws.{hands_sent, hands_ended}
use Rattle.st_world.proofs.world.World.hand_one.Goals as goal

pub send-requires : goal.send-requires
send-requires c =
    let so = c.requires.stands in
    record {
      deployment = so.deployment;
      model = notes_seal (world_deployment so.deployment) 0 0 so.model c.args.output.now;
      stands = c.in_ok-note_seal.ensures.noted so.deployment so.model so.stands;
    }

pub encode-requires : goal.encode-requires
encode-requires c = c.requires.inside.0

pub returns-in-Ok-send : goal.returns-in-Ok-send
returns-in-Ok-send c =
    λ d m stands.
    let on = c.in_ok-note_seal.ensures.noted d m stands in
    hands_sent c.note_seal.new.self c.send.new.self d m c.args.output.now c.in-Ok.bytes on c.in-Ok.ensures.spelled (c.in-Ok-send.ensures.sent d (notes_seal (world_deployment d) 0 0 m c.args.output.now) on)

pub returns-in-Err : goal.returns-in-Err
returns-in-Err c =
    λ d m stands.
    let on = c.in_ok-note_seal.ensures.noted d m stands in
    hands_ended c.in-Err.error c.note_seal.new.self d m c.args.output.now c.in-Ok.bytes on c.in-Ok.ensures.spelled (c.in-Err.ensures.sent d (notes_seal (world_deployment d) 0 0 m c.args.output.now) on)
