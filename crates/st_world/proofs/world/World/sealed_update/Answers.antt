-- The update is sealed, noted and spelled.
use Rattle.std.proofs.Common.{◌∙◌, ap, sym, subst, refl}
use Rattle.st_words.specs.declared.statement.Statement.TheVariants.{ClientUpdate}
use Rattle.st_message.specs.declared.message.Message.{Message}
use Rattle.st_wire.specs.Ranges.{KeepsMessage}
use Rattle.st_wire.specs.Spelling.{message_spelling}
use Rattle.st_protocol.specs.Words.{client_at}
use Rattle.st_world.proofs.NoteLaws.{noted}
use Rattle.st_world.proofs.SubmitLaws.{bytes_same}
use Rattle.st_world.proofs.world.World.sealed_update.Goals as goal

pub message_of-requires : goal.message_of-requires
message_of-requires c = (c.args.update, refl)

pub encode-requires : goal.encode-requires
encode-requires c = subst KeepsMessage (sym (c.get.ensures ∙ (c.in_ok-message.ensures.equal ∙ c.message_of.ensures c.args.update refl))) (c.requires.update, c.in_ok-seal.ensures.length)

pub returns-in-Ok-clause-noted : goal.returns-in-Ok-clause-noted
returns-in-Ok-clause-noted c =
    λ d m stands.
    let same = c.in_ok-seal.ensures.same d m stands in
    noted c.client_seal.new.self c.hand.new.self d m (client_at c.args.client.0) c.args.leaf (ClientUpdate c.args.update) same c.in_ok-hand.ensures.made

pub returns-in-Ok-clause-bytes : goal.returns-in-Ok-clause-bytes
returns-in-Ok-clause-bytes c =
    λ d set.
    bytes_same c.args.self.now d c.args.client.0 c.args.leaf c.args.update c.in_ok-seal.seal c.in-Ok.bytes set (c.in_ok-seal.ensures.seal d set)
    (c.in-Ok.ensures.spelled ∙ ap (λ (m : Message). message_spelling c.args.self.now.deployment.id m) (c.get.ensures ∙ (c.in_ok-message.ensures.equal ∙ c.message_of.ensures c.args.update refl)))
