-- The client's last time, and the Reply at the number where its last update ran.
use Rattle.std.proofs.Common.{◌∙◌, ap, subst, Option, None, Some}
use Rattle.st_tables.specs.Entries.{entry}
use Rattle.st_protocol.specs.State.{Sealing}
use Rattle.st_protocol.specs.Keeping.{given}
use Rattle.st_protocol.specs.Part as part
use Rattle.st_state.specs.ClientsView.{last_of, place_of}
use Rattle.st_live.specs.Service.{list_serve}
use Rattle.st_server.proofs.AnswerLaws.{update_is, reply_is, client_is}
use Rattle.st_server.proofs.parts.answer_update.Goals as goal

pub returns-clause-answers : goal.returns-clause-answers
returns-clause-answers c =
    λ q seal stands replies is.
    let live = c.args.live.now in
    let u = c.args.update.now in
    let made = q.making.reply (place_of live.clients u.client.0) in
    let reply = reply_is q (entry c.args.replies.now) (place_of live.clients u.client.0) c.place-place.result replies c.place-place.ensures
    (c.statement_of-reply.ensures ∙ ap (λ (m : Option Sealing). given m None (λ x. Some x.statement)) c.get.ensures) in
    subst (part.Answers c.on_update.result) (update_is live q c.args.message.now u seal c.last-last.result stands is c.last-last.ensures)
    (c.on_update.ensures.answers live.pending.clients list_serve (last_of live.clients) made (client_is (last_of live.clients) c.args.message.now u seal c.last-last.result is c.last-last.ensures) reply)
