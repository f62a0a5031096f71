-- All groups move up.
use Rattle.std.proofs.Common.{◌≡◌, ◌∙◌, ◌+◌, ap, cond}
use Rattle.std.proofs.lemmas.Bool.{eqb-true}
use Rattle.st_protocol.specs.Questions.{runs_for}
use Rattle.st_state.specs.ClientsView.{last_of, place_of}
use Rattle.st_live.specs.Service.{list_serve}
use Rattle.st_live.proofs.LiveLaws.{stands_executed}
use Rattle.st_live.proofs.live.Live.note_executed.Goals as goal

pub returns-clause-ok : goal.returns-clause-ok
returns-clause-ok c =
    λ q stands.
    let live = c.args.self.now in
    let next : c.args.number.0 ≡ live.here.executed + 1 = eqb-true c.args.number.0 (live.here.executed + 1) c.requires in
    stands_executed live _ _ c.move_up.new.self c.move_up-2.new.self c.move_up-3.new.self c.args.number c.args.proof.now q stands
    c.in_ok-clients.ensures.last
    (λ k. c.in_ok-clients.ensures.place k ∙ ap (λ n. cond (runs_for (last_of live.clients) c.args.proof.now.value k) n (place_of live.clients k)) next)
    c.in_ok-clients.ensures.ran
    (c.move_up.ensures live.pending.clients list_serve c.args.number c.args.proof.now)
    (c.move_up-2.ensures live.pending.clients list_serve)
    (c.move_up-3.ensures live.pending.clients list_serve)
