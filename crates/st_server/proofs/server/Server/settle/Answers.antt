-- The server stands for the longer lists.
use Rattle.std.proofs.Common.{sym, ap, subst, Option, ◌∷◌, ◌++◌, [], refl}
use Rattle.st_protocol.specs.Keeping.{given}
use Rattle.st_protocol.specs.Questions.{questions}
use Rattle.st_live.specs.declared.live.Live.{Live}
use Rattle.st_live.specs.LiveView.{IsLive}
use Rattle.st_server.specs.Serving.{seat_by}
use Rattle.st_server.proofs.ExecutionLaws.{executes_now, entries_longer, entries_still}
use Rattle.st_server.proofs.ServeLaws.{settled, seat_stays}
use Rattle.st_server.proofs.server.Server.settle.Goals as goal

pub returns-in_ok-note_entries-clause-stands : goal.returns-in_ok-note_entries-clause-stands
returns-in_ok-note_entries-clause-stands c =
    λ records heard others stands leads.
    let old = c.args.self.now in
    let q = questions (seat_by old) records heard in
    let executes = c.in_ok-note_entries.ensures.executes q.log.run (executes_now old.live old.entries q stands.answers.live stands.entries) in
    settled old _ records heard others c.args.changes.now c.args.next stands leads
    (sym (ap (λ (n : Option Live). given n old.live (λ l. l)) c.in-Some.is))
    (entries_longer _ _ (seat_by old) records c.args.changes.now heard (heard ++ others) refl executes) c.in_ok-note_replies.ensures.ok

pub returns-in_default-clause-stands : goal.returns-in_default-clause-stands
returns-in_default-clause-stands c =
    λ records heard others stands leads.
    let old = c.args.self.now in
    let still = ap (λ (n : Option Live). given n old.live (λ l. l)) c.in_default.is in
    let leads_still = subst (λ (l : Live). IsLive l (questions (seat_by old) (records ++ c.args.changes.now ∷ []) (heard ++ others))) still leads.live in
    settled old _ records heard others c.args.changes.now c.args.next stands leads
    (sym still) (entries_still old.live old.entries (seat_by old) records c.args.changes.now heard (heard ++ others) stands.answers.live leads_still stands.entries) c.in_ok-note_replies.ensures.ok

pub returns-in_ok-note_entries-clause-seat : goal.returns-in_ok-note_entries-clause-seat
returns-in_ok-note_entries-clause-seat c =
    λ records heard leads.
    seat_stays c.args.self.now c.in-Some.next records heard c.args.next leads (sym (ap (λ (n : Option Live). given n c.args.self.now.live (λ l. l)) c.in-Some.is))

pub returns-in_default-clause-seat : goal.returns-in_default-clause-seat
returns-in_default-clause-seat c =
    λ records heard leads.
    seat_stays c.args.self.now c.args.self.now.live records heard c.args.next leads (sym (ap (λ (n : Option Live). given n c.args.self.now.live (λ l. l)) c.in_default.is))
