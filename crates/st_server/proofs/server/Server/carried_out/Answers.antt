-- The draft's course is the step's, and then the fill's.
use Rattle.std.proofs.Common.{sym, subst, refl}
use Rattle.st_seal.specs.Pen.{Pen}
use Rattle.st_tables.specs.Entries.{entry}
use Rattle.st_protocol.specs.Questions.{questions}
use Rattle.st_protocol.specs.Duty.{Course, begins, carries, fills_up}
use Rattle.st_live.specs.declared.live.Live.{Live}
use Rattle.st_live.specs.LiveView.{IsLive}
use Rattle.st_server.specs.Draw.{Draws}
use Rattle.st_sealing.specs.Sealing.{pen_by}
use Rattle.st_server.specs.Serving.{seat_by}
use Rattle.st_server.proofs.ServeLaws.{begun, did_is, leads_is}
use Rattle.st_server.proofs.server.Server.carried_out.Goals as goal

pub carry-requires-clause-drawn : goal.carry-requires-clause-drawn
carry-requires-clause-drawn g c =
    let made = entry c.args.self.now.replies in
    let q = c.requires.serving.answers in
    let stands = c.requires.serving.stands in
    begun made c.begin-draft.result q
    (c.begin-draft.ensures.draws made q (subst (λ (l : Live). IsLive l q) (sym c.in_ok-live.ensures.equal) stands.live) stands.replies) stands.bound

pub returns-clause-plan : goal.returns-clause-plan
returns-clause-plan g c =
    λ q stands.
    let made = entry c.args.self.now.replies in
    let id = c.args.id in
    let pen = pen_by (g.S.Sealer.pen c.args.sealer.now) id in
    let step = c.args.step.now in
    let first = c.begin-draft.ensures.draws made q (subst (λ (l : Live). IsLive l q) (sym c.in_ok-live.ensures.equal) stands.live) stands.replies in
    let fills = subst (λ (k : Pen). (w : Course) → Draws made c.carry.new.self w → Draws made c.fill_up.new.self (fills_up (pen_by k id) w)) c.carry.ensures.pen c.in_ok-fill_up.ensures.draws in
    did_is made c.fill_up.new.self pen q step _ (fills (carries pen (begins q) step) (c.in_ok-carry.ensures.draws (begins q) first)) refl refl refl refl

pub returns-clause-next : goal.returns-clause-next
returns-clause-next g c =
    λ records heard stands.
    let made = entry c.args.self.now.replies in
    let id = c.args.id in
    let pen = pen_by (g.S.Sealer.pen c.args.sealer.now) id in
    let step = c.args.step.now in
    let q = questions (seat_by c.args.self.now) records heard in
    let first = c.begin-draft.ensures.draws made q (subst (λ (l : Live). IsLive l q) (sym c.in_ok-live.ensures.equal) stands.answers.live) stands.answers.replies in
    let fills = subst (λ (k : Pen). (w : Course) → Draws made c.carry.new.self w → Draws made c.fill_up.new.self (fills_up (pen_by k id) w)) c.carry.ensures.pen c.in_ok-fill_up.ensures.draws in
    leads_is made c.fill_up.new.self pen c.args.self.now records heard step (fills (carries pen (begins q) step) (c.in_ok-carry.ensures.draws (begins q) first)) c.in_ok-fill_up.ensures.drawn
