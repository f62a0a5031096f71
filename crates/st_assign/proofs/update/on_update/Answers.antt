-- The first reason, or else the step, which is taken.
use Rattle.std.proofs.Common.{subst, sym}
use Rattle.std.specs.Option.{option_copied}
use Rattle.st_protocol.specs.Assigning.{update_reasons, update_step}
use Rattle.st_protocol.proofs.PartLaws.{refused_by, steps_by}
use Rattle.st_state.specs.HereView.{here_of}
use Rattle.st_state.specs.Placed.{Fits}
use Rattle.st_state.specs.ClientsView.{pending_of}
use Rattle.st_assign.proofs.FitLaws.{update_fits, some_made}
use Rattle.st_assign.proofs.update.on_update.Goals as goal

pub returns-in-Some-clause-answers : goal.returns-in-Some-clause-answers
returns-in-Some-clause-answers c =
    λ clients serve lasts made is_last is_reply.
    let h = here_of clients serve c.args.here.now in
    let u = c.in-Update in
    let last = rw u.is at is_last in
    rw u.is
    (refused_by (update_reasons h (pending_of lasts c.args.pending.now) c.args.last made u.update) (update_step c.args.last made u.update u.seal) c.in-Some.reason
    (c.in-Some.ensures clients serve lasts made last is_reply))

pub returns-clause-answers : goal.returns-clause-answers
returns-clause-answers c =
    λ clients serve lasts made is_last is_reply.
    let h = here_of clients serve c.args.here.now in
    let u = c.in-Update in
    let last = rw u.is at is_last in
    rw u.is
    (steps_by (update_reasons h (pending_of lasts c.args.pending.now) c.args.last made u.update) (update_step c.args.last made u.update u.seal) c.in_ok-step.step
    (c.in_default-reason_of.ensures clients serve lasts made last is_reply)
    (c.in_ok-step.ensures.equal made is_reply))

pub returns-clause-fits : goal.returns-clause-fits
returns-clause-fits c =
    λ clients serve.
    let h = here_of clients serve c.args.here.now in
    let u = c.in-Update in
    let reply = some_made (option_copied c.args.reply) in
    subst (Fits h) (sym (c.in_ok-step.ensures.equal reply.0 reply.1)) (update_fits h c.args.last reply.0 u.update u.seal)
