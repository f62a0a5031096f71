-- The first reason, or else the step, which is taken.
use Rattle.std.proofs.Common.{subst, sym}
use Rattle.st_protocol.specs.Assigning.{assign_reasons, assign_step}
use Rattle.st_protocol.proofs.PartLaws.{refused_by, steps_by}
use Rattle.st_state.specs.HereView.{here_of}
use Rattle.st_state.specs.Placed.{Fits}
use Rattle.st_state.specs.SlotsView.{slots_of}
use Rattle.st_state.specs.ForcedView.{forced_by}
use Rattle.st_assign.proofs.FitLaws.{assign_fits}
use Rattle.st_assign.proofs.assign.on_assign.Goals as goal

pub returns-in-Some-clause-answers : goal.returns-in-Some-clause-answers
returns-in-Some-clause-answers c =
    λ clients serve.
    let h = here_of clients serve c.args.here.now in
    let slots = slots_of h c.args.slots.now in
    let p = c.in-Assign in
    rw p.is
    (refused_by (assign_reasons h slots (forced_by h c.args.forced.now) p.view.0 p.local.0 p.number.0 p.value p.client_seal p.signed)
    (assign_step h slots p.view.0 p.local.0 p.number.0 p.value p.signed)
    c.in-Some.reason
    (c.in-Some.ensures clients serve c.in_ok-statement.ensures.equal))

pub returns-clause-answers : goal.returns-clause-answers
returns-clause-answers c =
    λ clients serve.
    let h = here_of clients serve c.args.here.now in
    let slots = slots_of h c.args.slots.now in
    let p = c.in-Assign in
    rw p.is
    (steps_by (assign_reasons h slots (forced_by h c.args.forced.now) p.view.0 p.local.0 p.number.0 p.value p.client_seal p.signed)
    (assign_step h slots p.view.0 p.local.0 p.number.0 p.value p.signed)
    c.in_ok-step.step
    (c.in_default-reason_of.ensures clients serve c.in_ok-statement.ensures.equal)
    (c.in_ok-step.ensures.equal clients serve c.in_ok-statement.ensures.equal))

pub returns-clause-fits : goal.returns-clause-fits
returns-clause-fits c =
    λ clients serve.
    let h = here_of clients serve c.args.here.now in
    let slots = slots_of h c.args.slots.now in
    let p = c.in-Assign in
    subst (Fits h) (sym (c.in_ok-step.ensures.equal clients serve c.in_ok-statement.ensures.equal))
    (assign_fits h slots (forced_by h c.args.forced.now) p.view.0 p.local.0 p.number.0 p.value p.client_seal p.signed (sym (c.in_default-reason_of.ensures clients serve c.in_ok-statement.ensures.equal)))
