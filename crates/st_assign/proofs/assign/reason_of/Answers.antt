-- The first reason of the three groups.
use Rattle.std.proofs.Common.{◌≡◌, ◌+◌, Some, None, refl}
use Rattle.st_protocol.specs.Part.{first_reason}
use Rattle.st_state.specs.HereView.{here_of}
use Rattle.st_state.specs.SlotsView.{slots_of}
use Rattle.st_state.specs.ForcedView.{forced_by}
use Rattle.st_assign.specs.Reasons.{room_reasons}
use Rattle.st_assign.proofs.ReasonLaws.{assign_reason_by, wanted_leaves}
use Rattle.st_assign.proofs.assign.reason_of.Goals as goal

pub returns-in-Some-value_reason : goal.returns-in-Some-value_reason
returns-in-Some-value_reason c =
    λ clients serve is.
    let h = here_of clients serve c.args.here.now in
    let slots = slots_of h c.args.slots.now in
    let wanted = wanted_leaves h slots c.args.slot.view.0 c.args.slot.local.0 c.args.slot.number.0 c.args.value.now c.args.signed.now in
    assign_reason_by h slots (forced_by h c.args.forced.now) c.args.slot.view.0 c.args.slot.local.0 c.args.slot.number.0 c.args.value.now c.args.client_seal.now c.args.signed.now
    c.assigns-new.result wanted (Some c.in-Some-value_reason.reason) (first_reason (room_reasons h wanted c.args.slot.number.0))
    (c.in_default.ensures clients serve) (c.assigns-new.ensures clients serve) refl (c.in-Some-value_reason.ensures clients serve) refl

pub returns : goal.returns
returns c =
    λ clients serve is.
    let h = here_of clients serve c.args.here.now in
    let slots = slots_of h c.args.slots.now in
    let wanted : c.one_if.result + c.proposals.result ≡ wanted_leaves h slots c.args.slot.view.0 c.args.slot.local.0 c.args.slot.number.0 c.args.value.now c.args.signed.now =
    cc (c.one_if.ensures.value, c.proposals.ensures.value clients serve c.args.value.now is, c.assigns-new.ensures clients serve) in
    assign_reason_by h slots (forced_by h c.args.forced.now) c.args.slot.view.0 c.args.slot.local.0 c.args.slot.number.0 c.args.value.now c.args.client_seal.now c.args.signed.now
    c.assigns-new.result (c.one_if.result + c.proposals.result) None c.room_reason.result
    (c.in_default.ensures clients serve) (c.assigns-new.ensures clients serve) wanted (c.in_default-value_reason.ensures clients serve) (c.room_reason.ensures clients serve)
