-- What is placed is of the present views and the window.
use Rattle.std.proofs.Common.{◌≡◌, ◌∙◌, ap, sym}
use Rattle.st_words.specs.declared.ids.View.{View}
use Rattle.st_words.specs.declared.ids.LocalView.{LocalView}
use Rattle.st_words.specs.declared.statement.Statement.TheVariants.{Prepare, Proposal, Accept}
use Rattle.st_state.specs.HereView.{here_of}
use Rattle.st_live.specs.Service.{list_serve}
use Rattle.st_live.proofs.PlacedLaws.{placed_next, prepare_placed, proposal_placed, accept_placed, other_placed}
use Rattle.st_live.proofs.live.note_statement.Goals as goal

pub note_prepare-requires-clause-above : goal.note_prepare-requires-clause-above
note_prepare-requires-clause-above c =
    let h = here_of 0 list_serve c.args.here.now in
    let s = c.in-Prepare in
    let whole = placed_next h c.args.leaf c.args.statement.now (c.requires 0 list_serve) in
    (prepare_placed h c.args.statement.now s.site s.view s.local s.number s.value s.is whole.2).2

pub note_prepare-requires-clause-below : goal.note_prepare-requires-clause-below
note_prepare-requires-clause-below c =
    let h = here_of 0 list_serve c.args.here.now in
    let s = c.in-Prepare in
    let whole = placed_next h c.args.leaf c.args.statement.now (c.requires 0 list_serve) in
    (prepare_placed h c.args.statement.now s.site s.view s.local s.number s.value s.is whole.2).3

pub note_proposal-requires-clause-above : goal.note_proposal-requires-clause-above
note_proposal-requires-clause-above c =
    let h = here_of 0 list_serve c.args.here.now in
    let s = c.in-Proposal in
    let whole = placed_next h c.args.leaf c.args.statement.now (c.requires 0 list_serve) in
    (proposal_placed h c.args.statement.now s.site s.view s.local s.number s.value s.is whole.2).2

pub note_proposal-requires-clause-below : goal.note_proposal-requires-clause-below
note_proposal-requires-clause-below c =
    let h = here_of 0 list_serve c.args.here.now in
    let s = c.in-Proposal in
    let whole = placed_next h c.args.leaf c.args.statement.now (c.requires 0 list_serve) in
    (proposal_placed h c.args.statement.now s.site s.view s.local s.number s.value s.is whole.2).3

pub note_accept-requires-clause-above : goal.note_accept-requires-clause-above
note_accept-requires-clause-above c =
    let h = here_of 0 list_serve c.args.here.now in
    let s = c.in-Accept in
    let whole = placed_next h c.args.leaf c.args.statement.now (c.requires 0 list_serve) in
    (accept_placed h c.args.statement.now s.site s.view s.number s.value s.is whole.2).1

pub note_accept-requires-clause-below : goal.note_accept-requires-clause-below
note_accept-requires-clause-below c =
    let h = here_of 0 list_serve c.args.here.now in
    let s = c.in-Accept in
    let whole = placed_next h c.args.leaf c.args.statement.now (c.requires 0 list_serve) in
    (accept_placed h c.args.statement.now s.site s.view s.number s.value s.is whole.2).2

pub returns-in_ok-note_prepare-in-Prepare-clause-ok : goal.returns-in_ok-note_prepare-in-Prepare-clause-ok
returns-in_ok-note_prepare-in-Prepare-clause-ok c =
    λ clients serve.
    let h = here_of clients serve c.args.here.now in
    let s = c.in-Prepare in
    let whole = placed_next h c.args.leaf c.args.statement.now (c.requires clients serve) in
    let at = prepare_placed h c.args.statement.now s.site s.view s.local s.number s.value s.is whole.2 in
    let view : s.view ≡ c.args.here.now.view = ap (λ n. record { 0 = n }) (sym at.0) in
    let local : s.local ≡ c.args.here.now.local = ap (λ n. record { 0 = n }) (sym at.1) in
    let here : c.args.statement.now ≡ Prepare s.site c.args.here.now.view c.args.here.now.local s.number s.value =
    s.is ∙ (ap (λ (g : View). Prepare s.site g s.local s.number s.value) view ∙ ap (λ (l : LocalView). Prepare s.site c.args.here.now.view l s.number s.value) local) in
    c.in_ok-note_prepare-in-Prepare.ensures.ok clients serve s.site s.value here

pub returns-in_ok-note_proposal-in-Proposal-clause-ok : goal.returns-in_ok-note_proposal-in-Proposal-clause-ok
returns-in_ok-note_proposal-in-Proposal-clause-ok c =
    λ clients serve.
    let h = here_of clients serve c.args.here.now in
    let s = c.in-Proposal in
    let whole = placed_next h c.args.leaf c.args.statement.now (c.requires clients serve) in
    let at = proposal_placed h c.args.statement.now s.site s.view s.local s.number s.value s.is whole.2 in
    let view : s.view ≡ c.args.here.now.view = ap (λ n. record { 0 = n }) (sym at.0) in
    let local : s.local ≡ c.args.here.now.local = ap (λ n. record { 0 = n }) (sym at.1) in
    let here : c.args.statement.now ≡ Proposal s.site c.args.here.now.view c.args.here.now.local s.number s.value =
    s.is ∙ (ap (λ (g : View). Proposal s.site g s.local s.number s.value) view ∙ ap (λ (l : LocalView). Proposal s.site c.args.here.now.view l s.number s.value) local) in
    c.in_ok-note_proposal-in-Proposal.ensures.ok clients serve s.site s.value here

pub returns-in_ok-note_accept-in-Accept-clause-ok : goal.returns-in_ok-note_accept-in-Accept-clause-ok
returns-in_ok-note_accept-in-Accept-clause-ok c =
    λ clients serve.
    let h = here_of clients serve c.args.here.now in
    let s = c.in-Accept in
    let whole = placed_next h c.args.leaf c.args.statement.now (c.requires clients serve) in
    let at = accept_placed h c.args.statement.now s.site s.view s.number s.value s.is whole.2 in
    let view : s.view ≡ c.args.here.now.view = ap (λ n. record { 0 = n }) (sym at.0) in
    let here : c.args.statement.now ≡ Accept s.site c.args.here.now.view s.number s.value = s.is ∙ ap (λ (g : View). Accept s.site g s.number s.value) view in
    c.in_ok-note_accept-in-Accept.ensures.ok clients serve s.site s.value here

pub returns-in_default : goal.returns-in_default
returns-in_default c =
    record {
      ok = λ clients serve.
          let h = here_of clients serve c.args.here.now in
          let whole = placed_next h c.args.leaf c.args.statement.now (c.requires clients serve) in
          other_placed h c.args.slots.now c.args.leaf c.args.statement.now whole.2 c.in_default.not-Prepare c.in_default.not-Proposal c.in_default.not-Accept;
      err = tt;
      memory = tt;
    }
