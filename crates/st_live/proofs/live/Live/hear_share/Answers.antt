-- The share is of the present views.
use Rattle.std.proofs.Common.{◌≡◌, ◌∙◌, ap, sym}
use Rattle.st_words.specs.declared.ids.View.{View}
use Rattle.st_words.specs.declared.ids.LocalView.{LocalView}
use Rattle.st_words.specs.declared.statement.Statement.TheVariants.{Prepare, Proposal, Accept}
use Rattle.st_live.specs.LiveView.{place_here}
use Rattle.st_live.specs.Service.{list_serve}
use Rattle.st_live.proofs.PlacedLaws.{share_prepare_views, share_proposal_views, share_accept_view}
use Rattle.st_live.proofs.StandLaws.{stands_prepare, stands_proposal, stands_accept}
use Rattle.st_live.proofs.live.Live.hear_share.Goals as goal

pub returns-in_ok-hear_prepare-in-Prepare-clause-ok : goal.returns-in_ok-hear_prepare-in-Prepare-clause-ok
returns-in_ok-hear_prepare-in-Prepare-clause-ok c =
    λ q stands.
    let live = c.args.self.now in
    let s = c.in-Prepare in
    let at = share_prepare_views (place_here live) c.args.statement.now c.args.signed.now s.site s.view s.local s.number s.value s.is c.requires in
    let view : s.view ≡ live.here.view = ap (λ n. record { 0 = n }) (sym at.0) in
    let local : s.local ≡ live.here.local = ap (λ n. record { 0 = n }) (sym at.1) in
    let here : c.args.statement.now ≡ Prepare s.site live.here.view live.here.local s.number s.value =
    s.is ∙ (ap (λ (g : View). Prepare s.site g s.local s.number s.value) view ∙ ap (λ (l : LocalView). Prepare s.site live.here.view l s.number s.value) local) in
    stands_prepare live c.hear_prepare.new.self c.args.statement.now c.args.signed.now q s.site live.here.view live.here.local s.number s.value here stands
    (c.in_ok-hear_prepare-in-Prepare.ensures.ok live.pending.clients list_serve s.site s.value here)

pub returns-in_ok-hear_proposal-in-Proposal-clause-ok : goal.returns-in_ok-hear_proposal-in-Proposal-clause-ok
returns-in_ok-hear_proposal-in-Proposal-clause-ok c =
    λ q stands.
    let live = c.args.self.now in
    let s = c.in-Proposal in
    let at = share_proposal_views (place_here live) c.args.statement.now c.args.signed.now s.site s.view s.local s.number s.value s.is c.requires in
    let view : s.view ≡ live.here.view = ap (λ n. record { 0 = n }) (sym at.0) in
    let local : s.local ≡ live.here.local = ap (λ n. record { 0 = n }) (sym at.1) in
    let here : c.args.statement.now ≡ Proposal s.site live.here.view live.here.local s.number s.value =
    s.is ∙ (ap (λ (g : View). Proposal s.site g s.local s.number s.value) view ∙ ap (λ (l : LocalView). Proposal s.site live.here.view l s.number s.value) local) in
    stands_proposal live c.hear_proposal.new.self c.args.statement.now c.args.signed.now q s.site live.here.view live.here.local s.number s.value here stands
    (c.in_ok-hear_proposal-in-Proposal.ensures.ok live.pending.clients list_serve s.site s.value here)

pub returns-in_ok-hear_accept-in-Accept-clause-ok : goal.returns-in_ok-hear_accept-in-Accept-clause-ok
returns-in_ok-hear_accept-in-Accept-clause-ok c =
    λ q stands.
    let live = c.args.self.now in
    let s = c.in-Accept in
    let at = share_accept_view (place_here live) c.args.statement.now c.args.signed.now s.site s.view s.number s.value s.is c.requires in
    let view : s.view ≡ live.here.view = ap (λ n. record { 0 = n }) (sym at) in
    let here : c.args.statement.now ≡ Accept s.site live.here.view s.number s.value = s.is ∙ ap (λ (g : View). Accept s.site g s.number s.value) view in
    stands_accept live c.hear_accept.new.self c.args.statement.now c.args.signed.now q s.site live.here.view s.number s.value here stands
    (c.in_ok-hear_accept-in-Accept.ensures.ok live.pending.clients list_serve s.site s.value here)
