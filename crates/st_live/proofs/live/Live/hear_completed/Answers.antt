-- The certificate is of the present view.
use Rattle.std.proofs.Common.{◌≡◌, ◌∙◌, ap, sym}
use Rattle.st_words.specs.declared.ids.View.{View}
use Rattle.st_words.specs.declared.statement.Statement.TheVariants.{Proposal, Accept}
use Rattle.st_live.specs.LiveView.{place_here}
use Rattle.st_live.specs.Service.{list_serve}
use Rattle.st_live.proofs.StandLaws.{own_proposal_view, own_accept_view, stands_own_proposal, stands_own_accept}
use Rattle.st_live.proofs.live.Live.hear_completed.Goals as goal

pub returns-in_ok-keep_proposal-in-Proposal-clause-ok : goal.returns-in_ok-keep_proposal-in-Proposal-clause-ok
returns-in_ok-keep_proposal-in-Proposal-clause-ok c =
    λ q stands.
    let live = c.args.self.now in
    let s = c.in-Proposal in
    let at = own_proposal_view (place_here live) c.args.statement.now c.args.quorum.now s.site s.view s.local s.number s.value s.is c.requires in
    let view : s.view ≡ live.here.view = ap (λ n. record { 0 = n }) (sym at) in
    let here : c.args.statement.now ≡ Proposal s.site live.here.view s.local s.number s.value = s.is ∙ ap (λ (g : View). Proposal s.site g s.local s.number s.value) view in
    stands_own_proposal live c.keep_proposal.new.self c.args.statement.now c.args.quorum.now q s.site live.here.view s.local s.number s.value here stands
    (c.in_ok-keep_proposal-in-Proposal.ensures.ok live.pending.clients list_serve s.site s.local s.value here)

pub returns-in_ok-keep_accept-in-Accept-clause-ok : goal.returns-in_ok-keep_accept-in-Accept-clause-ok
returns-in_ok-keep_accept-in-Accept-clause-ok c =
    λ q stands.
    let live = c.args.self.now in
    let s = c.in-Accept in
    let at = own_accept_view (place_here live) c.args.statement.now c.args.quorum.now s.site s.view s.number s.value s.is c.requires in
    let view : s.view ≡ live.here.view = ap (λ n. record { 0 = n }) (sym at) in
    let here : c.args.statement.now ≡ Accept s.site live.here.view s.number s.value = s.is ∙ ap (λ (g : View). Accept s.site g s.number s.value) view in
    stands_own_accept live c.keep_accept.new.self c.args.statement.now c.args.quorum.now q s.site live.here.view s.number s.value here stands
    (c.in_ok-keep_accept-in-Accept.ensures.ok live.pending.clients list_serve s.site s.value here)
