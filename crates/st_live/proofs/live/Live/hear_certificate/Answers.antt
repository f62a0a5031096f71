-- The certificate is in hand.
use Rattle.std.proofs.Common.{refl}
use Rattle.st_state.specs.HandView.{heard_accept}
use Rattle.st_live.specs.LiveView.{past_of}
use Rattle.st_live.specs.Service.{list_serve}
use Rattle.st_live.proofs.HearLaws.{certificate_heard}
use Rattle.st_live.proofs.LiveLaws.{stands_heard}
use Rattle.st_live.proofs.live.Live.hear_certificate.Goals as goal

pub returns-in_ok-keep_accept-clause-ok : goal.returns-in_ok-keep_accept-clause-ok
returns-in_ok-keep_accept-clause-ok c =
    λ q stands.
    let live = c.args.self.now in
    let s = c.in-Accept in
    rw s.is
    (stands_heard live (record live { hand = c.keep_accept.new.self }) (heard_accept s.site s.view s.number s.value c.args.quorum.now) q stands refl refl
    (certificate_heard (past_of q) live c.keep_accept.new.self s.site s.view s.number s.value c.args.quorum.now
    (c.in_ok-keep_accept.ensures.ok live.pending.clients list_serve)))
