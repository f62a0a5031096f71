-- The seals so far have lower indices than the next.
use Rattle.std.proofs.Common.{subst, sym, List, All, ◌<◌}
use Rattle.st_seal.specs.declared.quorum.Signed.{Signed}
use Rattle.st_seal.specs.Collecting.{shares_of, with_share, share_of}
use Rattle.st_seal.proofs.CollectingLaws.{next_seal, seals_index}
use Rattle.st_seal.proofs.collector.Collector.completed.Goals as goal

pub put-requires : goal.put-requires
put-requires c =
    let below = seals_index c.args.bytes.now (with_share (shares_of c.args.self.now) (share_of c.args.bytes.now c.args.signed.now)) c.loop-i.i in
    next_seal c.in_ok-seal_at.field-0 c.loop-i.i c.loop-i.quorum c.in_ok-seal_at.ensures.own
    (subst (λ (q : List Signed). All (λ (s : Signed). s.index < c.loop-i.i) q) (sym c.loop-i.invariant) below)
