-- A seal with a greater index keeps the indices rising.
use Rattle.std.proofs.Common.{arith}
use Rattle.st_seal.proofs.RisingLaws.{rising-push}
use Rattle.st_seal.proofs.quorum.Quorum.push.Goals as goal

pub invariant_of-self-2 : goal.invariant_of-self-2
invariant_of-self-2 c =
    let requires = rw (← c.self.view_is) at c.requires in
    rw c.in_ok-push.ensures.ok (rising-push 0 c.self.inside.shares c.args.share (omega arith) requires c.self.invariant)
