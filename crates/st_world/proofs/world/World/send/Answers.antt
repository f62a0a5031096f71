-- One message more.
use Rattle.std.proofs.Common.{◌∙◌, ap, ◌+◌, ◌∷◌, ◌++◌, [], length, arith}
use Rattle.st_waiting.specs.Undelivered.{pairs_in}
use Rattle.st_world.proofs.SendLaws.{sent_one, sent_too_many, sent_too_much}
use Rattle.st_world.proofs.world.World.send.Goals as goal

pub returns-then-number-clause-sent : goal.returns-then-number-clause-sent
returns-then-number-clause-sent c =
    λ d m stands.
    let count = c.len-number.ensures in
    let many = c.if-number.true in
    sent_too_many c.args.self.now d m c.args.bytes c.args.to stands (omega (arith, count, many))

pub returns-then-size-gt-MOST_SENT-clause-sent : goal.returns-then-size-gt-MOST_SENT-clause-sent
returns-then-size-gt-MOST_SENT-clause-sent c =
    λ d m stands.
    let count = c.len-number.ensures in
    let few = c.if-number.false in
    sent_too_much c.args.self.now _ d m c.args.bytes c.args.to stands (omega (arith, count, few)) (ap (λ n. c.args.self.now.size + n) (ap length c.as_slice.ensures)) (omega (arith, c.if-size-gt-MOST_SENT.true))

pub returns-clause-sent : goal.returns-clause-sent
returns-clause-sent c =
    λ d m stands.
    let count = c.len-number.ensures in
    let few = c.if-number.false in
    sent_one c.args.self.now _ _ _ d m c.args.bytes c.args.to c.dest_of.result stands (omega (arith, count, few)) (ap (λ n. c.args.self.now.size + n) (ap length c.as_slice.ensures)) (omega (arith, c.if-size-gt-MOST_SENT.false))
    (c.dest_of.ensures d stands.set.taken) c.in_ok-push.ensures.ok
    (c.in_ok-push-2.ensures.ok ∙ ap (λ k. pairs_in c.args.self.now.waiting ++ record { message = k; to = c.dest_of.result } ∷ []) count) (c.in_ok-push-2.ensures.newest ∙ count)
