-- A client takes its own Replies alone.
use Rattle.std.proofs.Common.{◌∙◌, sym}
use Rattle.st_world.proofs.CustomerLaws.{stranger_takes, other_takes, theirs_takes, unsealed_takes, own_takes}
use Rattle.st_world.proofs.world.World.answer.Goals as goal

pub returns-in_default : goal.returns-in_default
returns-in_default c = λ d m stands. stranger_takes c.args.self.now d m c.args.client.0 c.args.message.now stands c.in_default.not-Reply

pub returns-in_default-statement : goal.returns-in_default-statement
returns-in_default-statement c =
    λ d m stands. other_takes c.args.self.now d m c.args.client.0 c.args.message.now c.in-Reply.statement c.in-Reply.signed stands c.in-Reply.is c.in_default-statement.not-Reply

pub returns-then-not-is_own : goal.returns-then-not-is_own
returns-then-not-is_own c =
    λ d m stands.
    let r = c.in-Reply in
    let t = c.in-Reply-statement in
    theirs_takes d m c.args.client.0 c.args.message.now r.statement r.signed t.site t.to t.time t.number t.replied r.is t.is c.args.self.now stands (sym c.is_own.ensures ∙ c.if-not-is_own.true)

pub returns-in-Some : goal.returns-in-Some
returns-in-Some c =
    λ d m stands.
    let r = c.in-Reply in
    let t = c.in-Reply-statement in
    unsealed_takes d m c.args.client.0 c.args.message.now r.statement r.signed t.site t.to t.time t.number t.replied r.is t.is c.args.self.now c.in-Some.place stands (sym c.is_own.ensures ∙ c.if-not-is_own.false)
    (sym c.in-Some.is ∙ c.in_ok-place.ensures.place d stands.set)

pub returns-in_ok-outcome-in-None : goal.returns-in_ok-outcome-in-None
returns-in_ok-outcome-in-None c =
    λ d m stands.
    let r = c.in-Reply in
    let t = c.in-Reply-statement in
    own_takes d m c.args.client.0 c.args.message.now r.statement r.signed t.site t.to t.time t.number t.replied r.is t.is c.take_reply.new.self c.in_ok-outcome-in-None.outcome stands.set.taken (sym c.is_own.ensures ∙ c.if-not-is_own.false)
    (sym c.in-None.is ∙ c.in_ok-place.ensures.place d stands.set) (c.in_ok-outcome-in-None.ensures.taken d m stands) (c.in_ok-outcome-in-None.ensures.outcome d m stands)
