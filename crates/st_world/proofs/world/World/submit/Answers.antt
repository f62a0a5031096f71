-- The client's update is sent, or its seals are spent.
use Rattle.std.proofs.Common.{◌∙◌, ap, sym, subst, ◌<◌, arith}
use Rattle.st_words.specs.declared.deployment.Deployment.{Deployment}
use Rattle.st_words.specs.declared.value.Update.{Update}
use Rattle.st_words.specs.declared.statement.Statement.TheVariants.{ClientUpdate}
use Rattle.st_hss_seal.specs.Sealing.{capacity_by}
use Rattle.st_protocol.specs.Words.{Bytes, client_at}
use Rattle.st_protocol.specs.World as model
use Rattle.st_protocol.specs.World.{Customer, hands, with_customer}
use Rattle.st_client.specs.Customers.{customer_of}
use Rattle.st_world.specs.Standing.{IsWorld}
use Rattle.st_world.proofs.SubmitLaws.{asked_world, asked_stands, capacity_own, deployment_same, few_leaves, submit_spent, submit_came, submit_ended, update_keeps, bytes_next, asks_stands}
use Rattle.st_world.proofs.world.World.submit.Goals as goal

pub returns-then-used-capacity : goal.returns-then-used-capacity
returns-then-used-capacity c =
    λ d m stands.
    let is = c.time-used.ensures ∙ ap (λ (k : Customer). k.time) (c.in_ok-customer.ensures.equal ∙ stands.customers c.args.client.0) in
    submit_spent c.args.self.now d m c.args.client.0 c.args.op.now c.time-used.result c.capacity-capacity.result stands is c.capacity-capacity.ensures (omega (arith, c.if-used-capacity.true))

pub next_update-requires : goal.next_update-requires
next_update-requires c =
    few_leaves c.args.self.now c.time-used.result c.requires.stands (let count = c.capacity-capacity.ensures ∙ capacity_own c.args.self.now c.requires.stands in omega (arith, count, c.if-used-capacity.false))

pub sealed_update-requires-clause-stands : goal.sealed_update-requires-clause-stands
sealed_update-requires-clause-stands c =
    let so = c.requires.stands in
    record { deployment = so.deployment; model = _; stands = c.in_ok-put_customer.ensures.put so.deployment so.model so.stands }

pub sealed_update-requires-clause-client : goal.sealed_update-requires-clause-client
sealed_update-requires-clause-client c =
    let so = c.requires.stands in
    let put = c.in_ok-put_customer.ensures.put so.deployment so.model so.stands in
    subst (λ (d : Deployment). c.args.client.0 < d.clients) (sym (deployment_same c.args.self.now c.put_customer.new.self so.deployment so.stands.set put.set)) c.requires.client

pub sealed_update-requires-clause-leaf : goal.sealed_update-requires-clause-leaf
sealed_update-requires-clause-leaf c =
    let so = c.requires.stands in
    let put = c.in_ok-put_customer.ensures.put so.deployment so.model so.stands in
    let count = c.capacity-capacity.ensures ∙ capacity_own c.args.self.now so in
    let below : c.time-used.result < capacity_by c.args.self.now.deployment.seals = omega (arith, count, c.if-used-capacity.false) in
    subst (λ (d : Deployment). c.time-used.result < capacity_by d.seals) (sym (deployment_same c.args.self.now c.put_customer.new.self so.deployment so.stands.set put.set)) below

pub sealed_update-requires-clause-update : goal.sealed_update-requires-clause-update
sealed_update-requires-clause-update c = update_keeps c.args.client.0 c.time-used.result c.args.op.now c.in_ok-update.update c.in_ok-update.ensures.update c.requires.op

pub send-requires : goal.send-requires
send-requires c =
    let so = c.requires.stands in
    let d = so.deployment in
    let m = so.model in
    let stands = so.stands in
    let was = c.in_ok-customer.ensures.equal in
    let is = c.time-used.ensures ∙ ap (λ (k : Customer). k.time) (was ∙ stands.customers c.args.client.0) in
    let asks = asks_stands c.args.self.now c.put_customer.new.self d m c.args.client.0 (customer_of c.in_ok-customer.customer) _ stands was c.submit.ensures (λ n. c.in_ok-put_customer.ensures.put d n) in
    let notes = λ (n : model.World Bytes) (w : IsWorld c.put_customer.new.self d n).
    subst (λ (u : Update). IsWorld c.sealed_update.new.self d (hands n (client_at c.args.client.0) c.time-used.result (ClientUpdate u))) c.in_ok-update.ensures.update (c.in_ok-bytes.ensures.noted d n w) in
    let left : c.time-used.result < c.capacity-capacity.result = omega (arith, c.if-used-capacity.false) in
    let spelled = bytes_next d c.args.client.0 c.time-used.result c.args.op.now c.in_ok-update.update c.in_ok-bytes.bytes c.in_ok-update.ensures.update (c.in_ok-bytes.ensures.bytes d asks.set) in
    record { deployment = d; model = asked_world m c.args.client.0 c.time-used.result c.args.op.now; stands = asked_stands c.args.self.now c.put_customer.new.self c.sealed_update.new.self d m c.args.client.0 c.args.op.now c.time-used.result c.capacity-capacity.result c.in_ok-bytes.bytes stands is c.capacity-capacity.ensures left asks notes spelled }

pub returns-in-Ok : goal.returns-in-Ok
returns-in-Ok c =
    λ d m stands.
    let was = c.in_ok-customer.ensures.equal in
    let is = c.time-used.ensures ∙ ap (λ (k : Customer). k.time) (was ∙ stands.customers c.args.client.0) in
    let asks = asks_stands c.args.self.now c.put_customer.new.self d m c.args.client.0 (customer_of c.in_ok-customer.customer) _ stands was c.submit.ensures (λ n. c.in_ok-put_customer.ensures.put d n) in
    let notes = λ (n : model.World Bytes) (w : IsWorld c.put_customer.new.self d n).
    subst (λ (u : Update). IsWorld c.sealed_update.new.self d (hands n (client_at c.args.client.0) c.time-used.result (ClientUpdate u))) c.in_ok-update.ensures.update (c.in_ok-bytes.ensures.noted d n w) in
    let left : c.time-used.result < c.capacity-capacity.result = omega (arith, c.if-used-capacity.false) in
    let spelled = bytes_next d c.args.client.0 c.time-used.result c.args.op.now c.in_ok-update.update c.in_ok-bytes.bytes c.in_ok-update.ensures.update (c.in_ok-bytes.ensures.bytes d asks.set) in
    submit_came c.args.self.now c.put_customer.new.self c.sealed_update.new.self d m c.args.client.0 c.args.op.now c.time-used.result c.capacity-capacity.result c.in_ok-bytes.bytes stands is c.capacity-capacity.ensures left asks notes spelled c.send.new.self c.in-Ok.number (c.in-Ok.ensures.sent d (asked_world m c.args.client.0 c.time-used.result c.args.op.now) (asked_stands c.args.self.now c.put_customer.new.self c.sealed_update.new.self d m c.args.client.0 c.args.op.now c.time-used.result c.capacity-capacity.result c.in_ok-bytes.bytes stands is c.capacity-capacity.ensures left asks notes spelled)) c.in-Ok.ensures.number

pub returns-in-Err : goal.returns-in-Err
returns-in-Err c =
    λ d m stands.
    let was = c.in_ok-customer.ensures.equal in
    let is = c.time-used.ensures ∙ ap (λ (k : Customer). k.time) (was ∙ stands.customers c.args.client.0) in
    let asks = asks_stands c.args.self.now c.put_customer.new.self d m c.args.client.0 (customer_of c.in_ok-customer.customer) _ stands was c.submit.ensures (λ n. c.in_ok-put_customer.ensures.put d n) in
    let notes = λ (n : model.World Bytes) (w : IsWorld c.put_customer.new.self d n).
    subst (λ (u : Update). IsWorld c.sealed_update.new.self d (hands n (client_at c.args.client.0) c.time-used.result (ClientUpdate u))) c.in_ok-update.ensures.update (c.in_ok-bytes.ensures.noted d n w) in
    let left : c.time-used.result < c.capacity-capacity.result = omega (arith, c.if-used-capacity.false) in
    let spelled = bytes_next d c.args.client.0 c.time-used.result c.args.op.now c.in_ok-update.update c.in_ok-bytes.bytes c.in_ok-update.ensures.update (c.in_ok-bytes.ensures.bytes d asks.set) in
    submit_ended c.args.self.now c.put_customer.new.self c.sealed_update.new.self d m c.args.client.0 c.args.op.now c.time-used.result c.capacity-capacity.result c.in_ok-bytes.bytes stands is c.capacity-capacity.ensures left asks notes spelled c.send.new.self c.in-Err.error (c.in-Err.ensures.sent d (asked_world m c.args.client.0 c.time-used.result c.args.op.now) (asked_stands c.args.self.now c.put_customer.new.self c.sealed_update.new.self d m c.args.client.0 c.args.op.now c.time-used.result c.capacity-capacity.result c.in_ok-bytes.bytes stands is c.capacity-capacity.ensures left asks notes spelled))
