-- A client is changed.
use Rattle.std.proofs.Common.{◌≡◌, ◌≢◌, ◌∙◌, ap, sym, subst, ℕ, Bool, true, false, cond, nat_eq, Option, Some, None, Ok, List, refl}
use Rattle.std.proofs.lemmas.Bool.{eqb-true, eqb-false}
use Rattle.st_words.specs.declared.deployment.Deployment.{Deployment}
use Rattle.st_words.specs.declared.ids.SiteId.{SiteId}
use Rattle.st_words.specs.declared.ids.ClientId.{ClientId}
use Rattle.st_words.specs.declared.ids.Number.{Number}
use Rattle.st_words.specs.declared.statement.Statement.{Statement}
use Rattle.st_words.specs.declared.statement.Statement.TheVariants.{Prepare, Proposal, Accept, LocalVc, GlobalVc, LocalReport, GlobalReport, LocalUnion, GlobalUnion, Reply, ClientUpdate}
use Rattle.st_seal.specs.declared.quorum.Signed.{Signed}
use Rattle.st_hss_seal.specs.Sealing.{holds_in}
use Rattle.st_hss_seal.specs.Sealers.{scheme_in}
use Rattle.st_message.specs.declared.event.Outcome.{Outcome}
use Rattle.st_message.specs.declared.event.Outcome.TheVariants.{Ignored}
use Rattle.st_message.specs.declared.message.Message.{Message}
use Rattle.st_message.specs.declared.message.Message.TheVariants as messages
use Rattle.st_message.specs.declared.reason.Reason.TheVariants.{NotMine, BadSeal}
use Rattle.st_schedule.specs.declared.done.Done.TheVariants as dones
use Rattle.st_tables.specs.Entries.{entry, Sets}
use Rattle.st_wire.specs.Seals.{seals_of}
use Rattle.st_protocol.specs.Words.{Bytes}
use Rattle.st_protocol.specs.Keeping.{given}
use Rattle.st_protocol.specs.Duty.{Clean}
use Rattle.st_protocol.specs.World as model
use Rattle.st_protocol.specs.World.{Customer, Answered, Stepped, stepped, bad_seal, with_customer, client_takes, on_checked_reply}
use Rattle.st_reading.specs.Answered.{first_unchecked}
use Rattle.st_flows.proofs.PlainKept.{plain_with_customer}
use Rattle.st_client.specs.declared.client.Client.{Client}
use Rattle.st_client.specs.Customers.{customer_of}
use Rattle.st_client.specs.Replying.{reply_customer, reply_outcome}
use Rattle.st_client.proofs.ReplyLaws.{own_checked_reply}
use Rattle.st_config.specs.Taken.{IsTaken}
use Rattle.st_deployment.specs.Deployed.{world_deployment}
use Rattle.st_world.specs.declared.world.World.{World}
use Rattle.st_world.specs.Customers.{customer_by, customer_in}
use Rattle.st_world.specs.Standing.{IsSet, IsSent, IsWorld, CameTo}
use Rattle.st_world.proofs.DeliverLaws.{checks_same}

eqb-refl : (n : ℕ) → nat_eq n n ≡ true
eqb-refl n = by (nat_eq n n) refl
  where
    by : (b : Bool) → nat_eq n n ≡ b → nat_eq n n ≡ true
    by true e = e
    by false e = absurd (eqb-false n n e refl)

-- the table with a client in its place
customer_put : (old new : List (Option Client)) (key : ℕ) (client : Client) (c : ℕ) → Sets old new key (Some client) → customer_in new c ≡ cond (nat_eq key c) (customer_of client) (customer_in old c)
unfolding customer_in
customer_put old new key client c sets = by (nat_eq key c) refl
  where
    by : (b : Bool) → nat_eq key c ≡ b → customer_by (entry new c) ≡ cond b (customer_of client) (customer_by (entry old c))
    by true e = ap (λ k. customer_by (entry new k)) (sym (eqb-true key c e)) ∙ ap customer_by sets.here
    by false e = ap customer_by (sets.others c (λ (same : c ≡ key). absurd (let equal : nat_eq key c ≡ true = ap (λ k. nat_eq key k) same ∙ eqb-refl key in cc)))

pub put_stands : (w : World) (customers : List (Option Client)) (d : Deployment) (m : model.World Bytes) (client : ℕ) (customer : Client) → IsWorld w d m → Sets w.customers customers client (Some customer)
    → IsWorld (record w { customers = customers }) d (with_customer m client (customer_of customer))
unfolding with_customer
put_stands w customers d m client customer stands sets =
    let was : IsSent w d m = stands.sending in
    let set : IsSet w d = stands.set in
    record {
      set = record { taken = set.taken; deployment = set.deployment; seals = set.seals; sealer = set.sealer; sealers = set.sealers; seat = set.seat };
      server = stands.server;
      kept = stands.kept;
      plain = plain_with_customer m client (customer_of customer) stands.plain;
      customers = λ c. customer_put w.customers customers client customer c sets ∙ ap (λ (x : Customer). cond (nat_eq client c) (customer_of customer) x) (stands.customers c);
      sending = record { sent = was.sent; number = was.number; size = was.size; few = was.few; newest = was.newest; below = was.below; waiting = was.waiting; made = was.made };
      going = stands.going;
    }

-- ---- seals

-- the first seal that doesn't check is the deployment's
pub bad_seal_is : (w : World) (d : Deployment) (message : Message) (place : Option ℕ) → IsSet w d
    → place ≡ first_unchecked (holds_in (scheme_in w.seals)) w.deployment.id (seals_of w.deployment.id w.deployment.sites message) → place ≡ bad_seal (world_deployment d) message
unfolding world_deployment
bad_seal_is w d message place set is =
    is ∙ (λ i. first_unchecked (checks_same w d set i) (set.deployment i).id (seals_of (set.deployment i).id (set.deployment i).sites message))

-- ---- what a client takes

-- nothing but a Reply
pub stranger_takes : (w : World) (d : Deployment) (m : model.World Bytes) (client : ℕ) (message : Message) → IsWorld w d m → ((s : Statement) (signed : Signed) → message ≢ messages.Reply s signed)
    → CameTo (Ok (dones.Outcome (Ignored NotMine))) w d (client_takes (world_deployment d) m client (Clean message))
stranger_takes w d m client (messages.Reply s signed) stands never = absurd (never s signed refl)
stranger_takes w d m client (messages.Update u seal) stands never = (stands, refl)
stranger_takes w d m client (messages.Assign g l n v seal signed) stands never = (stands, refl)
stranger_takes w d m client (messages.Share s signed) stands never = (stands, refl)
stranger_takes w d m client (messages.Certificate s q) stands never = (stands, refl)
stranger_takes w d m client (messages.OrderProof n p) stands never = (stands, refl)
stranger_takes w d m client (messages.Report r) stands never = (stands, refl)
stranger_takes w d m client (messages.Bundle rs) stands never = (stands, refl)
stranger_takes w d m client (messages.ViewProof ws) stands never = (stands, refl)
stranger_takes w d m client (messages.Ask server n g l) stands never = (stands, refl)

-- whose statement is one
reply_only : (w : World) (d : Deployment) (m : model.World Bytes) (client : ℕ) (s : Statement) (signed : Signed) → IsWorld w d m
    → ((site : SiteId) (to : ClientId) (time : ℕ) (n : Number) (outcome : Bytes) → s ≢ Reply site to time n outcome)
    → CameTo (Ok (dones.Outcome (Ignored NotMine))) w d (client_takes (world_deployment d) m client (Clean (messages.Reply s signed)))
reply_only w d m client (Reply site to time n outcome) signed stands never = absurd (never site to time n outcome refl)
reply_only w d m client (Prepare z g l n v) signed stands never = (stands, refl)
reply_only w d m client (Proposal z g l n v) signed stands never = (stands, refl)
reply_only w d m client (Accept z g n v) signed stands never = (stands, refl)
reply_only w d m client (LocalVc z l) signed stands never = (stands, refl)
reply_only w d m client (GlobalVc z g) signed stands never = (stands, refl)
reply_only w d m client (LocalReport z l i g b is) signed stands never = (stands, refl)
reply_only w d m client (GlobalReport z g i b is) signed stands never = (stands, refl)
reply_only w d m client (LocalUnion z l g b is) signed stands never = (stands, refl)
reply_only w d m client (GlobalUnion z g b is) signed stands never = (stands, refl)
reply_only w d m client (ClientUpdate u) signed stands never = (stands, refl)

pub other_takes : (w : World) (d : Deployment) (m : model.World Bytes) (client : ℕ) (message : Message) (s : Statement) (signed : Signed) → IsWorld w d m → message ≡ messages.Reply s signed
    → ((site : SiteId) (to : ClientId) (time : ℕ) (n : Number) (outcome : Bytes) → s ≢ Reply site to time n outcome)
    → CameTo (Ok (dones.Outcome (Ignored NotMine))) w d (client_takes (world_deployment d) m client (Clean message))
other_takes w d m client message s signed stands is never =
    subst (λ (k : Message). CameTo (Ok (dones.Outcome (Ignored NotMine))) w d (client_takes (world_deployment d) m client (Clean k))) (sym is) (reply_only w d m client s signed stands never)

-- what a Reply comes to at a client
module _ (d : Deployment) (m : model.World Bytes) (client : ℕ) (message : Message) (s : Statement) (signed : Signed) (site : SiteId) (to : ClientId) (time : ℕ) (n : Number) (outcome : Bytes)
    (is : message ≡ messages.Reply s signed) (kind : s ≡ Reply site to time n outcome) where
  -- by whether it is the client's own, and by its seals
  taken_by : (own : Bool) (bad : Option ℕ) → nat_eq client to.0 ≡ own → bad_seal (world_deployment d) message ≡ bad
      → client_takes (world_deployment d) m client (Clean message)
      ≡ cond own
      (given bad (on_checked_reply (world_deployment d) m client (m.customers client) site.0 signed.index time (record { number = n.0; result = outcome })) (λ place. stepped m (dones.Outcome (Ignored (BadSeal place)))))
      (stepped m (dones.Outcome (Ignored NotMine)))
  taken_by own bad e f =
      let whole : message ≡ messages.Reply (Reply site to time n outcome) signed = is ∙ ap (λ (t : Statement). messages.Reply t signed) kind in
      ap (λ (k : Message). client_takes (world_deployment d) m client (Clean k)) whole
      ∙ (λ i. cond (e i)
      (given ((ap (bad_seal (world_deployment d)) (sym whole) ∙ f) i)
      (on_checked_reply (world_deployment d) m client (m.customers client) site.0 signed.index time (record { number = n.0; result = outcome })) (λ place. stepped m (dones.Outcome (Ignored (BadSeal place)))))
      (stepped m (dones.Outcome (Ignored NotMine))))

  -- another client's
  pub theirs_takes : (w : World) → IsWorld w d m → nat_eq client to.0 ≡ false → CameTo (Ok (dones.Outcome (Ignored NotMine))) w d (client_takes (world_deployment d) m client (Clean message))
  theirs_takes w stands other = subst (CameTo (Ok (dones.Outcome (Ignored NotMine))) w d) (sym (taken_by false (bad_seal (world_deployment d) message) other refl)) (stands, refl)

  -- its own, whose seal doesn't check
  pub unsealed_takes : (w : World) (place : ℕ) → IsWorld w d m → nat_eq client to.0 ≡ true → Some place ≡ bad_seal (world_deployment d) message
      → CameTo (Ok (dones.Outcome (Ignored (BadSeal place)))) w d (client_takes (world_deployment d) m client (Clean message))
  unsealed_takes w place stands own bad = subst (CameTo (Ok (dones.Outcome (Ignored (BadSeal place)))) w d) (sym (taken_by true (Some place) own (sym bad))) (stands, refl)

  -- its own
  pub own_takes : (new : World) (came : Outcome) → IsTaken d → nat_eq client to.0 ≡ true → None ≡ bad_seal (world_deployment d) message
      → IsWorld new d (with_customer m client (reply_customer 0 (m.customers client) site.0 signed.index time (record { number = n.0; result = outcome }))) → came ≡ reply_outcome (m.customers client) site.0 signed.index time
      → CameTo (Ok (dones.Outcome came)) new d (client_takes (world_deployment d) m client (Clean message))
  unfolding world_deployment
  own_takes new came taken own good stands is_outcome =
      subst (CameTo (Ok (dones.Outcome came)) new d)
      (sym
      (taken_by true None own (sym good)
      ∙ (own_checked_reply (world_deployment d) m client site.0 signed.index time (record { number = n.0; result = outcome })
      ∙ ap
      (λ f. stepped (with_customer m client (reply_customer f (m.customers client) site.0 signed.index time (record { number = n.0; result = outcome }))) (dones.Outcome (reply_outcome (m.customers client) site.0 signed.index time)))
      taken.f)))
      (stands, ap dones.Outcome is_outcome)
