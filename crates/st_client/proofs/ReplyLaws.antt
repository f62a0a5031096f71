-- What a Reply whose seals check comes to in a world.
use Rattle.std.proofs.Common.{◌≡◌, ◌∙◌, ap, sym, ℕ, Bool, true, false, cond, nat_eq, refl}
use Rattle.std.specs.Prelude.{◌&&◌, not, is_some}
use Rattle.std.proofs.lemmas.Bool.{eqb-true}
use Rattle.st_message.specs.declared.event.Outcome.TheVariants.{Did, Ignored}
use Rattle.st_message.specs.declared.reason.Reason.TheVariants.{Seen, OldTime}
use Rattle.st_schedule.specs.declared.done.Done.TheVariants as done
use Rattle.st_protocol.specs.World.{Deployment, Answered, Customer, World, with_customer, stepped, on_checked_reply}
use Rattle.st_client.specs.Replying.{awaits, awaited, takes, reply_outcome, kept_or_answered, reply_customer}

module _ {Wire : Type 0} where
  -- where the client waits for the time, and has no Reply of the server, it is changed
  by_tests : (waits has : Bool) (world changed : World Wire) (last : ℕ)
      → cond has (stepped world (done.Outcome (Ignored Seen))) (cond waits (stepped changed (done.Outcome Did)) (stepped world (done.Outcome (Ignored (OldTime last)))))
      ≡ stepped (cond (waits && not has) changed world) (done.Outcome (cond has (Ignored Seen) (cond waits Did (Ignored (OldTime last)))))
  by_tests true true world changed last = refl
  by_tests true false world changed last = refl
  by_tests false true world changed last = refl
  by_tests false false world changed last = refl

  -- a changed client is the same, by whichever test it was changed
  taken_alone : (b : Bool) (world : World Wire) (client : ℕ) (new old : Customer)
      → cond b (with_customer world client new) world ≡ cond b (with_customer world client (cond b new old)) world
  taken_alone true world client new old = refl
  taken_alone false world client new old = refl

  pub checked_reply : (d : Deployment Wire) (world : World Wire) (client : ℕ) (customer : Customer) (site index time : ℕ) (a : Answered)
      → on_checked_reply d world client customer site index time a
      ≡ stepped
      (cond (takes customer site index time) (with_customer world client (reply_customer d.f customer site index time a)) world)
      (done.Outcome (reply_outcome customer site index time))
  unfolding on_checked_reply reply_outcome reply_customer kept_or_answered
  checked_reply d world client customer site index time a =
      let new : Customer = kept_or_answered d.f customer site index a in
      by_tests (awaits customer time) (is_some (customer.replies site index)) world (with_customer world client new) (awaited customer)
      ∙ ap (λ (w : World Wire). stepped w (done.Outcome (reply_outcome customer site index time))) (taken_alone (takes customer site index time) world client new customer)

  -- a client in its own place changes nothing
  pub own_customer : (world : World Wire) (client : ℕ) → with_customer world client (world.customers client) ≡ world
  unfolding with_customer
  own_customer world client = λ i. record world { customers = λ c. (by_test c (nat_eq client c) refl) i }
    where
      by_test : (c : ℕ) (b : Bool) → nat_eq client c ≡ b → cond b (world.customers client) (world.customers c) ≡ world.customers c
      by_test c true e = ap world.customers (eqb-true client c e)
      by_test c false e = refl

  -- so no test is needed
  untested : (b : Bool) (world : World Wire) (client : ℕ) (new : Customer)
      → cond b (with_customer world client (cond b new (world.customers client))) world ≡ with_customer world client (cond b new (world.customers client))
  untested true world client new = refl
  untested false world client new = sym (own_customer world client)

  pub own_checked_reply : (d : Deployment Wire) (world : World Wire) (client site index time : ℕ) (a : Answered)
      → on_checked_reply d world client (world.customers client) site index time a
      ≡ stepped
      (with_customer world client (reply_customer d.f (world.customers client) site index time a))
      (done.Outcome (reply_outcome (world.customers client) site index time))
  unfolding reply_customer
  own_checked_reply d world client site index time a =
      checked_reply d world client (world.customers client) site index time a
      ∙ ap (λ (w : World Wire). stepped w (done.Outcome (reply_outcome (world.customers client) site index time)))
      (untested (takes (world.customers client) site index time) world client (kept_or_answered d.f (world.customers client) site index a))
