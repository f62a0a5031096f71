-- What a Reply comes to at a client, where its seals check.
use Rattle.std.specs.Prelude.{ℕ, Bool, true, cond, ◌&&◌, not, is_some, []}
use Rattle.st_message.specs.declared.message.Message.{Message}
use Rattle.st_message.specs.declared.event.Outcome.{Outcome}
use Rattle.st_message.specs.declared.event.Outcome.TheVariants.{Did, Ignored}
use Rattle.st_message.specs.declared.reason.Reason.TheVariants.{Seen, OldTime}
use Rattle.st_protocol.specs.World as world
use Rattle.st_protocol.specs.World.{Deployment, passed, Answered, Customer}

-- A deployment that has this f, of which nothing else is asked.
abbrev pub with_f : ℕ → Deployment Message
with_f f =
    record {
      id = 0;
      sites = 0;
      f = f;
      clients = 0;
      capacity = 0;
      serve = λ before op. [];
      faulty = λ site index. true;
      formats = passed (λ who leaf s. []);
    }

-- the client waits for its update of this time
abbrev pub awaits : Customer → ℕ → Bool
awaits customer time = world.awaits (with_f 0) customer time

-- the time that is awaited, or 0
abbrev pub awaited : Customer → ℕ
awaited customer = world.awaited (with_f 0) customer

-- a Reply to the awaited time is taken, the first of each server
abbrev pub takes : Customer → ℕ → ℕ → ℕ → Bool
takes customer site index time = awaits customer time && not (is_some (customer.replies site index))

-- What the Reply comes to: a server whose Reply to the awaited time is kept is seen, whatever the time of this one.
unfoldable pub reply_outcome : Customer → ℕ → ℕ → ℕ → Outcome
reply_outcome customer site index time =
    cond (is_some (customer.replies site index)) (Ignored Seen) (cond (awaits customer time) Did (Ignored (OldTime (awaited customer))))

-- a Reply that is taken is kept and, with f+1 equal ones of its site, is the result
unfoldable pub kept_or_answered : ℕ → Customer → ℕ → ℕ → Answered → Customer
kept_or_answered f customer site index a =
    world.answered (with_f f) (world.with_reply (with_f f) customer site index a) site a

-- the client after the Reply
unfoldable pub reply_customer : ℕ → Customer → ℕ → ℕ → ℕ → Answered → Customer
reply_customer f customer site index time a = cond (takes customer site index time) (kept_or_answered f customer site index a) customer
