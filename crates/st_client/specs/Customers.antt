-- A client, as a client of the world.
use Rattle.std.specs.Prelude.{◌+◌, true, Option, Some, None}
use Rattle.st_protocol.specs.World.{Answered, Customer}
use Rattle.st_client.specs.declared.replies.Answer.{Answer}
use Rattle.st_client.specs.declared.client.Client.{Client}
use Rattle.st_client.specs.Rows.{entry_in}

-- what a server answered, if it did
abbrev pub answered_of : Option Answer → Option Answered
answered_of None = None
answered_of (Some x) = Some (record { number = x.number.0; result = x.result })

-- a client's time, and what it keeps
unfoldable pub customer_of : Client → Customer
customer_of client =
    record {
      time = client.time;
      waits = client.waits;
      replies = λ s i. answered_of (entry_in (entry_in client.replies s) i);
      result = answered_of client.result;
    }

-- a client that has asked for its next update
abbrev pub asks_next : Customer → Customer
asks_next customer = record { time = customer.time + 1; waits = true; replies = λ s i. None; result = None }
