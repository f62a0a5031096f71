-- The clients, as a world sees them.
use Rattle.std.specs.Prelude.{ℕ, List, Option, Some, None}
use Rattle.st_tables.specs.Entries.{entry}
use Rattle.st_protocol.specs.World.{Customer, fresh_customer}
use Rattle.st_client.specs.declared.client.Client.{Client}
use Rattle.st_client.specs.Customers.{customer_of}

-- a client that is there, or one that has asked for nothing
abbrev pub customer_by : Option Client → Customer
customer_by None = fresh_customer
customer_by (Some client) = customer_of client

-- the client of a number
unfoldable pub customer_in : List (Option Client) → ℕ → Customer
customer_in clients c = customer_by (entry clients c)
