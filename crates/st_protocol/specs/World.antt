-- A whole deployment: its servers, its clients, what was sent, and what an event of a party does to it.
use Rattle.std.specs.Prelude.{ℕ, ◌+◌, ◌-◌, ◌*◌, ◌^◌, Bool, true, false, cond, nat_eq, nat_lt, nat_le, ◌&&◌, ◌||◌, not, Option, Some, None, is_some, List, [], ◌∷◌, ◌++◌, length, bytes_eq}
use Rattle.std.specs.List.{fold}
use Rattle.st_words.specs.declared.deployment as words
use Rattle.st_words.specs.declared.deployment.SealKind.{SealKind}
use Rattle.st_words.specs.declared.deployment.SealKind.TheVariants as seal_kinds
use Rattle.st_words.specs.declared.ids.ServerId.{ServerId}
use Rattle.st_words.specs.declared.ids.Who.{Who}
use Rattle.st_words.specs.declared.statement.Statement.{Statement}
use Rattle.st_words.specs.declared.statement.Statement.TheVariants.{Reply}
use Rattle.st_seal.specs.declared.quorum.Signed.{Signed}
use Rattle.st_message.specs.declared.message.Message.{Message}
use Rattle.st_message.specs.declared.message.Message.TheVariants as messages
use Rattle.st_message.specs.declared.event.Scope.{Scope}
use Rattle.st_message.specs.declared.event.Scope.TheVariants as scopes
use Rattle.st_message.specs.declared.event.Outcome.TheVariants.{Did, Ignored}
use Rattle.st_message.specs.declared.event.Output.{Output}
use Rattle.st_message.specs.declared.event.Plan.{Plan}
use Rattle.st_message.specs.declared.change.Change.{Change}
use Rattle.st_message.specs.declared.change.Heard.{Heard}
use Rattle.st_message.specs.declared.made.MadeSeal.{MadeSeal}
use Rattle.st_message.specs.declared.reason.Reason.TheVariants.{Unknown, BadSeal, NotMine, Seen, OldTime}
use Rattle.st_schedule.specs.declared.limits.TheConstants.{MOST_MESSAGES, MOST_SENT, MOST_JOURNAL, EMPTY_JOURNAL}
use Rattle.st_schedule.specs.declared.line.Dest.{Dest}
use Rattle.st_schedule.specs.declared.line.Dest.TheVariants as dests
use Rattle.st_schedule.specs.declared.done.Done.{Done}
use Rattle.st_schedule.specs.declared.done.Done.TheVariants as done
use Rattle.st_protocol.specs.Words.{Bytes, server_at, a_server, a_prepare, an_update, same_server, same_who, same_statement}
use Rattle.st_protocol.specs.Keeping.{given, or_else}
use Rattle.st_protocol.specs.State.{Seat}
use Rattle.st_protocol.specs.Step.{count_below, all_below}
use Rattle.st_protocol.specs.Duty.{Event, Deliver, Reading, Faulty, Clean, Pen, duty}

-- ---- the deployment

-- A seal in a message, and the offset of its bytes.
pub record SealIn : Type 0 where
  pub who : Who
  pub statement : Statement
  pub seal : Bytes
  pub place : ℕ

-- What the formats and seals of a deployment say. A message on its way is a Wire.
pub record Formats (Wire : Type 0) : Type 0 where
  -- the message that a Wire spells, or why it spells none
  pub read : Wire → Reading
  pub encode : Message → Wire
  -- what is on the wire where these bytes are delivered, and the bytes of a Wire
  pub raw : Bytes → Wire
  pub bytes : Wire → Bytes
  -- whether all that a message names is of the deployment
  pub knows : Message → Bool
  -- in byte order
  pub seals_in : Message → List SealIn
  pub holds : Who → Statement → Bytes → Bool
  -- a party's seal, with a leaf
  pub seal : Who → ℕ → Statement → Bytes
  -- the bytes that a body adds to its journal's file
  pub body_size : List Change → ℕ

-- Messages are passed as they are: nothing can be wrong with one, no bytes are counted, and no body is written. A raw
-- line isn't built, so that what it would deliver is never asked.
abbrev pub passed : (Who → ℕ → Statement → Bytes) → Formats Message
passed seal =
    record {
      read = Clean;
      encode = λ m. m;
      raw = λ bytes. messages.Update (an_update 0 0 bytes) [];
      bytes = λ m. [];
      knows = λ m. true;
      seals_in = λ m. [];
      holds = λ who s b. true;
      seal = seal;
      body_size = λ changes. 0;
    }

-- A deployment: its numbers, its service, which of its servers are faulty, and its formats.
pub record Deployment (Wire : Type 0) : Type 0 where
  pub id : ℕ
  pub sites : ℕ
  pub f : ℕ
  pub clients : ℕ
  -- how many seals a party has
  pub capacity : ℕ
  -- what running an operation gives after these operations ran
  pub serve : List Bytes → Bytes → Bytes
  -- per site and index
  pub faulty : ℕ → ℕ → Bool
  pub formats : Formats Wire

-- whether a server is in a list
unfoldable pub is_listed : List ServerId → ℕ → ℕ → Bool
is_listed [] site index = false
is_listed (x ∷ xs) site index = same_server x (a_server site index) || is_listed xs site index

-- how many seals a party has
abbrev pub capacity_of : SealKind → ℕ
capacity_of seal_kinds.Keyed = 1048576
capacity_of (seal_kinds.Hss height width levels) = 2 ^ (height * levels)

-- A file's deployment, with its service and its formats.
abbrev pub deployment_of : {Wire : Type 0} → words.Deployment.Deployment → (List Bytes → Bytes → Bytes) → Formats Wire → Deployment Wire
deployment_of d serve formats =
    record {
      id = d.id;
      sites = d.sites;
      f = d.f;
      clients = d.clients;
      capacity = capacity_of d.seals;
      serve = serve;
      faulty = is_listed d.faulty;
      formats = formats;
    }

-- What ends a world.
pub data Fault : Type 0 where
  BadReference : Fault
  Forged : (place : ℕ) → Fault
  TooMany : (count : ℕ) → Fault
  TooMuch : (bytes : ℕ) → Fault

-- ---- the world

-- Whether a server goes on.
pub data Stand : Type 0 where
  Running : Stand
  Stopped : Stand
  Full : Stand

-- A server.
pub record Node : Type 0 where
  pub bodies : List (List Change)
  pub heard : List Heard
  pub stand : Stand
  -- which device call from now on fails; 0 where none is set
  pub stop : ℕ
  -- of a stopped server: the failed event's changes, where they may be there after a restart
  pub apart : Option (List Change)
  -- the file's length
  pub bytes : ℕ

-- A message, by its number, that wasn't delivered there yet.
pub record Pair : Type 0 where
  pub message : ℕ
  pub to : Dest

-- What a server answered a client: the number, and the result.
pub record Answered : Type 0 where
  pub number : ℕ
  pub result : Bytes

-- A client.
pub record Customer : Type 0 where
  -- the time of its last update
  pub time : ℕ
  pub waits : Bool
  -- per site and index: the Reply to the awaited time
  pub replies : ℕ → ℕ → Option Answered
  -- of the last update
  pub result : Option Answered

-- All servers and clients, what was sent, and what wasn't delivered yet.
pub record World (Wire : Type 0) : Type 0 where
  -- per site and index
  pub nodes : ℕ → ℕ → Node
  pub sent : List Wire
  pub waiting : List Pair
  -- the seals that correct parties handed out, each once
  pub made : List MadeSeal
  pub customers : ℕ → Customer
  -- how many leaves a faulty server used, per site and index
  pub leaves : ℕ → ℕ → ℕ
  pub ended : Option Fault

-- A server at first: its journal is empty.
unfoldable pub fresh_node : Node
fresh_node = record { bodies = []; heard = []; stand = Running; stop = 0; apart = None; bytes = EMPTY_JOURNAL }

-- A client at first: it asked for nothing.
unfoldable pub fresh_customer : Customer
fresh_customer = record { time = 0; waits = false; replies = λ s i. None; result = None }

-- The world before the first line.
unfoldable pub empty : {Wire : Type 0} → World Wire
empty =
    record {
      nodes = λ s i. fresh_node;
      sent = [];
      waiting = [];
      made = [];
      customers = λ c. fresh_customer;
      leaves = λ s i. 0;
      ended = None;
    }

-- ---- words without a deployment

-- the same destination
abbrev pub same_dest : Dest → Dest → Bool
same_dest (dests.Server a) (dests.Server b) = same_server a b
same_dest (dests.Client a) (dests.Client b) = nat_eq a.0 b.0
same_dest _ _ = false

-- no element
abbrev pub is_nil : {A : Type 0} → List A → Bool
is_nil [] = true
is_nil (x ∷ xs) = false

-- The party has handed out a seal over the statement.
unfoldable pub has_made : List MadeSeal → Who → Statement → Bool
has_made [] who s = false
has_made (x ∷ xs) who s = (same_who x.who who && same_statement x.statement s) || has_made xs who s

-- A message to each of these destinations.
unfoldable pub pairs_to : ℕ → List Dest → List Pair
pairs_to m [] = []
pairs_to m (to ∷ more) = record { message = m; to = to } ∷ pairs_to m more

-- the place of the first seal that a test doesn't pass
unfoldable pub first_bad : (SealIn → Bool) → List SealIn → Option ℕ
first_bad good [] = None
first_bad good (x ∷ xs) = cond (good x) (first_bad good xs) (Some x.place)

-- whether the party handed out this seal: with this leaf over this statement
unfoldable pub has_handed : List MadeSeal → Who → ℕ → Statement → Bool
has_handed [] who leaf s = false
has_handed (x ∷ xs) who leaf s = (same_who x.who who && nat_eq x.leaf leaf && same_statement x.statement s) || has_handed xs who leaf s

-- the statement that a message of a server's own seals
abbrev pub own_statement : Message → Option Statement
own_statement (messages.Share s signed) = Some s
own_statement (messages.Report r) = Some r.statement
own_statement (messages.Reply s signed) = Some s
own_statement m = None

-- the statement that a server's own message seals, if any
abbrev pub handed : ℕ → Message → Option Statement
handed site (messages.Assign view local number value client_seal signed) = Some (a_prepare site view.0 local.0 number.0 value)
handed site m = own_statement m

-- ---- one field changed

module _ {Wire : Type 0} where
  -- A server is changed.
  unfoldable pub with_node : World Wire → ℕ → ℕ → Node → World Wire
  with_node world site index node = record world { nodes = λ s i. cond (nat_eq site s && nat_eq index i) node (world.nodes s i) }

  -- A client is changed.
  unfoldable pub with_customer : World Wire → ℕ → Customer → World Wire
  with_customer world client customer = record world { customers = λ c. cond (nat_eq client c) customer (world.customers c) }

  -- What isn't delivered yet is changed.
  unfoldable pub with_waiting : World Wire → List Pair → World Wire
  with_waiting world pairs = record world { waiting = pairs }

  -- a faulty server's next leaf is used
  unfoldable pub uses_leaf : World Wire → ℕ → ℕ → World Wire
  uses_leaf world site index =
      record world { leaves = λ s i. cond (nat_eq site s && nat_eq index i) (world.leaves site index + 1) (world.leaves s i) }

  -- the first fault stays
  unfoldable pub ends : World Wire → Option Fault → World Wire
  ends world fault = record world { ended = or_else world.ended fault }

  -- a seal is handed out: it is noted where it wasn't before
  unfoldable pub hands : World Wire → Who → ℕ → Statement → World Wire
  hands world who leaf s =
      record world { made = cond (has_handed world.made who leaf s) world.made (world.made ++ record { who = who; leaf = leaf; statement = s } ∷ []) }

-- ---- what a world and an event's outcome are together

-- The world after an event, and what the event came to.
pub record Stepped (Wire : Type 0) : Type 0 where
  pub world : World Wire
  pub done : Done

-- a world and what the event came to
abbrev pub stepped : {Wire : Type 0} → World Wire → Done → Stepped Wire
stepped world done = record { world = world; done = done }

-- ---- by the deployment

module _ {Wire : Type 0} (d : Deployment Wire) where
  -- how many servers a site has
  abbrev pub servers_of : ℕ
  servers_of = 3 * d.f + 1

  -- what never changes at a server
  abbrev pub seat_of : ℕ → ℕ → Seat
  seat_of site index = record { site = site; index = index; sites = d.sites; f = d.f; clients = d.clients; capacity = d.capacity; serve = d.serve }

  -- a server of the deployment
  abbrev pub is_server : ℕ → ℕ → Bool
  is_server site index = nat_lt site d.sites && nat_lt index servers_of

  -- a server that isn't faulty
  abbrev pub is_correct : ℕ → ℕ → Bool
  is_correct site index = is_server site index && not (d.faulty site index)

  -- a seal that checks
  abbrev pub checks_in : SealIn → Bool
  checks_in x = d.formats.holds x.who x.statement x.seal

  -- the place of the first seal that doesn't check
  abbrev pub bad_seal : Message → Option ℕ
  bad_seal m = first_bad checks_in (d.formats.seals_in m)

  -- a message that names what isn't of the deployment is unknown
  abbrev pub with_known : Reading → Reading
  with_known (Faulty reason) = Faulty reason
  with_known (Clean m) = cond (d.formats.knows m) (Clean m) (Faulty Unknown)

  -- a message with a seal that doesn't check is refused
  abbrev pub with_seals : Reading → Reading
  with_seals (Faulty reason) = Faulty reason
  with_seals (Clean m) = given (bad_seal m) (Clean m) (λ place. Faulty (BadSeal place))

  -- a Wire as a client reads it: its seals are looked at later
  abbrev pub read_known : Wire → Reading
  read_known wire = with_known (d.formats.read wire)

  -- a Wire as a server reads it
  abbrev pub reads : Wire → Reading
  reads wire = with_seals (read_known wire)

  -- ---- sending

  -- the servers of a site, by index
  abbrev pub site_dests : ℕ → List Dest
  site_dests site = all_below (λ i. dests.Server (a_server site i) ∷ []) servers_of

  -- the destinations of a scope: servers by site and index
  abbrev pub dests_of : Scope → List Dest
  dests_of scopes.All = all_below (λ s. site_dests s) d.sites
  dests_of (scopes.Site site) = site_dests site.0
  dests_of (scopes.One server) = dests.Server server ∷ []
  dests_of (scopes.Client client) = dests.Client client ∷ []

  -- the bytes of a message on its way
  abbrev pub size_of : Wire → ℕ
  size_of wire = length (d.formats.bytes wire)

  -- The bytes of all messages.
  unfoldable pub sent_size : List Wire → ℕ
  sent_size [] = 0
  sent_size (wire ∷ more) = size_of wire + sent_size more

  -- one message too many, or one byte
  abbrev pub send_fault : World Wire → Wire → Option Fault
  send_fault world wire =
      cond (nat_le MOST_MESSAGES (length world.sent)) (Some (TooMany (length world.sent + 1)))
      (cond (nat_lt MOST_SENT (sent_size world.sent + size_of wire)) (Some (TooMuch (sent_size world.sent + size_of wire))) None)

  -- A message gets the next number and waits for its destinations.
  unfoldable pub sends_to : World Wire → Wire → List Dest → World Wire
  sends_to world wire to =
      record world {
        sent = world.sent ++ wire ∷ [];
        waiting = world.waiting ++ pairs_to (length world.sent) to;
        ended = or_else world.ended (send_fault world wire);
      }

  -- ---- what a server's event comes to

  -- the server's own seal in a message, if there is one, is noted with its leaf
  unfoldable pub notes_seal : ℕ → ℕ → World Wire → Output → World Wire
  notes_seal site index world o =
      given o.leaf world (λ leaf. given (handed site o.message) world (λ s. hands world (server_at site index) leaf s))

  -- one message of a server's is handed out
  unfoldable pub hands_one : ℕ → ℕ → World Wire → Output → World Wire
  hands_one site index world o = sends_to (notes_seal site index world o) (d.formats.encode o.message) (dests_of o.to)

  -- messages of a server's, in order
  abbrev pub hands_out : ℕ → ℕ → World Wire → List Output → World Wire
  hands_out site index world outputs = fold (hands_one site index) world outputs

  -- the server's node after a plan that is handed out: a body is written by four device calls
  abbrev pub settled : Node → Plan → Node
  settled node plan =
      record {
        bodies = cond (is_nil plan.changes) node.bodies (node.bodies ++ plan.changes ∷ []);
        heard = node.heard ++ plan.heard;
        stand = node.stand;
        stop = cond (is_nil plan.changes) node.stop (node.stop - 4);
        apart = None;
        bytes = cond (is_nil plan.changes) node.bytes (node.bytes + d.formats.body_size plan.changes);
      }

  -- the plan's body takes the file past its limit
  abbrev pub is_full_by : Node → Plan → Bool
  is_full_by node plan = not (is_nil plan.changes) && nat_lt MOST_JOURNAL (node.bytes + d.formats.body_size plan.changes)

  -- one of the four calls is set to fail
  abbrev pub is_stopped_by : Node → Plan → Bool
  is_stopped_by node plan = not (is_nil plan.changes) && nat_lt 0 node.stop && nat_le node.stop 4

  -- nothing is written, and the server takes no more events
  abbrev pub stands_full : Node → Node
  stands_full node = record node { stand = Full; apart = None }

  -- where the fourth call fails, the body is on the disk, and its gate may be open after a restart
  abbrev pub stands_stopped : Node → List Change → Node
  stands_stopped node changes = record node { stand = Stopped; apart = cond (nat_eq node.stop 4) (Some changes) None }

  -- A plan is written and handed out, unless the journal is full or a device call fails.
  unfoldable pub comes_to : World Wire → ℕ → ℕ → Plan → Stepped Wire
  comes_to world site index plan =
      cond (is_full_by (world.nodes site index) plan)
      (stepped (with_node world site index (stands_full (world.nodes site index))) done.Full)
      (cond (is_stopped_by (world.nodes site index) plan)
      (stepped (with_node world site index (stands_stopped (world.nodes site index) plan.changes)) done.Stopped)
      (stepped (hands_out site index (with_node world site index (settled (world.nodes site index) plan)) plan.outputs) (done.Outcome plan.outcome)))

  -- a server's seals
  abbrev pub pen_at : ℕ → ℕ → Pen
  pen_at site index = d.formats.seal (server_at site index)

  -- a server's plan for an event
  abbrev pub plan_at : World Wire → ℕ → ℕ → Event Wire → Plan
  plan_at world site index event =
      duty reads (pen_at site index) (seat_of site index) (world.nodes site index).bodies (world.nodes site index).heard event

  -- only a server that runs takes an event
  abbrev pub by_stand : World Wire → ℕ → ℕ → Event Wire → Stand → Stepped Wire
  by_stand world site index event Running = comes_to world site index (plan_at world site index event)
  by_stand world site index event Stopped = stepped world done.Stopped
  by_stand world site index event Full = stepped world done.Full

  -- An event of a server; a faulty one runs no code.
  unfoldable pub serves : World Wire → ℕ → ℕ → Event Wire → Stepped Wire
  serves world site index event =
      cond (d.faulty site index) (stepped world done.Faulty) (by_stand world site index event (world.nodes site index).stand)

  -- ---- a client's reply

  -- the same number and result
  abbrev pub same_answered : Answered → Answered → Bool
  same_answered a b = nat_eq a.number b.number && bytes_eq a.result b.result

  -- the replies once this one is kept too
  abbrev pub with_reply : Customer → ℕ → ℕ → Answered → Customer
  with_reply customer site index a =
      record customer { replies = λ s i. cond (nat_eq site s && nat_eq index i) (Some a) (customer.replies s i) }

  -- how many servers of the site answered so
  abbrev pub agree_on : Customer → ℕ → Answered → ℕ
  agree_on customer site a = count_below (λ i. given (customer.replies site i) false (same_answered a)) servers_of

  -- with f+1 equal replies of a site the client has its result
  abbrev pub answered : Customer → ℕ → Answered → Customer
  answered customer site a =
      cond (nat_lt d.f (agree_on customer site a))
      (record { time = customer.time; waits = false; replies = λ s i. None; result = Some a })
      customer

  -- the time that is awaited, or 0
  abbrev pub awaited : Customer → ℕ
  awaited customer = cond customer.waits customer.time 0

  -- the client waits for its update of this time
  abbrev pub awaits : Customer → ℕ → Bool
  awaits customer time = customer.waits && nat_eq time customer.time

  -- a Reply to this client, whose seals check: a server whose Reply to the awaited time is kept is seen, whatever its time
  unfoldable pub on_checked_reply : World Wire → ℕ → Customer → ℕ → ℕ → ℕ → Answered → Stepped Wire
  on_checked_reply world client customer site index time a =
      cond (is_some (customer.replies site index)) (stepped world (done.Outcome (Ignored Seen)))
      (cond (awaits customer time) (stepped (with_customer world client (answered (with_reply customer site index a) site a)) (done.Outcome Did))
      (stepped world (done.Outcome (Ignored (OldTime (awaited customer))))))

  -- a Reply at a client: another client's is not its own, then its seal is looked at
  abbrev pub on_reply : World Wire → ℕ → Message → Statement → Signed → Stepped Wire
  on_reply world client m (Reply site to time number result) signed =
      cond (nat_eq client to.0)
      (given (bad_seal m)
      (on_checked_reply world client (world.customers client) site.0 signed.index time (record { number = number.0; result = result }))
      (λ place. stepped world (done.Outcome (Ignored (BadSeal place)))))
      (stepped world (done.Outcome (Ignored NotMine)))
  on_reply world client m s signed = stepped world (done.Outcome (Ignored NotMine))

  -- what a client takes of a message that it reads
  abbrev pub client_takes : World Wire → ℕ → Reading → Stepped Wire
  client_takes world client (Faulty reason) = stepped world (done.Outcome (Ignored reason))
  client_takes world client (Clean (messages.Reply s signed)) = on_reply world client (messages.Reply s signed) s signed
  client_takes world client (Clean m) = stepped world (done.Outcome (Ignored NotMine))

  -- A message is delivered.
  unfoldable pub delivers : World Wire → Dest → Wire → Stepped Wire
  delivers world (dests.Server server) wire = serves world server.site server.index (Deliver wire)
  delivers world (dests.Client client) wire = client_takes world client.0 (read_known wire)
