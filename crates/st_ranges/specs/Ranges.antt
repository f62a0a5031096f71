-- What keeps its ranges: it keeps what its format asks (Keeps), and its numbers are of the widths that the code's types
-- give them (Fits). So of values, statements and messages, of what a server records, hears and sends, and of its lists.
use Rattle.std.specs.Prelude.{◌≡◌, ℕ, ◌+◌, ◌*◌, ◌^◌, ◌<◌, ◌≤◌, List, [], ◌∷◌, ◌++◌, length, All}
use Rattle.std.specs.List.{AllByRecursion as Each}
use Rattle.st_words.specs.declared.value.Value.{Value}
use Rattle.st_words.specs.declared.kind.StatementKind.TheVariants as kinds
use Rattle.st_words.specs.declared.statement.Statement.{Statement}
use Rattle.st_words.specs.declared.statement.Statement.TheVariants.{Prepare, Proposal}
use Rattle.st_words.specs.Ranges.{most_text, most_base, KeepsValue, KeepsStatement, FitsValue, FitsStatement}
use Rattle.st_message.specs.declared.message.SiteWord.{SiteWord}
use Rattle.st_message.specs.declared.message.Proof.{Proof}
use Rattle.st_message.specs.declared.message.Message.{Message}
use Rattle.st_message.specs.declared.message.Message.TheVariants as messages
use Rattle.st_message.specs.declared.event.Output.{Output}
use Rattle.st_message.specs.declared.event.Plan.{Plan}
use Rattle.st_message.specs.declared.change.Change.{Change}
use Rattle.st_message.specs.declared.change.Change.TheVariants.{EnterLocal, EnterGlobal, Made, Prepared, Accepted, Union, Executed}
use Rattle.st_message.specs.declared.change.Heard.{Heard}
use Rattle.st_wire.specs.Ranges.{KeepsSeal, KeepsQuorum, KeepsSites, KeepsProof, KeepsCore, KeepsMessage, FitsQuorum, FitsSite, FitsProof, FitsMessage}
use Rattle.st_protocol.specs.Words.{Bytes, Quorum, site_of}
use Rattle.st_protocol.specs.Keeping.{most_of, count_of, joined}
use Rattle.st_protocol.specs.State.{Seat}
use Rattle.st_protocol.specs.Questions.{view_entered, local_entered, is_executed}
use Rattle.st_protocol.specs.Duty.{Event, Deliver, LocalTimeout, GlobalTimeout, Tick, Pen, Reading, Faulty, Clean}

-- ---- what is said

-- a value
abbrev pub ValueInRange : Value → Type 0
ValueInRange v = KeepsValue v × FitsValue v

-- a statement
abbrev pub StatementInRange : Statement → Type 0
StatementInRange s = KeepsStatement s × FitsStatement s

-- seals of a site's servers
abbrev pub QuorumInRange : Quorum → Type 0
QuorumInRange q = KeepsQuorum q × FitsQuorum q

-- words of sites
abbrev pub SitesInRange : List SiteWord → Type 0
SitesInRange sites = KeepsSites sites × All FitsSite sites

-- an order proof
abbrev pub ProofInRange : Proof → Type 0
ProofInRange p = KeepsProof p × FitsProof p

-- A message.
abbrev pub MessageInRange : Message → Type 0
MessageInRange m = KeepsMessage m × FitsMessage m

-- what a message on its way is read as
abbrev pub ReadingInRange : Reading → Type 0
ReadingInRange (Faulty reason) = Unit {0}
ReadingInRange (Clean m) = MessageInRange m

-- what is delivered at an event, by what it is read as
abbrev pub EventInRange : {Wire : Type 0} → (Wire → Reading) → Event Wire → Type 0
EventInRange read (Deliver wire) = ReadingInRange (read wire)
EventInRange read LocalTimeout = Unit {0}
EventInRange read GlobalTimeout = Unit {0}
EventInRange read Tick = Unit {0}

-- ---- what a server records, hears and sends

-- A change: its numbers are of four bytes, and a certificate is over a statement of the kind that it is for.
abbrev pub ChangeInRange : Change → Type 0
ChangeInRange (EnterLocal local q) = (local.0 < 2 ^ 32) × QuorumInRange q
ChangeInRange (EnterGlobal view sites) = (view.0 < 2 ^ 32) × SitesInRange sites
ChangeInRange (Made leaf s) = (leaf < 2 ^ 32) × StatementInRange s
ChangeInRange (Prepared s q) = KeepsCore (kinds.Prepare ∷ []) s × FitsStatement s × QuorumInRange q
ChangeInRange (Accepted s q) = KeepsCore (kinds.Proposal ∷ []) s × FitsStatement s × QuorumInRange q
ChangeInRange (Union s q) = KeepsCore (kinds.LocalUnion ∷ kinds.GlobalUnion ∷ []) s × FitsStatement s × QuorumInRange q
ChangeInRange (Executed number p) = (1 ≤ number.0) × (number.0 < 2 ^ 32) × ProofInRange p

-- something heard
abbrev pub HeardInRange : Heard → Type 0
HeardInRange m = MessageInRange m.message

-- what goes out
abbrev pub OutputInRange : Output → Type 0
OutputInRange o = MessageInRange o.message

-- a value is prepared in no later view and local view than these, and accepted in no later view
abbrev pub StandsIn : ℕ → ℕ → Change → Type 0
StandsIn view local (Prepared (Prepare site g l n v) q) = (g.0 ≤ view) × (l.0 ≤ local)
StandsIn view local (Accepted (Proposal site g l n v) q) = g.0 ≤ view
StandsIn view local _ = Unit {0}

-- a report is of this site
abbrev pub IsReportOf : ℕ → Message → Type 0
IsReportOf site (messages.Report r) = site_of r.statement ≡ site
IsReportOf site _ = Unit {0}

-- the greatest view that was entered
abbrev pub view_of : List (List Change) → ℕ
view_of records = most_of view_entered (joined records)

-- the greatest local view that was entered
abbrev pub local_view_of : List (List Change) → ℕ
local_view_of records = most_of local_entered (joined records)

-- All that a server recorded and heard: in range, with no value of a later view than the server is in, no report of
-- another site, and no more executed numbers than a report's base may say.
pub record ListsInRange (seat : Seat) (records : List (List Change)) (heard : List Heard) : Type 0 where
  pub changes : Each (Each ChangeInRange) records
  pub messages : Each HeardInRange heard
  pub stands : Each (Each (StandsIn (view_of records) (local_view_of records))) records
  pub home : Each (λ (m : Heard). IsReportOf seat.site m.message) heard
  pub few : count_of is_executed (joined records) ≤ most_base

-- The lists with all that a plan adds to them, and all that it sends.
pub record PlanInRange (seat : Seat) (records : List (List Change)) (heard : List Heard) (plan : Plan) : Type 0 where
  pub lists : ListsInRange seat (records ++ plan.changes ∷ []) (heard ++ plan.heard)
  pub outputs : Each OutputInRange plan.outputs

-- ---- what is asked of a server's surroundings

-- seals of statements in range have as many bytes as a seal may have
abbrev pub PenKeeps : Pen → Type 0
PenKeeps pen = (leaf : ℕ) (s : Statement) → StatementInRange s → KeepsSeal (pen leaf s)

-- what an operation in range gives is as long as a result may be
abbrev pub ServeKeeps : (List Bytes → Bytes → Bytes) → Type 0
ServeKeeps serve = (ran : List Bytes) (op : Bytes) → length op ≤ most_text → length (serve ran op) ≤ most_text

-- A server's numbers are of their widths, and it has a service that keeps its ranges.
pub record SeatInRange (seat : Seat) : Type 0 where
  pub site : seat.site < 2 ^ 8
  pub index : seat.index < 2 ^ 8
  pub sites : seat.sites < 2 ^ 8
  pub servers : 3 * seat.f + 1 < 2 ^ 8
  pub capacity : seat.capacity < 2 ^ 32
  pub serve : ServeKeeps seat.serve
