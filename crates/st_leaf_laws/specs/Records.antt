-- What a server records of the statements that it makes: the key that it makes one statement for, and what isn't above
-- where it stands.
use Rattle.std.specs.Prelude.{ℕ, ◌+◌, ◌≤◌, List}
use Rattle.st_words.specs.declared.statement.Statement.{Statement}
use Rattle.st_words.specs.declared.statement.Statement.TheVariants.{Prepare, Proposal, Accept, LocalVc, GlobalVc, LocalReport, GlobalReport, LocalUnion, GlobalUnion, Reply, ClientUpdate}
use Rattle.st_message.specs.declared.change.Change.{Change}
use Rattle.st_protocol.specs.Keeping.{joined}
use Rattle.st_protocol.specs.State.{Place, AtPrepare, AtProposal, AtAccept, Term, OfLocal, OfGlobal, Here}
use Rattle.st_protocol.specs.World.{World}

-- all that a server recorded, in order
abbrev pub recorded_at : {Wire : Type 0} → World Wire → ℕ → ℕ → List Change
recorded_at world site index = joined (world.nodes site index).bodies

-- What a server makes one statement for: a slot of a Prepare, a Proposal or an Accept; a view that it asks for; the view of
-- a report and of a union; the number of a Reply.
pub data Key : Type 0 where
  SlotOf : (place : Place) → Key
  RequestFor : (term : Term) → Key
  ReportOf : (term : Term) → Key
  UnionOf : (term : Term) → Key
  ReplyTo : (number : ℕ) → Key
  NoKey : Key

-- the key of a statement; a server makes no client's update
abbrev pub key_of : Statement → Key
key_of (Prepare site view local number value) = SlotOf (AtPrepare view.0 local.0 number.0)
key_of (Proposal site view local number value) = SlotOf (AtProposal view.0 local.0 number.0)
key_of (Accept site view number value) = SlotOf (AtAccept view.0 number.0)
key_of (LocalVc site local) = RequestFor (OfLocal local.0)
key_of (GlobalVc site view) = RequestFor (OfGlobal view.0)
key_of (LocalReport site local index view base items) = ReportOf (OfLocal local.0)
key_of (GlobalReport site view index base items) = ReportOf (OfGlobal view.0)
key_of (LocalUnion site local greatest base items) = UnionOf (OfLocal local.0)
key_of (GlobalUnion site view base items) = UnionOf (OfGlobal view.0)
key_of (Reply site client time number result) = ReplyTo number.0
key_of (ClientUpdate update) = NoKey

-- A statement is of no view and no local view above where the server stands; one that asks for a view is at most one above,
-- and a Reply is of a number that was executed.
abbrev pub IsNotAbove : Here → Statement → Type 0
IsNotAbove here (Prepare site view local number value) = (view.0 ≤ here.view) × (local.0 ≤ here.local)
IsNotAbove here (Proposal site view local number value) = (view.0 ≤ here.view) × (local.0 ≤ here.local)
IsNotAbove here (Accept site view number value) = view.0 ≤ here.view
IsNotAbove here (LocalVc site local) = local.0 ≤ here.local + 1
IsNotAbove here (GlobalVc site view) = view.0 ≤ here.view + 1
IsNotAbove here (LocalReport site local index view base items) = (view.0 ≤ here.view) × (local.0 ≤ here.local)
IsNotAbove here (GlobalReport site view index base items) = view.0 ≤ here.view
IsNotAbove here (LocalUnion site local greatest base items) = local.0 ≤ here.local
IsNotAbove here (GlobalUnion site view base items) = view.0 ≤ here.view
IsNotAbove here (Reply site client time number result) = number.0 ≤ here.executed
IsNotAbove here (ClientUpdate update) = Unit {0}
