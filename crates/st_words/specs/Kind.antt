-- The kinds of statements and their numbers.
use Rattle.std.specs.Prelude.{ℕ}
use Rattle.st_words.specs.declared.kind.StatementKind.{StatementKind}
use Rattle.st_words.specs.declared.kind.StatementKind.TheVariants as kinds
use Rattle.st_words.specs.declared.statement.Statement.{Statement}
use Rattle.st_words.specs.declared.statement.Statement.TheVariants.{Prepare, Proposal, Accept, LocalVc, GlobalVc, LocalReport, GlobalReport, LocalUnion, GlobalUnion, Reply, ClientUpdate}

-- the number of a kind
abbrev pub kind_number : StatementKind → ℕ
kind_number kinds.Prepare = 1
kind_number kinds.Proposal = 2
kind_number kinds.Accept = 3
kind_number kinds.LocalVc = 4
kind_number kinds.GlobalVc = 5
kind_number kinds.LocalReport = 6
kind_number kinds.GlobalReport = 7
kind_number kinds.LocalUnion = 8
kind_number kinds.GlobalUnion = 9
kind_number kinds.Reply = 10
kind_number kinds.ClientUpdate = 11

-- the kind of a statement
abbrev pub kind_of : Statement → StatementKind
kind_of (Prepare site view local n v) = kinds.Prepare
kind_of (Proposal site view local n v) = kinds.Proposal
kind_of (Accept site view n v) = kinds.Accept
kind_of (LocalVc site local) = kinds.LocalVc
kind_of (GlobalVc site view) = kinds.GlobalVc
kind_of (LocalReport site local index view base items) = kinds.LocalReport
kind_of (GlobalReport site view index base items) = kinds.GlobalReport
kind_of (LocalUnion site local greatest base items) = kinds.LocalUnion
kind_of (GlobalUnion site view base items) = kinds.GlobalUnion
kind_of (Reply site client time n result) = kinds.Reply
kind_of (ClientUpdate update) = kinds.ClientUpdate
