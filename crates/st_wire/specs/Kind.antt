-- The kinds of messages and their numbers, and which statements stand in which message.
use Rattle.std.specs.Prelude.{ℕ, List, [], ◌∷◌}
use Rattle.st_words.specs.declared.kind.StatementKind.{StatementKind}
use Rattle.st_words.specs.declared.kind.StatementKind.TheVariants as statements
use Rattle.st_words.specs.declared.statement.Item.{Item}
use Rattle.st_words.specs.declared.statement.Statement.{Statement}
use Rattle.st_words.specs.declared.statement.Statement.TheVariants.{LocalReport, GlobalReport}
use Rattle.st_message.specs.declared.message.Message.{Message}
use Rattle.st_message.specs.declared.message.Message.TheVariants as messages
use Rattle.st_wire.specs.declared.kind.MessageKind.{MessageKind}
use Rattle.st_wire.specs.declared.kind.MessageKind.TheVariants as kinds

-- the number of a kind
abbrev pub kind_number : MessageKind → ℕ
kind_number kinds.Update = 1
kind_number kinds.Assign = 2
kind_number kinds.Share = 3
kind_number kinds.Certificate = 4
kind_number kinds.OrderProof = 5
kind_number kinds.Report = 6
kind_number kinds.Bundle = 7
kind_number kinds.ViewProof = 8
kind_number kinds.Ask = 9
kind_number kinds.Reply = 10

-- the kind of a message
abbrev pub kind_of : Message → MessageKind
kind_of (messages.Update update seal) = kinds.Update
kind_of (messages.Assign view local n v seal signed) = kinds.Assign
kind_of (messages.Share s signed) = kinds.Share
kind_of (messages.Certificate s q) = kinds.Certificate
kind_of (messages.OrderProof n proof) = kinds.OrderProof
kind_of (messages.Report report) = kinds.Report
kind_of (messages.Bundle reports) = kinds.Bundle
kind_of (messages.ViewProof words) = kinds.ViewProof
kind_of (messages.Ask server executed view local) = kinds.Ask
kind_of (messages.Reply s signed) = kinds.Reply

-- every kind
abbrev pub all_kinds : List MessageKind
all_kinds = kinds.Update ∷ kinds.Assign ∷ kinds.Share ∷ kinds.Certificate ∷ kinds.OrderProof ∷ kinds.Report ∷ kinds.Bundle ∷ kinds.ViewProof ∷ kinds.Ask ∷ kinds.Reply ∷ []

-- ---- the statements that stand in messages

-- in a Share
abbrev pub share_kinds : List StatementKind
share_kinds = statements.Prepare ∷ statements.Proposal ∷ statements.Accept ∷ statements.LocalVc ∷ statements.GlobalVc ∷ statements.LocalUnion ∷ statements.GlobalUnion ∷ []

-- in a Certificate
abbrev pub certificate_kinds : List StatementKind
certificate_kinds = statements.Proposal ∷ statements.Accept ∷ statements.GlobalVc ∷ statements.LocalUnion ∷ statements.GlobalUnion ∷ []

-- in a proof of a local view
abbrev pub view_kinds : List StatementKind
view_kinds = statements.LocalVc ∷ []

-- in a Reply
abbrev pub reply_kinds : List StatementKind
reply_kinds = statements.Reply ∷ []

-- a report's items
abbrev pub items_of : Statement → List Item
items_of (LocalReport site local index view base items) = items
items_of (GlobalReport site view index base items) = items
items_of _ = []

-- a report's base
abbrev pub base_of : Statement → ℕ
base_of (LocalReport site local index view base items) = base
base_of (GlobalReport site view index base items) = base
base_of _ = 0
