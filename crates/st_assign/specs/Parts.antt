-- What each part answers to a message; one of another kind isn't its own.
use Rattle.std.specs.Prelude.{ℕ, Option}
use Rattle.st_words.specs.declared.statement.Statement.TheVariants.{Prepare, Proposal}
use Rattle.st_message.specs.declared.message.Message.{Message}
use Rattle.st_message.specs.declared.message.Message.TheVariants as messages
use Rattle.st_message.specs.declared.reason.Reason.TheVariants.{NotMine}
use Rattle.st_protocol.specs.State.{Here, Slots, Sealing, Pended}
use Rattle.st_protocol.specs.Forced.{Forced}
use Rattle.st_protocol.specs.Step.{Answer, Refused}
use Rattle.st_protocol.specs.Assigning.{on_update, on_assign, on_prepare, on_proposal_share}

-- the client whose update a message is
abbrev pub client_in : Message → ℕ
client_in (messages.Update u seal) = u.client.0
client_in m = 0

-- to a client's update: `last` is the client's last time, `reply` the Reply that this server made to it
abbrev pub update_answer : Here → (ℕ → Option Pended) → ℕ → Option Sealing → Message → Answer
update_answer here pending last reply (messages.Update u seal) = on_update here pending last reply u seal
update_answer here pending last reply m = Refused NotMine

-- to an assignment
abbrev pub assign_answer : Here → Slots → Forced → Message → Answer
assign_answer here slots forced (messages.Assign view local number value client_seal signed) =
    on_assign here slots forced view.0 local.0 number.0 value client_seal signed
assign_answer here slots forced m = Refused NotMine

-- to a share of a Prepare
abbrev pub prepare_answer : Here → Slots → Message → Answer
prepare_answer here slots (messages.Share (Prepare site view local number value) signed) = on_prepare here slots site.0 view.0 local.0 number.0 value signed
prepare_answer here slots m = Refused NotMine

-- to a share of a Proposal
abbrev pub proposal_share_answer : Here → Slots → Message → Answer
proposal_share_answer here slots (messages.Share (Proposal site view local number value) signed) =
    on_proposal_share here slots site.0 view.0 local.0 number.0 value signed
proposal_share_answer here slots m = Refused NotMine
