-- What each part answers to a message; one of another kind isn't its own. And which number comes next.
use Rattle.std.specs.Prelude.{◌+◌, cond, Option, Some, None, is_some}
use Rattle.st_words.specs.declared.ids.Number.{Number}
use Rattle.st_words.specs.declared.statement.Statement.{Statement}
use Rattle.st_words.specs.declared.statement.Statement.TheVariants.{Proposal, Accept}
use Rattle.st_message.specs.declared.message.Message.{Message}
use Rattle.st_message.specs.declared.message.Message.TheVariants as messages
use Rattle.st_message.specs.declared.reason.Reason.TheVariants.{NotMine}
use Rattle.st_protocol.specs.Words.{Quorum}
use Rattle.st_protocol.specs.State.{Here, Slots, Hand}
use Rattle.st_protocol.specs.Step.{Answer, Refused}
use Rattle.st_protocol.specs.Ordering.{in_hand, on_accept_share, on_proposal, on_accept}

-- to a share of an Accept
abbrev pub accept_share_answer : Here → Slots → Message → Answer
accept_share_answer here slots (messages.Share (Accept site view number value) signed) = on_accept_share here slots site.0 view.0 number.0 value signed
accept_share_answer here slots m = Refused NotMine

-- to a certificate of a Proposal
abbrev pub proposal_answer : Here → Slots → Statement → Quorum → Answer
proposal_answer here slots (Proposal site view local number value) q = on_proposal here slots site.0 view.0 local.0 number.0 value q
proposal_answer here slots s q = Refused NotMine

-- to a certificate of an Accept
abbrev pub accept_answer : Here → Hand → Statement → Quorum → Answer
accept_answer here hand (Accept site view number value) q = on_accept here hand site.0 view.0 number.0 value q
accept_answer here hand s q = Refused NotMine

-- the number after those that are executed, where it is in hand
abbrev pub next_number : Here → Hand → Option Number
next_number here hand = cond (is_some (in_hand here hand (here.executed + 1))) (Some (record { 0 = here.executed + 1 })) None
