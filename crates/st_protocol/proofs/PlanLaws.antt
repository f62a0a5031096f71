-- What a delivery comes to where nothing is wrong with the message.
use Rattle.std.proofs.Common.{◌≡◌, ℕ, ap}
use Rattle.st_message.specs.declared.message.Message.{Message}
use Rattle.st_words.specs.declared.ids.Who.{Who}
use Rattle.st_words.specs.declared.statement.Statement.{Statement}
use Rattle.st_protocol.specs.Words.{Bytes}
use Rattle.st_protocol.specs.State.{Answers}
use Rattle.st_protocol.specs.Duty.{Deliver, Reading, Clean, Pen, of_reading, plan_by, plan_of, plan_of_message}
use Rattle.st_protocol.specs.World.{Formats, passed, Deployment, first_bad, reads, read_known}

-- The plan at a delivery of a message with which nothing is wrong is the plan at the message.
pub plan_of_clean : {Wire : Type 0} (read : Wire → Reading) (pen : Pen) (state : Answers) (wire : Wire) (m : Message) → read wire ≡ Clean m →
    plan_of read pen state (Deliver wire) ≡ plan_of_message pen state m
unfolding plan_of plan_of_message
plan_of_clean read pen state wire m clean = ap (λ r. plan_by pen state (of_reading state r)) clean

-- a message that is passed as it is reads as itself
pub passed_reads : (d : Deployment Message) (seal : Who → ℕ → Statement → Bytes) (m : Message) → d.formats ≡ passed seal → reads d m ≡ Clean m
unfolding first_bad
passed_reads d seal m e = ap (λ (formats : Formats Message). reads (record d { formats = formats }) m) e

-- So it does to a client.
pub passed_reads_known : (d : Deployment Message) (seal : Who → ℕ → Statement → Bytes) (m : Message) → d.formats ≡ passed seal → read_known d m ≡ Clean m
passed_reads_known d seal m e = ap (λ (formats : Formats Message). read_known (record d { formats = formats }) m) e
