-- What a server does with bytes that it reads as a message is what it does with the message.
use Rattle.std.proofs.Common.{◌≡◌, ◌∙◌, ap, sym, refl, ℕ, ◌+◌, ◌*◌, ◌&&◌, nat_lt, Bool, true, false, cond, Option, Some, None, List}
use Rattle.std.proofs.lemmas.Bool.{and_parts}
use Rattle.st_words.specs.declared.deployment.Deployment.{Deployment}
use Rattle.st_words.specs.declared.statement.Statement.{Statement}
use Rattle.st_words.specs.declared.statement.Statement.TheVariants.{Accept}
use Rattle.st_seal.specs.declared.quorum.Signed.{Signed}
use Rattle.st_message.specs.declared.message.Message.{Message}
use Rattle.st_message.specs.declared.message.Message.TheVariants as messages
use Rattle.st_message.specs.declared.reason.Reason.{Reason}
use Rattle.st_message.specs.declared.reason.Reason.TheVariants.{Unknown, BadSeal}
use Rattle.st_protocol.specs.Words.{Bytes, Quorum}
use Rattle.st_protocol.specs.Keeping.{given}
use Rattle.st_protocol.specs.State.{Seat}
use Rattle.st_protocol.specs.Questions.{questions}
use Rattle.st_protocol.specs.Duty.{Deliver, Reading, Faulty, Clean, ignored, plan_of, plan_by, of_reading}
use Rattle.st_protocol.specs.Known.{knows, knows_statement}
use Rattle.st_protocol.specs.World as model
use Rattle.st_protocol.specs.World.{bad_seal, with_known, with_seals, read_known, reads, seat_of, pen_at, plan_at}
use Rattle.st_server.specs.Serving.{knows_sender_of, read_sender, plan_by_message}
use Rattle.st_deployment.specs.Deployed.{world_deployment}

-- ---- who is known

-- the sender of a message that is known is
known_sender : (sites f clients : ℕ) (m : Message) → knows sites f clients m ≡ true → knows_sender_of sites f m ≡ true
unfolding knows knows_statement
known_sender sites f clients (messages.Share s signed) e = (and_parts _ _ e).1
known_sender sites f clients (messages.Certificate (Accept site view number value) q) e = (and_parts _ _ (and_parts _ _ e).0).0
known_sender sites f clients (messages.Certificate _ q) e = refl
known_sender sites f clients (messages.Update u seal) e = refl
known_sender sites f clients (messages.Assign view local number value client_seal signed) e = refl
known_sender sites f clients (messages.OrderProof number p) e = refl
known_sender sites f clients (messages.Report r) e = refl
known_sender sites f clients (messages.Bundle rs) e = refl
known_sender sites f clients (messages.ViewProof words) e = refl
known_sender sites f clients (messages.Ask server executed view local) e = refl
known_sender sites f clients (messages.Reply s signed) e = refl

-- ---- what is read

module _ (d : model.Deployment Bytes) where
  -- what is read and known was read
  known_clean : (r : Reading) (m : Message) → with_known d r ≡ Clean m → (r ≡ Clean m) × (d.formats.knows m ≡ true)
  known_clean (Faulty reason) m e = absurd (let no : Faulty reason ≡ Clean m = e in cc)
  known_clean (Clean n) m e = by (d.formats.knows n) refl e
    where
      by : (b : Bool) → d.formats.knows n ≡ b → cond b (Clean n) (Faulty Unknown) ≡ Clean m → (Clean n ≡ Clean m) × (d.formats.knows m ≡ true)
      by true is same = let one : n ≡ m = let clean : Clean n ≡ Clean m = same in cc in (same, sym (ap d.formats.knows one) ∙ is)
      by false is same = absurd (let no : Faulty Unknown ≡ Clean m = same in cc)

  -- what is read with its seals was known
  sealed_clean : (r : Reading) (m : Message) → with_seals d r ≡ Clean m → r ≡ Clean m
  sealed_clean (Faulty reason) m e = absurd (let no : Faulty reason ≡ Clean m = e in cc)
  sealed_clean (Clean n) m e = by (bad_seal d n) e
    where
      by : (place : Option ℕ) → given place (Clean n) (λ at. Faulty (BadSeal at)) ≡ Clean m → Clean n ≡ Clean m
      by None same = same
      by (Some at) same = absurd (let no : Faulty (BadSeal at) ≡ Clean m = same in cc)

  -- so is what a server reads
  pub reads_known : (wire : Bytes) (m : Message) → reads d wire ≡ Clean m → d.formats.knows m ≡ true
  reads_known wire m e = (known_clean (d.formats.read wire) m (sealed_clean (read_known d wire) m e)).1

-- ---- plans

-- a message that a server reads is one of a known sender
read_as_sent : (d : Deployment) (wire : Bytes) (m : Message) → reads (world_deployment d) wire ≡ Clean m → read_sender (seat_of (world_deployment d) 0 0) m ≡ reads (world_deployment d) wire
unfolding world_deployment
read_as_sent d wire m e =
    ap (λ b. cond b (Clean m) (Faulty Unknown)) (known_sender d.sites d.f d.clients m (reads_known (world_deployment d) wire m e)) ∙ sym e

-- The plan for bytes that are read as a message.
pub planned_message : (d : Deployment) (world : model.World Bytes) (wire : Bytes) (m : Message) → reads (world_deployment d) wire ≡ Clean m →
    plan_by_message (seat_of (world_deployment d) 0 0) (pen_at (world_deployment d) 0 0)
    (questions (seat_of (world_deployment d) 0 0) (world.nodes 0 0).bodies (world.nodes 0 0).heard) m
    ≡ plan_at (world_deployment d) world 0 0 (Deliver wire)
unfolding plan_of
planned_message d world wire m e =
    ap (λ (r : Reading). plan_by (pen_at (world_deployment d) 0 0) (questions (seat_of (world_deployment d) 0 0) (world.nodes 0 0).bodies (world.nodes 0 0).heard)
    (of_reading (questions (seat_of (world_deployment d) 0 0) (world.nodes 0 0).bodies (world.nodes 0 0).heard) r)) (read_as_sent d wire m e)

-- The plan for bytes that are ignored.
pub planned_nothing : (d : model.Deployment Bytes) (world : model.World Bytes) (site index : ℕ) (wire : Bytes) (reason : Reason) → reads d wire ≡ Faulty reason →
    plan_at d world site index (Deliver wire) ≡ ignored reason
unfolding plan_of
planned_nothing d world site index wire reason e =
    ap (λ (r : Reading). plan_by (pen_at d site index) (questions (seat_of d site index) (world.nodes site index).bodies (world.nodes site index).heard)
    (of_reading (questions (seat_of d site index) (world.nodes site index).bodies (world.nodes site index).heard) r)) e
