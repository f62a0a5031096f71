-- The tables take all that certifying keeps.
use Rattle.std.proofs.Common.{◌≡◌, Bool, true, false, ℕ, Option, refl}
use Rattle.std.specs.Prelude.{IsTrue}
use Rattle.st_words.specs.declared.statement.Statement.{Statement}
use Rattle.st_seal.specs.declared.quorum.Signed.{Signed}
use Rattle.st_message.specs.declared.event.Scope.{Scope}
use Rattle.st_message.specs.declared.message.Message.TheVariants as messages
use Rattle.st_protocol.specs.State.{Here, Share}
use Rattle.st_protocol.specs.Step.{then, when, keeping, completing, completes, completed, certifies}
use Rattle.st_state.specs.Placed.{is_taken, Fits}

pub certifies_fits : (h : Here) (shares : ℕ → Option Share) (s : Statement) (signed : Signed) (to : Scope)
    → is_taken h (record { own = false; message = messages.Share s signed }) ≡ true
    → is_taken h (record { own = true; message = messages.Certificate s (completed h shares s signed) }) ≡ true
    → Fits h (certifies h shares s signed to)
certifies_fits h shares s signed to kept sent = by_test (completes h shares s signed)
  where
    by_test : (b : Bool) → Fits h (then (keeping (messages.Share s signed)) (when b (completing (messages.Certificate s (completed h shares s signed)) to)))
    by_test true = record { placed = refl; taken = rw (kept, sent) refl }
    by_test false = record { placed = refl; taken = rw kept refl }
