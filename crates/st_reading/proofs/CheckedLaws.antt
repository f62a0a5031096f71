-- What a server reads, by what a client reads and by the first seal that doesn't check.
use Rattle.std.proofs.Common.{◌≡◌, ℕ, Bool, Option, Some, None, List, map, refl, sym, ap, ◌∙◌, subst}
use Rattle.std.specs.Option.{option_map}
use Rattle.st_words.specs.declared.deployment.Deployment.{Deployment}
use Rattle.st_seal.specs.Pen.{Checks}
use Rattle.st_message.specs.declared.message.Message.{Message}
use Rattle.st_message.specs.declared.reason.Reason.{Reason}
use Rattle.st_message.specs.declared.reason.Reason.TheVariants.{BadSeal}
use Rattle.st_wire.specs.Seals.{seals_of}
use Rattle.st_hss_seal.specs.Sealing.{holds}
use Rattle.st_protocol.specs.Words.{Bytes}
use Rattle.st_protocol.specs.Keeping.{given}
use Rattle.st_protocol.specs.Duty.{Reading, Faulty, Clean}
use Rattle.st_protocol.specs.World.{with_seals, bad_seal, read_known, reads}
use Rattle.st_reading.specs.Deployed.{wire_deployment}
use Rattle.st_reading.specs.Answered.{first_unchecked}

-- what the check says of a message's seals is what the deployment's seals say
seals_said : (d : Deployment) (serve : List Bytes → Bytes → Bytes) (runs_no_code : ℕ → ℕ → Bool) (checks : Checks) (m : Message) → checks ≡ holds d
    → first_unchecked checks d.id (seals_of d.id d.sites m) ≡ bad_seal (wire_deployment d serve runs_no_code) m
unfolding wire_deployment
seals_said d serve runs_no_code checks m is = ap (λ (c : Checks). first_unchecked c d.id (seals_of d.id d.sites m)) is

-- a message of which each seal checks
pub checked_clean : (d : Deployment) (serve : List Bytes → Bytes → Bytes) (runs_no_code : ℕ → ℕ → Bool) (checks : Checks) (bytes : List ℕ) (m : Message) → checks ≡ holds d
    → read_known (wire_deployment d serve runs_no_code) bytes ≡ Clean m → first_unchecked checks d.id (seals_of d.id d.sites m) ≡ None
    → reads (wire_deployment d serve runs_no_code) bytes ≡ Clean m
checked_clean d serve runs_no_code checks bytes m is known good =
    ap (with_seals (wire_deployment d serve runs_no_code)) known
    ∙ ap (λ (bad : Option ℕ). given bad (Clean m) (λ place. Faulty (BadSeal place))) (sym (seals_said d serve runs_no_code checks m is) ∙ good)

-- one of which a seal doesn't
pub checked_bad : (d : Deployment) (serve : List Bytes → Bytes → Bytes) (runs_no_code : ℕ → ℕ → Bool) (checks : Checks) (bytes : List ℕ) (m : Message) (reason : Reason) → checks ≡ holds d
    → read_known (wire_deployment d serve runs_no_code) bytes ≡ Clean m → option_map BadSeal (first_unchecked checks d.id (seals_of d.id d.sites m)) ≡ Some reason
    → reads (wire_deployment d serve runs_no_code) bytes ≡ Faulty reason
checked_bad d serve runs_no_code checks bytes m reason is known bad =
    ap (with_seals (wire_deployment d serve runs_no_code)) known
    ∙ named (bad_seal (wire_deployment d serve runs_no_code) m) (sym (ap (option_map BadSeal) (seals_said d serve runs_no_code checks m is)) ∙ bad)
  where
    named : (place : Option ℕ) → option_map BadSeal place ≡ Some reason → given place (Clean m) (λ p. Faulty (BadSeal p)) ≡ Faulty reason
    named None e = absurd cc
    named (Some p) e = let same : BadSeal p ≡ reason = cc in ap Faulty same

-- bytes that are no message that the deployment knows
pub checked_faulty : (d : Deployment) (serve : List Bytes → Bytes → Bytes) (runs_no_code : ℕ → ℕ → Bool) (bytes : List ℕ) (reason : Reason)
    → read_known (wire_deployment d serve runs_no_code) bytes ≡ Faulty reason → reads (wire_deployment d serve runs_no_code) bytes ≡ Faulty reason
checked_faulty d serve runs_no_code bytes reason known = ap (with_seals (wire_deployment d serve runs_no_code)) known
