-- Deployments over bytes are such as the laws of worlds are about.
use Rattle.std.proofs.Common.{◌≡◌, ap, sym, subst, ℕ, ◌^◌, ◌<◌, Bool, true, List}
use Rattle.std.specs.List.{All}
use Rattle.std.proofs.lemmas.List.Elements.{All-weaker, recursion_from_All}
use Rattle.st_words.specs.declared.deployment.Deployment.{Deployment}
use Rattle.st_words.specs.declared.ids.Who.{Who}
use Rattle.st_words.specs.declared.statement.Statement.{Statement}
use Rattle.st_words.specs.Ranges.{KeepsStatement}
use Rattle.st_words.specs.Spelling.{statement_spelling}
use Rattle.st_fields.proofs.Fields.{IsBytes}
use Rattle.st_message.specs.declared.message.Message.{Message}
use Rattle.st_schedule.specs.declared.line.Line.{Line}
use Rattle.st_seal.specs.Scheme.{scheme_of, is_party}
use Rattle.st_hss_seal.specs.Keys.{is_choice}
use Rattle.st_hss_seal.specs.Sealing.{capacity_of, seal_of}
use Rattle.st_hss_seal.specs.SealingLaws.{pens_are_sound}
use Rattle.st_hss_seal.proofs.EmptyLaws.{no_empty_seal}
use Rattle.st_protocol.specs.Words.{Bytes}
use Rattle.st_protocol.specs.Duty.{Clean}
use Rattle.st_protocol.specs.World.{reads}
use Rattle.st_sealing.proofs.RangesLaws.{sealed_as_spelled}
use Rattle.st_reading.specs.Deployed.{wire_formats, wire_deployment}
use Rattle.st_reading.proofs.SameSealsLaws.{same_seals}
use Rattle.st_live.specs.Service.{list_serve}
use Rattle.st_ranges.specs.Ranges.{PenKeeps, ServeKeeps, MessageInRange}
use Rattle.st_server.specs.Deployed.{runs_no_code}
use Rattle.st_config.specs.Taken.{IsTaken}
use Rattle.st_config.specs.Built.{IsBuilt}
use Rattle.st_deployment.specs.Deployed.{of_file, statement_seal, world_deployment}
use Rattle.st_deployment.specs.Deployable.{IsDeployable, IsLine}
use Rattle.st_deployment.proofs.SealLengths.{seals_keep}
use Rattle.st_deployment.proofs.SetLaws.{list_serve_keeps, pens_keep}
use Rattle.st_deployment.proofs.FormatLaws.{sent_same, reading_in_range, lines_in_range}
use Rattle.st_deployment.proofs.RangeLaws.{few_faulty, file_in_range, taken_deployable}
use Rattle.st_frame_laws.proofs.ExactLaws.{read_exact}
use Rattle.st_honest_laws.specs.Honest.{SealsAreRead}
use Rattle.st_answer_laws.specs.Fair.{HasFewFaulty}
use Rattle.st_certificate_laws.specs.Certified.{message_is_certified}
use Rattle.st_certificate_laws.proofs.ReadLaws.{read_certified}
use Rattle.st_promises.specs.Promises.{AlwaysKeepsPromises}
use Rattle.st_promises.proofs.KeepLaws.{always_keeps}

-- Formats of bytes are as the law of honest worlds wants them, whatever parties seal.
pub seals_are_read : (d : Deployment) (serve : List Bytes → Bytes → Bytes) (faulty : ℕ → ℕ → Bool) (seal : Who → ℕ → Statement → Bytes) → d.id < 2 ^ 64 →
    SealsAreRead (of_file d serve faulty seal) MessageInRange
seals_are_read d serve faulty seal small =
    record {
      sent = λ m n inside e. sent_same d m n small inside e;
      seals = λ wire m inside e. same_seals d.id d.sites m inside.0;
      exact = read_exact (of_file d serve faulty seal) (λ m known. known);
      none = λ who s. no_empty_seal d who (statement_spelling d.id s);
    }

-- What a server reads of bytes, its seals looked at, is certified.
pub bytes_certified : (d : Deployment) (serve : List Bytes → Bytes → Bytes) (faulty : ℕ → ℕ → Bool) (bytes : List ℕ) (m : Message) → d.id < 2 ^ 64 → IsBytes bytes →
    reads (wire_deployment d serve faulty) bytes ≡ Clean m → message_is_certified (wire_formats d).holds d.f d.sites m ≡ true
unfolding wire_deployment
bytes_certified d serve faulty bytes m small fits e =
    read_certified (of_file d serve faulty (wire_formats d).seal) (seals_are_read d serve faulty (wire_formats d).seal small) bytes m (reading_in_range d bytes fits) e

-- Few servers of a file's deployment are faulty.
pub file_few : (d : Deployment) → IsDeployable d → (serve : List Bytes → Bytes → Bytes) (seal : Who → ℕ → Statement → Bytes) → HasFewFaulty (of_file d serve (runs_no_code d) seal)
file_few d deployable serve seal = record { some = deployable.some; few_faulty = few_faulty d deployable }

-- What a party seals over a statement's own bytes, with a leaf that it has, checks.
pub made_checks : (d : Deployment) (who : Who) (leaf : ℕ) (s : Statement) → is_choice d.seals ≡ true → is_party (scheme_of d) who ≡ true → leaf < capacity_of d →
    (wire_formats d).holds who s ((wire_formats d).seal who leaf s) ≡ true
made_checks d who leaf s choice party below = (pens_are_sound (scheme_of d) who choice party).accepted leaf (statement_spelling d.id s) below

-- A party's seal over a statement that keeps its ranges is the one over the statement's own bytes.
pub sealed_own : (d : Deployment) (who : Who) (leaf : ℕ) (s : Statement) → KeepsStatement s → statement_seal d who leaf s ≡ (wire_formats d).seal who leaf s
sealed_own d who leaf s keeps = ap (seal_of d who leaf) (sealed_as_spelled d.id s keeps)

-- So does what it seals in the deployment that a world runs today.
pub world_checks : (d : Deployment) (who : Who) (leaf : ℕ) (s : Statement) → is_choice d.seals ≡ true → is_party (scheme_of d) who ≡ true → leaf < capacity_of d → KeepsStatement s →
    (world_deployment d).formats.holds who s ((world_deployment d).formats.seal who leaf s) ≡ true
unfolding world_deployment
world_checks d who leaf s choice party below keeps =
    subst (λ (seal : Bytes). (wire_formats d).holds who s seal ≡ true) (sym (sealed_own d who leaf s keeps)) (made_checks d who leaf s choice party below)

-- Seals over statements' own bytes keep their ranges.
pub own_seals_keep : (d : Deployment) (who : Who) → is_choice d.seals ≡ true → PenKeeps ((wire_formats d).seal who)
own_seals_keep d who choice leaf s inside = seals_keep d.seals (scheme_of d) who leaf (statement_spelling d.id s) choice

module _ (d : Deployment) (deployable : IsDeployable d) where
  -- Whatever service servers run and whatever parties seal.
  pub file_keeps : (serve : List Bytes → Bytes → Bytes) (seal : Who → ℕ → Statement → Bytes) (all : List Line) → ServeKeeps serve → ((who : Who) → PenKeeps (seal who)) → All IsLine all →
      AlwaysKeepsPromises (of_file d serve (runs_no_code d) seal) all
  file_keeps serve seal all serves seals l =
      always_keeps (of_file d serve (runs_no_code d) seal) (file_few d deployable serve seal) (file_in_range d deployable serve seal serves seals)
      (seals_are_read d serve (runs_no_code d) seal deployable.id) all (lines_in_range d serve (runs_no_code d) seal all (recursion_from_All IsLine all l))

  -- The deployment that a world runs today.
  pub world_keeps : (all : List Line) → All IsLine all → AlwaysKeepsPromises (world_deployment d) all
  unfolding world_deployment
  world_keeps all l = file_keeps list_serve (statement_seal d) all list_serve_keeps (λ who. pens_keep d who deployable.seals) l

-- What is taken today.
pub taken_keeps : (d : Deployment) (all : List Line) → IsTaken d → All IsBuilt all → AlwaysKeepsPromises (world_deployment d) all
taken_keeps d all taken built = world_keeps d (taken_deployable d taken) all (All-weaker IsBuilt IsLine (λ line is. (is.keeps, is.fits)) all built)
