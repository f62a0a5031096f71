-- The formats of bytes read messages as they are sent, and what they read is in range.
use Rattle.std.proofs.Common.{◌≡◌, ◌∙◌, ap, sym, refl, ℕ, ◌^◌, ◌<◌, nat_lt, if◌then◌else◌, Bool, true, false, List, [], ◌∷◌, length, Err}
use Rattle.std.proofs.lemmas.Bool.{ltb-false}
use Rattle.st_fields.proofs.Fields.{IsBytes}
use Rattle.st_fields.specs.Reading.{whole}
use Rattle.st_words.specs.declared.deployment.Deployment.{Deployment}
use Rattle.st_words.specs.declared.ids.Who.{Who}
use Rattle.st_words.specs.declared.statement.Statement.{Statement}
use Rattle.st_message.specs.declared.message.Message.{Message}
use Rattle.st_message.specs.declared.reason.Reason.TheVariants as reasons
use Rattle.st_schedule.specs.declared.line.Line.{Line}
use Rattle.st_schedule.specs.declared.line.Line.TheVariants as lines
use Rattle.st_wire.specs.declared.error.MessageError.TheVariants as errors
use Rattle.st_wire.specs.Ranges.{most_bytes}
use Rattle.st_wire.specs.Errors.{reading_of, for_deployment}
use Rattle.st_wire.specs.Spelling.{message_spelling}
use Rattle.st_wire.specs.Reading.{message_at}
use Rattle.st_protocol.specs.Words.{Bytes}
use Rattle.st_protocol.specs.Duty.{Reading, Faulty, Clean}
use Rattle.st_reading.specs.Deployed.{as_reading, wire_formats}
use Rattle.st_reading.proofs.ReadLaws.{clean_is_spelled, sent_is_clean}
use Rattle.st_ranges.specs.Ranges.{MessageInRange, ReadingInRange}
use Rattle.st_ranges.specs.Deployments.{OutsideInRange, LineInRange}
use Rattle.std.specs.List.{AllByRecursion as Each}
use Rattle.st_deployment.specs.Deployed.{of_file}
use Rattle.st_deployment.specs.Deployable.{IsLine}

-- the message that is read
clean_same : (m n : Message) → Clean m ≡ Clean n → n ≡ m
clean_same m n e = cc

-- bytes that are too long are no message
too_long : (d : Deployment) (bytes : List ℕ) → nat_lt most_bytes (length bytes) ≡ true → (wire_formats d).read bytes ≡ Faulty (reasons.TooLong (length bytes))
unfolding reading_of
too_long d bytes long = ap (λ (b : Bool). as_reading (if b then Err (errors.TooLong (length bytes)) else for_deployment d.id (whole message_at bytes))) long

-- A message in range is read as it was sent, if as any.
pub sent_same : (d : Deployment) (m n : Message) → d.id < 2 ^ 64 → MessageInRange m → (wire_formats d).read ((wire_formats d).encode m) ≡ Clean n → n ≡ m
sent_same d m n small inside e = by (nat_lt most_bytes (length (message_spelling d.id m))) refl
  where
    by : (b : Bool) → nat_lt most_bytes (length (message_spelling d.id m)) ≡ b → n ≡ m
    by true long = absurd (let no : Faulty (reasons.TooLong (length (message_spelling d.id m))) ≡ Clean n = sym (too_long d (message_spelling d.id m) long) ∙ e in cc)
    by false short = clean_same m n (sym (sent_is_clean d m small inside.0 inside.1 (ltb-false most_bytes (length (message_spelling d.id m)) short)) ∙ e)

-- what bytes are read as is in range
pub reading_in_range : (d : Deployment) (bytes : List ℕ) → IsBytes bytes → ReadingInRange ((wire_formats d).read bytes)
reading_in_range d bytes fits = by ((wire_formats d).read bytes) refl
  where
    by : (r : Reading) → (wire_formats d).read bytes ≡ r → ReadingInRange r
    by (Faulty reason) e = tt
    by (Clean m) e = let is = clean_is_spelled d bytes m fits e in (is.keeps, is.fits)

module _ (d : Deployment) (serve : List Bytes → Bytes → Bytes) (faulty : ℕ → ℕ → Bool) (seal : Who → ℕ → Statement → Bytes) where
  -- what a line brings in
  outside_in_range : (line : Line) → IsLine line → OutsideInRange (of_file d serve faulty seal) line
  outside_in_range (lines.Raw to bytes) is = reading_in_range d bytes is.1.1
  outside_in_range _ is = tt

  -- Lines of the grammar are in range.
  pub line_in_range : (line : Line) → IsLine line → LineInRange (of_file d serve faulty seal) line
  line_in_range line is = (is.0, is.1, outside_in_range line is)

  -- So are all of them.
  pub lines_in_range : (all : List Line) → Each IsLine all → Each (LineInRange (of_file d serve faulty seal)) all
  lines_in_range [] l = tt
  lines_in_range (line ∷ more) l = (line_in_range line l.0, lines_in_range more l.1)
