-- What bytes are for a deployment, by the laws of the message as a field.
use Rattle.std.proofs.Common.{◌≡◌, ◌≢◌, ℕ, ◌^◌, ◌<◌, ◌≤◌, Bool, true, false, cond, eqb, ltb, List, length, Result, Ok, Err, refl, sym, ap, ◌∙◌}
use Rattle.std.specs.Prelude.{IfOk}
use Rattle.std.proofs.lemmas.Bool.{eqb-true, eq-eqb, le-ltb, ltb-false, ne_eqb}
use Rattle.st_fields.specs.Reading.{whole}
use Rattle.st_fields.proofs.Fields.{IsBytes}
use Rattle.st_fields.proofs.Wholes.{whole_takes, whole_again}
use Rattle.st_message.specs.declared.message.Message.{Message}
use Rattle.st_wire.specs.declared.error.MessageError.{MessageError}
use Rattle.st_wire.specs.declared.error.MessageError.TheVariants as errors
use Rattle.st_wire.specs.Ranges.{most_bytes, KeepsMessage, FitsMessage}
use Rattle.st_wire.specs.Spelling.{message_spelling}
use Rattle.st_wire.specs.Reading.{message_at}
use Rattle.st_wire.specs.Errors.{for_deployment, reading_of, IsReading}
use Rattle.st_wire.proofs.MessageFields.{message_field}

-- what is spelled so is read, as what its deployment makes of it
reading-spelled : (id other : ℕ) (m : Message) → other < 2 ^ 64 → KeepsMessage m → FitsMessage m → length (message_spelling other m) ≤ most_bytes → reading_of id (message_spelling other m) ≡ for_deployment id (Ok (other, m))
unfolding reading_of
reading-spelled id other m lt keeps fits short =
    let bytes = message_spelling other m in
    let within : ltb most_bytes (length bytes) ≡ false = le-ltb _ _ short in
    let read : whole message_at bytes ≡ Ok (other, m) = whole_again message_field (other, m) (lt, (keeps, fits)) in
    rw (within, read) refl

-- by its own deployment
pub reading-again : (id : ℕ) (m : Message) → id < 2 ^ 64 → KeepsMessage m → FitsMessage m → length (message_spelling id m) ≤ most_bytes → reading_of id (message_spelling id m) ≡ Ok m
reading-again id m lt keeps fits short = let same : eqb id id ≡ true = eq-eqb id id refl in reading-spelled id id m lt keeps fits short ∙ rw same refl

-- by another
pub reading-elsewhere : (id other : ℕ) (m : Message) → other < 2 ^ 64 → other ≢ id → KeepsMessage m → FitsMessage m → length (message_spelling other m) ≤ most_bytes → reading_of id (message_spelling other m) ≡ Err (errors.WrongDeployment other)
reading-elsewhere id other m lt differs keeps fits short = let apart : eqb other id ≡ false = ne_eqb other id differs in reading-spelled id other m lt keeps fits short ∙ rw apart refl

-- these bytes are this message's
abbrev IsRead : ℕ → List ℕ → Message → Type 0
IsRead id bytes m = (bytes ≡ message_spelling id m) × KeepsMessage m × FitsMessage m × (length (message_spelling id m) ≤ most_bytes)

-- a result that isn't a value is none
abbrev no_value : {A E : Type 0} → Result A E → Result A E → Type 0
no_value x y = x ≡ y

-- what was read, whose fault is a place
abbrev read_as : ℕ → Message → Result (ℕ × Message) ℕ
read_as id m = Ok (id, m)

-- the message of a deployment, where it is one
named_ok : (id : ℕ) (read : Result (ℕ × Message) ℕ) (m : Message) → no_value (for_deployment id read) (Ok m) → read ≡ Ok (id, m)
named_ok id (Err place) m e = absurd cc
named_ok id (Ok x) m e = named x.0 x.1 (eqb x.0 id) refl e
  where
    named : (i : ℕ) (n : Message) (b : Bool) → eqb i id ≡ b → no_value (cond b (Ok n) (Err (errors.WrongDeployment i))) (Ok m) → read_as i n ≡ read_as id m
    named i n true test e' = let is : i ≡ id = eqb-true i id test in let same : n ≡ m = cc in rw (is, same) refl
    named i n false test e' = absurd cc

-- what is read is spelled so, and isn't too long
pub reading_takes : (id : ℕ) (bytes : List ℕ) (m : Message) → IsBytes bytes → reading_of id bytes ≡ Ok m → IsRead id bytes m
unfolding reading_of
reading_takes id bytes m fits e = short (ltb most_bytes (length bytes)) refl e
  where
    short : (b : Bool) → ltb most_bytes (length bytes) ≡ b → no_value (cond b (Err (errors.TooLong (length bytes))) (for_deployment id (whole message_at bytes))) (Ok m) → IsRead id bytes m
    short true test e' = absurd cc
    short false test e' =
        let t = whole_takes message_field bytes (id, m) fits (named_ok id (whole message_at bytes) m e') in
        (t.0, t.1.1.0, t.1.1.1, rw (← t.0) (ltb-false _ _ test))

-- what the code answered is spelled so
pub reading-found : (id : ℕ) (bytes : List ℕ) (answer : Result Message MessageError) → IsBytes bytes → IsReading answer (reading_of id bytes) → IfOk answer (IsRead id bytes)
reading-found id bytes (Ok m) fits is = reading_takes id bytes m fits (sym is)
reading-found id bytes (Err e) fits is = tt
