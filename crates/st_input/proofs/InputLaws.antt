-- An input from its parts.
use Rattle.std.proofs.Common.{◌≡◌, ◌∙◌, ℕ, List, Option, Some, None, Result, Ok, Err, ap, sym, subst}
use Rattle.std.specs.Prelude.{ok_or}
use Rattle.std.specs.Str.{IsUtf8}
use Rattle.std.proofs.lemmas.Bool.{cond-true, cond-false, false_from_ne_true}
use Rattle.std.proofs.lemmas.Str.{IsUtf8-from_is_utf8, is_utf8-from_IsUtf8}
use Rattle.st_words.specs.declared.deployment.Deployment.{Deployment}
use Rattle.st_config.specs.Header.{Takes, header_of}
use Rattle.st_config.specs.declared.header.ConfigError.{ConfigError}
use Rattle.st_config.specs.declared.header.ConfigError.TheVariants as configs
use Rattle.st_input.specs.declared.fault.InputError.{InputError}
use Rattle.st_input.specs.declared.fault.InputError.TheVariants as errors
use Rattle.st_input.specs.declared.fault.InputFault.TheVariants as faults
use Rattle.st_input.specs.declared.input.Input.{Input}
use Rattle.st_input.specs.declared.input.InputLine.{InputLine}
use Rattle.st_input.specs.Parted.{Parted, parted}
use Rattle.st_input.specs.Input.{Read, Reads, ◌>>=◌, events_from, from_config, input_of, input_of_parted}

-- the input of a text that was parted, if it was
abbrev of_parts : Option Parted → Read Input
of_parts p = ok_or p faults.NoSeparator >>= input_of_parted

-- what is no text
pub no_text : (bytes : List ℕ) → ¬ (IsUtf8 bytes) → input_of bytes ≡ Err faults.Utf8
unfolding input_of
no_text bytes never = cond-false _ (of_parts (parted bytes)) (Err faults.Utf8) (false_from_ne_true _ (λ test. never (IsUtf8-from_is_utf8 bytes test)))

-- a text's input is that of its parts
text_input : (bytes : List ℕ) (parts : Option Parted) → IsUtf8 bytes → parted bytes ≡ parts → input_of bytes ≡ of_parts parts
unfolding input_of
text_input bytes parts utf8 e = cond-true _ (of_parts (parted bytes)) (Err faults.Utf8) (is_utf8-from_IsUtf8 bytes utf8) ∙ ap of_parts e

-- a text that isn't parted
pub no_parts : (bytes : List ℕ) → IsUtf8 bytes → parted bytes ≡ None → input_of bytes ≡ Err faults.NoSeparator
no_parts bytes utf8 none = text_input bytes None utf8 none

-- the input of events, where they were read
abbrev with_events : Deployment → Read (List InputLine) → Read Input
with_events deployment events = events >>= λ lines. Ok (record { deployment = deployment; lines = lines })

-- the input of a deployment, where there is one
abbrev of_header : Parted → Option Deployment → Read Input
of_header p header = ok_or header faults.Deployment >>= λ deployment. with_events deployment (events_from p.first 0 p.events)

-- the parts' input, by their header
header_input : (bytes : List ℕ) (p : Parted) (header : Option Deployment) → IsUtf8 bytes → parted bytes ≡ Some p → header_of p.header ≡ header → input_of bytes ≡ of_header p header
unfolding input_of_parted
header_input bytes p header utf8 parts e = text_input bytes (Some p) utf8 parts ∙ ap (of_header p) e

-- a header that isn't taken
pub no_header : (bytes : List ℕ) (p : Parted) → IsUtf8 bytes → parted bytes ≡ Some p → header_of p.header ≡ None → input_of bytes ≡ Err faults.Deployment
no_header bytes p utf8 parts none = header_input bytes p None utf8 parts none

-- the deployment and the events of the parts are the input's
pub events_input : (bytes : List ℕ) (p : Parted) (deployment : Deployment) (events : Read (List InputLine)) → IsUtf8 bytes → parted bytes ≡ Some p
    → header_of p.header ≡ Some deployment → events_from p.first 0 p.events ≡ events → input_of bytes ≡ with_events deployment events
events_input bytes p deployment events utf8 parts header lines =
    header_input bytes p (Some deployment) utf8 parts header ∙ ap (with_events deployment) lines

-- a header that isn't read makes no input, unless memory is refused
pub header_refused : (result : Result Input InputError) (bytes : List ℕ) (p : Parted) (error : ConfigError) → IsUtf8 bytes → parted bytes ≡ Some p
    → result ≡ Err (from_config error) → Takes (Err error) (header_of p.header) → Reads result (input_of bytes)
header_refused result bytes p configs.NotTaken utf8 parts is none = subst (λ (r : Result Input InputError). Reads r (input_of bytes)) (sym is) (no_header bytes p utf8 parts none)
header_refused result bytes p configs.OutOfMemory utf8 parts is none = subst (λ (r : Result Input InputError). Reads r (input_of bytes)) (sym is) tt

-- event lines that aren't read make no input, unless memory is refused
pub events_refused : (result : Result Input InputError) (bytes : List ℕ) (p : Parted) (deployment : Deployment) (error : InputError) → IsUtf8 bytes → parted bytes ≡ Some p
    → header_of p.header ≡ Some deployment → result ≡ Err error → Reads (Err error) (events_from p.first 0 p.events) → Reads result (input_of bytes)
events_refused result bytes p deployment (errors.Fault fault) utf8 parts header is found =
    subst (λ (r : Result Input InputError). Reads r (input_of bytes)) (sym is) (events_input bytes p deployment (Err fault) utf8 parts header found)
events_refused result bytes p deployment errors.OutOfMemory utf8 parts header is found =
    subst (λ (r : Result Input InputError). Reads r (input_of bytes)) (sym is) tt
