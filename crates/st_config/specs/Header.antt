-- The header of an input: the deployment's lines `key = value`, one a key and in this order. What keys HSS seals have
-- is said on three lines more.
use Rattle.std.specs.Prelude.{◌≡◌, ℕ, ◌-◌, ◌^◌, ◌==◌, if◌then◌else◌, List, [], ◌∷◌, length, Option, Some, None, Result, Ok, Err, bytes_eq, codes, option_and_then}
use Rattle.std.specs.Str.Lines.{lines}
use Rattle.st_texts.specs.Numbers.{number_in}
use Rattle.st_texts.specs.Hexadecimal.{hex_bytes}
use Rattle.st_words.specs.declared.deployment.Deployment.{Deployment}
use Rattle.st_words.specs.declared.deployment.ServiceKind.{ServiceKind}
use Rattle.st_words.specs.declared.deployment.ServiceKind.TheVariants as services
use Rattle.st_words.specs.declared.deployment.SealKind.{SealKind}
use Rattle.st_words.specs.declared.deployment.SealKind.TheVariants as seal_kinds
use Rattle.st_hss_seal.specs.Keys.{is_choice}
use Rattle.st_config.specs.declared.header.Counts.{Counts}
use Rattle.st_config.specs.declared.header.ConfigError.{ConfigError}
use Rattle.st_config.specs.declared.header.ConfigError.TheVariants.{NotTaken, OutOfMemory}
use Rattle.st_config.specs.Parts.{value_of, unquoted}

-- the number from least to most that a line gives its key
unfoldable pub number_of : List ℕ → ℕ → ℕ → List ℕ → Option ℕ
number_of key least most line = option_and_then (number_in least most) (value_of key line)

-- the quoted text that a line gives its key
unfoldable pub text_of : List ℕ → List ℕ → Option (List ℕ)
text_of key line = option_and_then unquoted (value_of key line)

-- The numbers of these four lines, of which today one site with no faulty server is taken.
unfoldable pub counts_of : List ℕ → List ℕ → List ℕ → List ℕ → Option Counts
counts_of id sites f clients =
    option_and_then (λ i. option_and_then (λ s. option_and_then (λ v. option_and_then (λ c. Some (record { id = i; sites = s; f = v; clients = c }))
    (number_of (codes "clients") 0 64 clients))
    (number_of (codes "f") 0 0 f))
    (number_of (codes "sites") 1 1 sites))
    (number_of (codes "id") 0 (2 ^ 63 - 1) id)

-- the service of this name
abbrev pub service_named : List ℕ → Option ServiceKind
service_named name = if bytes_eq name (codes "list") then Some services.List else None

-- keyed seals, by this name
abbrev pub keyed_named : List ℕ → Option SealKind
keyed_named name = if bytes_eq name (codes "keyed") then Some seal_kinds.Keyed else None

-- seals that are made
abbrev pub chosen : SealKind → Option SealKind
chosen kind = if is_choice kind then Some kind else None

-- the HSS seals of these lines
unfoldable pub keys_of : List ℕ → List ℕ → List ℕ → Option SealKind
keys_of height width levels =
    option_and_then (λ h. option_and_then (λ w. option_and_then (λ l. chosen (seal_kinds.Hss h w l))
    (number_of (codes "levels") 0 255 levels))
    (number_of (codes "width") 0 255 width))
    (number_of (codes "height") 0 255 height)

-- HSS seals, by this name and these lines
abbrev pub hss_named : List ℕ → List ℕ → List ℕ → List ℕ → Option SealKind
hss_named height width levels name = if bytes_eq name (codes "hss") then keys_of height width levels else None

-- the 32 bytes that 64 hexadecimal digits write
unfoldable pub seed_in : List ℕ → Option (List ℕ)
seed_in text = option_and_then (λ bytes. if length bytes == 32 then Some bytes else None) (hex_bytes text)

-- the service of this line
unfoldable pub service_of : List ℕ → Option ServiceKind
service_of line = option_and_then service_named (text_of (codes "service") line)

-- how parties seal by this line alone
unfoldable pub keyed_of : List ℕ → Option SealKind
keyed_of line = option_and_then keyed_named (text_of (codes "seals") line)

-- how parties seal by these lines
unfoldable pub hss_of : List ℕ → List ℕ → List ℕ → List ℕ → Option SealKind
hss_of line height width levels = option_and_then (hss_named height width levels) (text_of (codes "seals") line)

-- the seed of this line
unfoldable pub seed_of : List ℕ → Option (List ℕ)
seed_of line = option_and_then seed_in (text_of (codes "seed") line)

-- a deployment without faulty servers, at the default port
abbrev pub deployment_with : Counts → ServiceKind → SealKind → List ℕ → Deployment
deployment_with counts service seals seed =
    record {
      id = counts.id;
      sites = counts.sites;
      f = counts.f;
      clients = counts.clients;
      service = service;
      seals = seals;
      seed = seed;
      faulty = [];
      port = 47000;
    }

-- the deployment of these numbers and seals, and of the lines of its service and seed
unfoldable pub rest_of : Option Counts → List ℕ → Option SealKind → List ℕ → Option Deployment
rest_of counts service seals seed =
    option_and_then (λ c. option_and_then (λ kind. option_and_then (λ sealed. option_and_then (λ bytes. Some (deployment_with c kind sealed bytes))
    (seed_of seed))
    seals)
    (service_of service))
    counts

-- The deployment of these lines: seven with keyed seals, and ten with HSS seals. Every other list of lines is none.
abbrev pub deployment_of_lines : List (List ℕ) → Option Deployment
deployment_of_lines (id ∷ sites ∷ f ∷ clients ∷ service ∷ seals ∷ seed ∷ []) = rest_of (counts_of id sites f clients) service (keyed_of seals) seed
deployment_of_lines (id ∷ sites ∷ f ∷ clients ∷ service ∷ seals ∷ height ∷ width ∷ levels ∷ seed ∷ []) =
    rest_of (counts_of id sites f clients) service (hss_of seals height width levels) seed
deployment_of_lines _ = None

-- The deployment of a header's text. A line ends with a newline, or with a carriage return and a newline; the last
-- newline may be missing.
unfoldable pub header_of : List ℕ → Option Deployment
header_of text = deployment_of_lines (lines text)

-- what reading a header answers, unless memory is refused
abbrev pub Takes : Result Deployment ConfigError → Option Deployment → Type 0
Takes (Ok d) header = header ≡ Some d
Takes (Err NotTaken) header = header ≡ None
Takes (Err OutOfMemory) header = Unit {0}
