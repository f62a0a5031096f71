-- The seals of a deployment: keyed seals, or those of HSS keys that its seed gives, one a party.
use Rattle.std.specs.Prelude.{ℕ, ◌*◌, ◌^◌, List, [], Bool, false, ◌&&◌, Option, Some, None}
use Rattle.st_words.specs.declared.ids.Who.{Who}
use Rattle.st_words.specs.declared.deployment.Deployment.{Deployment}
use Rattle.st_words.specs.declared.deployment.SealKind.{SealKind}
use Rattle.st_words.specs.declared.deployment.SealKind.TheVariants.{Keyed, Hss}
use Rattle.st_seal.specs.Scheme.{Scheme, scheme_of, is_party}
use Rattle.st_seal.specs.Pen.{Checks, Pen}
use Rattle.st_seal.specs.Keyed.{keyed_checks, sealed_by}
use Rattle.st_hss.specs.declared.secret.HssSecret.{HssSecret}
use Rattle.st_hss.specs.Formulas.{hss_key, hss_signature}
use Rattle.st_hss.specs.Checks.{hss_checks}
use Rattle.st_hss_seal.specs.Keys.{party_secret}

-- ---- HSS

-- whether a seal is that of a key that is made from this
abbrev pub checks_under : Option HssSecret → List ℕ → List ℕ → Bool
checks_under None bytes seal = false
checks_under (Some secret) bytes seal = hss_checks (hss_key secret) bytes seal

-- what a key that is made from this seals with a leaf
abbrev pub sealed_under : Option HssSecret → ℕ → List ℕ → List ℕ
sealed_under None leaf bytes = []
sealed_under (Some secret) leaf bytes = hss_signature secret leaf bytes

-- a seal is a party's where it checks under the party's public key
unfoldable pub hss_holds : ℕ → ℕ → ℕ → Scheme → Checks
hss_holds height width levels s who bytes seal = is_party s who && checks_under (party_secret height width levels s.seed who) bytes seal

-- what a party seals with a leaf: an index of its key
unfoldable pub hss_sealed_by : ℕ → ℕ → ℕ → Scheme → Who → ℕ → List ℕ → List ℕ
hss_sealed_by height width levels s who leaf bytes = sealed_under (party_secret height width levels s.seed who) leaf bytes

-- ---- both kinds

abbrev pub holds_by : SealKind → Scheme → Checks
holds_by Keyed s = keyed_checks s
holds_by (Hss height width levels) s = hss_holds height width levels s

abbrev pub seal_by : SealKind → Scheme → Who → ℕ → List ℕ → List ℕ
seal_by Keyed s = sealed_by s
seal_by (Hss height width levels) s = hss_sealed_by height width levels s

-- how many leaves a party has
abbrev pub capacity_by : SealKind → ℕ
capacity_by Keyed = 2 ^ 20
capacity_by (Hss height width levels) = 2 ^ (height * levels)

-- whether a seal is this party's over bytes
abbrev pub holds_in : Scheme → Checks
holds_in s = holds_by s.kind s

-- a party's seals
abbrev pub pen_by : SealKind → Scheme → Who → Pen
pen_by kind s who = record {
  owner = who;
  scheme = s;
  capacity = capacity_by kind;
  seal_of = seal_by kind s who;
  checks = holds_by kind s;
}

abbrev pub pen_in : Scheme → Who → Pen
pen_in s who = pen_by s.kind s who

-- ---- of a deployment

-- whether a seal is this party's over bytes
abbrev pub holds : Deployment → Checks
holds d = holds_in (scheme_of d)

-- what a party seals with a leaf
abbrev pub seal_of : Deployment → Who → ℕ → List ℕ → List ℕ
seal_of d = seal_by d.seals (scheme_of d)

-- how many leaves a party has
abbrev pub capacity_of : Deployment → ℕ
capacity_of d = capacity_by d.seals
