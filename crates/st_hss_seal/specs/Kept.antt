-- The public keys of a deployment's parties, each kept at its party's place.
use Rattle.std.specs.Prelude.{◌≡◌, ℕ, ◌+◌, ◌-◌, ◌*◌, ◌/◌, ◌%◌, List, Option, Some, None, nat_lt, if◌then◌else◌}
use Rattle.st_words.specs.declared.ids.Who.{Who}
use Rattle.st_words.specs.declared.ids.Who.TheVariants.{Server, Client}
use Rattle.st_seal.specs.Scheme.{is_party}
use Rattle.st_hss.specs.declared.secret.HssSecret.{HssSecret}
use Rattle.st_hss.specs.Formulas.{hss_key}
use Rattle.st_tables.specs.Entries.{entry}
use Rattle.st_hss_seal.specs.declared.scheme.HssScheme.{HssScheme}
use Rattle.st_hss_seal.specs.Schemes.{scheme_of_hss}
use Rattle.st_hss_seal.specs.Keys.{party_secret}

-- places are in rows of 256: the first one the clients', and then one for each site's servers
abbrev pub place_of : Who → ℕ
place_of (Client client) = client.0
place_of (Server server) = 256 * (server.site + 1) + server.index

-- the party that has a place
abbrev pub party_at : ℕ → Who
party_at k = if nat_lt k 256 then Client (record { 0 = k }) else Server (record { site = k / 256 - 1; index = k % 256 })

-- how many places there are
abbrev pub places_of : HssScheme → ℕ
places_of s = 256 * (s.sites + 1)

-- what a key is made from, and its public key
abbrev pub secret_in : HssScheme → Who → Option HssSecret
secret_in s who = party_secret s.height s.width s.levels s.seed who

abbrev pub key_under : Option HssSecret → Option (List ℕ)
key_under None = None
key_under (Some secret) = Some (hss_key secret)

-- the public key of who is a party
unfoldable pub key_of : HssScheme → Who → Option (List ℕ)
key_of s who = if is_party (scheme_of_hss s) who then key_under (secret_in s who) else None

-- the keys of the places below n are kept
abbrev pub KeepsBelow : HssScheme → ℕ → List (Option (List ℕ)) → Type 0
KeepsBelow s n keys = (k : ℕ) → entry keys k ≡ (if nat_lt k n then key_of s (party_at k) else None)

-- all keys are kept
abbrev pub KeepsKeys : HssScheme → List (Option (List ℕ)) → Type 0
KeepsKeys s keys = KeepsBelow s (places_of s) keys
