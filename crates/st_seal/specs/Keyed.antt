-- Keyed seals: anyone who has the deployment can make and check them.
use Rattle.std.specs.Prelude.{ℕ, ◌^◌, List, [], ◌∷◌, ◌++◌, ◌&&◌, ◌==◌, length, take, nat_eq}
use Rattle.std.specs.Int.{to_be_bytes, w32}
use Rattle.std.specs.Cmp.Lexicographic.{pointwise}
use Rattle.sha2.specs.Sha256.{sha256}
use Rattle.st_words.specs.declared.ids.Who.{Who}
use Rattle.st_words.specs.declared.ids.Who.TheVariants.{Server, Client}
use Rattle.st_seal.specs.Scheme.{Scheme, is_party}
use Rattle.st_seal.specs.Pen.{Checks, Pen}

-- a party's own two bytes
abbrev pub party_bytes : Who → List ℕ
party_bytes (Server server) = server.site ∷ server.index ∷ []
party_bytes (Client client) = 0xff ∷ client.0 ∷ []

-- the secret of a party, from the deployment's seed
unfoldable pub secret_of : List ℕ → Who → List ℕ
secret_of seed who = sha256 ((1 ∷ seed) ++ party_bytes who)

-- the seal with a secret and a leaf, four bytes, over bytes
unfoldable pub keyed_seal : List ℕ → List ℕ → List ℕ → List ℕ
keyed_seal secret leaf bytes = leaf ++ sha256 (secret ++ leaf ++ bytes)

-- a seal is a party's where it has 36 bytes and is what the party seals with the leaf of its first four
unfoldable pub keyed_checks : Scheme → Checks
keyed_checks s who bytes seal =
    is_party s who && (length seal == 36) && pointwise nat_eq seal (keyed_seal (secret_of s.seed who) (take 4 seal) bytes)

-- what a party seals with a leaf
unfoldable pub sealed_by : Scheme → Who → ℕ → List ℕ → List ℕ
sealed_by s who leaf bytes = keyed_seal (secret_of s.seed who) (to_be_bytes w32 leaf) bytes

-- a party's keyed seals: 2^20 leaves
abbrev pub keyed_pen : Scheme → Who → Pen
keyed_pen s who = record {
  owner = who;
  scheme = s;
  capacity = 2 ^ 20;
  seal_of = sealed_by s who;
  checks = keyed_checks s;
}
