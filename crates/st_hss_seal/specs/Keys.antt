-- The HSS keys of a deployment's parties, from its seed.
use Rattle.std.specs.Prelude.{ℕ, List, ◌∷◌, ◌++◌, take, Bool, true, ◌&&◌, ◌||◌, ◌==◌, Option}
use Rattle.sha2.specs.Sha256.{sha256}
use Rattle.st_words.specs.declared.ids.Who.{Who}
use Rattle.st_words.specs.declared.deployment.SealKind.{SealKind}
use Rattle.st_words.specs.declared.deployment.SealKind.TheVariants.{Keyed, Hss}
use Rattle.st_seal.specs.Keyed.{party_bytes, secret_of}
use Rattle.st_hss.specs.declared.secret.HssSecret.{HssSecret}
use Rattle.st_hss.specs.Formulas.{secret_for}

-- whether the seals of this kind are made: keyed seals are, and those of HSS keys of height 5 or 10, width 4
-- or 8 and one or two levels
abbrev pub is_choice : SealKind → Bool
is_choice Keyed = true
is_choice (Hss height width levels) = ((height == 5) || (height == 10)) && ((width == 4) || (width == 8)) && ((levels == 1) || (levels == 2))

-- I of a party's first tree: half a digest
unfoldable pub identifier_of : List ℕ → Who → List ℕ
identifier_of seed who = take 16 (sha256 ((2 ∷ seed) ++ party_bytes who))

-- what a party's key is made from; None where the height, the width or the number of levels is no choice. Its
-- SEED is the secret that keyed seals have
unfoldable pub party_secret : ℕ → ℕ → ℕ → List ℕ → Who → Option HssSecret
party_secret height width levels seed who = secret_for height width levels (identifier_of seed who) (secret_of seed who)
