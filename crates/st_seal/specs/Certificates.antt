-- When a site speaks: certificates, and voices.
use Rattle.std.specs.Prelude.{ℕ, ◌+◌, ◌*◌, List, [], ◌∷◌, Bool, true, false, ◌&&◌, ◌==◌, length, nat_lt, nat_le}
use Rattle.std.specs.List.{list_all}
use Rattle.st_words.specs.declared.ids.SiteId.{SiteId}
use Rattle.st_words.specs.declared.ids.Who.TheVariants.{Server}
use Rattle.st_seal.specs.declared.quorum.Signed.{Signed}
use Rattle.st_seal.specs.Pen.{Checks}

-- whether the seal is one of the server of its index over the bytes
abbrev pub signed_checks : Checks → SiteId → List ℕ → Signed → Bool
signed_checks checks site bytes s = checks (Server (record { site = site.0; index = s.index })) bytes s.seal

-- whether the indices rise strictly, from `low` on
abbrev pub is_rising : ℕ → List Signed → Bool
is_rising low [] = true
is_rising low (s ∷ ss) = nat_le low s.index && is_rising (s.index + 1) ss

-- a certificate of a site for bytes: seals of exactly 2f+1 distinct servers of its 3f+1, each of which checks
abbrev pub is_certificate : Checks → ℕ → SiteId → List ℕ → List Signed → Bool
is_certificate checks f site bytes quorum =
    (length quorum == 2 * f + 1)
    && is_rising 0 quorum
    && list_all (λ s. nat_lt s.index (3 * f + 1) && signed_checks checks site bytes s) quorum

-- the word of a site whose one server is trusted: its seal alone
abbrev pub is_solo : Checks → SiteId → List ℕ → List Signed → Bool
is_solo checks site bytes (s ∷ []) = (s.index == 0) && signed_checks checks site bytes s
is_solo checks site bytes quorum = false
