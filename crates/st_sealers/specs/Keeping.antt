-- Whose sealers are kept where.
use Rattle.std.specs.Prelude.{◌≡◌, ℕ, Option, None, List, length, slice_index_or}
use Rattle.std.specs.Option.{ForSome}
use Rattle.st_words.specs.declared.ids.Who.{Who}
use Rattle.st_seal.specs.Scheme.{Scheme}
use Rattle.st_hss_seal.specs.declared.deployment.PartySealer.{PartySealer}
use Rattle.st_hss_seal.specs.Sealers.{pen_of}
use Rattle.st_hss_seal.specs.Sealing.{pen_in}
use Rattle.st_protocol.specs.Words.{client_at}
use Rattle.st_sealers.specs.declared.sealers.ClientSealers.{ClientSealers}

-- a sealer is this party's
abbrev pub IsOf : Scheme → Who → PartySealer → Type 0
IsOf s who sealer = pen_of sealer ≡ pen_in s who

-- what stands in the place of a client
abbrev pub sealer_at : List (Option PartySealer) → ℕ → Option PartySealer
sealer_at places c = slice_index_or places c None

-- each sealer is that of the client whose place it has
unfoldable pub AreOwn : Scheme → List (Option PartySealer) → Type 0
AreOwn s places = (c : ℕ) → ForSome (sealer_at places c) (IsOf s (client_at c))

-- Each client has a place, for its own sealer.
pub record KeepsSealers (s : Scheme) (all : ClientSealers) : Type 0 where
  pub clients : length all.places.items ≡ s.clients
  pub own : AreOwn s all.places.items
