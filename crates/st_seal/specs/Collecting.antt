-- What a collector keeps of one slot of a site, and what it answers.
use Rattle.std.specs.Prelude.{ℕ, zero, suc, ◌+◌, ◌*◌, List, [], ◌∷◌, ◌++◌, Bool, false, IsTrue, ◌&&◌, ◌||◌, ◌==◌, not, if◌then◌else◌, Option, None, Some, is_some, find, nat_eq, nat_le}
use Rattle.std.specs.List.{list_all}
use Rattle.std.specs.Cmp.Lexicographic.{pointwise}
use Rattle.st_words.specs.declared.ids.SiteId.{SiteId}
use Rattle.st_seal.specs.declared.quorum.Signed.{Signed}
use Rattle.st_seal.specs.declared.collector.Share.{Share}
use Rattle.st_seal.specs.declared.collector.Collector.{Collector}
use Rattle.st_seal.specs.declared.collector.Added.{Added}
use Rattle.st_seal.specs.declared.collector.Added.TheVariants.{Complete, Kept, Seen, NotServer}
use Rattle.st_seal.specs.Pen.{Checks}
use Rattle.st_seal.specs.Certificates.{signed_checks, is_certificate}
use Rattle.st_seal.specs.Voices.{count_below}

-- per index the share of that server, if one is kept
abbrev pub Shares : Type 0
Shares = ℕ → Option Share

-- the share of an index among some
unfoldable pub share_in : List Share → Shares
share_in shares index = find (λ s. s.index == index) shares

-- the shares that a collector keeps
abbrev pub shares_of : Collector → Shares
shares_of c = share_in c.shares

-- whether a share is over these bytes
abbrev pub says : List ℕ → Option Share → Bool
says bytes None = false
says bytes (Some s) = pointwise nat_eq s.bytes bytes

-- how many servers' shares are over these bytes
unfoldable pub agreeing : ℕ → Shares → List ℕ → ℕ
agreeing f shares bytes = count_below (λ i. says bytes (shares i)) (3 * f + 1)

-- whether a quorum's shares are over the bytes of this one
abbrev pub is_backed : ℕ → Shares → Option Share → Bool
is_backed f shares None = false
is_backed f shares (Some s) = nat_le (2 * f + 1) (agreeing f shares s.bytes)

-- whether a number below one passes a test
unfoldable pub some_below : (ℕ → Bool) → ℕ → Bool
some_below test zero = false
some_below test (suc n) = some_below test n || test n

-- whether a quorum's shares are over the same bytes
unfoldable pub is_complete : ℕ → Shares → Bool
is_complete f shares = some_below (λ i. is_backed f shares (shares i)) (3 * f + 1)

-- a server's share of these bytes
abbrev pub share_of : List ℕ → Signed → Share
share_of bytes signed = record { index = signed.index; bytes = bytes; seal = signed.seal }

-- the shares once this one is kept too
abbrev pub with_share : Shares → Share → Shares
with_share shares s index = if s.index == index then Some s else shares index

-- the seal of a share over these bytes
abbrev pub seal_over : List ℕ → ℕ → Option Share → List Signed
seal_over bytes index None = []
seal_over bytes index (Some s) = if pointwise nat_eq s.bytes bytes then record { index = index; seal = s.seal } ∷ [] else []

-- the seals over these bytes of the servers below an index, in their order
unfoldable pub seals_below : List ℕ → Shares → ℕ → List Signed
seals_below bytes shares zero = []
seals_below bytes shares (suc n) = seals_below bytes shares n ++ seal_over bytes n (shares n)

-- whether the share is kept: it is of a server, and neither that server's second nor of a complete slot
abbrev pub is_kept : ℕ → Shares → Signed → Bool
is_kept f shares signed = not (nat_le (3 * f + 1) signed.index) && not (is_some (shares signed.index) || is_complete f shares)

-- what it answers to a share that it keeps: the seals over the same bytes, once they are a quorum
abbrev pub kept_answer : ℕ → Shares → List ℕ → Added
kept_answer f shares bytes = if nat_le (2 * f + 1) (agreeing f shares bytes) then Complete (seals_below bytes shares (3 * f + 1)) else Kept

-- what it answers to a share
abbrev pub answer_to : ℕ → Shares → List ℕ → Signed → Added
answer_to f shares bytes signed =
    if nat_le (3 * f + 1) signed.index then NotServer
    else if is_some (shares signed.index) || is_complete f shares then Seen
    else kept_answer f (with_share shares (share_of bytes signed)) bytes

-- what it keeps after it
abbrev pub kept_after : ℕ → Shares → List ℕ → Signed → Shares
kept_after f shares bytes signed = if is_kept f shares signed then with_share shares (share_of bytes signed) else shares

-- the site and f of a collector, which stay
abbrev pub slot_of : Collector → SiteId × ℕ
slot_of c = (c.site, c.f)

-- a list of one seal or none
abbrev pub listed : Option Signed → List Signed
listed None = []
listed (Some s) = s ∷ []

-- where the seals of a completed slot check, they are the site's certificate
abbrev pub IsCertifying : SiteId × ℕ → List ℕ → Added → Type 0
IsCertifying slot bytes (Complete quorum) =
    (checks : Checks) → IsTrue (list_all (signed_checks checks slot.0 bytes) quorum) → IsTrue (is_certificate checks slot.1 slot.0 bytes quorum)
IsCertifying slot bytes other = Unit {0}
