-- What a site's word rests on.
use Rattle.std.specs.Prelude.{ℕ, zero, suc, ◌+◌, ◌*◌, ◌≤◌, List, Bool, ◌&&◌, ◌==◌, IsTrue, if◌then◌else◌}
use Rattle.std.specs.List.{list_any}
use Rattle.st_words.specs.declared.ids.SiteId.{SiteId}
use Rattle.st_seal.specs.declared.quorum.Signed.{Signed}
use Rattle.st_seal.specs.Pen.{Checks}
use Rattle.st_seal.specs.Certificates.{signed_checks}

-- whether a quorum is a site's word on bytes
abbrev pub Speaks : Type 0
Speaks = SiteId → List ℕ → List Signed → Bool

-- how many numbers below one pass a test
unfoldable pub count_below : (ℕ → Bool) → ℕ → ℕ
count_below test zero = 0
count_below test (suc n) = count_below test n + (if test n then 1 else 0)

-- whether the server of this index gave a seal that checks
abbrev pub gave : Checks → SiteId → List ℕ → List Signed → ℕ → Bool
gave checks site bytes quorum index = list_any (λ s. (s.index == index) && signed_checks checks site bytes s) quorum

-- Where the site speaks, whichever of its servers are correct: all of them but `f` at least gave a seal
-- that checks.
abbrev pub IsHeard : Checks → (SiteId → ℕ) → Speaks → Type 0
IsHeard checks f speaks =
    (site : SiteId) (bytes : List ℕ) (quorum : List Signed) → IsTrue (speaks site bytes quorum)
    → (correct : ℕ → Bool)
    → count_below correct (3 * f site + 1) ≤ f site + count_below (λ i. correct i && gave checks site bytes quorum i) (3 * f site + 1)
