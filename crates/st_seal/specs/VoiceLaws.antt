-- A certificate is a site's word: whichever servers are correct, all but f of them sealed.
use Rattle.std.specs.Prelude.{◌≡◌, ℕ, zero, suc, ◌+◌, ◌-◌, ◌*◌, ◌<◌, ◌≤◌, List, [], ◌∷◌, Bool, true, false, ◌&&◌, ◌==◌, ◌||◌, if◌then◌else◌, length, nat_lt, nat_le, refl}
use Rattle.std.proofs.Common.{◌∙◌, ap, arith, subst, add-zero, add-suc}
use Rattle.std.specs.List.{list_all}
use Rattle.std.proofs.lemmas.Bool.{and_from, and_parts, eq-eqb, eqb-true, le-leb, leb-true, lt-ltb, ltb-true}
use Rattle.std.proofs.Math.Bool.{or-true}
use Rattle.st_words.specs.declared.ids.SiteId.{SiteId}
use Rattle.st_seal.specs.declared.quorum.Signed.{Signed}
use Rattle.st_seal.specs.Pen.{Checks}
use Rattle.st_seal.specs.Certificates.{signed_checks, is_rising, is_certificate, is_solo}
use Rattle.st_seal.specs.Voices.{count_below, gave, IsHeard}

-- one of two tests
first_or : (x y : Bool) → x ≡ true → (x || y) ≡ true
first_or x y e = ap (λ (b : Bool). b || y) e

-- the other of two tests
second_or : (x y : Bool) → y ≡ true → (x || y) ≡ true
second_or x y e = ap (λ (b : Bool). x || b) e ∙ or-true x

-- a count grows by one where the test passes
count-suc : (test : ℕ → Bool) (n m : ℕ) → m ≡ suc n → test n ≡ true → count_below test m ≡ count_below test n + 1
unfolding count_below
count-suc test n m e passes = ap (count_below test) e ∙ ap (λ (b : Bool). count_below test n + (if b then 1 else 0)) passes

-- a longer count is no less
count-add : (test : ℕ → Bool) (low d : ℕ) → count_below test low ≤ count_below test (low + d)
unfolding count_below
count-add test low zero = rw add-zero (omega arith)
count-add test low (suc d) = let before = count-add test low d in rw add-suc (omega arith)

-- the same, of two lengths
count-mono : (test : ℕ → Bool) (low n : ℕ) → low ≤ n → count_below test low ≤ count_below test n
count-mono test low n below =
    let e : low + (n - low) ≡ n = omega arith in
    subst (λ (m : ℕ). count_below test low ≤ count_below test m) e (count-add test low (n - low))

-- what two tests pass together, at one number
both-bits : (x y : Bool) → (if x then 1 else 0) + (if y then 1 else 0) ≤ 1 + (if x && y then 1 else 0)
both-bits true true = omega arith
both-bits true false = omega arith
both-bits false true = omega arith
both-bits false false = omega arith

-- what two tests pass together, out of n
count-both : (p q : ℕ → Bool) (n : ℕ) → count_below p n + count_below q n ≤ n + count_below (λ i. p i && q i) n
unfolding count_below
count-both p q zero = omega arith
count-both p q (suc n) =
    let before = count-both p q n in
    let here = both-bits (p n) (q n) in
    omega arith

-- each of the rising seals is counted once
counted : (checks : Checks) (site : SiteId) (bytes : List ℕ) (n : ℕ) (p : ℕ → Bool) (low : ℕ) (ss : List Signed) → low ≤ n
    → is_rising low ss ≡ true
    → list_all (λ (s : Signed). nat_lt s.index n && signed_checks checks site bytes s) ss ≡ true
    → ((i : ℕ) → gave checks site bytes ss i ≡ true → p i ≡ true)
    → count_below p low + length ss ≤ count_below p n
counted checks site bytes n p low [] below rising all passes = let more = count-mono p low n below in omega arith
counted checks site bytes n p low (s ∷ ss) below rising all passes =
    let steps = and_parts (nat_le low s.index) (is_rising (s.index + 1) ss) rising in
    let parts = and_parts (nat_lt s.index n && signed_checks checks site bytes s) _ all in
    let first = and_parts (nat_lt s.index n) (signed_checks checks site bytes s) parts.0 in
    let from : low ≤ s.index = leb-true low s.index steps.0 in
    let inside : s.index < n = ltb-true s.index n first.0 in
    let here : p s.index ≡ true = passes s.index (first_or _ _ (and_from (s.index == s.index) _ (eq-eqb s.index s.index refl) first.1)) in
    let grown : count_below p (s.index + 1) ≡ count_below p s.index + 1 = count-suc p s.index (s.index + 1) (omega arith) here in
    let reached : count_below p low ≤ count_below p s.index = count-mono p low s.index from in
    let rest = counted checks site bytes n p (s.index + 1) ss (omega arith) steps.1 parts.1 (λ i h. passes i (second_or _ _ h)) in
    omega arith

-- where the seals are a certificate, all correct servers but f gave one
pub certificate_heard : (checks : Checks) (f : ℕ) → IsHeard checks (λ site. f) (is_certificate checks f)
certificate_heard checks f site bytes quorum holds correct =
    let n : ℕ = 3 * f + 1 in
    let parts = and_parts ((length quorum == 2 * f + 1) && is_rising 0 quorum) _ holds in
    let first = and_parts (length quorum == 2 * f + 1) (is_rising 0 quorum) parts.0 in
    let long : length quorum ≡ 2 * f + 1 = eqb-true (length quorum) (2 * f + 1) first.0 in
    let sealed : count_below (gave checks site bytes quorum) 0 + length quorum ≤ count_below (gave checks site bytes quorum) n
    = counted checks site bytes n (gave checks site bytes quorum) 0 quorum (omega arith) first.1 parts.1 (λ i h. h) in
    let both = count-both correct (gave checks site bytes quorum) n in
    omega arith

-- where the one server is trusted, its seal is a certificate
pub solo_certificate : (checks : Checks) (site : SiteId) (bytes : List ℕ) (quorum : List Signed) → is_solo checks site bytes quorum ≡ true → is_certificate checks 0 site bytes quorum ≡ true
solo_certificate checks site bytes [] holds = absurd (let no : false ≡ true = holds in cc)
solo_certificate checks site bytes (s ∷ []) holds =
    let parts = and_parts (s.index == 0) (signed_checks checks site bytes s) holds in
    let zeroth : s.index ≡ 0 = eqb-true s.index 0 parts.0 in
    let low = and_from (nat_le 0 s.index) true (le-leb 0 s.index (omega arith)) refl in
    let sealed = and_from (nat_lt s.index 1) (signed_checks checks site bytes s) (lt-ltb s.index 1 (omega arith)) parts.1 in
    and_from (nat_le 0 s.index && true) _ low (and_from (nat_lt s.index 1 && signed_checks checks site bytes s) true sealed refl)
solo_certificate checks site bytes (s ∷ t ∷ ss) holds = absurd (let no : false ≡ true = holds in cc)

-- where the site speaks by one trusted server, that server gave a seal, if it is correct
pub solo_heard : (checks : Checks) → IsHeard checks (λ site. 0) (is_solo checks)
solo_heard checks site bytes quorum holds correct = certificate_heard checks 0 site bytes quorum (solo_certificate checks site bytes quorum holds) correct
