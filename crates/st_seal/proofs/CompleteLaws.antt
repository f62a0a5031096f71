-- A slot is complete with exactly a quorum of seals, which are the site's certificate if they check.
use Rattle.std.proofs.Common.{◌≡◌, ℕ, All, zero, suc, ◌+◌, ◌*◌, ◌<◌, ◌≤◌, List, [], ◌∷◌, ◌++◌, length, arith, refl, true, false, ap, sym, ◌∙◌, append-nil, length-append}
use Rattle.std.specs.Prelude.{Bool, ◌||◌, ◌==◌, ◌&&◌, if◌then◌else◌, Option, None, Some, is_some, nat_eq, nat_le, nat_lt}
use Rattle.std.specs.List.{list_all}
use Rattle.std.specs.Cmp.Lexicographic.{pointwise}
use Rattle.std.proofs.lemmas.Bool.{and_from, and_parts, or_parts, eq-eqb, eqb-true, eqb-false, ne_eqb, leb-true, leb-false, le-leb, lt-leb, lt-ltb}
use Rattle.std.proofs.lemmas.Bool.Decides.{Decides-eqb}
use Rattle.std.proofs.lemmas.Slice.Eq.{slice_eq-Decides}
use Rattle.std.proofs.lemmas.List.Elements.{All-head, All-tail}
use Rattle.st_words.specs.declared.ids.SiteId.{SiteId}
use Rattle.st_seal.specs.declared.quorum.Signed.{Signed}
use Rattle.st_seal.specs.declared.collector.Share.{Share}
use Rattle.st_seal.specs.declared.collector.Added.TheVariants.{Complete, Kept, Seen, NotServer}
use Rattle.st_seal.specs.Pen.{Checks}
use Rattle.st_seal.specs.Rising.{IsRisingFrom}
use Rattle.st_seal.specs.Certificates.{signed_checks, is_rising, is_certificate}
use Rattle.st_seal.specs.Voices.{count_below}
use Rattle.st_seal.specs.Collecting.{Shares, says, agreeing, is_backed, some_below, is_complete, share_of, with_share, seal_over, seals_below, kept_answer, answer_to, IsCertifying}
use Rattle.st_seal.proofs.RisingLaws.{rising-push, rising_passes}
use Rattle.st_seal.proofs.CollectingLaws.{seals_index}

-- ---- one share more

-- nothing is counted below 0
count-zero : (p q : ℕ → Bool) → count_below p 0 ≡ count_below q 0
unfolding count_below
count-zero p q = refl

-- one index more of `count_with`
count_with_step : (b : Bool) (p q : ℕ → Bool) (k n : ℕ) → (n == k) ≡ b → p k ≡ false → q k ≡ true → ((i : ℕ) → (i ≡ k → ⊥) → q i ≡ p i)
    → (n ≤ k → count_below q n ≡ count_below p n) × (k < n → count_below q n ≡ count_below p n + 1)
    → (suc n ≤ k → count_below q (suc n) ≡ count_below p (suc n)) × (k < suc n → count_below q (suc n) ≡ count_below p (suc n) + 1)
unfolding count_below
count_with_step true p q k n test fails passes same before =
    let e : n ≡ k = eqb-true n k test in
    let off : p n ≡ false = ap p e ∙ fails in
    let on : q n ≡ true = ap q e ∙ passes in
    let equal : count_below q n ≡ count_below p n = before.0 (omega arith) in (
      (λ h. absurd (omega arith)),
      (λ h. rw (on, off) (omega arith)),
    )
count_with_step false p q k n test fails passes same before =
    let other : n ≡ k → ⊥ = eqb-false n k test in
    let equal : q n ≡ p n = same n other in (
      (λ h. rw equal (let e = before.0 (omega arith) in omega arith)),
      (λ h. rw equal (let e = before.1 (omega (arith, other)) in omega arith)),
    )

-- one number more passes
count_with : (p q : ℕ → Bool) (k : ℕ) → p k ≡ false → q k ≡ true → ((i : ℕ) → (i ≡ k → ⊥) → q i ≡ p i) → (n : ℕ)
    → (n ≤ k → count_below q n ≡ count_below p n) × (k < n → count_below q n ≡ count_below p n + 1)
count_with p q k fails passes same zero = ((λ h. count-zero q p), (λ h. absurd (omega arith)))
count_with p q k fails passes same (suc n) = count_with_step (n == k) p q k n refl fails passes same (count_with p q k fails passes same n)

-- equal bytes pass the test
same_bytes : (xs ys : List ℕ) → xs ≡ ys → pointwise nat_eq xs ys ≡ true
same_bytes xs ys e = (slice_eq-Decides Decides-eqb xs ys _ refl).1 e

-- bytes that pass the test are equal
bytes_same : (xs ys : List ℕ) → pointwise nat_eq xs ys ≡ true → xs ≡ ys
bytes_same xs ys e = (slice_eq-Decides Decides-eqb xs ys _ refl).0 e

-- a server's share counts for its bytes
pub agreeing_with : (f : ℕ) (shares : Shares) (bytes : List ℕ) (s : Share) → s.bytes ≡ bytes → s.index < 3 * f + 1 → shares s.index ≡ None
    → agreeing f (with_share shares s) bytes ≡ agreeing f shares bytes + 1
unfolding agreeing
agreeing_with f shares bytes s over inside none =
    let own : with_share shares s s.index ≡ Some s = ap (λ (b : Bool). if b then Some s else shares s.index) (eq-eqb s.index s.index refl) in
    let on : says bytes (with_share shares s s.index) ≡ true = ap (says bytes) own ∙ same_bytes s.bytes bytes over in
    let off : says bytes (shares s.index) ≡ false = ap (says bytes) none in
    (count_with (λ i. says bytes (shares i)) (λ i. says bytes (with_share shares s i)) s.index off on
    (λ i other. ap (λ (b : Bool). says bytes (if b then Some s else shares i)) (ne_eqb s.index i (λ e. other (sym e))))
    (3 * f + 1)).1 inside

-- ---- a slot that isn't complete

-- what implies a test that fails, fails
not_passing : (x y : Bool) → (x ≡ true → y ≡ true) → y ≡ false → x ≡ false
not_passing true y implies off = absurd (let on = implies refl in cc)
not_passing false y implies off = refl

-- where no index passes a test, none passes one that implies it
none_pass : (p q : ℕ → Bool) (n : ℕ) → ((i : ℕ) → p i ≡ true → q i ≡ true) → some_below q n ≡ false → count_below p n ≡ 0
unfolding count_below some_below
none_pass p q zero implies none = refl
none_pass p q (suc n) implies none =
    let parts = or_parts (some_below q n) (q n) none in
    let off : p n ≡ false = not_passing (p n) (q n) (implies n) parts.1 in
    rw off (let before = none_pass p q n implies parts.0 in omega arith)

-- a share over bytes that a quorum's are over is backed
backed : (f : ℕ) (shares : Shares) (bytes : List ℕ) (share : Option Share) → nat_le (2 * f + 1) (agreeing f shares bytes) ≡ true → says bytes share ≡ true → is_backed f shares share ≡ true
backed f shares bytes None many over = absurd (let no : false ≡ true = over in cc)
backed f shares bytes (Some s) many over = ap (λ (b : List ℕ). nat_le (2 * f + 1) (agreeing f shares b)) (bytes_same s.bytes bytes over) ∙ many

-- `agreeing_open` by the test for a quorum
few_step : (b : Bool) (f : ℕ) (shares : Shares) (bytes : List ℕ) → nat_le (2 * f + 1) (agreeing f shares bytes) ≡ b → is_complete f shares ≡ false → agreeing f shares bytes ≤ 2 * f
unfolding agreeing is_complete
few_step true f shares bytes test unfinished =
    let none : agreeing f shares bytes ≡ 0 = none_pass (λ i. says bytes (shares i)) (λ i. is_backed f shares (shares i)) (3 * f + 1) (λ i over. backed f shares bytes (shares i) test over) unfinished in
    omega arith
few_step false f shares bytes test unfinished = omega (arith, leb-false (2 * f + 1) (agreeing f shares bytes) test)

-- fewer than a quorum's shares are over the same bytes
pub agreeing_open : (f : ℕ) (shares : Shares) (bytes : List ℕ) → is_complete f shares ≡ false → agreeing f shares bytes ≤ 2 * f
agreeing_open f shares bytes unfinished = few_step (nat_le (2 * f + 1) (agreeing f shares bytes)) f shares bytes refl unfinished

-- ---- the seals of a completed slot

-- one seal or none
length_if : (b : Bool) (s : Signed) → length {A = Signed} (if b then s ∷ [] else []) ≡ (if b then 1 else 0)
length_if true s = refl
length_if false s = refl

-- a server gives one seal or none
length_over : (bytes : List ℕ) (i : ℕ) (share : Option Share) → length (seal_over bytes i share) ≡ (if says bytes share then 1 else 0)
length_over bytes i None = refl
length_over bytes i (Some s) = length_if (pointwise nat_eq s.bytes bytes) (record { index = i; seal = s.seal })

-- as many seals as servers' shares over the bytes
length_seals : (bytes : List ℕ) (shares : Shares) (n : ℕ) → length (seals_below bytes shares n) ≡ count_below (λ i. says bytes (shares i)) n
unfolding seals_below count_below
length_seals bytes shares zero = refl
length_seals bytes shares (suc n) =
    let before = length_seals bytes shares n in
    let here = length_over bytes n (shares n) in
    let both = length-append (seals_below bytes shares n) (seal_over bytes n (shares n)) in
    omega arith

-- a seal of a greater index, if it counts, keeps the indices rising
rising_if : (b : Bool) (ss : List Signed) (s : Signed) → All (λ (t : Signed). t.index < s.index) ss → IsRisingFrom 0 ss → IsRisingFrom 0 (ss ++ (if b then s ∷ [] else []))
rising_if true ss s all rising = rising-push 0 ss s (omega arith) all rising
rising_if false ss s all rising = rw append-nil rising

-- the same of a server's share
rising_over : (bytes : List ℕ) (ss : List Signed) (n : ℕ) (share : Option Share) → All (λ (t : Signed). t.index < n) ss → IsRisingFrom 0 ss → IsRisingFrom 0 (ss ++ seal_over bytes n share)
rising_over bytes ss n None all rising = rw append-nil rising
rising_over bytes ss n (Some s) all rising = rising_if (pointwise nat_eq s.bytes bytes) ss (record { index = n; seal = s.seal }) all rising

-- the seals have rising indices
seals_rising : (bytes : List ℕ) (shares : Shares) (n : ℕ) → IsRisingFrom 0 (seals_below bytes shares n)
unfolding seals_below
seals_rising bytes shares zero = tt
seals_rising bytes shares (suc n) = rising_over bytes (seals_below bytes shares n) n (shares n) (seals_index bytes shares n) (seals_rising bytes shares n)

-- each seal has an index below n and checks
each_checks : (checks : Checks) (site : SiteId) (bytes : List ℕ) (n : ℕ) (ss : List Signed) → All (λ (s : Signed). s.index < n) ss
    → list_all (signed_checks checks site bytes) ss ≡ true → list_all (λ (s : Signed). nat_lt s.index n && signed_checks checks site bytes s) ss ≡ true
each_checks checks site bytes n [] all sealed = refl
each_checks checks site bytes n (s ∷ ss) all sealed =
    let parts = and_parts (signed_checks checks site bytes s) (list_all (signed_checks checks site bytes) ss) sealed in
    let inside = lt-ltb s.index n (All-head (λ (t : Signed). t.index < n) s ss all) in
    and_from (nat_lt s.index n && signed_checks checks site bytes s) _ (and_from (nat_lt s.index n) _ inside parts.0)
    (each_checks checks site bytes n ss (All-tail (λ (t : Signed). t.index < n) s ss all) parts.1)

-- just a quorum of seals, if they check, is a certificate
pub quorum_certifies : (checks : Checks) (f : ℕ) (site : SiteId) (bytes : List ℕ) (shares : Shares) → agreeing f shares bytes ≡ 2 * f + 1
    → list_all (signed_checks checks site bytes) (seals_below bytes shares (3 * f + 1)) ≡ true
    → is_certificate checks f site bytes (seals_below bytes shares (3 * f + 1)) ≡ true
unfolding agreeing
quorum_certifies checks f site bytes shares many sealed =
    let seals : List Signed = seals_below bytes shares (3 * f + 1) in
    let long : length seals ≡ 2 * f + 1 = length_seals bytes shares (3 * f + 1) ∙ many in
    let rising = rising_passes 0 seals (seals_rising bytes shares (3 * f + 1)) in
    and_from ((length seals == 2 * f + 1) && is_rising 0 seals) _ (and_from (length seals == 2 * f + 1) _ (eq-eqb (length seals) (2 * f + 1) long) rising)
    (each_checks checks site bytes (3 * f + 1) seals (seals_index bytes shares (3 * f + 1)) sealed)

-- ---- the answer

-- with this share fewer than a quorum's are over its bytes
pub kept_few : (f : ℕ) (shares : Shares) (bytes : List ℕ) (s : Share) → s.bytes ≡ bytes → s.index < 3 * f + 1 → shares s.index ≡ None → agreeing f shares bytes < 2 * f
    → Kept ≡ kept_answer f (with_share shares s) bytes
kept_few f shares bytes s over inside none few =
    let now = agreeing_with f shares bytes s over inside none in
    let off : nat_le (2 * f + 1) (agreeing f (with_share shares s) bytes) ≡ false = lt-leb (2 * f + 1) (agreeing f (with_share shares s) bytes) (omega arith) in
    sym (ap (λ (b : Bool). if b then Complete (seals_below bytes (with_share shares s) (3 * f + 1)) else Kept) off)

-- with this share a quorum's are over its bytes
pub kept_many : (f : ℕ) (shares : Shares) (bytes : List ℕ) (s : Share) → s.bytes ≡ bytes → s.index < 3 * f + 1 → shares s.index ≡ None → 2 * f ≤ agreeing f shares bytes
    → Complete (seals_below bytes (with_share shares s) (3 * f + 1)) ≡ kept_answer f (with_share shares s) bytes
kept_many f shares bytes s over inside none many =
    let now = agreeing_with f shares bytes s over inside none in
    let on : nat_le (2 * f + 1) (agreeing f (with_share shares s) bytes) ≡ true = le-leb (2 * f + 1) (agreeing f (with_share shares s) bytes) (omega arith) in
    sym (ap (λ (b : Bool). if b then Complete (seals_below bytes (with_share shares s) (3 * f + 1)) else Kept) on)

-- no share is None
pub none_is : (share : Option Share) → is_some share ≡ false → share ≡ None
none_is None e = refl
none_is (Some s) e = absurd (let no : true ≡ false = e in cc)

-- `certifying` of a share that is kept, by the test for a quorum
certifying_kept : (b : Bool) (f : ℕ) (site : SiteId) (bytes : List ℕ) (shares : Shares) → nat_le (2 * f + 1) (agreeing f shares bytes) ≡ b → agreeing f shares bytes ≤ 2 * f + 1
    → IsCertifying (site, f) bytes (if b then Complete (seals_below bytes shares (3 * f + 1)) else Kept)
certifying_kept true f site bytes shares test few = λ checks sealed.
    let many : 2 * f + 1 ≤ agreeing f shares bytes = leb-true (2 * f + 1) (agreeing f shares bytes) test in
    quorum_certifies checks f site bytes shares (omega arith) sealed
certifying_kept false f site bytes shares test few = tt

-- `certifying` of a server's share, by the test for one that isn't kept
certifying_new : (b : Bool) (f : ℕ) (site : SiteId) (bytes : List ℕ) (shares : Shares) (signed : Signed) → (is_some (shares signed.index) || is_complete f shares) ≡ b → signed.index < 3 * f + 1
    → IsCertifying (site, f) bytes (if b then Seen else kept_answer f (with_share shares (share_of bytes signed)) bytes)
certifying_new true f site bytes shares signed test inside = tt
certifying_new false f site bytes shares signed test inside =
    let parts = or_parts (is_some (shares signed.index)) (is_complete f shares) test in
    let before : agreeing f shares bytes ≤ 2 * f = agreeing_open f shares bytes parts.1 in
    let now = agreeing_with f shares bytes (share_of bytes signed) refl inside (none_is (shares signed.index) parts.0) in
    certifying_kept (nat_le (2 * f + 1) (agreeing f (with_share shares (share_of bytes signed)) bytes)) f site bytes (with_share shares (share_of bytes signed)) refl (omega arith)

-- `certifying` by the test for a server
certifying_step : (b : Bool) (f : ℕ) (site : SiteId) (bytes : List ℕ) (shares : Shares) (signed : Signed) → nat_le (3 * f + 1) signed.index ≡ b
    → IsCertifying (site, f) bytes (if b then NotServer else (if is_some (shares signed.index) || is_complete f shares then Seen else kept_answer f (with_share shares (share_of bytes signed)) bytes))
certifying_step true f site bytes shares signed test = tt
certifying_step false f site bytes shares signed test =
    certifying_new (is_some (shares signed.index) || is_complete f shares) f site bytes shares signed refl (omega (arith, leb-false (3 * f + 1) signed.index test))

-- where the seals of a completed slot check, they are the site's certificate
pub certifying : (f : ℕ) (site : SiteId) (bytes : List ℕ) (shares : Shares) (signed : Signed) → IsCertifying (site, f) bytes (answer_to f shares bytes signed)
certifying f site bytes shares signed = certifying_step (nat_le (3 * f + 1) signed.index) f site bytes shares signed refl
