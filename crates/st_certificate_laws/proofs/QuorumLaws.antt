-- Certificates and words that are put together of what is kept per index and per site: their tests pass.
use Rattle.std.proofs.Common.{◌≡◌, sym, subst, ℕ, ◌+◌, ◌*◌, ◌<◌, ◌≤◌, Bool, true, false, cond, zero, suc, nat_eq, List, [], ◌∷◌, ◌++◌, length, append-nil, refl, ◌∙◌, arith}
use Rattle.std.proofs.lemmas.Bool.{eqb-true, eq-eqb, lt-ltb, le-leb, ltb-true, leb-true, and_parts, and_from}
use Rattle.std.proofs.lemmas.List.{length-take-le}
use Rattle.std.specs.Prelude.{◌/◌, nat_lt, nat_le, take, Option, Some, None}
use Rattle.std.specs.Option.{IfSome}
use Rattle.std.specs.List.{AllByRecursion as Each}
use Rattle.st_words.specs.declared.ids.Who.{Who}
use Rattle.st_words.specs.declared.statement.Statement.{Statement}
use Rattle.st_seal.specs.declared.quorum.Signed.{Signed}
use Rattle.st_message.specs.declared.message.SiteWord.{SiteWord}
use Rattle.st_protocol.specs.Words.{Bytes, Quorum, server_at, site_of, a_site_word, same_statement}
use Rattle.st_protocol.specs.Keeping.{given}
use Rattle.st_protocol.specs.State.{Here, Share}
use Rattle.st_protocol.specs.Step.{all_below, count_below, says, signed_at, agreeing, complete, with_share, completes, completed, quorum_of, servers}
use Rattle.st_protocol.specs.Certificates.{seals_hold, is_certificate, words_hold, are_sites}
use Rattle.st_protocol.proofs.SameLaws.{same_statement-Decides}
use Rattle.st_ranges.proofs.RisingLaws.{as_many}
use Rattle.st_frame_laws.proofs.ChoiceLaws.{append_all, each_weaker}
use Rattle.st_certificate_laws.proofs.CountLaws.{exactly_agree}

module _ (holds : Who → Statement → Bytes → Bool) (f sites : ℕ) where
  -- ---- seals

  module _ (site : ℕ) (s : Statement) where
    -- what holds of the first seal, and of the others
    pub seal_parts : (first : ℕ) (x : Signed) (xs : Quorum) → seals_hold holds f sites site s first (x ∷ xs) ≡ true →
        (first ≤ x.index) × ((x.index < 3 * f + 1) × ((holds (server_at site x.index) s x.seal ≡ true) × (seals_hold holds f sites site s (x.index + 1) xs ≡ true)))
    unfolding seals_hold
    seal_parts first x xs e =
        let more = and_parts _ (seals_hold holds f sites site s (x.index + 1) xs) e in
        let seal = and_parts _ (holds (server_at site x.index) s x.seal) more.0 in
        let range = and_parts (nat_le first x.index) (nat_lt x.index (3 * f + 1)) seal.0 in
        (leb-true first x.index range.0, (ltb-true x.index (3 * f + 1) range.1, (seal.1, more.1)))

    -- and back
    pub seal_from : (first : ℕ) (x : Signed) (xs : Quorum) → first ≤ x.index → x.index < 3 * f + 1 → holds (server_at site x.index) s x.seal ≡ true → seals_hold holds f sites site s (x.index + 1) xs ≡ true →
        seals_hold holds f sites site s first (x ∷ xs) ≡ true
    unfolding seals_hold
    seal_from first x xs low less h more =
        and_from _ (seals_hold holds f sites site s (x.index + 1) xs)
        (and_from _ (holds (server_at site x.index) s x.seal) (and_from (nat_le first x.index) (nat_lt x.index (3 * f + 1)) (le-leb first x.index low) (lt-ltb x.index (3 * f + 1) less)) h) more

    -- no seals
    pub no_seals : (first : ℕ) → seals_hold holds f sites site s first [] ≡ true
    unfolding seals_hold
    no_seals first = refl

    -- with one seal more, of a higher index
    push_seal : (first : ℕ) (xs : Quorum) (k : ℕ) (seal : Bytes) → seals_hold holds f sites site s first xs ≡ true → Each (λ (x : Signed). x.index < k) xs → first ≤ k → k < 3 * f + 1 →
        holds (server_at site k) s seal ≡ true → seals_hold holds f sites site s first (xs ++ record { index = k; seal = seal } ∷ []) ≡ true
    push_seal first [] k seal a b low less h = seal_from first (record { index = k; seal = seal }) [] low less h (no_seals (k + 1))
    push_seal first (x ∷ xs) k seal a b low less h =
        let here = b.0 in
        let parts = seal_parts first x xs a in
        seal_from first x (xs ++ record { index = k; seal = seal } ∷ []) parts.0 parts.1.0 parts.1.1.0 (push_seal (x.index + 1) xs k seal parts.1.1.1 b.1 (omega (arith, here)) less h)

    -- a Quorum of so many seals that hold
    pub certificate_from : (q : Quorum) → length q ≡ 2 * f + 1 → seals_hold holds f sites site s 0 q ≡ true → is_certificate holds f sites site s q ≡ true
    unfolding is_certificate
    certificate_from q e h = and_from (nat_eq (length q) (2 * f + 1)) (seals_hold holds f sites site s 0 q) (eq-eqb (length q) (2 * f + 1) e) h

    -- the seals of a certificate hold
    pub certificate_holds : (q : Quorum) → is_certificate holds f sites site s q ≡ true → seals_hold holds f sites site s 0 q ≡ true
    unfolding is_certificate
    certificate_holds q e = (and_parts (nat_eq (length q) (2 * f + 1)) (seals_hold holds f sites site s 0 q) e).1

    module _ (is_site : site_of s ≡ site) (shares : ℕ → Option Share) (all : (i : ℕ) → IfSome (shares i) (λ x. holds (server_at (site_of x.statement) i) x.statement x.seal ≡ true)) where
      -- both of the seals below one
      abbrev Below : ℕ → Quorum → Type 0
      Below k q = (seals_hold holds f sites site s 0 q ≡ true) × Each (λ (x : Signed). x.index < k) q

      -- with what is kept at the next index
      one_seal : (k : ℕ) (qs : Quorum) → suc k ≤ 3 * f + 1 → Below k qs → Below (suc k) (qs ++ signed_at s shares k)
      one_seal k qs e before = by (shares k) (all k)
        where
          more : Each (λ (x : Signed). x.index < suc k) qs
          more = each_weaker (λ (x : Signed). x.index < k) (λ (x : Signed). x.index < suc k) (λ x less. omega (arith, less)) qs before.1

          none : Below (suc k) (qs ++ [])
          none = subst (Below (suc k)) (sym (append-nil qs)) (before.0, more)

          by_same : (x : Share) → holds (server_at (site_of x.statement) k) x.statement x.seal ≡ true → (b : Bool) → same_statement x.statement s ≡ b → Below (suc k) (qs ++ cond b (record { index = k; seal = x.seal } ∷ []) [])
          by_same x h true is = (
            push_seal 0 qs k x.seal before.0 before.1 (omega arith) (omega (arith, e))
                (subst (λ n. holds (server_at n k) s x.seal ≡ true) is_site (subst (λ (t : Statement). holds (server_at (site_of t) k) t x.seal ≡ true) ((same_statement-Decides x.statement s).0 is) h)),
            append_all (λ (y : Signed). y.index < suc k) qs (record { index = k; seal = x.seal } ∷ []) more (omega arith, tt),
          )
          by_same x h false is = none

          by : (x : Option Share) → IfSome x (λ x. holds (server_at (site_of x.statement) k) x.statement x.seal ≡ true) →
              Below (suc k) (qs ++ given x [] (λ x. cond (same_statement x.statement s) (record { index = k; seal = x.seal } ∷ []) []))
          by None h = none
          by (Some x) h = by_same x h (same_statement x.statement s) refl

      -- so of all below
      seals_below : (k : ℕ) → k ≤ 3 * f + 1 → Below k (all_below (signed_at s shares) k)
      unfolding all_below
      seals_below zero e = (no_seals 0, tt)
      seals_below (suc k) e = one_seal k (all_below (signed_at s shares) k) e (seals_below k (omega (arith, e)))

      -- The seals are by distinct servers, and hold.
      pub seals_stand : (k : ℕ) → k ≤ 3 * f + 1 → seals_hold holds f sites site s 0 (all_below (signed_at s shares) k) ≡ true
      seals_stand k e = (seals_below k e).0

    -- They are as many as agree.
    pub seals_counted : (shares : ℕ → Option Share) (k : ℕ) → length (all_below (signed_at s shares) k) ≡ count_below (λ i. says s (shares i)) k
    seals_counted shares k = as_many (signed_at s shares) (λ i. says s (shares i)) (λ i. by i (shares i)) k
      where
        by_same : (i : ℕ) (x : Share) (b : Bool) → length {A = Signed} (cond b (record { index = i; seal = x.seal } ∷ []) []) ≡ cond b 1 0
        by_same i x true = refl
        by_same i x false = refl

        by : (i : ℕ) (x : Option Share) → length {A = Signed} (given x [] (λ x. cond (same_statement x.statement s) (record { index = i; seal = x.seal } ∷ []) [])) ≡ cond (says s x) 1 0
        by i None = refl
        by i (Some x) = by_same i x (same_statement x.statement s)

  -- ---- words of sites

  module _ (of_site : ℕ → Statement) where
    -- what holds of the first word, and of the others
    pub word_parts : (first : ℕ) (w : SiteWord) (ws : List SiteWord) → words_hold holds f sites of_site first (w ∷ ws) ≡ true →
        (first ≤ w.site.0) × ((w.site.0 < sites) × ((is_certificate holds f sites w.site.0 (of_site w.site.0) w.quorum ≡ true) × (words_hold holds f sites of_site (w.site.0 + 1) ws ≡ true)))
    unfolding words_hold
    word_parts first w ws e =
        let more = and_parts _ (words_hold holds f sites of_site (w.site.0 + 1) ws) e in
        let one = and_parts _ (is_certificate holds f sites w.site.0 (of_site w.site.0) w.quorum) more.0 in
        let range = and_parts (nat_le first w.site.0) (nat_lt w.site.0 sites) one.0 in
        (leb-true first w.site.0 range.0, (ltb-true w.site.0 sites range.1, (one.1, more.1)))

    -- and back
    pub word_from : (first : ℕ) (w : SiteWord) (ws : List SiteWord) → first ≤ w.site.0 → w.site.0 < sites → is_certificate holds f sites w.site.0 (of_site w.site.0) w.quorum ≡ true →
        words_hold holds f sites of_site (w.site.0 + 1) ws ≡ true → words_hold holds f sites of_site first (w ∷ ws) ≡ true
    unfolding words_hold
    word_from first w ws low less h more =
        and_from _ (words_hold holds f sites of_site (w.site.0 + 1) ws)
        (and_from _ (is_certificate holds f sites w.site.0 (of_site w.site.0) w.quorum) (and_from (nat_le first w.site.0) (nat_lt w.site.0 sites) (le-leb first w.site.0 low) (lt-ltb w.site.0 sites less)) h) more

    -- no words
    pub no_words : (first : ℕ) → words_hold holds f sites of_site first [] ≡ true
    unfolding words_hold
    no_words first = refl

    -- with one word more, of a higher site
    push_word : (first : ℕ) (ws : List SiteWord) (k : ℕ) (q : Quorum) → words_hold holds f sites of_site first ws ≡ true → Each (λ (w : SiteWord). w.site.0 < k) ws → first ≤ k → k < sites →
        is_certificate holds f sites k (of_site k) q ≡ true → words_hold holds f sites of_site first (ws ++ a_site_word k q ∷ []) ≡ true
    push_word first [] k q a b low less h = word_from first (a_site_word k q) [] low less h (no_words (k + 1))
    push_word first (w ∷ ws) k q a b low less h =
        let here = b.0 in
        let parts = word_parts first w ws a in
        word_from first w (ws ++ a_site_word k q ∷ []) parts.0 parts.1.0 parts.1.1.0 (push_word (w.site.0 + 1) ws k q parts.1.1.1 b.1 (omega (arith, here)) less h)

    -- a site's own word with its certificate, or none
    abbrev pub IsWordOf : ℕ → List SiteWord → Type 0
    IsWordOf k [] = Unit {0}
    IsWordOf k (w ∷ []) = (q : Quorum) × ((w ≡ a_site_word k q) × (is_certificate holds f sites k (of_site k) q ≡ true))
    IsWordOf k (w ∷ v ∷ ws) = ⊥

    module _ (pick : ℕ → List SiteWord) (all : (k : ℕ) → IsWordOf k (pick k)) where
      -- words of sites below one, whose test passes with any that follow
      abbrev Under : ℕ → List SiteWord → Type 0
      Under k ws = (words_hold holds f sites of_site 0 ws ≡ true) × Each (λ (w : SiteWord). w.site.0 < k) ws

      -- with the next site's word
      one_word : (k : ℕ) (ws : List SiteWord) → suc k ≤ sites → Under k ws → Under (suc k) (ws ++ pick k)
      one_word k ws e before = by (pick k) (all k)
        where
          more : Each (λ (w : SiteWord). w.site.0 < suc k) ws
          more = each_weaker (λ (w : SiteWord). w.site.0 < k) (λ (w : SiteWord). w.site.0 < suc k) (λ w less. omega (arith, less)) ws before.1

          by : (x : List SiteWord) → IsWordOf k x → Under (suc k) (ws ++ x)
          by [] h = subst (Under (suc k)) (sym (append-nil ws)) (before.0, more)
          by (w ∷ []) h =
              subst (λ (v : SiteWord). Under (suc k) (ws ++ v ∷ [])) (sym h.1.0)
              ((push_word 0 ws k h.0 before.0 before.1 (omega arith) (omega (arith, e)) h.1.1, append_all (λ (w : SiteWord). w.site.0 < suc k) ws (a_site_word k h.0 ∷ []) more (omega arith, tt)))
          by (w ∷ v ∷ vs) h = absurd h

      -- so of all below
      words_below : (k : ℕ) → k ≤ sites → Under k (all_below pick k)
      unfolding all_below
      words_below zero e = (no_words 0, tt)
      words_below (suc k) e = one_word k (all_below pick k) e (words_below k (omega (arith, e)))

      -- The words of sites below one are of distinct sites, each with its certificate.
      pub words_stand : (k : ℕ) → k ≤ sites → words_hold holds f sites of_site 0 (all_below pick k) ≡ true
      words_stand k e = (words_below k e).0

    -- so are those of a front
    pub words_front : (first n : ℕ) (ws : List SiteWord) → words_hold holds f sites of_site first ws ≡ true → words_hold holds f sites of_site first (take n ws) ≡ true
    words_front first zero ws h = no_words first
    words_front first (suc n) [] h = no_words first
    words_front first (suc n) (w ∷ ws) h =
        let parts = word_parts first w ws h in word_from first w (take n ws) parts.0 parts.1.0 parts.1.1.0 (words_front (w.site.0 + 1) n ws parts.1.1.1)

    -- a majority of words that hold
    pub sites_from : (ws : List SiteWord) → length ws ≡ sites / 2 + 1 → words_hold holds f sites of_site 0 ws ≡ true → are_sites holds f sites of_site ws ≡ true
    sites_from ws e h = and_from (nat_eq (length ws) (sites / 2 + 1)) (words_hold holds f sites of_site 0 ws) (eq-eqb (length ws) (sites / 2 + 1) e) h

    -- a front of more
    pub sites_front : (ws : List SiteWord) → sites / 2 + 1 ≤ length ws → words_hold holds f sites of_site 0 ws ≡ true → are_sites holds f sites of_site (take (sites / 2 + 1) ws) ≡ true
    sites_front ws e h = sites_from (take (sites / 2 + 1) ws) (length-take-le (sites / 2 + 1) ws e) (words_front 0 (sites / 2 + 1) ws h)

-- A share that completes a slot which wasn't complete gives a certificate.
pub completed_is_certificate : (holds : Who → Statement → Bytes → Bool) (here : Here) (shares : ℕ → Option Share) (s : Statement) (signed : Signed) →
    ((i : ℕ) → IfSome (shares i) (λ x. holds (server_at (site_of x.statement) i) x.statement x.seal ≡ true)) → holds (server_at (site_of s) signed.index) s signed.seal ≡ true →
    complete here shares ≡ false → completes here shares s signed ≡ true → is_certificate holds here.seat.f here.seat.sites (site_of s) s (completed here shares s signed) ≡ true
unfolding quorum_of agreeing
completed_is_certificate holds here shares s signed all h few done =
    certificate_from holds here.seat.f here.seat.sites (site_of s) s (all_below (signed_at s (with_share shares s signed)) (servers here))
    (seals_counted holds here.seat.f here.seat.sites (site_of s) s (with_share shares s signed) (servers here) ∙ exactly_agree here shares s signed few done)
    (seals_stand holds here.seat.f here.seat.sites (site_of s) s refl (with_share shares s signed) (λ i. with_this i (nat_eq signed.index i) refl) (servers here) (omega arith))
  where
    with_this : (i : ℕ) (b : Bool) → nat_eq signed.index i ≡ b → IfSome (cond b (Some (record { statement = s; seal = signed.seal })) (shares i)) (λ (x : Share). holds (server_at (site_of x.statement) i) x.statement x.seal ≡ true)
    with_this i true e = subst (λ n. holds (server_at (site_of s) n) s signed.seal ≡ true) (eqb-true signed.index i e) h
    with_this i false e = all i
