-- What the tests of certificates and of proofs say: so many, distinct, in order, and each holds.
use Rattle.std.proofs.Common.{◌≡◌, ℕ, Bool, ◌+◌, ◌*◌, ◌<◌, ◌≤◌, true, nat_eq, List, [], ◌∷◌, length, arith}
use Rattle.std.proofs.lemmas.Bool.{eqb-true, and_parts}
use Rattle.std.proofs.lemmas.List.Elements.{All-from_recursion}
use Rattle.std.proofs.lemmas.List.Kept.{AllPairs-cons}
use Rattle.std.specs.Prelude.{◌/◌}
use Rattle.std.specs.List.{AllByRecursion as Each, AllPairs}
use Rattle.st_words.specs.declared.ids.Who.{Who}
use Rattle.st_words.specs.declared.statement.Statement.{Statement}
use Rattle.st_seal.specs.declared.quorum.Signed.{Signed}
use Rattle.st_message.specs.declared.message.SiteWord.{SiteWord}
use Rattle.st_protocol.specs.Words.{Bytes, Quorum, server_at}
use Rattle.st_protocol.specs.Certificates.{seals_hold, is_certificate, words_hold, are_sites}
use Rattle.st_frame_laws.proofs.ChoiceLaws.{each_weaker}
use Rattle.st_certificate_laws.proofs.QuorumLaws.{seal_parts, word_parts}

-- no two of none
no_pairs : {A : Type 0} (R : A → A → Type 0) → AllPairs R []
no_pairs R i j d less few = absurd (omega (arith, few))

module _ (holds : Who → Statement → Bytes → Bool) (f sites : ℕ) where
  module _ (site : ℕ) (s : Statement) where
    -- an index below which none is, of a server of the site whose seal checks
    abbrev IsSealFrom : ℕ → Signed → Type 0
    IsSealFrom first x = (first ≤ x.index) × ((x.index < 3 * f + 1) × (holds (server_at site x.index) s x.seal ≡ true))

    -- no index of such seals is below
    seals_from : (first : ℕ) (q : Quorum) → seals_hold holds f sites site s first q ≡ true → Each (IsSealFrom first) q
    seals_from first [] e = tt
    seals_from first (x ∷ xs) e =
        let parts = seal_parts holds f sites site s first x xs e in
        let low = parts.0 in
        ((parts.0, (parts.1.0, parts.1.1.0)), each_weaker (IsSealFrom (x.index + 1)) (IsSealFrom first) (λ y h. let more = h.0 in (omega (arith, more, low), h.1)) xs (seals_from (x.index + 1) xs parts.1.1.1))

    -- the indices rise
    seals_rise : (first : ℕ) (q : Quorum) → seals_hold holds f sites site s first q ≡ true → AllPairs (λ (x y : Signed). x.index < y.index) q
    seals_rise first [] e = no_pairs (λ (x y : Signed). x.index < y.index)
    seals_rise first (x ∷ xs) e =
        let parts = seal_parts holds f sites site s first x xs e in
        AllPairs-cons (λ (x y : Signed). x.index < y.index) x xs
        (All-from_recursion (λ (y : Signed). x.index < y.index) xs
        (each_weaker (IsSealFrom (x.index + 1)) (λ (y : Signed). x.index < y.index) (λ y h. let more = h.0 in omega (arith, more)) xs (seals_from (x.index + 1) xs parts.1.1.1)))
        (seals_rise (x.index + 1) xs parts.1.1.1)

    -- A certificate.
    pub certificate_says : (q : Quorum) → is_certificate holds f sites site s q ≡ true →
        (length q ≡ 2 * f + 1) × AllPairs (λ (x y : Signed). x.index < y.index) q × Each (λ (x : Signed). (x.index < 3 * f + 1) × (holds (server_at site x.index) s x.seal ≡ true)) q
    unfolding is_certificate
    certificate_says q e =
        let parts = and_parts (nat_eq (length q) (2 * f + 1)) (seals_hold holds f sites site s 0 q) e in (
          eqb-true (length q) (2 * f + 1) parts.0,
          seals_rise 0 q parts.1,
          each_weaker (IsSealFrom 0) (λ (x : Signed). (x.index < 3 * f + 1) × (holds (server_at site x.index) s x.seal ≡ true)) (λ x h. h.1) q (seals_from 0 q parts.1),
        )

  module _ (of_site : ℕ → Statement) where
    -- a site below which none is, with its certificate
    abbrev IsWordFrom : ℕ → SiteWord → Type 0
    IsWordFrom first w = (first ≤ w.site.0) × ((w.site.0 < sites) × (is_certificate holds f sites w.site.0 (of_site w.site.0) w.quorum ≡ true))

    -- no site of such words is below
    words_from : (first : ℕ) (ws : List SiteWord) → words_hold holds f sites of_site first ws ≡ true → Each (IsWordFrom first) ws
    words_from first [] e = tt
    words_from first (w ∷ ws) e =
        let parts = word_parts holds f sites of_site first w ws e in
        let low = parts.0 in
        ((parts.0, (parts.1.0, parts.1.1.0)), each_weaker (IsWordFrom (w.site.0 + 1)) (IsWordFrom first) (λ y h. let more = h.0 in (omega (arith, more, low), h.1)) ws (words_from (w.site.0 + 1) ws parts.1.1.1))

    -- the sites rise
    words_rise : (first : ℕ) (ws : List SiteWord) → words_hold holds f sites of_site first ws ≡ true → AllPairs (λ (v w : SiteWord). v.site.0 < w.site.0) ws
    words_rise first [] e = no_pairs (λ (v w : SiteWord). v.site.0 < w.site.0)
    words_rise first (w ∷ ws) e =
        let parts = word_parts holds f sites of_site first w ws e in
        AllPairs-cons (λ (v w : SiteWord). v.site.0 < w.site.0) w ws
        (All-from_recursion (λ (v : SiteWord). w.site.0 < v.site.0) ws
        (each_weaker (IsWordFrom (w.site.0 + 1)) (λ (v : SiteWord). w.site.0 < v.site.0) (λ y h. let more = h.0 in omega (arith, more)) ws (words_from (w.site.0 + 1) ws parts.1.1.1)))
        (words_rise (w.site.0 + 1) ws parts.1.1.1)

    -- Words of sites.
    pub sites_say : (ws : List SiteWord) → are_sites holds f sites of_site ws ≡ true →
        (length ws ≡ sites / 2 + 1) × AllPairs (λ (v w : SiteWord). v.site.0 < w.site.0) ws
        × Each (λ (w : SiteWord). (w.site.0 < sites) × (is_certificate holds f sites w.site.0 (of_site w.site.0) w.quorum ≡ true)) ws
    sites_say ws e =
        let parts = and_parts (nat_eq (length ws) (sites / 2 + 1)) (words_hold holds f sites of_site 0 ws) e in (
          eqb-true (length ws) (sites / 2 + 1) parts.0,
          words_rise 0 ws parts.1,
          each_weaker (IsWordFrom 0) (λ (w : SiteWord). (w.site.0 < sites) × (is_certificate holds f sites w.site.0 (of_site w.site.0) w.quorum ≡ true)) (λ w h. h.1) ws (words_from 0 ws parts.1),
        )
