-- The keys of a deployment's parties, and where they are kept.
use Rattle.std.proofs.Common.{◌≡◌, ℕ, ◌+◌, ◌-◌, ◌*◌, ◌/◌, ◌%◌, ◌^◌, ◌<◌, ◌≤◌, ◌≢◌, List, Bool, true, false, Option, Some, None, inl, inr, refl, sym, ap, ◌∙◌, arith}
use Rattle.std.specs.Prelude.{IsSome, nat_lt, cond}
use Rattle.std.proofs.lemmas.Bool.{cases_eq, cases_lt, le-ltb, lt-ltb, ltb-false, ltb-true}
use Rattle.st_words.specs.declared.ids.Who.{Who}
use Rattle.st_words.specs.declared.ids.Who.TheVariants.{Server, Client}
use Rattle.st_words.specs.declared.deployment.SealKind.TheVariants.{Hss}
use Rattle.st_seal.specs.Keyed.{secret_of}
use Rattle.st_hss.specs.declared.secret.HssSecret.{HssSecret}
use Rattle.st_hss.specs.Formulas.{secret_for, capacity_of}
use Rattle.st_tables.specs.Entries.{entry, Sets}
use Rattle.st_hss_seal.specs.declared.scheme.HssScheme.{HssScheme}
use Rattle.st_hss_seal.specs.Keys.{is_choice, identifier_of, party_secret}
use Rattle.st_hss_seal.specs.SealingLaws.{party_key}
use Rattle.st_hss_seal.specs.Kept.{place_of, party_at, places_of, secret_in, key_of, KeepsBelow, KeepsKeys}

-- what is something is there
there : {A : Type 0} (x : Option A) (a : A) → x ≡ Some a → IsSome x
there x a e = rw e refl

-- a choice makes a key
pub no_bad_choice : (s : HssScheme) (who : Who) → is_choice (Hss s.height s.width s.levels) ≡ true → IsSome (secret_for s.height s.width s.levels (identifier_of s.seed who) (secret_of s.seed who))
unfolding party_secret
no_bad_choice s who choice =
    let key = party_key s.seed who s.height s.width s.levels choice in
    there _ key.0 key.1

-- how many seals a key of a choice gives
pub capacity_is : (s : HssScheme) (who : Who) (secret : HssSecret) → is_choice (Hss s.height s.width s.levels) ≡ true → secret_in s who ≡ Some secret → capacity_of secret ≡ 2 ^ (s.height * s.levels)
capacity_is s who secret choice made =
    let key = party_key s.seed who s.height s.width s.levels choice in
    let same : Some key.0 ≡ Some secret = sym key.1 ∙ made in
    let is : key.0 ≡ secret = cc in
    ap capacity_of (sym is) ∙ key.2.capacity

-- ---- the table of public keys

-- before the first
pub kept_none : (s : HssScheme) (keys : List (Option (List ℕ))) → ((k : ℕ) → entry keys k ≡ None) → KeepsBelow s 0 keys
kept_none s keys empty k = empty k ∙ sym (ap (λ (b : Bool). cond b (key_of s (party_at k)) None) (le-ltb k 0 (omega arith)))

-- one place more
pub kept_more : (s : HssScheme) (n : ℕ) (old new : List (Option (List ℕ))) (key : Option (List ℕ)) → KeepsBelow s n old → Sets old new n key → key ≡ key_of s (party_at n) → KeepsBelow s (n + 1) new
kept_more s n old new key kept sets is k = elim (cases_eq k n) [
  | inl own ↦ (let below : nat_lt k (n + 1) ≡ true = lt-ltb k (n + 1) (omega arith) in
      rw below (ap (entry new) own ∙ (sets.here ∙ (is ∙ ap (λ (j : ℕ). key_of s (party_at j)) (sym own)))))
  | inr other ↦ sets.others k other ∙ (kept k ∙ ap (λ (b : Bool). cond b (key_of s (party_at k)) None) (same_test k n other))
]
  where
    same_test : (k n : ℕ) → k ≢ n → nat_lt k n ≡ nat_lt k (n + 1)
    same_test k n other = elim (cases_lt k n) [
      | inl below ↦ lt-ltb k n below ∙ sym (lt-ltb k (n + 1) (omega arith))
      | inr above ↦ le-ltb k n above ∙ sym (le-ltb k (n + 1) (omega arith))
    ]

-- what fits a party's bytes
abbrev pub Fits : Who → Type 0
Fits (Client client) = client.0 < 256
Fits (Server server) = (server.site < 256) × (server.index < 256)

-- the key of each party is at its place, and no key at another's
pub kept_at : (s : HssScheme) (keys : List (Option (List ℕ))) (who : Who) → KeepsKeys s keys → Fits who → entry keys (place_of who) ≡ key_of s who
unfolding key_of
kept_at s keys (Client client) kept fits =
    let inside : nat_lt client.0 (places_of s) ≡ true = lt-ltb client.0 (places_of s) (omega arith) in
    let first : nat_lt client.0 256 ≡ true = lt-ltb client.0 256 fits in
    kept client.0 ∙ rw (inside, first) refl
kept_at s keys (Server server) kept fits = by_test (nat_lt server.site s.sites) refl
  where
    k : ℕ
    k = 256 * (server.site + 1) + server.index

    by_test : (b : Bool) → nat_lt server.site s.sites ≡ b → entry keys k ≡ key_of s (Server server)
    by_test true is =
        let low : server.site < s.sites = ltb-true server.site s.sites is in
        let inside : nat_lt k (places_of s) ≡ true = lt-ltb k (places_of s) (omega arith) in
        let behind : nat_lt k 256 ≡ false = le-ltb k 256 (omega arith) in
        let site : k / 256 - 1 ≡ server.site = omega arith in
        let index : k % 256 ≡ server.index = omega arith in
        kept k ∙ rw (inside, behind, site, index) refl
    by_test false is =
        let high : s.sites ≤ server.site = ltb-false server.site s.sites is in
        let outside : nat_lt k (places_of s) ≡ false = le-ltb k (places_of s) (omega arith) in
        kept k ∙ rw (outside, is) refl
