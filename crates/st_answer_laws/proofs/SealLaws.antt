-- What honest seals show: what a quorum sealed stands, and has a correct maker.
use Rattle.std.proofs.Common.{◌≡◌, ℕ, ◌+◌, ◌*◌, ◌<◌, ◌≤◌, Bool, true, false, cond, zero, suc, nat_lt, List, [], ◌∷◌, filter, refl, sym, subst, inl, inr, arith}
use Rattle.std.specs.Prelude.{◌&&◌, ◌||◌, not, Option, IsTrue}
use Rattle.std.proofs.lemmas.Bool.{lt-ltb}
use Rattle.std.proofs.lemmas.List.{length-map}
use Rattle.std.specs.List.{AllByRecursion as Each}
use Rattle.st_words.specs.declared.ids.Who.{Who}
use Rattle.st_words.specs.declared.statement.Statement.{Statement}
use Rattle.st_seal.specs.declared.quorum.Signed.{Signed}
use Rattle.st_message.specs.declared.made.MadeSeal.{MadeSeal}
use Rattle.st_counts.specs.Counts.{Has, Distinct, AllOf, one_if, count, numbers_below}
use Rattle.st_counts.proofs.CountLaws.{length-filter, count-same}
use Rattle.st_counts.proofs.MemberLaws.{any-from, distinct-filter, distinct-numbers_below, filter-has, has-numbers_below, numbers_below-lt, length-numbers_below, count-numbers_below}
use Rattle.st_agreement.specs.Certificates.{IsQuorum}
use Rattle.st_agreement.specs.MiniSteps.{HasMaker, Invariant}
use Rattle.st_agreement.specs.Runs.{HasServers}
use Rattle.st_agreement.specs.Worlds as plain
use Rattle.st_agreement.proofs.CertificateLaws.{quorum-stand, quorum-maker}
use Rattle.st_protocol.specs.Words.{Quorum, server_at, same_who, same_statement}
use Rattle.st_protocol.specs.State.{Share}
use Rattle.st_protocol.specs.Step.{count_below, says}
use Rattle.st_protocol.specs.Known.{in_quorum}
use Rattle.st_protocol.specs.World.{Deployment, World, servers_of, is_correct, has_made}
use Rattle.st_protocol.proofs.SameLaws.{same_statement-Decides}
use Rattle.st_frame_laws.specs.Exact.{SignedInDeployment, QuorumIsExact}
use Rattle.st_answer_laws.specs.Fair.{HasFewFaulty}
use Rattle.st_answer_laws.specs.Plain.{with_made_by, made_by, sites_in, plain_of}
use Rattle.st_answer_laws.specs.Sound.{indices, IsHonestSeal}

-- ---- what was handed out

-- what is there stays there
made_by-keeps : (who : Who) (xs : List MadeSeal) (ts : List Statement) (t : Statement) → Has t ts → Has t (made_by who xs ts)
unfolding made_by
made_by-keeps who [] ts t has = has
made_by-keeps who (x ∷ xs) ts t has = made_by-keeps who xs (with_made_by who x ts) t (by_test (same_who x.who who))
  where
    by_test : (b : Bool) → Has t (cond b (x.statement ∷ ts) ts)
    by_test true = inr has
    by_test false = has

-- a statement over which the party handed out a seal is one of its statements
pub made-by : (who : Who) (xs : List MadeSeal) (ts : List Statement) (t : Statement) → IsTrue (has_made xs who t) → Has t (made_by who xs ts)
unfolding has_made made_by
made-by who [] ts t made = absurd (let no_ : false ≡ true = made in cc)
made-by who (x ∷ xs) ts t made = by_tests (same_who x.who who) (same_statement x.statement t) refl made (made-by who xs (with_made_by who x ts) t)
  where
    here : same_statement x.statement t ≡ true → Has t (made_by who xs (x.statement ∷ ts))
    here same = made_by-keeps who xs (x.statement ∷ ts) t (inl (sym ((same_statement-Decides x.statement t).0 same)))

    by_tests : (a b : Bool) → same_statement x.statement t ≡ b → ((a && b) || has_made xs who t) ≡ true → (IsTrue (has_made xs who t) → Has t (made_by who xs (cond a (x.statement ∷ ts) ts))) → Has t (made_by who xs (cond a (x.statement ∷ ts) ts))
    by_tests true true same m later = here same
    by_tests true false same m later = later m
    by_tests false b same m later = later m

-- ---- a count and a filter

-- how many numbers below k pass
pub count_below-is : (p : ℕ → Bool) (k : ℕ) → count_below p k ≡ count p (numbers_below k)
unfolding count_below
count_below-is p zero = refl
count_below-is p (suc k) =
    let more : count p (numbers_below (suc k)) ≡ count p (numbers_below k) + one_if (p k) = count-numbers_below p k in
    let one : cond (p k) 1 0 ≡ one_if (p k) = by_test (p k) in
    omega (arith, count_below-is p k, more, one)
  where
    by_test : (b : Bool) → cond b 1 0 ≡ one_if b
    by_test true = refl
    by_test false = refl

-- both tests
pub first-of-two : (a b : Bool) → (a && b) ≡ true → a ≡ true
first-of-two true b e = refl
first-of-two false b e = e

pub second-of-two : (a b : Bool) → (a && b) ≡ true → b ≡ true
second-of-two true b e = e
second-of-two false b e = absurd (let no_ : false ≡ true = e in cc)

module _ {Wire : Type 0} (d : Deployment Wire) (world : World Wire) (few : HasFewFaulty d) where
  -- its servers are enough
  pub has-servers : HasServers d.sites (λ s. d.f) (λ s. numbers_below (servers_of d)) (is_correct d)
  has-servers =
      record {
        some = few.some;
        many = λ s exists. length-numbers_below (servers_of d);
        few_faulty = λ s exists.
            let same : count (λ k. not (is_correct d s k)) (numbers_below (servers_of d)) ≡ count (d.faulty s) (numbers_below (servers_of d)) =
            count-same (λ k. not (is_correct d s k)) (d.faulty s) (numbers_below (servers_of d))
            (λ k has. by_tests (nat_lt s d.sites) (nat_lt k (servers_of d)) (d.faulty s k) (lt-ltb s d.sites exists) (lt-ltb k (servers_of d) (numbers_below-lt k (servers_of d) has))) in
            omega (arith, same, few.few_faulty s exists);
      }
    where
      by_tests : (a b c : Bool) → a ≡ true → b ≡ true → not ((a && b) && not c) ≡ c
      by_tests true true true e f = refl
      by_tests true true false e f = refl
      by_tests true false c e f = absurd (let no_ : false ≡ true = f in cc)
      by_tests false b c e f = absurd (let no_ : false ≡ true = e in cc)

  -- a server that correct parties' statements are known of
  abbrev pub Did : ℕ → Statement → ℕ → Type 0
  Did s t k = Has t ((plain_of d world).made s k)

  -- each of a Quorum's correct servers handed the statement out
  quorum-did : (s : ℕ) (t : Statement) (q : Quorum) → AllOf (IsHonestSeal d world) (in_quorum s t q) → (k : ℕ) → Has k (indices q) → IsTrue (is_correct d s k) → Did s t k
  unfolding in_quorum
  quorum-did s t [] honest k has correct = absurd has
  quorum-did s t (x ∷ xs) honest k (inl same) correct =
      subst (λ j. Did s t j) (sym same) (made-by (server_at s x.index) world.made [] t (honest.0 (subst (λ j. IsTrue (is_correct d s j)) same correct)))
  quorum-did s t (x ∷ xs) honest k (inr among) correct = quorum-did s t xs honest.1 k among correct

  -- its servers are of the site
  quorum-within : (q : Quorum) → Each (SignedInDeployment d) q → (k : ℕ) → Has k (indices q) → Has k (numbers_below (servers_of d))
  quorum-within [] exact k has = absurd has
  quorum-within (x ∷ xs) exact k (inl same) = subst (λ j. Has j (numbers_below (servers_of d))) (sym same) (has-numbers_below x.index (servers_of d) exact.0)
  quorum-within (x ∷ xs) exact k (inr among) = quorum-within xs exact.1 k among

  -- An exact Quorum of distinct servers whose seals are honest.
  pub a-quorum : (s : ℕ) (t : Statement) (q : Quorum) → QuorumIsExact d q → Distinct (indices q) → AllOf (IsHonestSeal d world) (in_quorum s t q) →
      IsQuorum d.f (numbers_below (servers_of d)) (is_correct d s) (Did s t) (indices q)
  a-quorum s t q exact distinct honest =
      record {
        distinct = distinct;
        within = quorum-within q exact.1;
        many = omega (arith, exact.0, length-map q (λ (x : Signed). x.index));
        honest = quorum-did s t q honest;
      }

  -- kept shares, a quorum of which say the statement
  pub share-quorum : (s : ℕ) (t : Statement) (shares : ℕ → Option Share) → 2 * d.f + 1 ≤ count_below (λ i. says t (shares i)) (servers_of d) →
      ((i : ℕ) → IsTrue (says t (shares i)) → IsTrue (is_correct d s i) → Did s t i) →
      IsQuorum d.f (numbers_below (servers_of d)) (is_correct d s) (Did s t) (filter (λ i. says t (shares i)) (numbers_below (servers_of d)))
  share-quorum s t shares many did =
      let test : ℕ → Bool = λ i. says t (shares i) in
      record {
        distinct = distinct-filter test (numbers_below (servers_of d)) (distinct-numbers_below (servers_of d));
        within = λ k has. (filter-has test k (numbers_below (servers_of d)) has).0;
        many = omega (arith, many, length-filter test (numbers_below (servers_of d)), count_below-is test (servers_of d));
        honest = λ k has correct. did k (filter-has test k (numbers_below (servers_of d)) has).1 correct;
      }

  -- what a quorum sealed stands, by whatever test it passes
  pub sealed-stands : (s : ℕ) (t : Statement) (test : Statement → Bool) (signers : List ℕ) → s < d.sites → IsTrue (test t) →
      IsQuorum d.f (numbers_below (servers_of d)) (is_correct d s) (Did s t) signers → IsTrue (plain.stands (sites_in d) (plain_of d world) s test)
  sealed-stands s t test signers exists passes quorum =
      quorum-stand d.sites (λ x. d.f) (λ x. numbers_below (servers_of d)) (is_correct d) (plain_of d world) s test signers has-servers exists
      (record {
        distinct = quorum.distinct;
        within = quorum.within;
        many = quorum.many;
        honest = λ k has correct. any-from test t ((plain_of d world).made s k) (quorum.honest k has correct) passes;
      })

  -- and has a correct maker
  pub sealed-maker : (s : ℕ) (t : Statement) (signers : List ℕ) → Invariant (sites_in d) (plain_of d world) → s < d.sites →
      IsQuorum d.f (numbers_below (servers_of d)) (is_correct d s) (Did s t) signers → HasMaker (sites_in d) (plain_of d world) s t
  sealed-maker s t signers inv exists quorum =
      quorum-maker d.sites (λ x. d.f) (λ x. numbers_below (servers_of d)) (is_correct d) (plain_of d world) s t signers has-servers inv exists quorum
