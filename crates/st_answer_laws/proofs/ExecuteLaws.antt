-- What is in hand is chosen, so numbers are executed of values that are.
use Rattle.std.proofs.Common.{◌≡◌, ℕ, ◌+◌, ◌/◌, ◌<◌, ◌≤◌, Bool, true, false, cond, zero, suc, nat_le, List, [], ◌∷◌, filter, refl, ◌∙◌, ap, subst, arith}
use Rattle.std.specs.Prelude.{Option, Some, None, IsTrue}
use Rattle.std.proofs.lemmas.Bool.{leb-true}
use Rattle.st_words.specs.declared.deployment.TheConstants.{WINDOW}
use Rattle.st_words.specs.declared.value.Value.{Value}
use Rattle.st_message.specs.declared.message.Proof.{Proof}
use Rattle.st_message.specs.declared.change.Change.TheVariants.{Executed}
use Rattle.st_message.specs.declared.change.Heard.{Heard}
use Rattle.st_counts.specs.Counts.{numbers_below}
use Rattle.st_counts.proofs.CountLaws.{length-filter}
use Rattle.st_counts.proofs.MemberLaws.{distinct-filter, distinct-numbers_below, filter-has, numbers_below-lt}
use Rattle.st_registers.specs.Tests.{IsChosen}
use Rattle.st_agreement.specs.Certificates.{IsOrdered}
use Rattle.st_agreement.specs.Statements.{is_accept}
use Rattle.st_agreement.specs.Worlds as plain
use Rattle.st_agreement.proofs.CertificateLaws.{ordered-chosen}
use Rattle.st_protocol.specs.Keeping.{given, or_else}
use Rattle.st_protocol.specs.State.{Word, Answers}
use Rattle.st_protocol.specs.Growth.{takes, cuts, hears, hand_takes, hand_cuts}
use Rattle.std.specs.Prelude.{take}
use Rattle.st_protocol.specs.Step.{count_below, first_below, all_below, majority}
use Rattle.st_protocol.specs.Ordering.{names, site_word, words_proof, in_hand, executions}
use Rattle.st_protocol.specs.World.{Deployment, World}
use Rattle.st_protocol.proofs.SameLaws.{same_value-Decides}
use Rattle.st_answer_laws.specs.Plain.{sites_in, plain_of}
use Rattle.st_answer_laws.proofs.OwnLaws.{IsGiven, given-is}
use Rattle.st_answer_laws.proofs.SealLaws.{count_below-is}
use Rattle.st_answer_laws.proofs.KeepLaws.{Keeps, picked-is}
use Rattle.st_answer_laws.proofs.WayLaws.{AreExecutions}

-- what is picked of a number below k
pub first_below-found : {A : Type 0} (pick : ℕ → Option A) (k : ℕ) (a : A) → first_below pick k ≡ Some a → (i : ℕ) × ((i < k) × (pick i ≡ Some a))
unfolding first_below
first_below-found pick zero a e = absurd (let none : None ≡ Some a = e in cc)
first_below-found {A} pick (suc k) a e = by_first (first_below pick k) refl (first_below-found pick k a) e
  where
    by_first : (o : Option A) → first_below pick k ≡ o → (first_below pick k ≡ Some a → (i : ℕ) × ((i < k) × (pick i ≡ Some a))) → or_else o (pick k) ≡ Some a → (i : ℕ) × ((i < suc k) × (pick i ≡ Some a))
    by_first None is later f = (k, (omega arith, f))
    by_first (Some b) is later f = let found = later (is ∙ f) in let below : found.0 < k = found.1.0 in (found.0, (omega (arith, below), found.1.1))

module _ {Wire : Type 0} (d : Deployment Wire) (world : World Wire) (q : Answers) (keeps : Keeps d world q) (sites : q.here.seat.sites ≡ d.sites) where
  -- a proof that kept words give
  words-chosen : (n s : ℕ) (p : Proof) → words_proof q.here (q.hand.word n) s ≡ Some p → IsChosen (plain.outside (sites_in d) (plain_of d world) n) p.value
  words-chosen n s p e =
      let w = plain_of d world in
      let first : IsGiven (q.hand.word n s) _ p = given-is (q.hand.word n s) (λ (x : Word). cond (nat_le (majority q.here) (count_below (λ t. names x.value (q.hand.word n t)) q.here.seat.sites)) (Some (proof_of x)) None) p e in
      let x : Word = first.element in
      let picked = picked-is (nat_le (majority q.here) (count_below (λ t. names x.value (q.hand.word n t)) q.here.seat.sites)) (proof_of x) p first.gives in
      let test : ℕ → Bool = λ t. names x.value (q.hand.word n t) in
      let enough : majority q.here ≤ count_below test q.here.seat.sites = leb-true _ _ picked.0 in
      let many : d.sites / 2 + 1 ≤ count_below test d.sites = subst (λ m. m / 2 + 1 ≤ count_below test m) sites enough in
      let named : List ℕ = filter test (numbers_below d.sites) in
      let height : x.view + 1 ≡ q.hand.highest n = (keeps.words n s x first.is_there).0 in
      let ordered : IsOrdered (sites_in d) w n x.view x.value named =
      record {
        distinct = distinct-filter test (numbers_below d.sites) (distinct-numbers_below d.sites);
        within = λ t has. numbers_below-lt t d.sites (filter-has test t (numbers_below d.sites) has).0;
        many = omega (arith, many, length-filter test (numbers_below d.sites), count_below-is test d.sites);
        accepted = λ t has. by_word (q.hand.word n t) t x height refl (filter-has test t (numbers_below d.sites) has).1;
      } in
      subst (λ (v : Value). IsChosen (plain.outside (sites_in d) w n) v) (ap (λ (y : Proof). y.value) picked.1) (ordered-chosen (sites_in d) w n x.view x.value named ordered)
    where
      proof_of : Word → Proof
      proof_of x = record { view = record { 0 = x.view }; value = x.value; sites = take (majority q.here) (all_below (site_word x.value (q.hand.word n)) q.here.seat.sites) }

      by_word : (o : Option Word) (t : ℕ) (x : Word) → x.view + 1 ≡ q.hand.highest n → q.hand.word n t ≡ o → IsTrue (names x.value o) → IsTrue (plain.stands (sites_in d) (plain_of d world) t (is_accept t x.view n x.value))
      by_word None t x height is named = absurd (let no_ : false ≡ true = named in cc)
      by_word (Some y) t x height is named =
          let kept = keeps.words n t y is in
          let value : y.value ≡ x.value = (same_value-Decides y.value x.value).0 named in
          let view : y.view ≡ x.view = omega (arith, height, kept.0) in
          subst (λ (v : Value). IsTrue (plain.stands (sites_in d) (plain_of d world) t (is_accept t x.view n v))) value
          (subst (λ g. IsTrue (plain.stands (sites_in d) (plain_of d world) t (is_accept t g n y.value))) view kept.1)

  -- what is in hand is chosen
  in_hand-chosen : (n : ℕ) (p : Proof) → in_hand q.here q.hand n ≡ Some p → IsChosen (plain.outside (sites_in d) (plain_of d world) n) p.value
  unfolding in_hand
  in_hand-chosen n p e = by_proof (q.hand.proof n) refl e
    where
      by_proof : (o : Option Proof) → q.hand.proof n ≡ o → or_else o (first_below (words_proof q.here (q.hand.word n)) q.here.seat.sites) ≡ Some p → IsChosen (plain.outside (sites_in d) (plain_of d world) n) p.value
      by_proof None is f = let found = first_below-found (words_proof q.here (q.hand.word n)) q.here.seat.sites p f in words-chosen n found.0 p found.1.1
      by_proof (Some x) is f = keeps.proofs n p (is ∙ f)

  -- and is executed
  pub executions-chosen : (k n : ℕ) → AreExecutions d world n (executions q.here q.hand k n)
  unfolding executions
  executions-chosen zero n = tt
  executions-chosen (suc k) n = by_hand (in_hand q.here q.hand n) refl (executions-chosen k (n + 1))
    where
      by_hand : (o : Option Proof) → in_hand q.here q.hand n ≡ o → AreExecutions d world (n + 1) (executions q.here q.hand k (n + 1)) →
          AreExecutions d world n (given o [] (λ p. Executed (record { 0 = n }) p ∷ executions q.here q.hand k (n + 1)))
      by_hand None is later = tt
      by_hand (Some p) is later = (refl, (in_hand-chosen n p is, later))

-- so of what is in hand once something more is heard
pub executed-all : {Wire : Type 0} (d : Deployment Wire) (world : World Wire) (q : Answers) (m : Heard) → Keeps d world (hears q m) → q.here.seat.sites ≡ d.sites →
    AreExecutions d world (q.here.executed + 1) (executions q.here (hand_cuts q.here (hand_takes m q.hand)) WINDOW (q.here.executed + 1))
unfolding hears cuts takes
executed-all d world q m kept sites = executions-chosen d world (hears q m) kept sites WINDOW (q.here.executed + 1)
