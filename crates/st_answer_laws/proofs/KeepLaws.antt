-- What the answers keep of what was heard is so, where what was heard is sound.
use Rattle.std.proofs.Common.{◌≡◌, ℕ, ◌+◌, ◌<◌, ◌≤◌, Bool, true, false, cond, nat_eq, nat_lt, nat_le, List, [], ◌∷◌, ◌++◌, map, refl, sym, ◌∙◌, ap, subst, inl, inr, arith}
use Rattle.std.specs.Prelude.{◌&&◌, ◌||◌, Option, Some, None, IsTrue}
use Rattle.std.proofs.lemmas.Bool.{eqb-true, lt-ltb, leb-true}
use Rattle.std.specs.List.{AllByRecursion as Each}
use Rattle.std.proofs.lemmas.List.{length-map}
use Rattle.st_words.specs.declared.ids.ClientId.{ClientId}
use Rattle.st_words.specs.declared.ids.Who.{Who}
use Rattle.st_words.specs.declared.ids.Who.TheVariants as parties
use Rattle.st_words.specs.declared.value.Update.{Update}
use Rattle.st_words.specs.declared.value.Value.{Value}
use Rattle.st_words.specs.declared.statement.Statement.{Statement}
use Rattle.st_words.specs.declared.statement.Statement.TheVariants.{Accept, ClientUpdate}
use Rattle.st_message.specs.declared.made.MadeSeal.{MadeSeal}
use Rattle.st_message.specs.declared.message.SiteWord.{SiteWord}
use Rattle.st_message.specs.declared.message.Proof.{Proof}
use Rattle.st_message.specs.declared.message.Message.{Message}
use Rattle.st_message.specs.declared.message.Message.TheVariants as messages
use Rattle.st_message.specs.declared.change.Change.{Change}
use Rattle.st_message.specs.declared.change.Heard.{Heard}
use Rattle.st_counts.specs.Counts.{Has, Distinct, AllOf}
use Rattle.st_counts.proofs.MemberLaws.{AllOf-at, map-has}
use Rattle.st_registers.specs.Tests.{IsChosen}
use Rattle.st_agreement.specs.Certificates.{IsOrdered}
use Rattle.st_agreement.specs.Statements.{is_accept}
use Rattle.st_agreement.specs.Worlds as plain
use Rattle.st_agreement.proofs.CertificateLaws.{ordered-chosen}
use Rattle.st_agreement.proofs.StatementLaws.{is_accept-refl}
use Rattle.st_protocol.specs.Words.{server_at, an_accept, site_of, same_who, same_statement}
use Rattle.st_protocol.specs.Keeping.{greatest, open_if, from, gathered, greatest_of, most_of, joined}
use Rattle.st_protocol.specs.State.{Place, Seat, Share, Pended, pended_time, Word, word_view, word_height, Answers, open_number, open_place, at_place}
use Rattle.st_protocol.specs.Questions.{taken, share_in, update_in, word_in, height_in, taken_height, proof_in, here_of, questions}
use Rattle.st_protocol.specs.Known.{Sealed, seals_of, in_quorum, in_sites}
use Rattle.st_protocol.specs.World.{Deployment, World, is_correct, has_made}
use Rattle.st_protocol.proofs.SameLaws.{same_who-Decides, same_statement-Decides}
use Rattle.st_frame_laws.specs.Exact.{WordIsExact}
use Rattle.st_answer_laws.specs.Fair.{HasFewFaulty}
use Rattle.st_answer_laws.specs.Plain.{updates_of, with_update_of, sites_in, plain_of}
use Rattle.st_answer_laws.specs.Sound.{indices, IsHonestSeal, IsSound, IsSoundHeard}
use Rattle.st_answer_laws.proofs.ForcedLaws.{some-is}
use Rattle.st_answer_laws.proofs.RecordLaws.{first-found, most-above, open-is}
use Rattle.st_answer_laws.proofs.RangeLaws.{quorum-distinct, words-distinct}
use Rattle.st_answer_laws.proofs.SealLaws.{made-by, first-of-two, second-of-two, a-quorum, sealed-stands}

-- ---- what is gathered

-- the greatest is picked of an element
pub greatest-found : {X A : Type 0} (key : A → ℕ) (pick : X → Option A) (xs : List X) (a : A) → greatest_of key pick xs ≡ Some a → (x : X) × (Has x xs × (pick x ≡ Some a))
unfolding gathered
greatest-found key pick [] a e = absurd (let none : None ≡ Some a = e in cc)
greatest-found {X} {A} key pick (x ∷ xs) a e = by_pick (pick x) (greatest_of key pick xs) refl (greatest-found key pick xs a) e
  where
    by_test : (b : Bool) (y z : A) → pick x ≡ Some y → (Some z ≡ Some a → (t : X) × (Has t xs × (pick t ≡ Some a))) → cond b (Some z) (Some y) ≡ Some a → (t : X) × (Has t (x ∷ xs) × (pick t ≡ Some a))
    by_test true y z is later f = ((later f).0, (inr (later f).1.0, (later f).1.1))
    by_test false y z is later f = (x, (inl refl, is ∙ f))

    by_pick : (o p : Option A) → pick x ≡ o → (p ≡ Some a → (y : X) × (Has y xs × (pick y ≡ Some a))) → greatest key o p ≡ Some a → (y : X) × (Has y (x ∷ xs) × (pick y ≡ Some a))
    by_pick None p is later f = ((later f).0, (inr (later f).1.0, (later f).1.1))
    by_pick (Some y) None is later f = (x, (inl refl, is ∙ f))
    by_pick (Some y) (Some z) is later f = by_test (nat_lt (key y) (key z)) y z is later f

-- what another server said
pub taken-is : {A : Type 0} (pick : Message → Option A) (h : Heard) (a : A) → taken pick h ≡ Some a → (h.own ≡ false) × (pick h.message ≡ Some a)
taken-is {A} pick h a e = by_own h.own refl e
  where
    by_own : (b : Bool) → h.own ≡ b → cond b None (pick h.message) ≡ Some a → (h.own ≡ false) × (pick h.message ≡ Some a)
    by_own true is f = absurd (let none : None ≡ Some a = f in cc)
    by_own false is f = (is, f)

-- what is kept from a height on
pub from-is : {A : Type 0} (key : A → ℕ) (n : ℕ) (o : Option A) (a : A) → from key n o ≡ Some a → (o ≡ Some a) × (n ≤ key a)
from-is key n None a e = absurd (let none : None ≡ Some a = e in cc)
from-is {A} key n (Some x) a e = by_test (nat_le n (key x)) refl e
  where
    by_test : (b : Bool) → nat_le n (key x) ≡ b → cond b (Some x) None ≡ Some a → (Some x ≡ Some a) × (n ≤ key a)
    by_test true is f = (f, subst (λ y. n ≤ key y) (some-is x a f) (leb-true n (key x) is))
    by_test false is f = absurd (let none : None ≡ Some a = f in cc)

-- what is picked if a test is passed
pub picked-is : {A : Type 0} (b : Bool) (x a : A) → cond b (Some x) None ≡ Some a → (b ≡ true) × (x ≡ a)
picked-is true x a e = (refl, some-is x a e)
picked-is false x a e = absurd (let none : None ≡ Some a = e in cc)

-- ---- updates

updates_of-keeps : (xs : List MadeSeal) (us : List Update) (u : Update) → Has u us → Has u (updates_of xs us)
unfolding updates_of
updates_of-keeps [] us u has = has
updates_of-keeps (x ∷ xs) us u has = updates_of-keeps xs (with_update_of x.who x.statement us) u (by_statement x.who x.statement)
  where
    by_statement : (who : Who) (t : Statement) → Has u (with_update_of who t us)
    by_statement (parties.Client c) (ClientUpdate v) = inr has
    by_statement _ _ = has

-- an update over which its client handed out a seal
pub updates-of : (c : ClientId) (xs : List MadeSeal) (us : List Update) (u : Update) → IsTrue (has_made xs (parties.Client c) (ClientUpdate u)) → Has u (updates_of xs us)
unfolding has_made updates_of
updates-of c [] us u made = absurd (let no_ : false ≡ true = made in cc)
updates-of c (x ∷ xs) us u made = by_tests (same_who x.who (parties.Client c)) (same_statement x.statement (ClientUpdate u)) refl refl made (updates-of c xs (with_update_of x.who x.statement us) u)
  where
    here : same_who x.who (parties.Client c) ≡ true → same_statement x.statement (ClientUpdate u) ≡ true → Has u (updates_of xs (with_update_of x.who x.statement us))
    here who same =
        subst (λ (t : Statement). Has u (updates_of xs (with_update_of x.who t us))) (sym ((same_statement-Decides x.statement (ClientUpdate u)).0 same))
        (subst (λ (y : Who). Has u (updates_of xs (with_update_of y (ClientUpdate u) us))) (sym ((same_who-Decides x.who (parties.Client c)).0 who))
        (updates_of-keeps xs (u ∷ us) u (inl refl)))

    by_tests : (a b : Bool) → same_who x.who (parties.Client c) ≡ a → same_statement x.statement (ClientUpdate u) ≡ b → ((a && b) || has_made xs (parties.Client c) (ClientUpdate u)) ≡ true →
        (IsTrue (has_made xs (parties.Client c) (ClientUpdate u)) → Has u (updates_of xs (with_update_of x.who x.statement us))) → Has u (updates_of xs (with_update_of x.who x.statement us))
    by_tests true true who same m later = here who same
    by_tests true false who same m later = later m
    by_tests false b who same m later = later m

-- ---- what is kept

-- What the answers keep of what was heard: kept shares were made, pending updates are their clients' own, Accepts that are
-- kept stand and are of one view, and the value of a proof is chosen.
pub record Keeps {Wire : Type 0} (d : Deployment Wire) (world : World Wire) (q : Answers) : Type 0 where
  pub shares : (p : Place) (i : ℕ) (x : Share) → q.slots.shares p i ≡ Some x → IsTrue (is_correct d (site_of x.statement) i) → Has x.statement ((plain_of d world).made (site_of x.statement) i)
  pub pending : (c : ℕ) (k : Pended) → q.pending c ≡ Some k → Has k.update (plain_of d world).updates
  pub words : (n s : ℕ) (x : Word) → q.hand.word n s ≡ Some x → (x.view + 1 ≡ q.hand.highest n) × IsTrue (plain.stands (sites_in d) (plain_of d world) s (is_accept s x.view n x.value))
  pub proofs : (n : ℕ) (p : Proof) → q.hand.proof n ≡ Some p → IsChosen (plain.outside (sites_in d) (plain_of d world) n) p.value

module _ {Wire : Type 0} (d : Deployment Wire) (world : World Wire) (few : HasFewFaulty d) where
  -- a share that is heard
  share-made : (p : Statement → Bool) (i : ℕ) (m : Message) (x : Share) → IsSound d world m → share_in p i m ≡ Some x → IsTrue (is_correct d (site_of x.statement) i) → Has x.statement ((plain_of d world).made (site_of x.statement) i)
  unfolding seals_of in_quorum
  share-made p i (messages.Share s signed) x sound e correct =
      let parts = picked-is (p s && nat_eq signed.index i) (record { statement = s; seal = signed.seal }) x e in
      let index : signed.index ≡ i = eqb-true signed.index i (second-of-two (p s) (nat_eq signed.index i) parts.0) in
      let statement : s ≡ x.statement = ap (λ (y : Share). y.statement) parts.1 in
      subst (λ (t : Statement). Has t ((plain_of d world).made (site_of t) i)) statement
      (subst (λ j. Has s ((plain_of d world).made (site_of s) j)) index
      (made-by (server_at (site_of s) signed.index) world.made [] s (sound.honest.0 (subst (λ j. IsTrue (is_correct d (site_of s) j)) (sym index) (subst (λ (t : Statement). IsTrue (is_correct d (site_of t) i)) (sym statement) correct)))))
  share-made p i _ x sound e correct = absurd (let none : None ≡ Some x = e in cc)

  -- an update that is heard
  update-own : (c : ℕ) (m : Message) (k : Pended) → IsSound d world m → update_in c m ≡ Some k → Has k.update (plain_of d world).updates
  unfolding seals_of
  update-own c (messages.Update u seal) k sound e =
      let parts = picked-is (nat_eq u.client.0 c) (record { update = u; seal = seal }) k e in
      subst (λ (y : Pended). Has y.update (plain_of d world).updates) parts.1 (updates-of u.client world.made [] u (sound.honest.0 (lt-ltb u.client.0 d.clients sound.exact)))
  update-own c _ k sound e = absurd (let none : None ≡ Some k = e in cc)

  -- an Accept certificate that is heard stands
  word-stands : (n s : ℕ) (m : Message) (x : Word) → IsSound d world m → word_in n s m ≡ Some x → (x.view + 1 ≡ height_in n m) × IsTrue (plain.stands (sites_in d) (plain_of d world) s (is_accept s x.view n x.value))
  unfolding seals_of
  word-stands n s (messages.Certificate (Accept s2 g n2 v) q) x sound e =
      let parts = picked-is (nat_eq n2.0 n && nat_eq s2.0 s) (record { view = g.0; value = v; quorum = q }) x e in
      let number : n2.0 ≡ n = eqb-true n2.0 n (first-of-two (nat_eq n2.0 n) (nat_eq s2.0 s) parts.0) in
      let site : s2.0 ≡ s = eqb-true s2.0 s (second-of-two (nat_eq n2.0 n) (nat_eq s2.0 s) parts.0) in
      let view : x.view ≡ g.0 = ap (λ (y : Word). y.view) (sym parts.1) in
      let t : Statement = Accept s2 g n2 v in
      let exists : s2.0 < d.sites = sound.exact.0.0 in
      let stand : IsTrue (plain.stands (sites_in d) (plain_of d world) s2.0 (is_accept s2.0 g.0 n2.0 v)) =
      sealed-stands d world few s2.0 t (is_accept s2.0 g.0 n2.0 v) (indices q) exists (is_accept-refl s2.0 g.0 n2.0 v)
      (a-quorum d world few s2.0 t q sound.exact.1 (quorum-distinct q sound.ranged.0.1) sound.honest) in (
        ap (λ z. z + 1) view ∙ height (nat_eq n2.0 n) (first-of-two (nat_eq n2.0 n) (nat_eq s2.0 s) parts.0),
        subst (λ (y : Word). IsTrue (plain.stands (sites_in d) (plain_of d world) s (is_accept s y.view n y.value))) parts.1
            (subst (λ z. IsTrue (plain.stands (sites_in d) (plain_of d world) z (is_accept z g.0 n v))) site
            (subst (λ z. IsTrue (plain.stands (sites_in d) (plain_of d world) s2.0 (is_accept s2.0 g.0 z v))) number stand)),
      )
    where
      height : (b : Bool) → b ≡ true → g.0 + 1 ≡ cond b (g.0 + 1) 0
      height true is = refl
      height false is = absurd (let no_ : false ≡ true = is in cc)
  word-stands n s _ x sound e = absurd (let none : None ≡ Some x = e in cc)

  -- the words of an order proof stand
  words-stand : (n g : ℕ) (v : Value) (ws : List SiteWord) → AllOf (IsHonestSeal d world) (in_sites (λ site. an_accept site g n v) ws) → AllOf (λ (x : SiteWord). Distinct (indices x.quorum)) ws →
      Each (WordIsExact d) ws → (x : SiteWord) → Has x ws → (x.site.0 < d.sites) × IsTrue (plain.stands (sites_in d) (plain_of d world) x.site.0 (is_accept x.site.0 g n v))
  unfolding in_sites
  words-stand n g v [] honest distinct exact x has = absurd has
  words-stand n g v (y ∷ ys) honest distinct exact x (inl same) =
      let t : Statement = an_accept y.site.0 g n v in
      let exists : y.site.0 < d.sites = exact.0.0 in
      subst (λ (z : SiteWord). (z.site.0 < d.sites) × IsTrue (plain.stands (sites_in d) (plain_of d world) z.site.0 (is_accept z.site.0 g n v))) (sym same) (
        exists,
        sealed-stands d world few y.site.0 t (is_accept y.site.0 g n v) (indices y.quorum) exists (is_accept-refl y.site.0 g n v)
            (a-quorum d world few y.site.0 t y.quorum exact.0.1 distinct.0 (all-left (in_quorum y.site.0 t y.quorum) _ honest)),
      )
    where
      all-left : (xs zs : List Sealed) → AllOf (IsHonestSeal d world) (xs ++ zs) → AllOf (IsHonestSeal d world) xs
      all-left [] zs h = tt
      all-left (a ∷ xs) zs h = (h.0, all-left xs zs h.1)
  words-stand n g v (y ∷ ys) honest distinct exact x (inr among) =
      words-stand n g v ys (all-right (in_quorum y.site.0 (an_accept y.site.0 g n v) y.quorum) _ honest) distinct.1 exact.1 x among
    where
      all-right : (xs zs : List Sealed) → AllOf (IsHonestSeal d world) (xs ++ zs) → AllOf (IsHonestSeal d world) zs
      all-right [] zs h = h
      all-right (a ∷ xs) zs h = all-right xs zs h.1

  -- an order proof that is heard
  proof-chosen : (n : ℕ) (m : Message) (p : Proof) → IsSound d world m → proof_in n m ≡ Some p → IsChosen (plain.outside (sites_in d) (plain_of d world) n) p.value
  unfolding seals_of
  proof-chosen n (messages.OrderProof n2 p2) p sound e =
      let parts = picked-is (nat_eq n2.0 n) p2 p e in
      let number : n2.0 ≡ n = eqb-true n2.0 n parts.0 in
      let each : (x : SiteWord) → Has x p2.sites → (x.site.0 < d.sites) × IsTrue (plain.stands (sites_in d) (plain_of d world) x.site.0 (is_accept x.site.0 p2.view.0 n2.0 p2.value)) =
      words-stand n2.0 p2.view.0 p2.value p2.sites sound.honest (words-distinct p2.sites sound.ranged.0.1.1).1 sound.exact.1.1 in
      let named : List ℕ = map (λ (x : SiteWord). x.site.0) p2.sites in
      let ordered : IsOrdered (sites_in d) (plain_of d world) n2.0 p2.view.0 p2.value named =
      record {
        distinct = (words-distinct p2.sites sound.ranged.0.1.1).0;
        within = λ s has. let one = map-has (λ (x : SiteWord). x.site.0) s p2.sites has in subst (λ z. z < d.sites) one.1.1 (each one.0 one.1.0).0;
        many = omega (arith, sound.exact.1.0, length-map p2.sites (λ (x : SiteWord). x.site.0));
        accepted = λ s has.
            let one = map-has (λ (x : SiteWord). x.site.0) s p2.sites has in
            subst (λ z. IsTrue (plain.stands (sites_in d) (plain_of d world) z (is_accept z p2.view.0 n2.0 p2.value))) one.1.1 (each one.0 one.1.0).1;
      } in
      subst (λ (y : Proof). IsChosen (plain.outside (sites_in d) (plain_of d world) n) y.value) parts.1
      (subst (λ z. IsChosen (plain.outside (sites_in d) (plain_of d world) z) p2.value) number (ordered-chosen (sites_in d) (plain_of d world) n2.0 p2.view.0 p2.value named ordered))
  proof-chosen n _ p sound e = absurd (let none : None ≡ Some p = e in cc)

  -- What the answers keep.
  pub keeps : (seat : Seat) (bodies : List (List Change)) (heard : List Heard) → AllOf (IsSoundHeard d world) heard → Keeps d world (questions seat bodies heard)
  unfolding questions here_of
  keeps seat bodies heard sound =
      record {
        shares = λ p i x e correct.
            let found = first-found (taken (share_in (at_place p) i)) heard x (open-is (open_place (here_of seat (joined bodies)) p) _ x e) in
            let is = taken-is (share_in (at_place p) i) found.0 x found.1.1 in
            share-made (at_place p) i found.0.message x (AllOf-at (IsSoundHeard d world) heard sound found.0 found.1.0 is.0) is.1 correct;
        pending = λ c k e.
            let kept = from-is pended_time _ (greatest_of pended_time (taken (update_in c)) heard) k e in
            let found = greatest-found pended_time (taken (update_in c)) heard k kept.0 in
            let is = taken-is (update_in c) found.0 k found.1.1 in
            update-own c found.0.message k (AllOf-at (IsSoundHeard d world) heard sound found.0 found.1.0 is.0) is.1;
        words = λ n s x e. word n s x e (open_number (here_of seat (joined bodies)) n) refl;
        proofs = λ n p e.
            let found = first-found (taken (proof_in n)) heard p (open-is (open_number (here_of seat (joined bodies)) n) _ p e) in
            let is = taken-is (proof_in n) found.0 p found.1.1 in
            proof-chosen n found.0.message p (AllOf-at (IsSoundHeard d world) heard sound found.0 found.1.0 is.0) is.1;
      }
    where
      word : (n s : ℕ) (x : Word) → open_if (open_number (here_of seat (joined bodies)) n) (from word_height (most_of (taken_height n) heard) (greatest_of word_view (taken (word_in n s)) heard)) ≡ Some x →
          (b : Bool) → open_number (here_of seat (joined bodies)) n ≡ b → (x.view + 1 ≡ cond (open_number (here_of seat (joined bodies)) n) (most_of (taken_height n) heard) 0) × IsTrue (plain.stands (sites_in d) (plain_of d world) s (is_accept s x.view n x.value))
      word n s x e false is = absurd (let none : None ≡ Some x = subst (λ c. open_if c (from word_height (most_of (taken_height n) heard) (greatest_of word_view (taken (word_in n s)) heard)) ≡ Some x) is e in cc)
      word n s x e true is =
          let kept = from-is word_height (most_of (taken_height n) heard) (greatest_of word_view (taken (word_in n s)) heard) x (subst (λ c. open_if c (from word_height (most_of (taken_height n) heard) (greatest_of word_view (taken (word_in n s)) heard)) ≡ Some x) is e) in
          let found = greatest-found word_view (taken (word_in n s)) heard x kept.0 in
          let other = taken-is (word_in n s) found.0 x found.1.1 in
          let stand = word-stands n s found.0.message x (AllOf-at (IsSoundHeard d world) heard sound found.0 found.1.0 other.0) other.1 in
          let height : taken_height n found.0 ≡ height_in n found.0.message = ap (λ c. cond c 0 (height_in n found.0.message)) other.0 in
          let below : taken_height n found.0 ≤ most_of (taken_height n) heard = most-above (taken_height n) heard found.0 found.1.0 in
          let same : x.view + 1 ≡ most_of (taken_height n) heard = omega (arith, stand.0, height, below, kept.1) in
          (same ∙ ap (λ c. cond c (most_of (taken_height n) heard) 0) (sym is), stand.1)
