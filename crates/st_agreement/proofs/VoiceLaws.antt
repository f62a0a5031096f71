-- Under the invariant both flat worlds are well. So a leader site has one voice, and a number one value.
use Rattle.std.proofs.Common.{◌≡◌, ℕ, ◌+◌, ◌<◌, ◌≤◌, not, Bool, true, false, IsTrue, length, sym, ap, subst, arith}
use Rattle.std.specs.List.{list_any}
use Rattle.std.proofs.lemmas.Bool.{ltb-true, and_parts, or_right, not-true, both_ways}
use Rattle.st_words.specs.declared.value.Value.{Value}
use Rattle.st_words.specs.declared.statement.Statement.{Statement}
use Rattle.st_message.specs.declared.change.Change.TheVariants.{Prepared, Accepted}
use Rattle.st_counts.specs.Counts.{Has, HasMajority, Found, count, numbers_below}
use Rattle.st_counts.proofs.CountLaws.{count-mono}
use Rattle.st_counts.proofs.MemberLaws.{any-from, any-found, any-mono, numbers_below-lt, length-numbers_below}
use Rattle.st_counts.proofs.QuorumLaws.{all_but-majority}
use Rattle.st_registers.specs.Advances.{IsWell}
use Rattle.st_registers.specs.Tests.{Safe, IsChosen}
use Rattle.st_registers.proofs.WellLaws.{one-chosen}
use Rattle.st_agreement.specs.MiniSteps.{HasMaker, Invariant}
use Rattle.st_agreement.specs.Records.{made_of}
use Rattle.st_agreement.specs.Sites.{Sites, AreSites, leader}
use Rattle.st_agreement.specs.Statements.{prepare, proposal, accept, is_prepare, is_proposal, is_proposal_at, is_accept, is_accept_at, local_in, view_in}
use Rattle.st_agreement.specs.Worlds.{World, has_made, stands, inside, outside, may_accept, is_proposed, are_accepting}
use Rattle.st_agreement.proofs.GrowLaws.{leader-lt}
use Rattle.st_agreement.proofs.HistoryLaws.{prepared-recorded, accepted-recorded, made-once, made-proposal, made-accept, MadeProposal, MadeAccept}
use Rattle.st_agreement.proofs.StatementLaws.{is_prepare-true, is_proposal-true, is_proposal-at, is_accept-true, is_accept-at}
use Rattle.st_agreement.proofs.WorldLaws.{Maker, maker, Makers, makers, stands-fact}

-- ---- from what stands to what is recorded

-- a statement that stands was recorded by a correct server
pub stands-recorded : (d : Sites) (w : World) (s : ℕ) (test : Statement → Bool) (t : Statement) → AreSites d → Invariant d w → s < d.sites → ((u : Statement) → IsTrue (test u) → u ≡ t) → IsTrue (stands d w s test) → HasMaker d w s t
stands-recorded d w s test t sites inv exists only stand =
    let who : Maker d w s test = maker d w s test sites exists stand in
    record {
      exists = exists;
      server = who.server;
      correct = who.correct;
      recorded = subst (λ (u : Statement). Has u (made_of (w.records s who.server))) (only who.statement who.passes)
          (inv.recorded s who.server exists who.correct who.statement who.made);
    }

-- a Proposal that was made has a Prepare that stands
pub proposal-stands : (d : Sites) (w : World) (s k g l n : ℕ) (v : Value) → Invariant d w → s < d.sites → Has k (d.correct s) → Has (proposal s g l n v) (made_of (w.records s k)) → IsTrue (stands d w s (is_prepare s g l n v))
proposal-stands d w s k g l n v inv exists correct made =
    let rule : MadeProposal s s g l n v (w.records s k) = made-proposal d s s g l n v (w.records s k) (inv.history s k exists correct) made in
    let seen = prepared-recorded (w.records s k) (prepare s g l n v) rule.prepared in
    inv.backed s k exists correct (Prepared (prepare s g l n v) seen.0) seen.1

-- an Accept that was made has a Proposal that stands at the leader site
pub record Proposed (d : Sites) (w : World) (g n : ℕ) (v : Value) : Type 0 where
  pub local : ℕ
  pub stand : IsTrue (stands d w (leader d g) (is_proposal (leader d g) g local n v))

-- so it is for each Accept that was made
pub accept-stands : (d : Sites) (w : World) (s k g n : ℕ) (v : Value) → Invariant d w → s < d.sites → Has k (d.correct s) → Has (accept s g n v) (made_of (w.records s k)) → Proposed d w g n v
accept-stands d w s k g n v inv exists correct made =
    let rule : MadeAccept d s s g n v (w.records s k) = made-accept d s s g n v (w.records s k) (inv.history s k exists correct) made in
    let seen = accepted-recorded (w.records s k) (proposal (leader d g) g rule.local n v) rule.accepted in
    record {
      local = rule.local;
      stand = inv.backed s k exists correct (Accepted (proposal (leader d g) g rule.local n v) seen.0) seen.1;
    }

-- a Proposal that stands has a Prepare that stands
pub proposal-prepared : (d : Sites) (w : World) (s g l n : ℕ) (v : Value) → AreSites d → Invariant d w → s < d.sites → IsTrue (stands d w s (is_proposal s g l n v)) → IsTrue (stands d w s (is_prepare s g l n v))
proposal-prepared d w s g l n v sites inv exists stand =
    let who : HasMaker d w s (proposal s g l n v) = stands-recorded d w s (is_proposal s g l n v) (proposal s g l n v) sites inv exists (is_proposal-true s g l n v) stand in
    proposal-stands d w s who.server g l n v inv exists who.correct who.recorded

-- a Prepare that stands is safe inside its site
pub prepare-safe_inside : (d : Sites) (w : World) (s g l n : ℕ) (v : Value) → AreSites d → Invariant d w → s < d.sites → IsTrue (stands d w s (is_prepare s g l n v)) → Safe (inside d w g n) l v
prepare-safe_inside d w s g l n v sites inv exists stand =
    let who : HasMaker d w s (prepare s g l n v) = stands-recorded d w s (is_prepare s g l n v) (prepare s g l n v) sites inv exists (is_prepare-true s g l n v) stand in
    inv.safe_inside s who.server exists who.correct g l n v who.recorded

-- and among the sites
pub prepare-safe_outside : (d : Sites) (w : World) (s g l n : ℕ) (v : Value) → AreSites d → Invariant d w → s < d.sites → IsTrue (stands d w s (is_prepare s g l n v)) → Safe (outside d w n) g v
prepare-safe_outside d w s g l n v sites inv exists stand =
    let who : HasMaker d w s (prepare s g l n v) = stands-recorded d w s (is_prepare s g l n v) (prepare s g l n v) sites inv exists (is_prepare-true s g l n v) stand in
    inv.safe_outside s who.server exists who.correct g l n v who.recorded

-- ---- inside

-- two Prepares of a slot that stand have one value
one_prepare : (d : Sites) (w : World) (s g l n : ℕ) (u v : Value) → AreSites d → Invariant d w → s < d.sites → IsTrue (stands d w s (is_prepare s g l n u)) → IsTrue (stands d w s (is_prepare s g l n v)) → u ≡ v
one_prepare d w s g l n u v sites inv exists first second =
    let both : Makers d w s (is_prepare s g l n u) (is_prepare s g l n v) = makers d w s (is_prepare s g l n u) (is_prepare s g l n v) sites exists first second in
    let recorded : (x : Value) → Found (is_prepare s g l n x) (w.made s both.server) → Has (prepare s g l n x) (made_of (w.records s both.server)) =
    λ x some. subst (λ (t : Statement). Has t (made_of (w.records s both.server))) (is_prepare-true s g l n x some.element some.passes)
    (inv.recorded s both.server exists both.correct some.element some.among) in
    made-once d s g l n u v (w.records s both.server) (inv.history s both.server exists both.correct) (recorded u both.first) (recorded v both.second)

-- the flat world inside a leader site is well
pub inside-well : (d : Sites) (w : World) → AreSites d → Invariant d w → (g n : ℕ) → IsWell (inside d w g n)
inside-well d w sites inv g n =
    let s : ℕ = leader d g in
    let exists : s < d.sites = leader-lt d g sites in
    record {
      one_proposed = λ l u v first second. one_prepare d w s g l n u v sites inv exists first second;
      safe = λ l v stand. prepare-safe_inside d w s g l n v sites inv exists stand;
      accepts = λ k l v correct has.
          let some : Found (is_proposal s g l n v) (w.made s k) = any-found (is_proposal s g l n v) (w.made s k) has in
          proposal-stands d w s k g l n v inv exists correct
          (subst (λ (t : Statement). Has t (made_of (w.records s k))) (is_proposal-true s g l n v some.element some.passes) (inv.recorded s k exists correct some.element some.among));
      exclusive = λ k l v correct has closed.
          let parts = and_parts (not (has_made w s (is_proposal_at s g l n) k)) _ closed in
          both_ways _ (not-true (has_made w s (is_proposal_at s g l n) k) parts.0)
          (any-mono (is_proposal s g l n v) (is_proposal_at s g l n) (w.made s k) (w.made s k) (λ t among passes. (among, is_proposal-at s g l n v t passes)) has);
      orders = λ v logged. absurd (let no : false ≡ true = logged in cc);
    }

-- a Proposal that stands is chosen inside: a majority of the site's correct servers made it
pub proposal-chosen : (d : Sites) (w : World) (g l n : ℕ) (v : Value) → AreSites d → IsTrue (stands d w (leader d g) (is_proposal (leader d g) g l n v)) → IsChosen (inside d w g n) v
proposal-chosen d w g l n v sites stand =
    let s : ℕ = leader d g in
    let exists : s < d.sites = leader-lt d g sites in
    (l, all_but-majority (d.faults s) (d.correct s) (has_made w s (is_proposal s g l n v)) (sites.most s exists) (stands-fact d w s (is_proposal s g l n v) stand))

-- One voice: two Proposals that stand at a site for one view and number have one value.
pub one_voice : (d : Sites) (w : World) (g n l m : ℕ) (u v : Value) → AreSites d → Invariant d w → IsTrue (stands d w (leader d g) (is_proposal (leader d g) g l n u)) → IsTrue (stands d w (leader d g) (is_proposal (leader d g) g m n v)) → u ≡ v
one_voice d w g n l m u v sites inv first second =
    one-chosen (inside d w g n) u v (inside-well d w sites inv g n) (proposal-chosen d w g l n u sites first) (proposal-chosen d w g m n v sites second)

-- ---- outside

-- a value that is proposed has a Proposal that stands
pub is_proposed-found : (d : Sites) (w : World) (n g : ℕ) (v : Value) → IsTrue (is_proposed d w n g v) → Proposed d w g n v
is_proposed-found d w n g v proposed =
    let s : ℕ = leader d g in
    let server : Found (λ k. list_any (λ t. stands d w s (is_proposal s g (local_in t) n v)) (w.made s k)) (d.correct s) =
    any-found (λ k. list_any (λ t. stands d w s (is_proposal s g (local_in t) n v)) (w.made s k)) (d.correct s) proposed in
    let some : Found (λ t. stands d w s (is_proposal s g (local_in t) n v)) (w.made s server.element) =
    any-found (λ t. stands d w s (is_proposal s g (local_in t) n v)) (w.made s server.element) server.passes in
    record { local = local_in some.element; stand = some.passes }

-- and where one stands the value is proposed
pub is_proposed-from : (d : Sites) (w : World) (n g l : ℕ) (v : Value) → AreSites d → IsTrue (stands d w (leader d g) (is_proposal (leader d g) g l n v)) → IsTrue (is_proposed d w n g v)
is_proposed-from d w n g l v sites stand =
    let s : ℕ = leader d g in
    let who : Maker d w s (is_proposal s g l n v) = maker d w s (is_proposal s g l n v) sites (leader-lt d g sites) stand in
    let same : local_in who.statement ≡ l = ap local_in (is_proposal-true s g l n v who.statement who.passes) in
    any-from (λ k. list_any (λ t. stands d w s (is_proposal s g (local_in t) n v)) (w.made s k)) who.server (d.correct s) who.correct
    (any-from (λ t. stands d w s (is_proposal s g (local_in t) n v)) who.statement (w.made s who.server) who.made
    (subst (λ x. IsTrue (stands d w s (is_proposal s g x n v))) (sym same) stand))

-- a majority of sites, as a fact and as a test
pub accepting-chosen : (d : Sites) (w : World) (n g : ℕ) (v : Value) → IsTrue (are_accepting d w n g v) → HasMajority (numbers_below d.sites) (λ s. stands d w s (is_accept s g n v))
accepting-chosen d w n g v most = omega (arith, ltb-true _ _ most, length-numbers_below d.sites)

-- the flat world of the sites is well
pub outside-well : (d : Sites) (w : World) → AreSites d → Invariant d w → (n : ℕ) → IsWell (outside d w n)
outside-well d w sites inv n =
    record {
      one_proposed = λ g u v first second.
          let one : Proposed d w g n u = is_proposed-found d w n g u first in
          let other : Proposed d w g n v = is_proposed-found d w n g v second in
          one_voice d w g n one.local other.local u v sites inv one.stand other.stand;
      safe = λ g v proposed.
          let one : Proposed d w g n v = is_proposed-found d w n g v proposed in
          let exists : leader d g < d.sites = leader-lt d g sites in
          prepare-safe_outside d w (leader d g) g one.local n v sites inv exists (proposal-prepared d w (leader d g) g one.local n v sites inv exists one.stand);
      accepts = λ s g v among stand.
          let exists : s < d.sites = numbers_below-lt s d.sites among in
          let who : HasMaker d w s (accept s g n v) = stands-recorded d w s (is_accept s g n v) (accept s g n v) sites inv exists (is_accept-true s g n v) stand in
          let one : Proposed d w g n v = accept-stands d w s who.server g n v inv exists who.correct who.recorded in
          is_proposed-from d w n g one.local v sites one.stand;
      exclusive = λ s g v among stand closed.
          let few : d.faults s + count (may_accept w s g n) (d.correct s) < length (d.correct s) = ltb-true _ _ closed in
          let fewer : count (has_made w s (is_accept s g n v)) (d.correct s) ≤ count (may_accept w s g n) (d.correct s) =
          count-mono (has_made w s (is_accept s g n v)) (may_accept w s g n) (d.correct s)
          (λ k correct has. or_right _ _ (any-mono (is_accept s g n v) (is_accept_at s g n) (w.made s k) (w.made s k) (λ t has2 passes. (has2, is_accept-at s g n v t passes)) has)) in
          omega (arith, stands-fact d w s (is_accept s g n v) stand);
      orders = λ v logged.
          let site = any-found (λ s. list_any (λ k. list_any (λ t. are_accepting d w n (view_in t) v) (w.made s k)) (d.correct s)) (numbers_below d.sites) logged in
          let server = any-found (λ k. list_any (λ t. are_accepting d w n (view_in t) v) (w.made site.element k)) (d.correct site.element) site.passes in
          let some = any-found (λ t. are_accepting d w n (view_in t) v) (w.made site.element server.element) server.passes in
          (view_in some.element, accepting-chosen d w n (view_in some.element) v some.passes);
    }
