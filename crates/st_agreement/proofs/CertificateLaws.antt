-- What quorums of honest seals show.
use Rattle.std.proofs.Common.{ℕ, ◌+◌, ◌/◌, ◌<◌, ◌≤◌, not, Bool, IsTrue, List, length, filter, sym, subst, arith}
use Rattle.st_words.specs.declared.value.Value.{Value}
use Rattle.st_words.specs.declared.statement.Statement.{Statement}
use Rattle.st_counts.specs.Counts.{Has, Found, count, numbers_below}
use Rattle.st_counts.proofs.CountLaws.{count-not, length-filter, found}
use Rattle.st_counts.proofs.MemberLaws.{distinct-filter, distinct-le-count, filter-has, has-filter, has-numbers_below, length-numbers_below}
use Rattle.st_counts.proofs.QuorumLaws.{quorum-stands, sites-majority}
use Rattle.st_registers.specs.Tests.{IsChosen}
use Rattle.st_agreement.specs.Certificates.{IsQuorum, IsOrdered}
use Rattle.st_agreement.specs.MiniSteps.{HasMaker, Invariant}
use Rattle.st_agreement.specs.Runs.{HasServers, sites_of}
use Rattle.st_agreement.specs.Sites.{Sites}
use Rattle.st_agreement.specs.Statements.{is_accept}
use Rattle.st_agreement.specs.Worlds.{World, has_made, stands, outside}
use Rattle.st_agreement.proofs.WorldLaws.{stands-from}

-- what a quorum's correct servers handed out stands
pub quorum-stand : (sites : ℕ) (faults : ℕ → ℕ) (servers : ℕ → List ℕ) (is_correct : ℕ → ℕ → Bool) (w : World) (s : ℕ) (test : Statement → Bool) (signers : List ℕ) → HasServers sites faults servers is_correct → s < sites → IsQuorum (faults s) (servers s) (is_correct s) (λ k. IsTrue (has_made w s test k)) signers → IsTrue (stands (sites_of sites faults servers is_correct) w s test)
quorum-stand sites faults servers is_correct w s test signers has exists quorum =
    stands-from (sites_of sites faults servers is_correct) w s test
    (quorum-stands (faults s) (is_correct s) (has_made w s test) (servers s) signers quorum.distinct quorum.within
    (omega (arith, has.many s exists, quorum.many)) quorum.honest)

-- a quorum has a correct server
pub quorum-correct : (sites : ℕ) (faults : ℕ → ℕ) (servers : ℕ → List ℕ) (is_correct : ℕ → ℕ → Bool) (Did : ℕ → Type 0) (s : ℕ) (signers : List ℕ) → HasServers sites faults servers is_correct → s < sites → IsQuorum (faults s) (servers s) (is_correct s) Did signers → Found (is_correct s) signers
quorum-correct sites faults servers is_correct Did s signers has exists quorum =
    let faulty : ℕ → Bool = λ k. not (is_correct s k) in
    let few : length (filter faulty signers) ≤ count faulty (servers s) =
    distinct-le-count faulty (filter faulty signers) (servers s) (distinct-filter faulty signers quorum.distinct)
    (λ k among. quorum.within k (filter-has faulty k signers among).0) (λ k among. (filter-has faulty k signers among).1) in
    found (is_correct s) signers
    (omega (arith, quorum.many, has.few_faulty s exists, count-not (is_correct s) signers, length-filter faulty signers))

-- so a statement that its correct servers handed out has a correct maker
pub quorum-maker : (sites : ℕ) (faults : ℕ → ℕ) (servers : ℕ → List ℕ) (is_correct : ℕ → ℕ → Bool) (w : World) (s : ℕ) (t : Statement) (signers : List ℕ) → HasServers sites faults servers is_correct → Invariant (sites_of sites faults servers is_correct) w → s < sites → IsQuorum (faults s) (servers s) (is_correct s) (λ k. Has t (w.made s k)) signers → HasMaker (sites_of sites faults servers is_correct) w s t
quorum-maker sites faults servers is_correct w s t signers has inv exists quorum =
    let one : Found (is_correct s) signers = quorum-correct sites faults servers is_correct (λ k. Has t (w.made s k)) s signers has exists quorum in
    let correct : Has one.element (filter (is_correct s) (servers s)) = has-filter (is_correct s) one.element (servers s) one.passes (quorum.within one.element one.among) in
    record {
      exists = exists;
      server = one.element;
      correct = correct;
      recorded = inv.recorded s one.element exists correct t (quorum.honest one.element one.among one.passes);
    }

-- an order proof's value is chosen
pub ordered-chosen : (d : Sites) (w : World) (n g : ℕ) (v : Value) (named : List ℕ) → IsOrdered d w n g v named → IsChosen (outside d w n) v
ordered-chosen d w n g v named ordered = (
  g,
  sites-majority (λ s. stands d w s (is_accept s g n v)) (numbers_below d.sites) named ordered.distinct
      (λ s among. has-numbers_below s d.sites (ordered.within s among))
      (subst (λ m. m / 2 + 1 ≤ length named) (sym (length-numbers_below d.sites)) ordered.many) ordered.accepted,
)
