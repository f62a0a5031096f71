-- In worlds of lines in range: what correct servers made is covered, and what they prepared is safe.
use Rattle.std.proofs.Common.{◌≡◌, ℕ, ◌<◌, false, List, [], ◌∷◌, ◌++◌, sym, subst, inl}
use Rattle.std.specs.Prelude.{Some, IsTrue}
use Rattle.std.specs.List.{AllByRecursion as Each}
use Rattle.st_words.specs.declared.value.Value.{Value}
use Rattle.st_words.specs.declared.statement.Item.{Item}
use Rattle.st_words.specs.declared.statement.Statement.{Statement}
use Rattle.st_message.specs.declared.change.Change.{Change}
use Rattle.st_message.specs.declared.change.Change.TheVariants.{Made}
use Rattle.st_schedule.specs.declared.line.Line.{Line}
use Rattle.st_counts.specs.Counts.{Has}
use Rattle.st_counts.proofs.MemberLaws.{has-left}
use Rattle.st_registers.specs.Tests.{Safe}
use Rattle.st_agreement.specs.MiniSteps.{Invariant}
use Rattle.st_agreement.specs.Records.{made_of}
use Rattle.st_agreement.specs.Rules.{History}
use Rattle.st_agreement.specs.Sites.{AreSites}
use Rattle.st_agreement.specs.Worlds as plain
use Rattle.st_agreement.proofs.HistoryLaws.{MadePrepare, made-prepare}
use Rattle.st_protocol.specs.Words.{a_prepare, a_proposal, an_accept, a_local_report, a_global_report}
use Rattle.st_protocol.specs.Keeping.{joined}
use Rattle.st_protocol.specs.Questions.{questions}
use Rattle.st_protocol.specs.Report.{answers_at}
use Rattle.st_protocol.specs.World.{Deployment, World, empty, seat_of}
use Rattle.st_protocol.specs.Schedule.{steps}
use Rattle.st_protocol.proofs.GatherLaws.{joined-push}
use Rattle.st_ranges.specs.Ranges.{MessageInRange}
use Rattle.st_ranges.specs.Deployments.{DeploymentInRange, LineInRange}
use Rattle.st_log_laws.specs.Handed.{comes_from_client}
use Rattle.st_frame_laws.proofs.NodeFrame.{nodes_kept, pushes_kept}
use Rattle.st_honest_laws.specs.Honest.{SealsAreRead}
use Rattle.st_answer_laws.specs.Plain.{newest, sites_in, plain_of, Refines}
use Rattle.st_answer_laws.specs.Fair.{HasFewFaulty}
use Rattle.st_answer_laws.proofs.RecordLaws.{newest-push, has-onto}
use Rattle.st_answer_laws.proofs.WayLaws.{may-history}
use Rattle.st_refinement_laws.proofs.WorldLaws.{runs-exists, runs-correct}
use Rattle.st_log_laws.proofs.AgreeLaws.{sites, goes, invariant}
use Rattle.st_log_laws.proofs.GrowLaws.{steps_on}
use Rattle.st_log_laws.proofs.OwnUpdates.{updates_own, own_comes}
use Rattle.st_union_laws.specs.Unions.{AreMaking, HasRecorded, KeepsAccept, KeepsProposal, ReportsAccept, ReportsProposal}
use Rattle.st_union_laws.proofs.CoverLaws.{is_made, keeps_accept, keeps_proposal, reports_accept, reports_proposal}

-- ---- what was made stays so

-- What a server recorded that it made it has recorded in each later world.
pub stays_recorded : {Wire : Type 0} (d : Deployment Wire) (all more : List Line) (s i : ℕ) (t : Statement) → HasRecorded (steps d empty all) s i t → HasRecorded (steps d empty (all ++ more)) s i t
stays_recorded {Wire} d all more s i t made =
    subst (λ (late : World Wire). HasRecorded late s i t) (sym (steps_on d empty all more))
    (nodes_kept d (λ s i node. Keeps s i node.bodies) (pushes_kept d Keeps push_made) (steps d empty all) more (λ s i made. made) s i made)
  where
    -- what a server has made in the first world it has made by now
    Keeps : ℕ → ℕ → List (List Change) → Type 0
    Keeps s i bodies = HasRecorded (steps d empty all) s i t → AreMaking bodies t

    push_made : (s i : ℕ) (bodies : List (List Change)) (body : List Change) → Keeps s i bodies → Keeps s i (bodies ++ body ∷ [])
    push_made s i bodies body h made =
        let by = h made in (by.0, subst (Has (Made by.0 t)) (sym (joined-push bodies body)) (has-left (Made by.0 t) (joined bodies) body by.1))

module _ {Wire : Type 0} (d : Deployment Wire) (few : HasFewFaulty d) (h : DeploymentInRange d) (formats : SealsAreRead d MessageInRange) (all : List Line) (l : Each (LineInRange d) all) where
  -- the world of these lines
  abbrev last : World Wire
  last = steps d empty all

  -- the world of the same records alone
  abbrev flat : plain.World
  flat = plain_of d last

  -- the deployment's sites
  sites_here : AreSites (sites_in d)
  sites_here = sites d few h formats all l

  -- which the world of the lines refines
  goes_here : Refines d last
  goes_here = goes d few h formats all l

  -- what steps keep there
  kept : Invariant (sites_in d) flat
  kept = invariant d few h formats all l

  -- a correct server's site is one
  pub exists : (s i : ℕ) → d.faulty s i ≡ false → s < d.sites
  exists s i runs = runs-exists d few h.keeps sites_here s i runs

  -- and the server is among its correct ones
  pub correct : (s i : ℕ) → d.faulty s i ≡ false → Has i ((sites_in d).correct s)
  correct s i runs = runs-correct d few h.keeps sites_here s i runs

  -- its records are a history
  history : (s i : ℕ) → d.faulty s i ≡ false → History (sites_in d) s (newest (last.nodes s i).bodies)
  history s i runs = kept.history s i (exists s i runs) (correct s i runs)

  -- and what a stopped server may still record
  history_apart : (s i : ℕ) (cs : List Change) → d.faulty s i ≡ false → (last.nodes s i).apart ≡ Some cs → History (sites_in d) s (newest ((last.nodes s i).bodies ++ cs ∷ []))
  history_apart s i cs runs e =
      subst (λ (rs : List Change). History (sites_in d) s rs) (sym (newest-push (last.nodes s i).bodies cs))
      (may-history (sites_in d) flat s (newest (last.nodes s i).bodies) cs (history s i runs) (goes_here.apart s i cs (exists s i runs) (correct s i runs) e))

  -- ---- items

  -- What was made is covered,
  pub accepts_covered : (s i site view n : ℕ) (v : Value) → d.faulty s i ≡ false → HasRecorded last s i (an_accept site view n v) → KeepsAccept (answers_at d last s i) view n
  accepts_covered s i site view n v runs made = keeps_accept (sites_in d) s (seat_of d s i) (last.nodes s i).bodies (last.nodes s i).heard (history s i runs) site view n v made

  -- each Proposal too;
  pub proposals_covered : (s i site view local n : ℕ) (v : Value) → d.faulty s i ≡ false → HasRecorded last s i (a_proposal site view local n v) → KeepsProposal (answers_at d last s i) view local n
  proposals_covered s i site view local n v runs made = keeps_proposal (sites_in d) s (seat_of d s i) (last.nodes s i).bodies (last.nodes s i).heard (history s i runs) site view local n v made

  -- also once a stopped server's pending changes are recorded.
  pub pending_accepts_covered : (s i site view n : ℕ) (v : Value) (cs : List Change) → d.faulty s i ≡ false → (last.nodes s i).apart ≡ Some cs →
      AreMaking ((last.nodes s i).bodies ++ cs ∷ []) (an_accept site view n v) → KeepsAccept (questions (seat_of d s i) ((last.nodes s i).bodies ++ cs ∷ []) []) view n
  pending_accepts_covered s i site view n v cs runs e made =
      keeps_accept (sites_in d) s (seat_of d s i) ((last.nodes s i).bodies ++ cs ∷ []) [] (history_apart s i cs runs e) site view n v made

  -- so is each Proposal
  pub pending_proposals_covered : (s i site view local n : ℕ) (v : Value) (cs : List Change) → d.faulty s i ≡ false → (last.nodes s i).apart ≡ Some cs →
      AreMaking ((last.nodes s i).bodies ++ cs ∷ []) (a_proposal site view local n v) → KeepsProposal (questions (seat_of d s i) ((last.nodes s i).bodies ++ cs ∷ []) []) view local n
  pending_proposals_covered s i site view local n v cs runs e made =
      keeps_proposal (sites_in d) s (seat_of d s i) ((last.nodes s i).bodies ++ cs ∷ []) [] (history_apart s i cs runs e) site view local n v made

  -- ---- prepared values

  -- a Prepare that was made is of the own site
  own_prepare : (s i site view local n : ℕ) (v : Value) → d.faulty s i ≡ false → HasRecorded last s i (a_prepare site view local n v) → Has (a_prepare s view local n v) (made_of (flat.records s i))
  own_prepare s i site view local n v runs made =
      let has = is_made (last.nodes s i).bodies (a_prepare site view local n v) made in
      let rule : MadePrepare (sites_in d) s site view local (flat.records s i) = made-prepare (sites_in d) s site view local n v (flat.records s i) (history s i runs) has in
      subst (λ x. Has (a_prepare x view local n v) (made_of (flat.records s i))) rule.site has

  -- The value of a Prepare that was made is safe among the sites and inside the site, and comes from its client.
  pub prepare_safe_outside : (s i site view local n : ℕ) (v : Value) → d.faulty s i ≡ false → HasRecorded last s i (a_prepare site view local n v) → Safe (plain.outside (sites_in d) flat n) view v
  prepare_safe_outside s i site view local n v runs made = kept.safe_outside s i (exists s i runs) (correct s i runs) view local n v (own_prepare s i site view local n v runs made)

  -- inside the site,
  pub prepare_safe_inside : (s i site view local n : ℕ) (v : Value) → d.faulty s i ≡ false → HasRecorded last s i (a_prepare site view local n v) → Safe (plain.inside (sites_in d) flat view n) local v
  prepare_safe_inside s i site view local n v runs made = kept.safe_inside s i (exists s i runs) (correct s i runs) view local n v (own_prepare s i site view local n v runs made)

  -- and from its client
  pub prepare_handed : (s i site view local n : ℕ) (v : Value) → d.faulty s i ≡ false → HasRecorded last s i (a_prepare site view local n v) → IsTrue (comes_from_client last.made v)
  prepare_handed s i site view local n v runs made =
      own_comes d last v (updates_own d all)
      (kept.backed s i (exists s i runs) (correct s i runs) (Made made.0 (a_prepare site view local n v)) (has-onto (Made made.0 (a_prepare site view local n v)) (joined (last.nodes s i).bodies) [] (inl made.1)))

-- ---- reports

module _ {Wire : Type 0} (d : Deployment Wire) (few : HasFewFaulty d) (h : DeploymentInRange d) (formats : SealsAreRead d MessageInRange) (all more : List Line) (l : Each (LineInRange d) (all ++ more)) where
  -- A report covers what its server makes below it, by now or in a later world.
  pub view_reports_cover : (s i site view index base : ℕ) (items : List Item) (site2 lower n : ℕ) (v : Value) → d.faulty s i ≡ false →
      HasRecorded (steps d empty all) s i (a_global_report site view index base items) → HasRecorded (steps d empty (all ++ more)) s i (an_accept site2 lower n v) → lower < view → ReportsAccept base items lower n
  view_reports_cover s i site view index base items site2 lower n v runs reports made below =
      reports_accept (sites_in d) s ((steps d empty (all ++ more)).nodes s i).bodies (history d few h formats (all ++ more) l s i runs) site view index base items site2 lower n v
      (stays_recorded d all more s i (a_global_report site view index base items) reports) made below

  -- A report of a local view covers what was made below it.
  pub local_reports_cover : (s i site local index view base : ℕ) (items : List Item) (site2 view2 lower n : ℕ) (v : Value) → d.faulty s i ≡ false →
      HasRecorded (steps d empty all) s i (a_local_report site local index view base items) → HasRecorded (steps d empty (all ++ more)) s i (a_proposal site2 view2 lower n v) → lower < local →
      ReportsProposal base items view2 lower n
  local_reports_cover s i site local index view base items site2 view2 lower n v runs reports made below =
      reports_proposal (sites_in d) s ((steps d empty (all ++ more)).nodes s i).bodies (history d few h formats (all ++ more) l s i runs) site local index view base items site2 view2 lower n v
      (stays_recorded d all more s i (a_local_report site local index view base items) reports) made below
