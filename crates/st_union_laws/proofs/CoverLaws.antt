-- One server's answers keep items that cover what it made, and its reports cover what it ever makes in lower views.
use Rattle.std.proofs.Common.{true, false, ◌≡◌, ℕ, ◌+◌, ◌<◌, ◌≤◌, ◌⊎◌, List, [], subst, inl, inr, ⊎_elim, arith}
use Rattle.st_words.specs.declared.deployment.TheConstants.{WINDOW}
use Rattle.st_words.specs.declared.value.Value.{Value}
use Rattle.st_words.specs.declared.statement.Item.{Item}
use Rattle.st_words.specs.declared.statement.Statement.{Statement}
use Rattle.st_message.specs.declared.change.Change.{Change}
use Rattle.st_message.specs.declared.change.Change.TheVariants.{Made}
use Rattle.st_message.specs.declared.change.Heard.{Heard}
use Rattle.st_counts.specs.Counts.{Has}
use Rattle.st_agreement.specs.Records.{made_of, executed_of}
use Rattle.st_agreement.specs.Reports.{Report, local_report, global_report}
use Rattle.st_agreement.specs.Rules.{History, Covers, CoversView}
use Rattle.st_agreement.specs.Sites.{Sites, leader}
use Rattle.st_agreement.specs.Statements.{proposal, accept}
use Rattle.st_agreement.proofs.HistoryLaws.{made-rule, made-recorded, MadeProposal, made-proposal, MadeAccept, made-accept}
use Rattle.st_agreement.proofs.ReportLaws.{CoversLocal, report-covers_local, CoversGlobal, report-covers_global}
use Rattle.st_protocol.specs.Words.{a_proposal, an_accept, a_local_report, a_global_report}
use Rattle.st_protocol.specs.Keeping.{joined}
use Rattle.st_protocol.specs.State.{Seat, Answers}
use Rattle.st_protocol.specs.Questions.{questions}
use Rattle.st_answer_laws.specs.Plain.{newest}
use Rattle.st_answer_laws.specs.Support.{Tells}
use Rattle.st_answer_laws.proofs.RecordLaws.{has-onto, onto-has, made-has, tells}
use Rattle.st_answer_laws.proofs.ViewLaws.{Keeps}
use Rattle.st_refinement_laws.proofs.EnterLaws.{keeps, in-window}
use Rattle.st_union_laws.specs.Unions.{AreMaking, IsAsHigh, KeepsAccept, KeepsProposal, ReportsAccept, ReportsProposal}

-- a number is up to another, or above it
up_to : (a b : ℕ) → (a ≤ b) ⊎ (b < a)
up_to a b = grind arith

-- of a place that is as high the view is
of_view : (view local view2 local2 : ℕ) → IsAsHigh view local view2 local2 → view ≤ view2
of_view view local view2 local2 (inl above) = omega (arith, above)
of_view view local view2 local2 (inr same) = let is = same.0 in omega (arith, is)

-- what the records have made is made in the records newest first
pub is_made : (bodies : List (List Change)) (t : Statement) → AreMaking bodies t → Has t (made_of (newest bodies))
is_made bodies t making = made-has (newest bodies) making.0 t (has-onto (Made making.0 t) (joined bodies) [] (inl making.1))

-- and back
pub are_making : (bodies : List (List Change)) (t : Statement) → Has t (made_of (newest bodies)) → AreMaking bodies t
are_making bodies t has =
    let recorded = made-recorded (newest bodies) t has in
    (recorded.0, ⊎_elim (λ among. among) (λ none. absurd none) (onto-has (Made recorded.0 t) (joined bodies) [] recorded.1))

-- ---- items

module _ (d : Sites) (s : ℕ) (seat : Seat) (bodies : List (List Change)) (heard : List Heard) (history : History d s (newest bodies)) where
  -- the answers of these records
  abbrev state : Answers
  state = questions seat bodies heard

  -- they are what the records tell
  told : Tells state (newest bodies)
  told = tells d s seat bodies heard history

  -- An Accept that was made is covered.
  pub keeps_accept : (site view n : ℕ) (v : Value) → AreMaking bodies (an_accept site view n v) → KeepsAccept state view n
  keeps_accept site view n v making =
      let rule : MadeAccept d s site view n v (newest bodies) = made-accept d s site view n v (newest bodies) history (is_made bodies (an_accept site view n v) making) in
      let keeps : Keeps true state (newest bodies) =
      keeps true seat bodies heard
      (λ s2 g l m u has. let low : m ≤ executed_of (newest bodies) + WINDOW = in-window true d s (newest bodies) history s2 g l m u has in omega (arith, low, told.executed)) in
      ⊎_elim (λ low. inl low)
      (λ above. let found = keeps.kept (leader d view) view rule.local n v rule.accepted above in inr (found.0, (found.1.0, of_view view rule.local found.0.view found.0.local found.1.1)))
      (up_to n state.here.executed)

  -- A Proposal that was made is covered.
  pub keeps_proposal : (site view local n : ℕ) (v : Value) → AreMaking bodies (a_proposal site view local n v) → KeepsProposal state view local n
  keeps_proposal site view local n v making =
      let rule : MadeProposal s site view local n v (newest bodies) =
      made-proposal d s site view local n v (newest bodies) history (is_made bodies (a_proposal site view local n v) making) in
      let keeps : Keeps false state (newest bodies) =
      keeps false seat bodies heard
      (λ s2 g l m u has. let low : m ≤ executed_of (newest bodies) + WINDOW = in-window false d s (newest bodies) history s2 g l m u has in omega (arith, low, told.executed)) in
      ⊎_elim (λ low. inl low) (λ above. inr (keeps.kept s view local n v rule.prepared above)) (up_to n state.here.executed)

-- ---- reports

module _ (d : Sites) (s : ℕ) (bodies : List (List Change)) (history : History d s (newest bodies)) where
  -- a report that was made is of the own site
  view_site : (site view index base : ℕ) (items : List Item) → Has (a_global_report site view index base items) (made_of (newest bodies)) → site ≡ s
  view_site site view index base items =
      made-rule d s (a_global_report site view index base items) (λ rs. site ≡ s) (λ c rs allowed before. before) (λ leaf rs earlier makes. makes.0) (newest bodies) history

  -- a local report that was made is of the server's site
  local_site : (site local index view base : ℕ) (items : List Item) → Has (a_local_report site local index view base items) (made_of (newest bodies)) → site ≡ s
  local_site site local index view base items =
      made-rule d s (a_local_report site local index view base items) (λ rs. site ≡ s) (λ c rs allowed before. before) (λ leaf rs earlier makes. makes.0) (newest bodies) history

  -- A report on a view covers each Accept that is made below it, before or behind it.
  pub reports_accept : (site view index base : ℕ) (items : List Item) (site2 lower n : ℕ) (v : Value) → AreMaking bodies (a_global_report site view index base items) →
      AreMaking bodies (an_accept site2 lower n v) → lower < view → ReportsAccept base items lower n
  reports_accept site view index base items site2 lower n v reports making below = ⊎_elim (λ low. inl low) (λ above. inr (by above)) (up_to n base)
    where
      r : Report
      r = record { server = index; view = 0; base = base; items = items }

      reported : Has (global_report s view r) (made_of (newest bodies))
      reported =
          let has = is_made bodies (a_global_report site view index base items) reports in
          subst (λ x. Has (a_global_report x view index base items) (made_of (newest bodies))) (view_site site view index base items has) has

      accepted : Has (accept s lower n v) (made_of (newest bodies))
      accepted =
          let has = is_made bodies (an_accept site2 lower n v) making in
          let rule : MadeAccept d s site2 lower n v (newest bodies) = made-accept d s site2 lower n v (newest bodies) history has in
          subst (λ x. Has (an_accept x lower n v) (made_of (newest bodies))) rule.site has

      by : base < n → (item : Item) × (Has item items × ((item.number.0 ≡ n) × (lower ≤ item.view.0)))
      by above =
          let covers : CoversGlobal s view base items (newest bodies) = report-covers_global d s view r (newest bodies) history reported in
          let there : CoversView items n lower = covers.covers lower n v accepted below above in
          (there.item, (there.among, (there.of_number, there.high)))

  -- A report on a local view covers each Proposal that is made below it, before or behind it.
  pub reports_proposal : (site local index view base : ℕ) (items : List Item) (site2 view2 lower n : ℕ) (v : Value) → AreMaking bodies (a_local_report site local index view base items) →
      AreMaking bodies (a_proposal site2 view2 lower n v) → lower < local → ReportsProposal base items view2 lower n
  reports_proposal site local index view base items site2 view2 lower n v reports making below = ⊎_elim (λ low. inl low) (λ above. inr (by above)) (up_to n base)
    where
      r : Report
      r = record { server = index; view = view; base = base; items = items }

      reported : Has (local_report s local r) (made_of (newest bodies))
      reported =
          let has = is_made bodies (a_local_report site local index view base items) reports in
          subst (λ x. Has (a_local_report x local index view base items) (made_of (newest bodies))) (local_site site local index view base items has) has

      proposed : Has (proposal s view2 lower n v) (made_of (newest bodies))
      proposed =
          let has = is_made bodies (a_proposal site2 view2 lower n v) making in
          let rule : MadeProposal s site2 view2 lower n v (newest bodies) = made-proposal d s site2 view2 lower n v (newest bodies) history has in
          subst (λ x. Has (a_proposal x view2 lower n v) (made_of (newest bodies))) rule.site has

      by : base < n → (item : Item) × (Has item items × ((item.number.0 ≡ n) × IsAsHigh view2 lower item.view.0 item.local.0))
      by above =
          let covers : CoversLocal s local base items (newest bodies) = report-covers_local d s local r (newest bodies) history reported in
          let there : Covers items n view2 lower = covers.covers view2 lower n v proposed below above in
          (there.item, (there.among, (there.of_number, there.high)))
