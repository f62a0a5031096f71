-- What the parts of a server answer when views are asked for and entered, to reports and unions, and to what a server lacks,
-- keeps ranges.
use Rattle.std.proofs.Common.{◌≡◌, refl, sym, subst, inl, inr, ℕ, ◌+◌, ◌-◌, ◌^◌, ◌<◌, ◌≤◌, Bool, true, false, IsTrue, cond, nat_eq, nat_lt, nat_le, List, [], ◌∷◌, ◌++◌, arith}
use Rattle.std.specs.Prelude.{◌&&◌, ◌||◌, min, not, Option, Some, None, is_some, length}
use Rattle.std.specs.Option.{IfSome}
use Rattle.std.specs.List.{AllByRecursion as Each}
use Rattle.std.proofs.lemmas.Bool.{and_parts, ltb-true, ltb-false, leb-true, leb-false, le-leb, eqb-true}
use Rattle.std.proofs.lemmas.List.Elements.{All-from_recursion}
use Rattle.st_words.specs.declared.deployment.TheConstants.{WINDOW}
use Rattle.st_words.specs.declared.ids.ServerId.{ServerId}
use Rattle.st_words.specs.declared.statement.Item.{Item}
use Rattle.st_words.specs.declared.statement.Statement.{Statement}
use Rattle.st_words.specs.declared.statement.Statement.TheVariants.{LocalReport, GlobalReport}
use Rattle.st_words.specs.Ranges.{most_base, KeepsBounds, FitsStatement}
use Rattle.st_words.specs.Reading.{any_report}
use Rattle.st_seal.specs.declared.quorum.Signed.{Signed}
use Rattle.st_message.specs.declared.message.SiteWord.{SiteWord}
use Rattle.st_message.specs.declared.message.ReportBody.{ReportBody}
use Rattle.st_message.specs.declared.message.ViewWords.TheVariants as view_words
use Rattle.st_message.specs.declared.message.Message.TheVariants as messages
use Rattle.st_message.specs.declared.event.Scope.TheVariants as scopes
use Rattle.st_message.specs.declared.change.Change.{Change}
use Rattle.st_message.specs.declared.change.Change.TheVariants.{EnterLocal, EnterGlobal, Union}
use Rattle.st_message.specs.declared.step.Form.TheVariants as forms
use Rattle.st_message.specs.declared.step.Out.{Out}
use Rattle.st_message.specs.declared.step.Out.TheVariants.{Send}
use Rattle.st_wire.specs.Kind.{share_kinds, certificate_kinds}
use Rattle.st_wire.specs.Ranges.{KeepsCore, KeepsQuorum, FitsQuorum, FitsSite, first}
use Rattle.st_protocol.specs.Words.{Quorum, a_site_word, a_local_vc, a_global_vc, site_of, index_of}
use Rattle.st_protocol.specs.Keeping.{given}
use Rattle.st_protocol.specs.State.{Term, OfLocal, OfGlobal, same_term, report_of, union_of, Here, Sealing, Share, Vote, Asked, Held, Answers}
use Rattle.st_protocol.specs.Step.{idle, then, making, recording, keeping, putting, when, count_below, all_below, one_if, to_list, majority, quorum, servers, to_rep, to_site, not_site, other_view, not_rep, bound, seen, spent, complete, completes, completed, certifies}
use Rattle.st_protocol.specs.Views.{votes_for, has_voted, with_asked, asks_for, word_for, on_local_share, on_local_proof, on_global_share, on_global_vc, on_view_proof}
use Rattle.st_protocol.specs.Collecting.{not_present, reports_kept, with_report, add_report, view_in, base_in, most, union_items, union_as, union, check_bundle, union_to, on_union_share, union_site, on_union}
use Rattle.st_protocol.specs.Reconciling.{owed_proofs, owed_view, owed_local, answer}
use Rattle.st_protocol.specs.Duty.{reports_at}
use Rattle.st_ranges.specs.Ranges.{StatementInRange, QuorumInRange, SitesInRange, MessageInRange}
use Rattle.st_ranges.proofs.ChoiceLaws.{chosen, either_has, append_all, all_below_all}
use Rattle.st_ranges.proofs.RisingLaws.{each_weaker, each_both, ShareInRange, AtMostOne, Rises, rises_below, each_kept, as_many, completed_in_range}
use Rattle.st_ranges.proofs.StateLaws.{top_of, VoteInRange, AskedInRange, LoggedInRange, ReportAt, StateInRange}
use Rattle.st_ranges.proofs.MadeLaws.{IsOpen, same}
use Rattle.st_ranges.proofs.ReportLaws.{SignedInRange}
use Rattle.st_ranges.proofs.CourseLaws.{OutStands, StepInRange}
use Rattle.st_ranges.proofs.StepLaws.{at_view, idle_stands, then_stands, making_stands, keeping_stands, sending_stands, when_stands, AnswerInRange, decides_in_range, certifies_stands}
use Rattle.st_ranges.proofs.UnionLaws.{bundle_in_range, union_in_range}
use Rattle.st_ranges.proofs.PartLaws.{leaf_left}

-- ---- votes

-- the votes for one view, as shares
votes_in_range : (s : Statement) (view : ℕ) (votes : ℕ → Option Vote) → ((i : ℕ) → IfSome (votes i) VoteInRange) → (i : ℕ) → IfSome (votes_for s view votes i) ShareInRange
votes_in_range s view votes all i =
    chosen VoteInRange (λ (x : Option Share). IfSome x ShareInRange) (votes i) None (λ v. cond (nat_eq v.view view) (Some (record { statement = s; seal = v.seal })) None) (all i) tt
    (λ v h. either_has ShareInRange (nat_eq v.view view) (Some (record { statement = s; seal = v.seal })) None h tt)

-- a site that asks for the view gives its word, as its quorum is
asked_once : (G : Quorum → Type 0) (view : ℕ) (asked : ℕ → Option Asked) (s : ℕ) → IfSome (asked s) (λ a. G a.quorum) →
    AtMostOne (λ (x : SiteWord). x.site.0) (λ x. G x.quorum) s (word_for view asked s)
asked_once G view asked s h = by (asked s) h
  where
    by_same : (a : Asked) (b : Bool) → G a.quorum → AtMostOne (λ (x : SiteWord). x.site.0) (λ x. G x.quorum) s (cond b (a_site_word s a.quorum ∷ []) [])
    by_same a true g = (refl, g)
    by_same a false g = tt

    by : (x : Option Asked) → IfSome x (λ a. G a.quorum) →
        AtMostOne (λ (y : SiteWord). y.site.0) (λ y. G y.quorum) s (given x [] (λ a. cond (nat_eq a.view view) (a_site_word s a.quorum ∷ []) []))
    by None g = tt
    by (Some a) g = by_same a (nat_eq a.view view) g

-- and counts as one
asked_counts : (view : ℕ) (asked : ℕ → Option Asked) (s : ℕ) → length (word_for view asked s) ≡ cond (asks_for view (asked s)) 1 0
asked_counts view asked s = by (asked s)
  where
    by_same : (x : SiteWord) (b : Bool) → length (cond b (x ∷ []) []) ≡ cond b 1 0
    by_same x true = refl
    by_same x false = refl

    by : (x : Option Asked) → length {A = SiteWord} (given x [] (λ a. cond (nat_eq a.view view) (a_site_word s a.quorum ∷ []) [])) ≡ cond (asks_for view x) 1 0
    by None = refl
    by (Some a) = by_same (a_site_word s a.quorum) (nat_eq a.view view)

-- part of what holds of a site's quorum
asked_part : (Q : Quorum → Type 0) → ((q : Quorum) → QuorumInRange q → Q q) → (x : Option Asked) → IfSome x AskedInRange → IfSome x (λ a. Q a.quorum)
asked_part Q give None h = tt
asked_part Q give (Some a) h = give a.quorum h

-- the words of a majority of sites that ask for the view
asked_sites : (here : Here) (view : ℕ) (asked : ℕ → Option Asked) → here.seat.sites < 2 ^ 8 → ((s : ℕ) → IfSome (asked s) AskedInRange) →
    nat_le (majority here) (count_below (λ s. asks_for view (asked s)) here.seat.sites) ≡ true → SitesInRange (all_below (word_for view asked) here.seat.sites)
asked_sites here view asked few all done =
    let sites : List SiteWord = all_below (word_for view asked) here.seat.sites in
    let keeps : Rises (λ (x : SiteWord). x.site.0) (λ x. KeepsQuorum x.quorum) here.seat.sites sites =
    rises_below (λ (x : SiteWord). x.site.0) (λ x. KeepsQuorum x.quorum) (word_for view asked) here.seat.sites
    (λ s. asked_once KeepsQuorum view asked s (asked_part KeepsQuorum (λ q h. h.0) (asked s) (all s)))
    in
    let fits : Rises (λ (x : SiteWord). x.site.0) (λ x. FitsQuorum x.quorum) here.seat.sites sites =
    rises_below (λ (x : SiteWord). x.site.0) (λ x. FitsQuorum x.quorum) (word_for view asked) here.seat.sites
    (λ s. asked_once FitsQuorum view asked s (asked_part FitsQuorum (λ q h. h.1) (asked s) (all s)))
    in
    let size : length sites ≡ count_below (λ s. asks_for view (asked s)) here.seat.sites =
    as_many (word_for view asked) (λ s. asks_for view (asked s)) (asked_counts view asked) here.seat.sites
    in
    let enough : majority here ≤ count_below (λ s. asks_for view (asked s)) here.seat.sites = leb-true (majority here) (count_below (λ s. asks_for view (asked s)) here.seat.sites) done in
    let quorums : Each (λ (x : SiteWord). FitsQuorum x.quorum) sites = each_kept (λ (x : SiteWord). x.site.0) (λ x. FitsQuorum x.quorum) first sites fits.keeps in
    let below : Each (λ (x : SiteWord). x.site.0 < 2 ^ 8) sites =
    each_weaker (λ (x : SiteWord). x.site.0 < here.seat.sites) (λ x. x.site.0 < 2 ^ 8) (λ x less. omega (arith, less, few)) sites keeps.below
    in (
      ((omega (arith, size, enough), omega (arith, keeps.short, few)), keeps.keeps),
      All-from_recursion FitsSite sites (each_both (λ (x : SiteWord). x.site.0 < 2 ^ 8) (λ x. FitsQuorum x.quorum) sites below quorums),
    )

-- ---- reports

-- a report is of a term
report_term : (s : Statement) → KeepsBounds any_report s → IsTrue (is_some (report_of s))
report_term (LocalReport site local index view base items) h = refl
report_term (GlobalReport site view index base items) h = refl
report_term _ h = absurd h

-- a term is the same as itself
term_same : (t : Term) → same_term t t ≡ true
term_same (OfLocal l) = same l
term_same (OfGlobal g) = same g

module _ (state : Answers) (inside : StateInRange (top_of state.here) state) where
  -- a leaf is left
  leaf_small : state.here.leaf < state.here.seat.capacity → state.here.leaf < 2 ^ 32
  leaf_small left = let most : state.here.seat.capacity < 2 ^ 32 = inside.here.seat.capacity in omega (arith, left, most)

  -- where one is wanted
  leaf_wanted : nat_lt state.here.seat.capacity (state.here.leaf + 1) ≡ false → state.here.leaf < 2 ^ 32
  leaf_wanted e = let least : state.here.leaf + 1 ≤ state.here.seat.capacity = ltb-false state.here.seat.capacity (state.here.leaf + 1) e in leaf_small (omega (arith, least))

  -- ---- views

  -- a share that asks for a local view
  pub local_share_answer : (site local : ℕ) (signed : Signed) → StatementInRange (a_local_vc site local) → SignedInRange signed →
      AnswerInRange (top_of state.here) state (on_local_share state.here state.votes site local signed)
  local_share_answer site local signed h seal =
      let statement : Statement = a_local_vc site local in
      let shares : (ℕ → Option Share) = votes_for statement local state.votes.local in
      let done : Bool = completes state.here shares statement signed in
      let entering : Change = EnterLocal (record { 0 = local }) (completed state.here shares statement signed) in
      decides_in_range (top_of state.here) state
      (not_site state.here site
      ∷ other_view state.here (nat_le local state.here.local)
      ∷ bound local
      ∷ seen (has_voted local (state.votes.local signed.index) || complete state.here shares)
      ∷ spent state.here (one_if done)
      ∷ [])
      (then (keeping (messages.Share statement signed)) (when done (recording entering)))
      (λ free. by done refl (leb-false local state.here.local free.1.0) free.1.1.1.1.0)
    where
      statement : Statement
      statement = a_local_vc site local

      shares : ℕ → Option Share
      shares = votes_for statement local state.votes.local

      entering : Change
      entering = EnterLocal (record { 0 = local }) (completed state.here shares statement signed)

      by : (b : Bool) → completes state.here shares statement signed ≡ b → state.here.local < local →
          nat_lt state.here.seat.capacity (state.here.leaf + one_if (completes state.here shares statement signed)) ≡ false →
          StepInRange (top_of state.here) state (then (keeping (messages.Share statement signed)) (cond b (recording entering) idle))
      by true e above left =
          inr
          (inr
          (inr
          (record {
            change = entering;
            only = refl;
            enters = above;
            inside = (
              h.1.1,
              completed_in_range state.here shares statement signed inside.here.seat.servers (votes_in_range statement local state.votes.local inside.votes.local) seal.0.1 e,
            );
            leaf = leaf_small (leaf_left state.here.leaf state.here.seat.capacity (completes state.here shares statement signed) e left);
            heard = (((((refl, h.0), seal.0), (h.1, seal.1)), tt), tt);
            none = refl;
          })))
      by false e above left =
          inl
          (then_stands (top_of state.here) state (keeping (messages.Share statement signed)) idle
          (keeping_stands (top_of state.here) state (messages.Share statement signed) (((refl, h.0), seal.0), (h.1, seal.1)) tt) (idle_stands (top_of state.here) state))

  -- a quorum that asks for a local view
  pub local_proof_answer : (site local : ℕ) (q : Quorum) → StatementInRange (a_local_vc site local) → QuorumInRange q →
      AnswerInRange (top_of state.here) state (on_local_proof state.here site local q)
  local_proof_answer site local q h quorums =
      decides_in_range (top_of state.here) state (not_site state.here site ∷ other_view state.here (nat_le local state.here.local) ∷ bound local ∷ spent state.here 1 ∷ [])
      (recording (EnterLocal (record { 0 = local }) q))
      (λ free.
      inr
      (inr
      (inr
      (record {
        change = EnterLocal (record { 0 = local }) q;
        only = refl;
        enters = leb-false local state.here.local free.1.0;
        inside = (h.1.1, quorums);
        leaf = leaf_wanted free.1.1.1.0;
        heard = tt;
        none = refl;
      }))))

  -- a share that asks for a view
  pub global_share_answer : (site view : ℕ) (signed : Signed) → StatementInRange (a_global_vc site view) → SignedInRange signed →
      AnswerInRange (top_of state.here) state (on_global_share state.here state.votes site view signed)
  global_share_answer site view signed h seal =
      let statement : Statement = a_global_vc site view in
      let shares : (ℕ → Option Share) = votes_for statement view state.votes.global in
      decides_in_range (top_of state.here) state
      (not_site state.here site
      ∷ other_view state.here (nat_le view state.here.view)
      ∷ not_rep state.here
      ∷ bound view
      ∷ seen (has_voted view (state.votes.global signed.index) || complete state.here shares)
      ∷ [])
      (certifies state.here shares statement signed scopes.All)
      (λ free.
      inl
      (certifies_stands (top_of state.here) state shares statement signed scopes.All inside.here.seat.servers
      (votes_in_range statement view state.votes.global inside.votes.global) (refl, h.0) (refl, h.0) h.1 seal))

  -- a site's certificate that asks for a view
  pub global_vc_answer : (site view : ℕ) (q : Quorum) → StatementInRange (a_global_vc site view) → QuorumInRange q →
      AnswerInRange (top_of state.here) state (on_global_vc state.here state.votes site view q)
  global_vc_answer site view q h quorums =
      let asked : (ℕ → Option Asked) = with_asked state.votes.asked site view q in
      let done : Bool = nat_le (majority state.here) (count_below (λ s. asks_for view (asked s)) state.here.seat.sites) in
      let entering : Change = EnterGlobal (record { 0 = view }) (all_below (word_for view asked) state.here.seat.sites) in
      decides_in_range (top_of state.here) state
      (other_view state.here (nat_le view state.here.view)
      ∷ bound view
      ∷ seen (given (state.votes.asked site) false (λ a. nat_le view a.view))
      ∷ spent state.here (one_if done)
      ∷ [])
      (then (keeping (messages.Certificate (a_global_vc site view) q)) (when done (recording entering)))
      (λ free. by done refl (leb-false view state.here.view free.0) free.1.1.1.0)
    where
      asked : ℕ → Option Asked
      asked = with_asked state.votes.asked site view q

      all : (s : ℕ) → IfSome (asked s) AskedInRange
      all s = either_has AskedInRange (nat_eq site s) (Some (record { view = view; quorum = q })) (state.votes.asked s) quorums (inside.votes.asked s)

      entering : Change
      entering = EnterGlobal (record { 0 = view }) (all_below (word_for view asked) state.here.seat.sites)

      by : (b : Bool) → nat_le (majority state.here) (count_below (λ s. asks_for view (asked s)) state.here.seat.sites) ≡ b → state.here.view < view →
          nat_lt state.here.seat.capacity (state.here.leaf + one_if (nat_le (majority state.here) (count_below (λ s. asks_for view (asked s)) state.here.seat.sites))) ≡ false →
          StepInRange (top_of state.here) state (then (keeping (messages.Certificate (a_global_vc site view) q)) (cond b (recording entering) idle))
      by true e above left =
          inr
          (inr
          (inr
          (record {
            change = entering;
            only = refl;
            enters = above;
            inside = (h.1.1, asked_sites state.here view asked inside.here.seat.sites all e);
            leaf =
                leaf_small
                (leaf_left state.here.leaf state.here.seat.capacity (nat_le (majority state.here) (count_below (λ s. asks_for view (asked s)) state.here.seat.sites)) e left);
            heard = (((((refl, h.0), quorums.0), (h.1, quorums.1)), tt), tt);
            none = refl;
          })))
      by false e above left =
          inl
          (then_stands (top_of state.here) state (keeping (messages.Certificate (a_global_vc site view) q)) idle
          (keeping_stands (top_of state.here) state (messages.Certificate (a_global_vc site view) q) (((refl, h.0), quorums.0), (h.1, quorums.1)) tt)
          (idle_stands (top_of state.here) state))

  -- words of sites that ask for a view
  pub view_proof_answer : (view : ℕ) (sites : List SiteWord) → view < 2 ^ 32 → SitesInRange sites → AnswerInRange (top_of state.here) state (on_view_proof state.here view sites)
  view_proof_answer view sites few h =
      decides_in_range (top_of state.here) state (other_view state.here (nat_le view state.here.view) ∷ bound view ∷ spent state.here 1 ∷ []) (recording (EnterGlobal (record { 0 = view }) sites))
      (λ free.
      inr
      (inr
      (inr
      (record {
        change = EnterGlobal (record { 0 = view }) sites;
        only = refl;
        enters = leb-false view state.here.view free.0;
        inside = (few, h);
        leaf = leaf_wanted free.1.1.0;
        heard = tt;
        none = refl;
      }))))

  -- ---- reports

  -- a report of this term
  report_at_term : (t : Term) (r : ReportBody) → report_of r.statement ≡ Some t → MessageInRange (messages.Report r) →
      AnswerInRange (top_of state.here) state (add_report state.here (state.reports t) r)
  report_at_term t r is h =
      let kept : (ℕ → Option ReportBody) = state.reports t in
      let bundle : Out = Send (messages.Bundle (all_below (λ i. to_list (with_report kept r i)) (servers state.here))) (to_site state.here) in
      let enough : Bool = nat_le (quorum state.here) (reports_kept state.here (with_report kept r)) in
      decides_in_range (top_of state.here) state
      (not_site state.here (site_of r.statement)
      ∷ other_view state.here (not_present state.here (report_of r.statement))
      ∷ not_rep state.here
      ∷ seen (is_some (kept (index_of r.statement)) || nat_le (quorum state.here) (reports_kept state.here kept))
      ∷ [])
      (then (keeping (messages.Report r)) (when enough (putting bundle)))
      (λ free.
      let home : site_of r.statement ≡ state.here.seat.site = at_view (site_of r.statement) state.here.seat.site free.0 in
      inl
      (then_stands (top_of state.here) state (keeping (messages.Report r)) (when enough (putting bundle)) (keeping_stands (top_of state.here) state (messages.Report r) h home)
      (when_stands (top_of state.here) state enough (putting bundle)
      (λ e.
      sending_stands (top_of state.here) state (messages.Bundle (all_below (λ i. to_list (with_report kept r i)) (servers state.here))) (to_site state.here)
      (bundle_in_range (top_of state.here) t state.here (with_report kept r) inside.here.seat.servers (λ i. one i home (nat_eq (index_of r.statement) i) refl) e)))))
    where
      one : (i : ℕ) → site_of r.statement ≡ state.here.seat.site → (b : Bool) → nat_eq (index_of r.statement) i ≡ b →
          IfSome (cond b (Some r) (state.reports t i)) (ReportAt (top_of state.here) t i)
      one i home true e = (h, home, subst (λ (x : Option Term). given x false (same_term t) ≡ true) (sym is) (term_same t), eqb-true (index_of r.statement) i e)
      one i home false e = inside.reports t i

  -- a report
  pub report_answer : (r : ReportBody) → MessageInRange (messages.Report r) → AnswerInRange (top_of state.here) state (add_report state.here (reports_at state (report_of r.statement)) r)
  report_answer r h = by (report_of r.statement) refl (report_term r.statement h.0.0)
    where
      by : (x : Option Term) → report_of r.statement ≡ x → IsTrue (is_some x) → AnswerInRange (top_of state.here) state (add_report state.here (reports_at state x) r)
      by None is e = absurd (let no : false ≡ true = e in cc)
      by (Some t) is e = report_at_term t r is h

  -- ---- unions

  -- a union of a present view may stand in a share, and its place is open
  union_open : (s : Statement) (greatest least : ℕ) (more : List Item) → KeepsBounds any_report s → not_present state.here (report_of s) ≡ false →
      StatementInRange (union_as s greatest least more) → KeepsCore share_kinds (union_as s greatest least more) × IsOpen state.here (union_as s greatest least more)
  union_open (LocalReport site local index view base items) greatest least more bounds present h =
      let is : local.0 ≡ state.here.local = at_view local.0 state.here.local present in
      ((refl, h.0), le-leb state.here.local local.0 (omega (arith, is)))
  union_open (GlobalReport site view index base items) greatest least more bounds present h =
      let is : view.0 ≡ state.here.view = at_view view.0 state.here.view present in
      ((refl, h.0), le-leb state.here.view view.0 (omega (arith, is)))
  union_open _ greatest least more bounds present h = absurd bounds

  -- a bundle
  pub bundle_answer : (made : Option Sealing) (r : ReportBody) (rs : List ReportBody) → MessageInRange (messages.Bundle (r ∷ rs)) →
      AnswerInRange (top_of state.here) state (check_bundle state.here made (r ∷ rs))
  unfolding union
  bundle_answer made r rs h =
      let s : StatementInRange (union (r ∷ rs)) = union_in_range r rs h in
      decides_in_range (top_of state.here) state
      (not_site state.here (site_of r.statement) ∷ other_view state.here (not_present state.here (report_of r.statement)) ∷ seen (is_some made) ∷ spent state.here 1 ∷ [])
      (making state.here.leaf (union (r ∷ rs)) forms.Share (to_rep state.here))
      (λ free.
      let may = union_open r.statement (most view_in (r ∷ rs)) (most base_in (r ∷ rs)) (union_items (r ∷ rs)) h.0.1.0.0 free.1.0 s in
      inl
      (making_stands (top_of state.here) state state.here.leaf (union (r ∷ rs)) forms.Share (to_rep state.here) (leaf_wanted free.1.1.1.0) (s, λ signed g. ((may.0, g.0), (s.1, g.1))) may.1))

  -- a share of a union
  pub union_share_answer : (t : Term) (s : Statement) (signed : Signed) → KeepsCore share_kinds s → KeepsCore certificate_kinds s → FitsStatement s → SignedInRange signed →
      AnswerInRange (top_of state.here) state (on_union_share state.here (state.votes.unions t) s signed)
  union_share_answer t s signed share certificate fits seal =
      decides_in_range (top_of state.here) state
      (not_site state.here (site_of s)
      ∷ other_view state.here (not_present state.here (union_of s))
      ∷ not_rep state.here
      ∷ seen (is_some (state.votes.unions t signed.index) || complete state.here (state.votes.unions t))
      ∷ [])
      (certifies state.here (state.votes.unions t) s signed (union_to state.here s))
      (λ free.
      inl
      (certifies_stands (top_of state.here) state (state.votes.unions t) s signed (union_to state.here s) inside.here.seat.servers (inside.votes.unions t) share certificate fits seal))

  -- a union's certificate
  pub union_answer : (held : Option Held) (s : Statement) (q : Quorum) → StepInRange (top_of state.here) state (recording (Union s q)) →
      AnswerInRange (top_of state.here) state (on_union state.here held s q)
  union_answer held s q h =
      decides_in_range (top_of state.here) state
      (not_site state.here (union_site state.here s) ∷ other_view state.here (not_present state.here (union_of s)) ∷ seen (is_some held) ∷ []) (recording (Union s q)) (λ free. h)

  -- ---- what a server lacks

  module _ (few : state.here.executed ≤ most_base) where
    -- the order proofs
    owed_proofs_in_range : (to : ServerId) (executed : ℕ) → Each (OutStands state []) (owed_proofs state.here state.log.proof to executed)
    owed_proofs_in_range to executed =
        all_below_all (OutStands state [])
        (λ k. given (state.log.proof (executed + 1 + k)) [] (λ p. Send (messages.OrderProof (record { 0 = executed + 1 + k }) p) (scopes.One to) ∷ []))
        (min state.here.executed (executed + WINDOW) - executed)
        (λ k.
        chosen (LoggedInRange state.here (executed + 1 + k)) (Each (OutStands state [])) (state.log.proof (executed + 1 + k)) []
        (λ p. Send (messages.OrderProof (record { 0 = executed + 1 + k }) p) (scopes.One to) ∷ []) (inside.logged (executed + 1 + k)) tt
        (λ p g. let most_number : executed + 1 + k ≤ state.here.executed = g.2 in ((((g.1, g.0.0), (omega (arith, most_number, few), g.0.1)), tt), tt)))

    -- why the present view was entered
    owed_view_in_range : (to : ServerId) (view : ℕ) → Each (OutStands state []) (owed_view state.here state.words to view)
    owed_view_in_range to view = by (nat_lt view state.here.view) refl
      where
        by : (b : Bool) → nat_lt view state.here.view ≡ b →
            Each (OutStands state [])
            (cond b (given state.words.view [] (λ sites. Send (messages.ViewProof (view_words.Global (record { 0 = state.here.view }) sites)) (scopes.One to) ∷ [])) [])
        by true e =
            let below : view < state.here.view = ltb-true view state.here.view e in
            chosen SitesInRange (Each (OutStands state [])) state.words.view []
            (λ sites. Send (messages.ViewProof (view_words.Global (record { 0 = state.here.view }) sites)) (scopes.One to) ∷ []) inside.words.view tt
            (λ sites g. ((((omega (arith, below), g.0), (inside.here.view, g.1)), tt), tt))
        by false e = tt

    -- why the present local view was entered
    owed_local_in_range : (to : ServerId) (local : ℕ) → Each (OutStands state []) (owed_local state.here state.words to local)
    owed_local_in_range to local = by (nat_eq to.site state.here.seat.site && nat_lt local state.here.local) refl
      where
        by : (b : Bool) → (nat_eq to.site state.here.seat.site && nat_lt local state.here.local) ≡ b →
            Each (OutStands state [])
            (cond b
            (given state.words.local [] (λ q. Send (messages.ViewProof (view_words.Local (a_local_vc state.here.seat.site state.here.local) q)) (scopes.One to) ∷ [])) [])
        by true e =
            let below : local < state.here.local = ltb-true local state.here.local (and_parts (nat_eq to.site state.here.seat.site) (nat_lt local state.here.local) e).1 in
            chosen QuorumInRange (Each (OutStands state [])) state.words.local []
            (λ q. Send (messages.ViewProof (view_words.Local (a_local_vc state.here.seat.site state.here.local) q)) (scopes.One to) ∷ []) inside.words.local tt
            (λ q g. (((((refl, omega (arith, below)), g.0), ((inside.here.seat.site, inside.here.local), g.1)), tt), tt))
        by false e = tt

    -- what the asker lacks
    pub ask_answer : (to : ServerId) (executed view local : ℕ) → AnswerInRange (top_of state.here) state (answer state.here state.log.proof state.words to executed view local)
    ask_answer to executed view local =
        let proofs : List Out = owed_proofs state.here state.log.proof to executed in
        decides_in_range (top_of state.here) state
        (seen (nat_le state.here.executed executed && nat_le state.here.view view && not (nat_eq to.site state.here.seat.site && nat_lt local state.here.local)) ∷ [])
        (record { changes = []; heard = []; out = proofs ++ owed_view state.here state.words to view ++ owed_local state.here state.words to local })
        (λ free.
        inl
        (record {
          changes = tt;
          heard = tt;
          out =
              append_all (OutStands state []) (proofs ++ owed_view state.here state.words to view) (owed_local state.here state.words to local)
              (append_all (OutStands state []) proofs (owed_view state.here state.words to view) (owed_proofs_in_range to executed) (owed_view_in_range to view))
              (owed_local_in_range to local);
        }))
