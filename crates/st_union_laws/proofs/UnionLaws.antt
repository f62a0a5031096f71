-- In the world of lines in range each union that a correct server made, that stands or that is held is one of a quorum of
-- reports, and enough correct servers have handed out theirs.
use Rattle.std.proofs.Common.{◌≡◌, ℕ, ◌<◌, true, false, nat_eq, List, [], map, sym, ◌∙◌, ap, subst, inl, arith}
use Rattle.std.proofs.lemmas.Bool.{eq-eqb, and_from}
use Rattle.std.proofs.lemmas.List.{length-map}
use Rattle.std.specs.Prelude.{◌&&◌, Some, IsTrue}
use Rattle.std.specs.List.{AllByRecursion as Each}
use Rattle.st_words.specs.declared.statement.Statement.{Statement}
use Rattle.st_words.specs.declared.statement.Statement.TheVariants.{LocalUnion, GlobalUnion}
use Rattle.st_message.specs.declared.change.Change.TheVariants.{Union}
use Rattle.st_message.specs.declared.message.ReportBody.{ReportBody}
use Rattle.st_schedule.specs.declared.line.Line.{Line}
use Rattle.st_counts.specs.Counts.{Has, AllBut, numbers_below}
use Rattle.st_counts.proofs.MemberLaws.{length-numbers_below, any-from, map-has, has-numbers_below}
use Rattle.st_counts.proofs.QuorumLaws.{quorum-stands}
use Rattle.st_agreement.specs.MiniSteps.{BackedUnion, HasMaker}
use Rattle.st_agreement.specs.Worlds.{stands}
use Rattle.st_agreement.proofs.WorldLaws.{Maker, maker}
use Rattle.st_protocol.specs.Words.{Quorum, server_at, site_of, index_of, same_statement}
use Rattle.st_protocol.specs.Keeping.{joined}
use Rattle.st_protocol.specs.State.{Term, union_of}
use Rattle.st_protocol.specs.World.{Deployment, World, empty, servers_of, is_correct, has_made}
use Rattle.st_protocol.specs.Schedule.{steps}
use Rattle.st_protocol.proofs.SameLaws.{same_statement-Decides}
use Rattle.st_ranges.specs.Ranges.{MessageInRange}
use Rattle.st_ranges.specs.Deployments.{DeploymentInRange, LineInRange}
use Rattle.st_frame_laws.proofs.ChoiceLaws.{each_has}
use Rattle.st_honest_laws.specs.Honest.{SealsAreRead}
use Rattle.st_answer_laws.specs.Plain.{sites_in, plain_of}
use Rattle.st_answer_laws.specs.Fair.{HasFewFaulty}
use Rattle.st_answer_laws.proofs.ForcedLaws.{some-is}
use Rattle.st_answer_laws.proofs.RecordLaws.{has-onto}
use Rattle.st_log_laws.proofs.AgreeLaws.{sites, invariant}
use Rattle.st_union_laws.specs.Unions.{HasRecorded, has_reported, IsReportOf, AreReports, IsOfReports}
use Rattle.st_union_laws.proofs.CoverLaws.{are_making}
use Rattle.st_union_laws.proofs.RecordedLaws.{exists, correct}
use Rattle.st_union_laws.proofs.ReadReports.{IsReported, AreBehind}
use Rattle.st_union_laws.proofs.UnionParts.{IsUnited}
use Rattle.st_union_laws.proofs.UnionWorlds.{is_united}

module _ {Wire : Type 0} (d : Deployment Wire) (h : DeploymentInRange d) (formats : SealsAreRead d MessageInRange) (all : List Line) (l : Each (LineInRange d) all) where
  -- the world of these lines
  abbrev last : World Wire
  last = steps d empty all

  -- of 2f+1 reports enough are of correct servers, which have handed them out
  enough : (s : ℕ) (term : Term) (rs : List ReportBody) → AreReports d s term rs → Each (IsReported d last.made s) rs → AllBut d.f ((sites_in d).correct s) (has_reported last.made s rs)
  enough s term rs are reported =
      quorum-stands d.f (is_correct d s) (has_reported last.made s rs) (numbers_below (servers_of d)) (map (λ (r : ReportBody). index_of r.statement) rs) are.distinct
      (λ k has.
      let one = map-has (λ (r : ReportBody). index_of r.statement) k rs has in
      has-numbers_below k (servers_of d) (subst (λ x. x < servers_of d) one.1.1 (each_has (IsReportOf d s term) rs one.0 are.each one.1.0).of_server))
      (omega (arith, are.many, length-numbers_below (servers_of d), length-map rs (λ (r : ReportBody). index_of r.statement)))
      (λ k has correct.
      let one = map-has (λ (r : ReportBody). index_of r.statement) k rs has in
      let r : ReportBody = one.0 in
      let made : has_made last.made (server_at s (index_of r.statement)) r.statement ≡ true =
      each_has (IsReported d last.made s) rs r reported one.1.0 (subst (λ x. is_correct d s x ≡ true) (sym one.1.1) correct) in
      any-from (λ (x : ReportBody). nat_eq (index_of x.statement) k && has_made last.made (server_at s k) x.statement) r rs one.1.0
      (and_from (nat_eq (index_of r.statement) k) (has_made last.made (server_at s k) r.statement) (eq-eqb (index_of r.statement) k one.1.1)
      (subst (λ x. has_made last.made (server_at s x) r.statement ≡ true) one.1.1 made)))

  -- A union that a server made.
  pub made_of_reports : (s i : ℕ) (term : Term) (t : Statement) → HasRecorded last s i t → union_of t ≡ Some term → IsOfReports d last.made s term t
  made_of_reports s i term t made of = by (is_united d h formats all l s i t term made of)
    where
      by : IsUnited (AreBehind d last.made) s t → IsOfReports d last.made s term t
      by u =
          let b : AreBehind d last.made s u.0 = u.1.0 in
          let same : b.term ≡ term = some-is b.term term (sym b.unites ∙ (ap union_of (sym u.1.1) ∙ of)) in
          let are : AreReports d s term u.0 = subst (λ x. AreReports d s x u.0) same b.are in
          record { reports = u.0; are = are; unites = u.1.1; handed = enough s term u.0 are b.reported }

  module _ (few : HasFewFaulty d) where
    -- A union that stands at a site.
    pub standing_of_reports : (s : ℕ) (term : Term) (t : Statement) → s < d.sites → IsTrue (stands (sites_in d) (plain_of d last) s (λ x. same_statement x t)) → union_of t ≡ Some term →
        IsOfReports d last.made s term t
    standing_of_reports s term t exists stand of =
        let m : Maker (sites_in d) (plain_of d last) s (λ x. same_statement x t) = maker (sites_in d) (plain_of d last) s (λ x. same_statement x t) (sites d few h formats all l) exists stand in
        let same : m.statement ≡ t = (same_statement-Decides m.statement t).0 m.passes in
        let recorded = (invariant d few h formats all l).recorded s m.server exists m.correct m.statement m.made in
        made_of_reports s m.server term t (subst (λ x. HasRecorded last s m.server x) same (are_making (last.nodes s m.server).bodies m.statement recorded)) of

    -- A union that a correct server holds.
    pub held_of_reports : (s i : ℕ) (term : Term) (t : Statement) (q : Quorum) → d.faulty s i ≡ false → Has (Union t q) (joined (last.nodes s i).bodies) → union_of t ≡ Some term →
        IsOfReports d last.made (site_of t) term t
    held_of_reports s i term t q runs held of =
        by t ((invariant d few h formats all l).backed s i (exists d few h formats all l s i runs) (correct d few h formats all l s i runs) (Union t q) (has-onto (Union t q) (joined (last.nodes s i).bodies) [] (inl held))) of
      where
        from_maker : (x : Statement) → HasMaker (sites_in d) (plain_of d last) (site_of x) x → union_of x ≡ Some term → IsOfReports d last.made (site_of x) term x
        from_maker x m e = made_of_reports (site_of x) m.server term x (are_making (last.nodes (site_of x) m.server).bodies x m.recorded) e

        by : (x : Statement) → BackedUnion (sites_in d) (plain_of d last) x → union_of x ≡ Some term → IsOfReports d last.made (site_of x) term x
        by (LocalUnion site local greatest base items) m e = from_maker (LocalUnion site local greatest base items) m e
        by (GlobalUnion site view base items) m e = from_maker (GlobalUnion site view base items) m e
        by _ m e = absurd m
