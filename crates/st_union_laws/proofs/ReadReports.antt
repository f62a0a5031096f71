-- A bundle that a server reads is of 2f+1 reports of one kind, site and view, of distinct servers, each with a seal that
-- checks; and of these the correct servers have handed out theirs.
use Rattle.std.proofs.Common.{◌≡◌, ℕ, ◌+◌, ◌*◌, ◌≤◌, Bool, true, false, List, [], ◌∷◌, length, refl, sym, ap, subst}
use Rattle.std.specs.Prelude.{Option, Some}
use Rattle.std.specs.List.{AllByRecursion as Each}
use Rattle.st_fields.specs.Spelling.{KeepsEach}
use Rattle.st_words.specs.declared.limits.ReportBounds.{ReportBounds}
use Rattle.st_words.specs.declared.statement.Statement.{Statement}
use Rattle.st_words.specs.declared.statement.Statement.TheVariants.{LocalReport, GlobalReport}
use Rattle.st_words.specs.Ranges.{KeepsBounds, after_report}
use Rattle.st_message.specs.declared.made.MadeSeal.{MadeSeal}
use Rattle.st_message.specs.declared.message.Proof.{Proof}
use Rattle.st_message.specs.declared.message.ReportBody.{ReportBody}
use Rattle.st_message.specs.declared.message.Message.{Message}
use Rattle.st_message.specs.declared.message.Message.TheVariants as messages
use Rattle.st_wire.specs.declared.report.Bundled.{Bundled}
use Rattle.st_wire.specs.Ranges.{KeepsReport, any_body, after_body}
use Rattle.st_protocol.specs.Words.{Bytes, Quorum, server_at, site_of, index_of}
use Rattle.st_protocol.specs.State.{Term, OfLocal, OfGlobal, union_of}
use Rattle.st_protocol.specs.Collecting.{union}
use Rattle.st_frame_laws.specs.Exact.{ReportIsExact, MessageIsExact}
use Rattle.st_protocol.specs.World.{Deployment, has_made}
use Rattle.st_protocol.specs.Schedule.{is_correct_who}
use Rattle.st_ranges.specs.Ranges.{MessageInRange}
use Rattle.st_honest_laws.specs.Honest.{IsHonest}
use Rattle.st_honest_laws.proofs.SealFacts.{ReportHas, MessageHas, seals_message}
use Rattle.st_answer_laws.proofs.BundledLaws.{body, AtLocal, AtGlobal, Narrow, at-local, at-global, narrow-local, narrow-global, servers-distinct}
use Rattle.st_log_laws.proofs.CheckedLaws.{Holds, IsChecked}
use Rattle.st_union_laws.specs.Unions.{IsReportOf, AreReports}
use Rattle.st_union_laws.proofs.UnionParts.{Brings}

module _ {Wire : Type 0} (d : Deployment Wire) (final : List MadeSeal) where
  -- a correct server has handed out its report
  abbrev pub IsReported : ℕ → ReportBody → Type 0
  IsReported site r = is_correct_who d (server_at site (index_of r.statement)) ≡ true → has_made final (server_at site (index_of r.statement)) r.statement ≡ true

  -- Reports as they stand behind a union of a site.
  pub record AreBehind (site : ℕ) (reports : List ReportBody) : Type 0 where
    pub term : Term
    pub are : AreReports d site term reports
    pub unites : union_of (union reports) ≡ Some term
    pub reported : Each (IsReported site) reports

  -- all seals of a report check, and are honest
  abbrev Checked : ReportBody → Type 0
  Checked r = ReportHas (Holds d) d.sites r × ReportHas (IsHonest d final) d.sites r

  -- one report of a site and a term
  abbrev IsOne : ℕ → Term → ReportBody → Type 0
  IsOne s term r = IsReportOf d s term r × IsReported s r

  -- a report of a local view, as it is read,
  local_one : (s l : ℕ) (t : Statement) (seal : Bytes) (qs : List Quorum) (base : Option Proof) → AtLocal s l t → ReportIsExact d (body t seal qs base) → Checked (body t seal qs base) →
      IsOne s (OfLocal l) (body t seal qs base)
  local_one s l (LocalReport site local index view low items) seal qs base at exact h =
      let t : Statement = LocalReport site local index view low items in (
        record {
          of_term = ap (λ x. Some (OfLocal x)) at.1;
          of_site = at.0;
          of_server = exact.0.0.0.1;
          checks = subst (λ x. d.formats.holds (server_at x index) t seal ≡ true) at.0 h.0.0;
        },
        λ correct. subst (λ x. has_made final (server_at x index) t ≡ true) at.0 (h.1.0 (subst (λ x. is_correct_who d (server_at x index) ≡ true) (sym at.0) correct) h.0.0),
      )
  local_one s l _ seal qs base at exact h = absurd at

  -- and one of a view
  global_one : (s g : ℕ) (t : Statement) (seal : Bytes) (qs : List Quorum) (base : Option Proof) → AtGlobal s g t → ReportIsExact d (body t seal qs base) → Checked (body t seal qs base) →
      IsOne s (OfGlobal g) (body t seal qs base)
  global_one s g (GlobalReport site view index low items) seal qs base at exact h =
      let t : Statement = GlobalReport site view index low items in (
        record {
          of_term = ap (λ x. Some (OfGlobal x)) at.1;
          of_site = at.0;
          of_server = exact.0.0.0.1;
          checks = subst (λ x. d.formats.holds (server_at x index) t seal ≡ true) at.0 h.0.0;
        },
        λ correct. subst (λ x. has_made final (server_at x index) t ≡ true) at.0 (h.1.0 (subst (λ x. is_correct_who d (server_at x index) ≡ true) (sym at.0) correct) h.0.0),
      )
  global_one s g _ seal qs base at exact h = absurd at

  -- ---- all of a list

  module _ (At : Statement → Type 0) (s x : ℕ) (term : Term) (other : ReportBounds → Bool)
      (at : (b : ReportBounds) (t : Statement) → other b ≡ false → Narrow s x b → KeepsBounds b t → At t)
      (narrow : (b : ReportBounds) (t : Statement) → At t → (other (after_report b t) ≡ false) × Narrow s x (after_report b t))
      (one : (r : ReportBody) → At r.statement → ReportIsExact d r → Checked r → IsOne s term r) where
    -- behind one of the kind, site and view all are so
    all_behind : (b : Bundled) (rs : List ReportBody) → other b.bounds ≡ false → Narrow s x b.bounds → KeepsEach KeepsReport after_body b rs → Each (ReportIsExact d) rs →
        Each (ReportHas (Holds d) d.sites) rs → Each (ReportHas (IsHonest d final) d.sites) rs → Each (IsReportOf d s term) rs × Each (IsReported s) rs
    all_behind b [] only n keeps exact holds honest = (tt, tt)
    all_behind b (r ∷ rs) only n keeps exact holds honest =
        let here : At r.statement = at b.bounds r.statement only n keeps.0.0 in
        let more = narrow b.bounds r.statement here in
        let first : IsOne s term r = one r here exact.0 (holds.0, honest.0) in
        let rest = all_behind (after_body b r) rs more.0 more.1 keeps.1 exact.1 holds.1 honest.1 in
        ((first.0, rest.0), (first.1, rest.1))

    -- and so is the first
    all_reports : (r : ReportBody) (rs : List ReportBody) → At r.statement → KeepsEach KeepsReport after_body any_body (r ∷ rs) → Each (ReportIsExact d) (r ∷ rs) →
        Each (ReportHas (Holds d) d.sites) (r ∷ rs) → Each (ReportHas (IsHonest d final) d.sites) (r ∷ rs) → Each (IsReportOf d s term) (r ∷ rs) × Each (IsReported s) (r ∷ rs)
    all_reports r rs here keeps exact holds honest =
        let more = narrow any_body.bounds r.statement here in
        let first : IsOne s term r = one r here exact.0 (holds.0, honest.0) in
        let rest = all_behind (after_body any_body r) rs more.0 more.1 keeps.1 exact.1 holds.1 honest.1 in
        ((first.0, rest.0), (first.1, rest.1))

  -- ---- a bundle

  -- the reports of a bundle are behind its union
  behind : (t : Statement) (seal : Bytes) (qs : List Quorum) (base : Option Proof) (rs : List ReportBody) → length (body t seal qs base ∷ rs) ≡ 2 * d.f + 1 →
      KeepsEach KeepsReport after_body any_body (body t seal qs base ∷ rs) → Each (ReportIsExact d) (body t seal qs base ∷ rs) →
      Each (ReportHas (Holds d) d.sites) (body t seal qs base ∷ rs) → Each (ReportHas (IsHonest d final) d.sites) (body t seal qs base ∷ rs) → AreBehind (site_of t) (body t seal qs base ∷ rs)
  unfolding union
  behind (LocalReport site local index view low items) seal qs base rs many keeps exact holds honest =
      let r : ReportBody = body (LocalReport site local index view low items) seal qs base in
      let some : 1 ≤ local.0 = keeps.0.1.0.0 in
      let all = all_reports (AtLocal site.0 local.0) site.0 local.0 (OfLocal local.0) (λ b. b.global) (at-local site.0 local.0) (λ b t at. narrow-local site.0 local.0 b t some at)
      (λ r at exact h. local_one site.0 local.0 r.statement r.seal r.quorums r.base at exact h) r rs (refl, refl) keeps exact holds honest in
      record {
        term = OfLocal local.0;
        are = record { many = many; distinct = servers-distinct any_body (r ∷ rs) keeps; each = all.0 };
        unites = refl;
        reported = all.1;
      }
  behind (GlobalReport site view index low items) seal qs base rs many keeps exact holds honest =
      let r : ReportBody = body (GlobalReport site view index low items) seal qs base in
      let some : 1 ≤ view.0 = keeps.0.1.0.0 in
      let all = all_reports (AtGlobal site.0 view.0) site.0 view.0 (OfGlobal view.0) (λ b. b.local) (at-global site.0 view.0) (λ b t at. narrow-global site.0 view.0 b t some at)
      (λ r at exact h. global_one site.0 view.0 r.statement r.seal r.quorums r.base at exact h) r rs (refl, refl) keeps exact holds honest in
      record {
        term = OfGlobal view.0;
        are = record { many = many; distinct = servers-distinct any_body (r ∷ rs) keeps; each = all.0 };
        unites = refl;
        reported = all.1;
      }
  behind _ seal qs base rs many keeps exact holds honest = absurd keeps.0.0

  -- A message that is read with all tests, and in range, and whose seals are honest.
  pub read_brings : (wire : Wire) (m : Message) → IsChecked d wire m → MessageInRange m → MessageHas (IsHonest d final) d.sites m → Brings AreBehind m
  read_brings wire m checked inside honest = by m (seals_message (Holds d) d.sites m checked.holds) checked.exact inside honest
    where
      by : (m : Message) → MessageHas (Holds d) d.sites m → MessageIsExact d m → MessageInRange m → MessageHas (IsHonest d final) d.sites m → Brings AreBehind m
      by (messages.Bundle (r ∷ rs)) h k i o =
          behind r.statement r.seal r.quorums r.base rs k.0 i.0.1 k.1 h o
      by _ h k i o = tt
