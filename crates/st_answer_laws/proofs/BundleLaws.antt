-- A bundle of reports whose seals are honest is one by the rules of the agreement proof, on a local view and on a view; so its union may be made.
use Rattle.std.proofs.Common.{◌≡◌, ℕ, ◌+◌, ◌*◌, ◌%◌, ◌<◌, ◌≤◌, ◌==◌, Bool, List, [], ◌∷◌, ◌++◌, length, map, sym, subst, inl, inr, arith}
use Rattle.std.specs.Prelude.{max, IsTrue}
use Rattle.std.specs.List.{AllByRecursion as Each, list_any}
use Rattle.std.proofs.lemmas.Bool.{eq-eqb}
use Rattle.std.proofs.lemmas.List.{length-map}
use Rattle.st_words.specs.declared.statement.Item.{Item}
use Rattle.st_words.specs.declared.statement.Statement.{Statement}
use Rattle.st_message.specs.declared.message.ReportBody.{ReportBody}
use Rattle.st_counts.specs.Counts.{Has, Distinct, AllOf, AllBut, numbers_below}
use Rattle.st_counts.proofs.MemberLaws.{any-from, has-map, map-has, filter-has, has-numbers_below, length-numbers_below}
use Rattle.st_counts.proofs.QuorumLaws.{quorum-stands}
use Rattle.st_agreement.specs.MiniSteps.{Invariant}
use Rattle.st_agreement.specs.Records.{made_of}
use Rattle.st_agreement.specs.Reports.{Report, local_report, global_report, IsLocalBundle, IsGlobalBundle}
use Rattle.st_agreement.specs.Statements.{is_prepare, is_proposal}
use Rattle.st_agreement.specs.Unions.{IsLocalUnion, IsGlobalUnion}
use Rattle.st_agreement.specs.Worlds as plain
use Rattle.st_agreement.proofs.ReportLaws.{bundle-local_union, bundle-global_union}
use Rattle.st_agreement.proofs.StatementLaws.{is_prepare-refl, is_proposal-refl}
use Rattle.st_protocol.specs.Words.{Quorum, a_prepare, a_proposal, site_of, index_of}
use Rattle.st_protocol.specs.Collecting.{view_in, base_in, items_in, most, union_items}
use Rattle.st_protocol.specs.Known.{in_quorum, in_items}
use Rattle.st_protocol.specs.World.{Deployment, World, servers_of, is_correct}
use Rattle.st_frame_laws.specs.Exact.{QuorumIsExact}
use Rattle.st_answer_laws.specs.Fair.{HasFewFaulty}
use Rattle.st_answer_laws.specs.Plain.{sites_in, plain_of}
use Rattle.st_answer_laws.specs.Sound.{indices, IsHonestSeal}
use Rattle.st_answer_laws.proofs.UnionLaws.{report_in, reports_in, IsRanged, items-union}
use Rattle.st_answer_laws.proofs.SealLaws.{Did, a-quorum, sealed-stands}

-- each of two lists
pub all-left : {A : Type 0} (P : A → Type 0) (xs ys : List A) → AllOf P (xs ++ ys) → AllOf P xs
all-left P [] ys h = tt
all-left P (x ∷ xs) ys h = (h.0, all-left P xs ys h.1)

pub all-right : {A : Type 0} (P : A → Type 0) (xs ys : List A) → AllOf P (xs ++ ys) → AllOf P ys
all-right P [] ys h = h
all-right P (x ∷ xs) ys h = all-right P xs ys h.1

-- the statement behind an item of a report on a local view of a site, and on a view, where so many sites are
abbrev pub prepare_in : ℕ → Item → Statement
prepare_in s i = a_prepare s i.view.0 i.local.0 i.number.0 i.value

abbrev pub proposal_in : ℕ → Item → Statement
proposal_in sites i = a_proposal (i.view.0 % sites) i.view.0 i.local.0 i.number.0 i.value

-- the greatest view is as great as each
view-most : (rs : List ReportBody) (r : ReportBody) → Has r rs → view_in r.statement ≤ most view_in rs
unfolding most
view-most [] r has = absurd has
view-most (x ∷ rs) r (inl same) = subst (λ (y : ReportBody). view_in y.statement ≤ max (view_in x.statement) (most view_in rs)) (sym same) (left (view_in x.statement) (most view_in rs))
  where
    left : (a b : ℕ) → a ≤ max a b
    left a b = grind arith
view-most (x ∷ rs) r (inr among) = right (view_in x.statement) (most view_in rs) (view-most rs r among)
  where
    right : (a b : ℕ) → view_in r.statement ≤ b → view_in r.statement ≤ max a b
    right a b low = grind (arith, low)

module _ {Wire : Type 0} (d : Deployment Wire) (world : World Wire) (few : HasFewFaulty d) (s : ℕ) (exists : s < d.sites) where
  -- What holds of a report in a bundle of a site: its statement is of the bundle's kind and view, it has as many Quorums as
  -- items, and its seals are honest.
  pub record IsReportAs (form : Report → Statement) (of : Item → Statement) (r : ReportBody) : Type 0 where
    pub kind : r.statement ≡ form (report_in r.statement)
    pub index : index_of r.statement < servers_of d
    pub ranged : IsRanged r
    pub exact : Each (QuorumIsExact d) r.quorums
    pub distinct : AllOf (λ q. Distinct (indices q)) r.quorums
    pub many : length r.quorums ≡ length (items_in r.statement)
    pub did : IsTrue (is_correct d s (index_of r.statement)) → Did d world few s r.statement (index_of r.statement)
    pub behind : AllOf (IsHonestSeal d world) (in_items of (items_in r.statement) r.quorums)

  -- what is behind items stands
  items-stand : (of : Item → Statement) (test : Item → Statement → Bool) → ((i : Item) → site_of (of i) < d.sites) → ((i : Item) → IsTrue (test i (of i))) → (is : List Item) (qs : List Quorum) →
      length qs ≡ length is → Each (QuorumIsExact d) qs → AllOf (λ q. Distinct (indices q)) qs → AllOf (IsHonestSeal d world) (in_items of is qs) →
      (i : Item) → Has i is → IsTrue (plain.stands (sites_in d) (plain_of d world) (site_of (of i)) (test i))
  unfolding in_items
  items-stand of test within passes [] qs many exact distinct honest i has = absurd has
  items-stand of test within passes (j ∷ is) [] many exact distinct honest i has = absurd (omega (arith, many))
  items-stand of test within passes (j ∷ is) (w ∷ qs) many exact distinct honest i (inl same) =
      subst (λ (k : Item). IsTrue (plain.stands (sites_in d) (plain_of d world) (site_of (of k)) (test k))) (sym same)
      (sealed-stands d world few (site_of (of j)) (of j) (test j) (indices w) (within j) (passes j)
      (a-quorum d world few (site_of (of j)) (of j) w exact.0 distinct.0 (all-left (IsHonestSeal d world) (in_quorum (site_of (of j)) (of j) w) _ honest)))
  items-stand of test within passes (j ∷ is) (w ∷ qs) many exact distinct honest i (inr among) =
      items-stand of test within passes is qs (omega (arith, many)) exact.1 distinct.1
      (all-right (IsHonestSeal d world) (in_quorum (site_of (of j)) (of j) w) _ honest) i among

  -- ---- 2f+1 reports of distinct servers

  module _ (form : Report → Statement) (of : Item → Statement) (rs : List ReportBody) (each : (r : ReportBody) → Has r rs → IsReportAs form of r) where
    -- they are enough
    bundle-many : length rs ≡ 2 * d.f + 1 → Distinct (map (λ (r : ReportBody). index_of r.statement) rs) →
        AllBut d.f ((sites_in d).correct s) (λ k. list_any (λ (x : Report). x.server == k) (reports_in rs))
    bundle-many many distinct =
        quorum-stands d.f (is_correct d s) (λ k. list_any (λ (x : Report). x.server == k) (reports_in rs)) (numbers_below (servers_of d)) (map (λ (r : ReportBody). index_of r.statement) rs) distinct
        (λ k has. let one = map-has (λ (r : ReportBody). index_of r.statement) k rs has in has-numbers_below k (servers_of d) (subst (λ z. z < servers_of d) one.1.1 (each one.0 one.1.0).index))
        (omega (arith, many, length-numbers_below (servers_of d), length-map rs (λ (r : ReportBody). index_of r.statement)))
        (λ k has correct.
        let one = map-has (λ (r : ReportBody). index_of r.statement) k rs has in
        any-from (λ (x : Report). x.server == k) (report_in one.0.statement) (reports_in rs) (has-map (λ (r : ReportBody). report_in r.statement) one.0 rs one.1.0) (eq-eqb (index_of one.0.statement) k one.1.1))

    -- those of correct servers were made
    bundle-made : Invariant (sites_in d) (plain_of d world) → (x : Report) → Has x (reports_in rs) → Has x.server ((sites_in d).correct s) → Has (form x) (made_of ((plain_of d world).records s x.server))
    bundle-made inv x has correct =
        let one = map-has (λ (r : ReportBody). report_in r.statement) x rs has in
        let r : ReportBody = one.0 in
        let fact : IsReportAs form of r = each r one.1.0 in
        let right : Has (index_of r.statement) ((sites_in d).correct s) = subst (λ (y : Report). Has y.server ((sites_in d).correct s)) (sym one.1.1) correct in
        let did : Did d world few s r.statement (index_of r.statement) = fact.did (filter-has (is_correct d s) (index_of r.statement) (numbers_below (servers_of d)) right).1 in
        let recorded : Has r.statement (made_of ((plain_of d world).records s (index_of r.statement))) = inv.recorded s (index_of r.statement) exists right r.statement did in
        subst (λ (y : Report). Has (form y) (made_of ((plain_of d world).records s y.server))) one.1.1
        (subst (λ (t : Statement). Has t (made_of ((plain_of d world).records s (index_of r.statement)))) fact.kind recorded)

    -- and what is behind their items stands
    bundle-backed : (test : Item → Statement → Bool) → ((i : Item) → site_of (of i) < d.sites) → ((i : Item) → IsTrue (test i (of i))) → (x : Report) (i : Item) → Has x (reports_in rs) → Has i x.items →
        IsTrue (plain.stands (sites_in d) (plain_of d world) (site_of (of i)) (test i))
    bundle-backed test within passes x i has among =
        let one = map-has (λ (r : ReportBody). report_in r.statement) x rs has in
        let r : ReportBody = one.0 in
        let fact : IsReportAs form of r = each r one.1.0 in
        items-stand of test within passes (items_in r.statement) r.quorums fact.many fact.exact fact.distinct fact.behind i (subst (λ (y : Report). Has i y.items) (sym one.1.1) among)

  -- ---- on a local view

  -- The union of reports on a local view, no item of which is of a later view than its report, is one over the reporters' records.
  pub bundle-union : (l : ℕ) (rs : List ReportBody) → Invariant (sites_in d) (plain_of d world) → length rs ≡ 2 * d.f + 1 → Distinct (map (λ (r : ReportBody). index_of r.statement) rs) →
      ((r : ReportBody) → Has r rs → IsReportAs (local_report s l) (prepare_in s) r) → ((r : ReportBody) → Has r rs → (i : Item) → Has i (items_in r.statement) → i.view.0 ≤ view_in r.statement) →
      IsLocalUnion (sites_in d) (plain_of d world) s l (most view_in rs) (most base_in rs) (union_items rs)
  bundle-union l rs inv many distinct each views =
      let bundle : IsLocalBundle (sites_in d) (plain_of d world) s l (reports_in rs) =
      record {
        many = bundle-many (local_report s l) (prepare_in s) rs each many distinct;
        made = bundle-made (local_report s l) (prepare_in s) rs each inv;
        bounded = λ x i has among.
            let one = map-has (λ (r : ReportBody). report_in r.statement) x rs has in
            subst (λ (y : Report). i.view.0 ≤ y.view) one.1.1 (views one.0 one.1.0 i (subst (λ (y : Report). Has i y.items) (sym one.1.1) among));
        backed = bundle-backed (local_report s l) (prepare_in s) rs each (λ i. is_prepare s i.view.0 i.local.0 i.number.0 i.value) (λ i. exists) (λ i. is_prepare-refl s i.view.0 i.local.0 i.number.0 i.value);
      } in
      bundle-local_union (sites_in d) (plain_of d world) s l (most view_in rs) (most base_in rs) (union_items rs) (reports_in rs) inv exists bundle
      (items-union rs (λ r has. (each r has).ranged))
      (λ x has. let one = map-has (λ (r : ReportBody). report_in r.statement) x rs has in subst (λ (y : Report). y.view ≤ most view_in rs) one.1.1 (view-most rs one.0 one.1.0))

  -- ---- on a view

  -- The union of reports on a view is one over the reporters' records.
  pub bundle-union_view : (g : ℕ) (rs : List ReportBody) → Invariant (sites_in d) (plain_of d world) → length rs ≡ 2 * d.f + 1 → Distinct (map (λ (r : ReportBody). index_of r.statement) rs) →
      ((r : ReportBody) → Has r rs → IsReportAs (global_report s g) (proposal_in d.sites) r) → IsGlobalUnion (sites_in d) (plain_of d world) s g (most base_in rs) (union_items rs)
  bundle-union_view g rs inv many distinct each =
      let bundle : IsGlobalBundle (sites_in d) (plain_of d world) s g (reports_in rs) =
      record {
        many = bundle-many (global_report s g) (proposal_in d.sites) rs each many distinct;
        made = bundle-made (global_report s g) (proposal_in d.sites) rs each inv;
        backed = bundle-backed (global_report s g) (proposal_in d.sites) rs each (λ i. is_proposal (i.view.0 % d.sites) i.view.0 i.local.0 i.number.0 i.value)
            (λ i. leads i.view.0) (λ i. is_proposal-refl (i.view.0 % d.sites) i.view.0 i.local.0 i.number.0 i.value);
      } in
      bundle-global_union (sites_in d) (plain_of d world) s g (most base_in rs) (union_items rs) (reports_in rs) inv exists bundle (items-union rs (λ r has. (each r has).ranged))
    where
      leads : (view : ℕ) → view % d.sites < d.sites
      leads view = let some : 0 < d.sites = few.some in omega arith
