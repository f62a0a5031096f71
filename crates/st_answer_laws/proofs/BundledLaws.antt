-- A sound bundle: what the format asks of it gives that its reports are of one kind, site and view, and of distinct servers. So its union may be made.
use Rattle.std.proofs.Common.{◌≡◌, ℕ, ◌+◌, ◌<◌, ◌≤◌, true, false, List, [], ◌∷◌, map, refl, sym, ◌∙◌, subst, inl, inr, arith}
use Rattle.std.specs.Prelude.{Option, IsTrue}
use Rattle.std.specs.List.{AllByRecursion as Each}
use Rattle.st_fields.specs.Spelling.{KeepsEach}
use Rattle.st_words.specs.declared.limits.ReportBounds.{ReportBounds}
use Rattle.st_words.specs.declared.statement.Item.{Item}
use Rattle.st_words.specs.declared.statement.Statement.{Statement}
use Rattle.st_words.specs.declared.statement.Statement.TheVariants.{LocalReport, GlobalReport}
use Rattle.st_words.specs.Ranges.{KeepsBounds, after_report, limits_above}
use Rattle.st_message.specs.declared.message.Proof.{Proof}
use Rattle.st_message.specs.declared.message.ReportBody.{ReportBody}
use Rattle.st_message.specs.declared.message.Message.TheVariants as messages
use Rattle.st_message.specs.declared.change.Change.{Change}
use Rattle.st_wire.specs.declared.report.Bundled.{Bundled}
use Rattle.st_wire.specs.Ranges.{KeepsBacked, KeepsReport, any_body, after_body}
use Rattle.st_counts.specs.Counts.{Has, Distinct, AllOf}
use Rattle.st_agreement.specs.MiniSteps.{BackedMade, IsCurrent, Invariant}
use Rattle.st_agreement.specs.Reports.{local_report, global_report}
use Rattle.st_agreement.specs.Rules.{Makes}
use Rattle.st_protocol.specs.Words.{Bytes, Quorum, server_at, site_of, index_of}
use Rattle.st_protocol.specs.Collecting.{view_in, items_in, union}
use Rattle.st_protocol.specs.Known.{in_items, in_report, in_reports, seals_of}
use Rattle.st_protocol.specs.World.{Deployment, World, is_correct}
use Rattle.st_frame_laws.specs.Exact.{ReportIsExact}
use Rattle.st_answer_laws.specs.Fair.{HasFewFaulty}
use Rattle.st_answer_laws.specs.Plain.{sites_in, plain_of}
use Rattle.st_answer_laws.specs.Sound.{IsHonestSeal, IsSound}
use Rattle.st_answer_laws.proofs.RangeLaws.{Limited, items-limited, keys-distinct, quorums-distinct}
use Rattle.st_answer_laws.proofs.SealLaws.{made-by}
use Rattle.st_answer_laws.proofs.BundleLaws.{all-left, all-right, prepare_in, proposal_in, IsReportAs, bundle-union, bundle-union_view}

-- a report of these parts
abbrev pub body : Statement → Bytes → List Quorum → Option Proof → ReportBody
body t seal qs base = record { statement = t; seal = seal; quorums = qs; base = base }

-- ---- of which kind, site and view a report is

-- a report on this local view of the site
abbrev pub AtLocal : ℕ → ℕ → Statement → Type 0
AtLocal s l (LocalReport site local index view base items) = (site.0 ≡ s) × (local.0 ≡ l)
AtLocal s l _ = ⊥

-- a report on this view of the site
abbrev pub AtGlobal : ℕ → ℕ → Statement → Type 0
AtGlobal s g (GlobalReport site view index base items) = (site.0 ≡ s) × (view.0 ≡ g)
AtGlobal s g _ = ⊥

-- bounds that let one site and one view through
pub record Narrow (s x : ℕ) (b : ReportBounds) : Type 0 where
  pub least_site : b.least_site ≡ s
  pub most_site : b.most_site ≡ s
  pub after_view : b.after_view + 1 ≡ x
  pub most_view : b.most_view ≡ x

between : (low high s x : ℕ) → low ≡ s → high ≡ s → low ≤ x → x ≤ high → x ≡ s
between low high s x a b more less = omega (arith, a, b, more, less)

one-view : (after most x y : ℕ) → after + 1 ≡ x → most ≡ x → after < y → y ≤ most → y ≡ x
one-view after most x y a b more less = omega (arith, a, b, more, less)

pub at-local : (s l : ℕ) (b : ReportBounds) (t : Statement) → b.global ≡ false → Narrow s l b → KeepsBounds b t → AtLocal s l t
at-local s l b (LocalReport site local index view base items) only n h = (
  between b.least_site b.most_site s site.0 n.least_site n.most_site h.1.0 h.1.1,
  one-view b.after_view b.most_view l local.0 n.after_view n.most_view h.2 h.3,
)
at-local s l b (GlobalReport site view index base items) only n h = absurd (let no_ : false ≡ true = sym only ∙ h.0 in cc)
at-local s l b _ only n h = absurd h

pub at-global : (s g : ℕ) (b : ReportBounds) (t : Statement) → b.local ≡ false → Narrow s g b → KeepsBounds b t → AtGlobal s g t
at-global s g b (GlobalReport site view index base items) only n h = (
  between b.least_site b.most_site s site.0 n.least_site n.most_site h.1.0 h.1.1,
  one-view b.after_view b.most_view g view.0 n.after_view n.most_view h.2 h.3,
)
at-global s g b (LocalReport site local index view base items) only n h = absurd (let no_ : false ≡ true = sym only ∙ h.0 in cc)
at-global s g b _ only n h = absurd h

pub narrow-local : (s l : ℕ) (b : ReportBounds) (t : Statement) → 1 ≤ l → AtLocal s l t → ((after_report b t).global ≡ false) × Narrow s l (after_report b t)
narrow-local s l b (LocalReport site local index view base items) some at = (refl, record { least_site = at.0; most_site = at.0; after_view = omega (arith, some, at.1); most_view = at.1 })
narrow-local s l b _ some at = absurd at

pub narrow-global : (s g : ℕ) (b : ReportBounds) (t : Statement) → 1 ≤ g → AtGlobal s g t → ((after_report b t).local ≡ false) × Narrow s g (after_report b t)
narrow-global s g b (GlobalReport site view index base items) some at = (refl, record { least_site = at.0; most_site = at.0; after_view = omega (arith, some, at.1); most_view = at.1 })
narrow-global s g b _ some at = absurd at

-- ---- of distinct servers

index-low : (b : ReportBounds) (t : Statement) → KeepsBounds b t → b.least_index ≤ index_of t
index-low b (LocalReport site local index view base items) h = h.4
index-low b (GlobalReport site view index base items) h = h.4
index-low b _ h = absurd h

index-over : (b : ReportBounds) (t : Statement) → KeepsBounds b t → index_of t + 1 ≤ (after_report b t).least_index
index-over b (LocalReport site local index view base items) h = omega arith
index-over b (GlobalReport site view index base items) h = omega arith
index-over b _ h = absurd h

pub servers-distinct : (b : Bundled) (rs : List ReportBody) → KeepsEach KeepsReport after_body b rs → Distinct (map (λ (r : ReportBody). index_of r.statement) rs)
servers-distinct b rs h =
    keys-distinct KeepsReport after_body (λ (x : Bundled). x.bounds.least_index) (λ (r : ReportBody). index_of r.statement) (λ x r k. index-low x.bounds r.statement k.0) (λ x r k. index-over x.bounds r.statement k.0) b rs h

module _ {Wire : Type 0} (d : Deployment Wire) (world : World Wire) (few : HasFewFaulty d) (s : ℕ) (exists : s < d.sites) where
  -- ---- one report

  -- no item is of a later view than its report
  abbrev pub Bounded : Statement → Type 0
  Bounded t = (i : Item) → Has i (items_in t) → i.view.0 ≤ view_in t

  local-one : (l : ℕ) (t : Statement) (seal : Bytes) (qs : List Quorum) (base : Option Proof) → AtLocal s l t → KeepsBacked (body t seal qs base) →
      ReportIsExact d (body t seal qs base) → AllOf (IsHonestSeal d world) (in_report d.sites (body t seal qs base)) →
      IsReportAs d world few s exists (local_report s l) (prepare_in s) (body t seal qs base) × Bounded t
  local-one l (LocalReport site local index view low items) seal qs base at keeps exact honest =
      let t : Statement = LocalReport site local index view low items in
      let limited : Limited (limits_above low view.0 _) items = items-limited _ items keeps.0.2.1 in (
        record {
          kind = subst (λ z. t ≡ LocalReport (record { 0 = z }) (record { 0 = l }) index view low items) at.0
              (subst (λ z. t ≡ LocalReport site (record { 0 = z }) index view low items) at.1 refl);
          index = exact.0.0.0.1;
          ranged = record { one = limited.one; window = limited.window };
          exact = exact.0.1;
          distinct = quorums-distinct qs keeps.3;
          many = keeps.2;
          did = λ correct. subst (λ z. Has t ((plain_of d world).made z index)) at.0
              (made-by (server_at site.0 index) world.made [] t (honest.0 (subst (λ z. IsTrue (is_correct d z index)) (sym at.0) correct)));
          behind = subst (λ z. AllOf (IsHonestSeal d world) (in_items (prepare_in z) items qs)) at.0 (all-left (IsHonestSeal d world) (in_items (prepare_in site.0) items qs) _ honest.1);
        },
        limited.views,
      )
  local-one l _ seal qs base at keeps exact honest = absurd at

  global-one : (g : ℕ) (t : Statement) (seal : Bytes) (qs : List Quorum) (base : Option Proof) → AtGlobal s g t → KeepsBacked (body t seal qs base) →
      ReportIsExact d (body t seal qs base) → AllOf (IsHonestSeal d world) (in_report d.sites (body t seal qs base)) →
      IsReportAs d world few s exists (global_report s g) (proposal_in d.sites) (body t seal qs base)
  global-one g (GlobalReport site view index low items) seal qs base at keeps exact honest =
      let t : Statement = GlobalReport site view index low items in
      let limited : Limited (limits_above low _ _) items = items-limited _ items keeps.0.2.1 in
      record {
        kind = subst (λ z. t ≡ GlobalReport (record { 0 = z }) (record { 0 = g }) index low items) at.0
            (subst (λ z. t ≡ GlobalReport site (record { 0 = z }) index low items) at.1 refl);
        index = exact.0.0.0.1;
        ranged = record { one = limited.one; window = limited.window };
        exact = exact.0.1;
        distinct = quorums-distinct qs keeps.3;
        many = keeps.2;
        did = λ correct. subst (λ z. Has t ((plain_of d world).made z index)) at.0
            (made-by (server_at site.0 index) world.made [] t (honest.0 (subst (λ z. IsTrue (is_correct d z index)) (sym at.0) correct)));
        behind = all-left (IsHonestSeal d world) (in_items (proposal_in d.sites) items qs) _ honest.1;
      }
  global-one g _ seal qs base at keeps exact honest = absurd at

  -- ---- those behind it

  local-all : (l : ℕ) (b : Bundled) (rs : List ReportBody) → 1 ≤ l → b.bounds.global ≡ false → Narrow s l b.bounds → KeepsEach KeepsReport after_body b rs → Each (ReportIsExact d) rs →
      AllOf (IsHonestSeal d world) (in_reports d.sites rs) → (r : ReportBody) → Has r rs → IsReportAs d world few s exists (local_report s l) (prepare_in s) r × Bounded r.statement
  unfolding in_reports
  local-all l b [] some only n h exact honest r has = absurd has
  local-all l b (x ∷ rs) some only n h exact honest r (inl same) =
      subst (λ (y : ReportBody). IsReportAs d world few s exists (local_report s l) (prepare_in s) y × Bounded y.statement) (sym same)
      (local-one l x.statement x.seal x.quorums x.base (at-local s l b.bounds x.statement only n h.0.0) h.0.1 exact.0 (all-left (IsHonestSeal d world) (in_report d.sites x) _ honest))
  local-all l b (x ∷ rs) some only n h exact honest r (inr among) =
      let more = narrow-local s l b.bounds x.statement some (at-local s l b.bounds x.statement only n h.0.0) in
      local-all l (after_body b x) rs some more.0 more.1 h.1 exact.1 (all-right (IsHonestSeal d world) (in_report d.sites x) _ honest) r among

  global-all : (g : ℕ) (b : Bundled) (rs : List ReportBody) → 1 ≤ g → b.bounds.local ≡ false → Narrow s g b.bounds → KeepsEach KeepsReport after_body b rs → Each (ReportIsExact d) rs →
      AllOf (IsHonestSeal d world) (in_reports d.sites rs) → (r : ReportBody) → Has r rs → IsReportAs d world few s exists (global_report s g) (proposal_in d.sites) r
  unfolding in_reports
  global-all g b [] some only n h exact honest r has = absurd has
  global-all g b (x ∷ rs) some only n h exact honest r (inl same) =
      subst (λ (y : ReportBody). IsReportAs d world few s exists (global_report s g) (proposal_in d.sites) y) (sym same)
      (global-one g x.statement x.seal x.quorums x.base (at-global s g b.bounds x.statement only n h.0.0) h.0.1 exact.0 (all-left (IsHonestSeal d world) (in_report d.sites x) _ honest))
  global-all g b (x ∷ rs) some only n h exact honest r (inr among) =
      let more = narrow-global s g b.bounds x.statement some (at-global s g b.bounds x.statement only n h.0.0) in
      global-all g (after_body b x) rs some more.0 more.1 h.1 exact.1 (all-right (IsHonestSeal d world) (in_report d.sites x) _ honest) r among

  -- ---- the bundle

  -- What a union that a server makes needs: it is of the own site, has its reports behind it, and is always current.
  pub record MayUnite (t : Statement) : Type 0 where
    pub makes : (rs : List Change) → Makes (sites_in d) s t rs
    pub backed : BackedMade (sites_in d) (plain_of d world) s t
    pub current : (rs : List Change) → IsCurrent t rs

  -- The union of a sound bundle of the own site.
  by-first : (t : Statement) (seal : Bytes) (qs : List Quorum) (base : Option Proof) (rs : List ReportBody) → Invariant (sites_in d) (plain_of d world) → site_of t ≡ s →
      IsSound d world (messages.Bundle (body t seal qs base ∷ rs)) → MayUnite (union (body t seal qs base ∷ rs))
  unfolding union seals_of in_reports
  by-first (LocalReport site local index view low items) seal qs base rs inv of_site sound =
      let t : Statement = LocalReport site local index view low items in
      let r : ReportBody = body t seal qs base in
      let kept = sound.ranged.0.1 in
      let some : 1 ≤ local.0 = kept.0.1.0.0 in
      let first = local-one local.0 t seal qs base (of_site, refl) kept.0.1 sound.exact.1.0 (all-left (IsHonestSeal d world) (in_report d.sites r) _ sound.honest) in
      let more = narrow-local s local.0 any_body.bounds t some (of_site, refl) in
      let each : (x : ReportBody) → Has x (r ∷ rs) → IsReportAs d world few s exists (local_report s local.0) (prepare_in s) x × Bounded x.statement =
      all-of r rs (λ x. IsReportAs d world few s exists (local_report s local.0) (prepare_in s) x × Bounded x.statement) first
      (local-all local.0 (after_body any_body r) rs some more.0 more.1 kept.1 sound.exact.1.1 (all-right (IsHonestSeal d world) (in_report d.sites r) _ sound.honest)) in
      record {
        makes = λ cs. of_site;
        backed = bundle-union d world few s exists local.0 (r ∷ rs) inv sound.exact.0 (servers-distinct any_body (r ∷ rs) kept) (λ x has. (each x has).0) (λ x has. (each x has).1);
        current = λ cs. tt;
      }
    where
      all-of : (x : ReportBody) (xs : List ReportBody) (P : ReportBody → Type 0) → P x → ((y : ReportBody) → Has y xs → P y) → (y : ReportBody) → Has y (x ∷ xs) → P y
      all-of x xs P h k y (inl same) = subst P (sym same) h
      all-of x xs P h k y (inr among) = k y among
  by-first (GlobalReport site view index low items) seal qs base rs inv of_site sound =
      let t : Statement = GlobalReport site view index low items in
      let r : ReportBody = body t seal qs base in
      let kept = sound.ranged.0.1 in
      let some : 1 ≤ view.0 = kept.0.1.0.0 in
      let first = global-one view.0 t seal qs base (of_site, refl) kept.0.1 sound.exact.1.0 (all-left (IsHonestSeal d world) (in_report d.sites r) _ sound.honest) in
      let more = narrow-global s view.0 any_body.bounds t some (of_site, refl) in
      let each : (x : ReportBody) → Has x (r ∷ rs) → IsReportAs d world few s exists (global_report s view.0) (proposal_in d.sites) x =
      all-of r rs (λ x. IsReportAs d world few s exists (global_report s view.0) (proposal_in d.sites) x) first
      (global-all view.0 (after_body any_body r) rs some more.0 more.1 kept.1 sound.exact.1.1 (all-right (IsHonestSeal d world) (in_report d.sites r) _ sound.honest)) in
      record {
        makes = λ cs. of_site;
        backed = bundle-union_view d world few s exists view.0 (r ∷ rs) inv sound.exact.0 (servers-distinct any_body (r ∷ rs) kept) each;
        current = λ cs. tt;
      }
    where
      all-of : (x : ReportBody) (xs : List ReportBody) (P : ReportBody → Type 0) → P x → ((y : ReportBody) → Has y xs → P y) → (y : ReportBody) → Has y (x ∷ xs) → P y
      all-of x xs P h k y (inl same) = subst P (sym same) h
      all-of x xs P h k y (inr among) = k y among
  by-first _ seal qs base rs inv of_site sound = absurd (sound.ranged.0.1.0.0)

  -- So it may be made.
  pub bundle-may : (r : ReportBody) (rs : List ReportBody) → Invariant (sites_in d) (plain_of d world) → site_of r.statement ≡ s → IsSound d world (messages.Bundle (r ∷ rs)) → MayUnite (union (r ∷ rs))
  bundle-may r rs inv of_site sound = by-first r.statement r.seal r.quorums r.base rs inv of_site sound
