-- Statements as fields, kind by kind: what is read is spelled so, and what is spelled so is read.
use Rattle.std.proofs.Common.{◌≡◌, ℕ, ◌-◌, Some, None, List, [], ◌∷◌, ◌++◌, Ok, refl, sym, ap, subst, ◌∙◌, arith, inl, inr, ◌⊎◌, lit<}
use Rattle.std.specs.Int.{w32}
use Rattle.std.specs.Prelude.{IsTrue}
use Rattle.st_fields.specs.Spelling.{byte, number, text}
use Rattle.st_fields.proofs.Fields.{IsBytes, Takes, IsField, ok_is, step, again_step, ◌▷◌, none, joined-append}
use Rattle.st_fields.proofs.Leaves.{byte_field, byte_in_field, u32_field, u32_in_field, u32_above_field, positive_field, text_field, mark_field}
use Rattle.st_words.specs.declared.kind.StatementKind.{StatementKind}
use Rattle.st_words.specs.declared.kind.StatementKind.TheVariants as kinds
use Rattle.st_words.specs.declared.statement.Statement.{Statement}
use Rattle.st_words.specs.declared.statement.Statement.TheVariants.{Prepare, Proposal, Accept, LocalVc, GlobalVc, LocalReport, GlobalReport, LocalUnion, GlobalUnion, Reply, ClientUpdate}
use Rattle.st_words.specs.declared.limits.ReportBounds.{ReportBounds}
use Rattle.st_words.specs.Kind.{kind_of}
use Rattle.st_words.specs.Ranges.{most_text, most_base, limits_above, KeepsStatement, KeepsBounds, FitsStatement}
use Rattle.st_words.specs.Spelling.{fields_spelling, value_spelling, items_spelling, update_spelling}
use Rattle.st_words.specs.Reading.{prepare_at, proposal_at, accept_at, local_vc_at, global_vc_at, local_report_at, global_report_at, local_union_at, global_union_at, reply_at, client_update_at, any_report, fields_at}
use Rattle.st_words.proofs.Fields.{update_field, value_field, items_field}

-- a statement of this kind that keeps its ranges
abbrev pub IsKind : StatementKind → Statement → Type 0
IsKind kind s = (kind_of s ≡ kind) × (KeepsStatement s × FitsStatement s)

-- the fields of such a statement were taken
abbrev pub IsRead : StatementKind → List ℕ → Statement × List ℕ → Type 0
IsRead kind bytes p = Takes bytes (fields_spelling p.0) p.1 × IsKind kind p.0

-- ---- what is read is spelled so

-- a Prepare
prepare_takes : (bytes : List ℕ) (s : Statement) (rest : List ℕ) → IsBytes bytes → prepare_at bytes ≡ Ok (s, rest) → IsRead kinds.Prepare bytes (s, rest)
unfolding prepare_at fields_spelling
prepare_takes bytes s rest fits e =
    step byte_field bytes (s, rest) fits e λ site r0 t0 k0 e0.
    step u32_field r0 (s, rest) t0.rest_fits e0 λ view r1 t1 k1 e1.
    step u32_field r1 (s, rest) t1.rest_fits e1 λ local r2 t2 k2 e2.
    step positive_field r2 (s, rest) t2.rest_fits e2 λ n r3 t3 k3 e3.
    step value_field r3 (s, rest) t3.rest_fits e3 λ v r4 t4 k4 e4.
    subst (IsRead kinds.Prepare bytes) (ok_is _ (s, rest) e4)
    (t0 ▷ (t1 ▷ (t2 ▷ (t3 ▷ (t4 ▷ none t4.rest_fits)))), (refl, ((k3.1, k4.0), (k0, k1, k2, k3.0, k4.1))))

-- a Proposal
proposal_takes : (bytes : List ℕ) (s : Statement) (rest : List ℕ) → IsBytes bytes → proposal_at bytes ≡ Ok (s, rest) → IsRead kinds.Proposal bytes (s, rest)
unfolding proposal_at fields_spelling
proposal_takes bytes s rest fits e =
    step byte_field bytes (s, rest) fits e λ site r0 t0 k0 e0.
    step u32_field r0 (s, rest) t0.rest_fits e0 λ view r1 t1 k1 e1.
    step u32_field r1 (s, rest) t1.rest_fits e1 λ local r2 t2 k2 e2.
    step positive_field r2 (s, rest) t2.rest_fits e2 λ n r3 t3 k3 e3.
    step value_field r3 (s, rest) t3.rest_fits e3 λ v r4 t4 k4 e4.
    subst (IsRead kinds.Proposal bytes) (ok_is _ (s, rest) e4)
    (t0 ▷ (t1 ▷ (t2 ▷ (t3 ▷ (t4 ▷ none t4.rest_fits)))), (refl, ((k3.1, k4.0), (k0, k1, k2, k3.0, k4.1))))

-- an Accept
accept_takes : (bytes : List ℕ) (s : Statement) (rest : List ℕ) → IsBytes bytes → accept_at bytes ≡ Ok (s, rest) → IsRead kinds.Accept bytes (s, rest)
unfolding accept_at fields_spelling
accept_takes bytes s rest fits e =
    step byte_field bytes (s, rest) fits e λ site r0 t0 k0 e0.
    step u32_field r0 (s, rest) t0.rest_fits e0 λ view r1 t1 k1 e1.
    step positive_field r1 (s, rest) t1.rest_fits e1 λ n r2 t2 k2 e2.
    step value_field r2 (s, rest) t2.rest_fits e2 λ v r3 t3 k3 e3.
    subst (IsRead kinds.Accept bytes) (ok_is _ (s, rest) e3)
    (t0 ▷ (t1 ▷ (t2 ▷ (t3 ▷ none t3.rest_fits))), (refl, ((k2.1, k3.0), (k0, k1, k2.0, k3.1))))

-- a LocalVc
local_vc_takes : (bytes : List ℕ) (s : Statement) (rest : List ℕ) → IsBytes bytes → local_vc_at bytes ≡ Ok (s, rest) → IsRead kinds.LocalVc bytes (s, rest)
unfolding local_vc_at fields_spelling
local_vc_takes bytes s rest fits e =
    step byte_field bytes (s, rest) fits e λ site r0 t0 k0 e0.
    step positive_field r0 (s, rest) t0.rest_fits e0 λ local r1 t1 k1 e1.
    subst (IsRead kinds.LocalVc bytes) (ok_is _ (s, rest) e1) (t0 ▷ (t1 ▷ none t1.rest_fits), (refl, (k1.1, (k0, k1.0))))

-- a GlobalVc
global_vc_takes : (bytes : List ℕ) (s : Statement) (rest : List ℕ) → IsBytes bytes → global_vc_at bytes ≡ Ok (s, rest) → IsRead kinds.GlobalVc bytes (s, rest)
unfolding global_vc_at fields_spelling
global_vc_takes bytes s rest fits e =
    step byte_field bytes (s, rest) fits e λ site r0 t0 k0 e0.
    step positive_field r0 (s, rest) t0.rest_fits e0 λ view r1 t1 k1 e1.
    subst (IsRead kinds.GlobalVc bytes) (ok_is _ (s, rest) e1) (t0 ▷ (t1 ▷ none t1.rest_fits), (refl, (k1.1, (k0, k1.0))))

-- a LocalReport within bounds
pub local_report_takes : (bounds : ReportBounds) → IsTrue bounds.local → (bytes : List ℕ) (s : Statement) (rest : List ℕ) → IsBytes bytes → local_report_at bounds bytes ≡ Ok (s, rest) → IsRead kinds.LocalReport bytes (s, rest) × KeepsBounds bounds s
unfolding local_report_at fields_spelling
local_report_takes bounds allowed bytes s rest fits e =
    step (byte_in_field bounds.least_site bounds.most_site) bytes (s, rest) fits e λ site r0 t0 k0 e0.
    step (u32_above_field bounds.after_view bounds.most_view) r0 (s, rest) t0.rest_fits e0 λ local r1 t1 k1 e1.
    step (byte_in_field bounds.least_index 255) r1 (s, rest) t1.rest_fits e1 λ index r2 t2 k2 e2.
    step u32_field r2 (s, rest) t2.rest_fits e2 λ view r3 t3 k3 e3.
    step (u32_in_field 0 most_base) r3 (s, rest) t3.rest_fits e3 λ base r4 t4 k4 e4.
    step (items_field (limits_above base view (Some (local - 1)))) r4 (s, rest) t4.rest_fits e4 λ items r5 t5 k5 e5.
    subst (λ (p : Statement × List ℕ). IsRead kinds.LocalReport bytes p × KeepsBounds bounds p.0) (ok_is _ (s, rest) e5) (
      (t0 ▷ (t1 ▷ (t2 ▷ (t3 ▷ (t4 ▷ (t5 ▷ none t5.rest_fits))))), (refl, ((omega arith, k4.1.1, k5.0), (k0.0, k1.0, k2.0, k3, k4.0, k5.1)))),
      (allowed, k0.1, k1.1, k1.2, k2.1.0),
    )

-- a GlobalReport within bounds
pub global_report_takes : (bounds : ReportBounds) → IsTrue bounds.global → (bytes : List ℕ) (s : Statement) (rest : List ℕ) → IsBytes bytes → global_report_at bounds bytes ≡ Ok (s, rest) → IsRead kinds.GlobalReport bytes (s, rest) × KeepsBounds bounds s
unfolding global_report_at fields_spelling
global_report_takes bounds allowed bytes s rest fits e =
    step (byte_in_field bounds.least_site bounds.most_site) bytes (s, rest) fits e λ site r0 t0 k0 e0.
    step (u32_above_field bounds.after_view bounds.most_view) r0 (s, rest) t0.rest_fits e0 λ view r1 t1 k1 e1.
    step (byte_in_field bounds.least_index 255) r1 (s, rest) t1.rest_fits e1 λ index r2 t2 k2 e2.
    step (u32_in_field 0 most_base) r2 (s, rest) t2.rest_fits e2 λ base r3 t3 k3 e3.
    step (items_field (limits_above base (view - 1) None)) r3 (s, rest) t3.rest_fits e3 λ items r4 t4 k4 e4.
    subst (λ (p : Statement × List ℕ). IsRead kinds.GlobalReport bytes p × KeepsBounds bounds p.0) (ok_is _ (s, rest) e4) (
      (t0 ▷ (t1 ▷ (t2 ▷ (t3 ▷ (t4 ▷ none t4.rest_fits)))), (refl, ((omega arith, k3.1.1, k4.0), (k0.0, k1.0, k2.0, k3.0, k4.1)))),
      (allowed, k0.1, k1.1, k1.2, k2.1.0),
    )

-- a LocalUnion
local_union_takes : (bytes : List ℕ) (s : Statement) (rest : List ℕ) → IsBytes bytes → local_union_at bytes ≡ Ok (s, rest) → IsRead kinds.LocalUnion bytes (s, rest)
unfolding local_union_at fields_spelling
local_union_takes bytes s rest fits e =
    step byte_field bytes (s, rest) fits e λ site r0 t0 k0 e0.
    step positive_field r0 (s, rest) t0.rest_fits e0 λ local r1 t1 k1 e1.
    step u32_field r1 (s, rest) t1.rest_fits e1 λ greatest r2 t2 k2 e2.
    step (u32_in_field 0 most_base) r2 (s, rest) t2.rest_fits e2 λ base r3 t3 k3 e3.
    step (items_field (limits_above base greatest None)) r3 (s, rest) t3.rest_fits e3 λ items r4 t4 k4 e4.
    subst (IsRead kinds.LocalUnion bytes) (ok_is _ (s, rest) e4)
    (t0 ▷ (t1 ▷ (t2 ▷ (t3 ▷ (t4 ▷ none t4.rest_fits)))), (refl, ((k1.1, k3.1.1, k4.0), (k0, k1.0, k2, k3.0, k4.1))))

-- a GlobalUnion
global_union_takes : (bytes : List ℕ) (s : Statement) (rest : List ℕ) → IsBytes bytes → global_union_at bytes ≡ Ok (s, rest) → IsRead kinds.GlobalUnion bytes (s, rest)
unfolding global_union_at fields_spelling
global_union_takes bytes s rest fits e =
    step byte_field bytes (s, rest) fits e λ site r0 t0 k0 e0.
    step positive_field r0 (s, rest) t0.rest_fits e0 λ view r1 t1 k1 e1.
    step (u32_in_field 0 most_base) r1 (s, rest) t1.rest_fits e1 λ base r2 t2 k2 e2.
    step (items_field (limits_above base (view - 1) None)) r2 (s, rest) t2.rest_fits e2 λ items r3 t3 k3 e3.
    subst (IsRead kinds.GlobalUnion bytes) (ok_is _ (s, rest) e3)
    (t0 ▷ (t1 ▷ (t2 ▷ (t3 ▷ none t3.rest_fits))), (refl, ((k1.1, k2.1.1, k3.0), (k0, k1.0, k2.0, k3.1))))

-- a Reply
reply_takes : (bytes : List ℕ) (s : Statement) (rest : List ℕ) → IsBytes bytes → reply_at bytes ≡ Ok (s, rest) → IsRead kinds.Reply bytes (s, rest)
unfolding reply_at fields_spelling
reply_takes bytes s rest fits e =
    step byte_field bytes (s, rest) fits e λ site r0 t0 k0 e0.
    step byte_field r0 (s, rest) t0.rest_fits e0 λ client r1 t1 k1 e1.
    step positive_field r1 (s, rest) t1.rest_fits e1 λ time r2 t2 k2 e2.
    step positive_field r2 (s, rest) t2.rest_fits e2 λ n r3 t3 k3 e3.
    step (text_field 0 most_text (lit< tt)) r3 (s, rest) t3.rest_fits e3 λ outcome r4 t4 k4 e4.
    subst (IsRead kinds.Reply bytes) (ok_is _ (s, rest) e4)
    (t0 ▷ (t1 ▷ (t2 ▷ (t3 ▷ (t4 ▷ none t4.rest_fits)))), (refl, ((k2.1, k3.1, k4.1), (k0, k1, k2.0, k3.0))))

-- a ClientUpdate
client_update_takes : (bytes : List ℕ) (s : Statement) (rest : List ℕ) → IsBytes bytes → client_update_at bytes ≡ Ok (s, rest) → IsRead kinds.ClientUpdate bytes (s, rest)
unfolding client_update_at fields_spelling
client_update_takes bytes s rest fits e =
    step (mark_field (byte 255)) bytes (s, rest) fits e λ mark r0 t0 k0 e0.
    step update_field r0 (s, rest) t0.rest_fits e0 λ update r1 t1 k1 e1.
    subst (IsRead kinds.ClientUpdate bytes) (ok_is _ (s, rest) e1) (t0 ▷ (t1 ▷ none t1.rest_fits), (refl, k1))

-- the fields of a kind
fields_takes : (kind : StatementKind) (bytes : List ℕ) (s : Statement) (rest : List ℕ) → IsBytes bytes → fields_at kind bytes ≡ Ok (s, rest) → IsRead kind bytes (s, rest)
fields_takes kinds.Prepare bytes s rest fits e = prepare_takes bytes s rest fits e
fields_takes kinds.Proposal bytes s rest fits e = proposal_takes bytes s rest fits e
fields_takes kinds.Accept bytes s rest fits e = accept_takes bytes s rest fits e
fields_takes kinds.LocalVc bytes s rest fits e = local_vc_takes bytes s rest fits e
fields_takes kinds.GlobalVc bytes s rest fits e = global_vc_takes bytes s rest fits e
fields_takes kinds.LocalReport bytes s rest fits e = (local_report_takes any_report refl bytes s rest fits e).0
fields_takes kinds.GlobalReport bytes s rest fits e = (global_report_takes any_report refl bytes s rest fits e).0
fields_takes kinds.LocalUnion bytes s rest fits e = local_union_takes bytes s rest fits e
fields_takes kinds.GlobalUnion bytes s rest fits e = global_union_takes bytes s rest fits e
fields_takes kinds.Reply bytes s rest fits e = reply_takes bytes s rest fits e
fields_takes kinds.ClientUpdate bytes s rest fits e = client_update_takes bytes s rest fits e

-- ---- what is spelled so is read

-- a LocalReport within bounds
pub local_report_again : (bounds : ReportBounds) (s : Statement) (rest : List ℕ) → KeepsBounds bounds s → IsKind kinds.LocalReport s → local_report_at bounds (fields_spelling s ++ rest) ≡ Ok (s, rest)
unfolding local_report_at fields_spelling
local_report_again bounds (LocalReport site local index view base items) rest b (is, (k, f)) =
    ap (local_report_at bounds) (joined-append (byte site.0 ∷ number w32 local.0 ∷ byte index ∷ number w32 view.0 ∷ number w32 base ∷ items_spelling items ∷ []) rest)
    ∙ (again_step (byte_in_field bounds.least_site bounds.most_site) _ _ site.0 (f.0, b.1)
    (again_step (u32_above_field bounds.after_view bounds.most_view) _ _ local.0 (f.1, b.2, b.3)
    (again_step (byte_in_field bounds.least_index 255) _ _ index (f.2, (b.4, omega arith))
    (again_step u32_field _ _ view.0 f.3
    (again_step (u32_in_field 0 most_base) _ _ base (f.4, (omega arith, k.1))
    (again_step (items_field (limits_above base view.0 (Some (local.0 - 1)))) _ _ items (k.2, f.5) refl))))))
local_report_again bounds _ rest b (is, (k, f)) = absurd cc

-- a GlobalReport within bounds
pub global_report_again : (bounds : ReportBounds) (s : Statement) (rest : List ℕ) → KeepsBounds bounds s → IsKind kinds.GlobalReport s → global_report_at bounds (fields_spelling s ++ rest) ≡ Ok (s, rest)
unfolding global_report_at fields_spelling
global_report_again bounds (GlobalReport site view index base items) rest b (is, (k, f)) =
    ap (global_report_at bounds) (joined-append (byte site.0 ∷ number w32 view.0 ∷ byte index ∷ number w32 base ∷ items_spelling items ∷ []) rest)
    ∙ (again_step (byte_in_field bounds.least_site bounds.most_site) _ _ site.0 (f.0, b.1)
    (again_step (u32_above_field bounds.after_view bounds.most_view) _ _ view.0 (f.1, b.2, b.3)
    (again_step (byte_in_field bounds.least_index 255) _ _ index (f.2, (b.4, omega arith))
    (again_step (u32_in_field 0 most_base) _ _ base (f.3, (omega arith, k.1))
    (again_step (items_field (limits_above base (view.0 - 1) None)) _ _ items (k.2, f.4) refl)))))
global_report_again bounds _ rest b (is, (k, f)) = absurd cc

-- every report stands within the widest bounds
pub any_report_bounds : (s : Statement) → (kind_of s ≡ kinds.LocalReport) ⊎ (kind_of s ≡ kinds.GlobalReport) → KeepsStatement s → FitsStatement s → KeepsBounds any_report s
any_report_bounds (LocalReport site local index view base items) report k f = (refl, (omega arith, omega (arith, f.0)), omega (arith, k.0), omega (arith, f.1), omega arith)
any_report_bounds (GlobalReport site view index base items) report k f = (refl, (omega arith, omega (arith, f.0)), omega (arith, k.0), omega (arith, f.1), omega arith)
any_report_bounds _ (inl local) k f = absurd cc
any_report_bounds _ (inr global) k f = absurd cc

-- the fields of each kind
fields_again : (s : Statement) (rest : List ℕ) → KeepsStatement s → FitsStatement s → fields_at (kind_of s) (fields_spelling s ++ rest) ≡ Ok (s, rest)
unfolding prepare_at proposal_at accept_at local_vc_at global_vc_at local_union_at global_union_at reply_at client_update_at fields_spelling
fields_again (Prepare site view local n v) rest k f =
    ap prepare_at (joined-append (byte site.0 ∷ number w32 view.0 ∷ number w32 local.0 ∷ number w32 n.0 ∷ value_spelling v ∷ []) rest)
    ∙ (again_step byte_field _ _ site.0 f.0
    (again_step u32_field _ _ view.0 f.1
    (again_step u32_field _ _ local.0 f.2
    (again_step positive_field _ _ n.0 (f.3, k.0)
    (again_step value_field _ _ v (k.1, f.4) refl)))))
fields_again (Proposal site view local n v) rest k f =
    ap proposal_at (joined-append (byte site.0 ∷ number w32 view.0 ∷ number w32 local.0 ∷ number w32 n.0 ∷ value_spelling v ∷ []) rest)
    ∙ (again_step byte_field _ _ site.0 f.0
    (again_step u32_field _ _ view.0 f.1
    (again_step u32_field _ _ local.0 f.2
    (again_step positive_field _ _ n.0 (f.3, k.0)
    (again_step value_field _ _ v (k.1, f.4) refl)))))
fields_again (Accept site view n v) rest k f =
    ap accept_at (joined-append (byte site.0 ∷ number w32 view.0 ∷ number w32 n.0 ∷ value_spelling v ∷ []) rest)
    ∙ (again_step byte_field _ _ site.0 f.0
    (again_step u32_field _ _ view.0 f.1
    (again_step positive_field _ _ n.0 (f.2, k.0)
    (again_step value_field _ _ v (k.1, f.3) refl))))
fields_again (LocalVc site local) rest k f =
    ap local_vc_at (joined-append (byte site.0 ∷ number w32 local.0 ∷ []) rest)
    ∙ (again_step byte_field _ _ site.0 f.0
    (again_step positive_field _ _ local.0 (f.1, k) refl))
fields_again (GlobalVc site view) rest k f =
    ap global_vc_at (joined-append (byte site.0 ∷ number w32 view.0 ∷ []) rest)
    ∙ (again_step byte_field _ _ site.0 f.0
    (again_step positive_field _ _ view.0 (f.1, k) refl))
fields_again (LocalReport site local index view base items) rest k f =
    let s = LocalReport site local index view base items in
    local_report_again any_report s rest (any_report_bounds s (inl refl) k f) (refl, (k, f))
fields_again (GlobalReport site view index base items) rest k f =
    let s = GlobalReport site view index base items in
    global_report_again any_report s rest (any_report_bounds s (inr refl) k f) (refl, (k, f))
fields_again (LocalUnion site local greatest base items) rest k f =
    ap local_union_at (joined-append (byte site.0 ∷ number w32 local.0 ∷ number w32 greatest.0 ∷ number w32 base ∷ items_spelling items ∷ []) rest)
    ∙ (again_step byte_field _ _ site.0 f.0
    (again_step positive_field _ _ local.0 (f.1, k.0)
    (again_step u32_field _ _ greatest.0 f.2
    (again_step (u32_in_field 0 most_base) _ _ base (f.3, (omega arith, k.1))
    (again_step (items_field (limits_above base greatest.0 None)) _ _ items (k.2, f.4) refl)))))
fields_again (GlobalUnion site view base items) rest k f =
    ap global_union_at (joined-append (byte site.0 ∷ number w32 view.0 ∷ number w32 base ∷ items_spelling items ∷ []) rest)
    ∙ (again_step byte_field _ _ site.0 f.0
    (again_step positive_field _ _ view.0 (f.1, k.0)
    (again_step (u32_in_field 0 most_base) _ _ base (f.2, (omega arith, k.1))
    (again_step (items_field (limits_above base (view.0 - 1) None)) _ _ items (k.2, f.3) refl))))
fields_again (Reply site client time n outcome) rest k f =
    ap reply_at (joined-append (byte site.0 ∷ byte client.0 ∷ number w32 time ∷ number w32 n.0 ∷ text outcome ∷ []) rest)
    ∙ (again_step byte_field _ _ site.0 f.0
    (again_step byte_field _ _ client.0 f.1
    (again_step positive_field _ _ time (f.2, k.0)
    (again_step positive_field _ _ n.0 (f.3, k.1)
    (again_step (text_field 0 most_text (lit< tt)) _ _ outcome (omega arith, k.2) refl)))))
fields_again (ClientUpdate update) rest k f =
    ap client_update_at (joined-append (byte 255 ∷ update_spelling update ∷ []) rest)
    ∙ (again_step (mark_field (byte 255)) _ _ tt tt
    (again_step update_field _ _ update (k, f) refl))

-- the fields behind a kind
pub fields_field : (kind : StatementKind) → IsField (fields_at kind) fields_spelling (IsKind kind)
fields_field kind = record {
  takes = λ bytes s rest fits e. fields_takes kind bytes s rest fits e;
  again = λ s rest (is, (k, f)). ap (λ (j : StatementKind). fields_at j (fields_spelling s ++ rest)) (sym is) ∙ fields_again s rest k f;
}
