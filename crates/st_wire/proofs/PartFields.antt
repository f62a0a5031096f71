-- The parts of messages as fields: what is read is spelled so, and what is spelled so is read.
use Rattle.std.proofs.Common.{◌≡◌, ℕ, ◌^◌, ◌<◌, ◌≤◌, Option, Some, None, eqb, List, [], ◌∷◌, ◌++◌, length, All, Ok, refl, ap, subst, ◌∙◌, arith, inl, inr, lit<}
use Rattle.std.specs.Int.{w32}
use Rattle.std.specs.List.{flat_map}
use Rattle.std.proofs.lemmas.Bool.{eqb-true, eqb-false, ne_eqb}
use Rattle.std.proofs.lemmas.List.Elements.{All-nil, All-cons, All-head, All-tail}
use Rattle.st_fields.specs.Spelling.{byte, number, text, KeepsEach}
use Rattle.st_fields.specs.Reading.{◌>>=◌}
use Rattle.st_fields.proofs.Fields.{Takes, IsField, ok_is, chosen, step, again_step, ◌▷◌, none, joined-append, kept_by}
use Rattle.st_fields.proofs.Leaves.{byte_in_field, u32_field, positive_field, text_field}
use Rattle.st_fields.proofs.Lists.{list_field, counted_field}
use Rattle.st_words.specs.Spelling.{value_spelling, core_spelling}
use Rattle.st_words.proofs.Fields.{value_field}
use Rattle.st_words.proofs.Cores.{core_field, report_field}
use Rattle.st_seal.specs.declared.quorum.Signed.{Signed}
use Rattle.st_message.specs.declared.message.SiteWord.{SiteWord}
use Rattle.st_message.specs.declared.message.Proof.{Proof}
use Rattle.st_message.specs.declared.message.ReportBody.{ReportBody}
use Rattle.st_message.specs.declared.message.ViewWords.{ViewWords}
use Rattle.st_message.specs.declared.message.ViewWords.TheVariants.{Local, Global}
use Rattle.st_wire.specs.declared.rising.Rising.{Rising}
use Rattle.st_wire.specs.declared.report.Bundled.{Bundled}
use Rattle.st_wire.specs.declared.report.Backing.{Backing}
use Rattle.st_wire.specs.Kind.{view_kinds, items_of, base_of}
use Rattle.st_wire.specs.Ranges.{most_seal, KeepsSeal, first, KeepsSigned, after_signed, KeepsQuorum, KeepsSite, after_site, KeepsSites, KeepsProof, KeepsBase, KeepsReport, KeepsWords, FitsSigned, FitsQuorum, FitsSite, FitsProof, FitsBase, FitsReport, FitsWords}
use Rattle.st_wire.specs.Spelling.{signed_spelling, quorum_spelling, site_spelling, sites_spelling, proof_spelling, base_spelling, report_spelling, words_spelling}
use Rattle.st_wire.specs.Reading.{seal_at, signed_at, quorum_at, site_at, sites_at, proof_at, base_at, quorums_at, body_report_at, local_words_at, global_words_at, words_at}

-- ---- lists

-- what the elements of a list keep, the rule and the widths apart
pub each_parts : {A S : Type 0} (Keeps : S → A → Type 0) (Fits : A → Type 0) (next : S → A → S) (s : S) (xs : List A) → KeepsEach (λ t x. Keeps t x × Fits x) next s xs → KeepsEach Keeps next s xs × All Fits xs
each_parts Keeps Fits next s [] k = (tt, All-nil Fits)
each_parts Keeps Fits next s (x ∷ xs) k =
    let more = each_parts Keeps Fits next (next s x) xs k.1 in
    ((k.0.0, more.0), All-cons Fits x xs k.0.1 more.1)

-- and together
pub each_from : {A S : Type 0} (Keeps : S → A → Type 0) (Fits : A → Type 0) (next : S → A → S) (s : S) (xs : List A) → KeepsEach Keeps next s xs → All Fits xs → KeepsEach (λ t x. Keeps t x × Fits x) next s xs
each_from Keeps Fits next s [] keeps fits = tt
each_from Keeps Fits next s (x ∷ xs) keeps fits = ((keeps.0, All-head Fits x xs fits), each_from Keeps Fits next (next s x) xs keeps.1 (All-tail Fits x xs fits))

-- a rule that asks nothing of the elements before
all_of : {A S : Type 0} (Keeps : A → Type 0) (next : S → A → S) (s : S) (xs : List A) → KeepsEach (λ t. Keeps) next s xs → All Keeps xs
all_of Keeps next s [] k = All-nil Keeps
all_of Keeps next s (x ∷ xs) k = All-cons Keeps x xs k.0 (all_of Keeps next (next s x) xs k.1)

-- and back
each_of : {A S : Type 0} (Keeps : A → Type 0) (next : S → A → S) (s : S) (xs : List A) → All Keeps xs → KeepsEach (λ t. Keeps) next s xs
each_of Keeps next s [] all = tt
each_of Keeps next s (x ∷ xs) all = (All-head Keeps x xs all, each_of Keeps next (next s x) xs (All-tail Keeps x xs all))

-- ---- seals and quorums

-- a seal behind its length
pub seal_field : IsField seal_at text KeepsSeal
unfolding seal_at
seal_field = text_field 1 most_seal (lit< tt)

-- a server's seal
pub signed_field : (r : Rising) → IsField (signed_at r) signed_spelling (λ s. KeepsSigned r s × FitsSigned s)
unfolding signed_at signed_spelling
signed_field r = record {
  takes = λ bytes s rest fits e.
      step (byte_in_field r.least 255) bytes (s, rest) fits e λ index r0 t0 k0 e0.
      step seal_field r0 (s, rest) t0.rest_fits e0 λ seal r1 t1 k1 e1.
      subst (λ (p : Signed × List ℕ). Takes bytes (signed_spelling p.0) p.1 × (KeepsSigned r p.0 × FitsSigned p.0)) (ok_is _ (s, rest) e1)
      (t0 ▷ (t1 ▷ none t1.rest_fits), ((k0.1.0, k1), k0.0));
  again = λ s rest k.
      ap (signed_at r) (joined-append (byte s.index ∷ text s.seal ∷ []) rest)
      ∙ (again_step (byte_in_field r.least 255) _ _ s.index (k.1, (k.0.0, omega arith))
      (again_step seal_field _ _ s.seal k.0.1 refl));
}

-- a quorum
pub quorum_field : IsField quorum_at quorum_spelling (λ q. KeepsQuorum q × FitsQuorum q)
unfolding quorum_at quorum_spelling
quorum_field =
    kept_by (counted_field signed_at after_signed signed_spelling (λ r s. KeepsSigned r s × FitsSigned s) signed_field 1 255 (lit< tt) first)
    (λ q k. let parts = each_parts KeepsSigned FitsSigned after_signed first q k.1 in ((k.0, parts.0), parts.1))
    (λ q k. (k.0.0, each_from KeepsSigned FitsSigned after_signed first q k.0.1 k.1))

-- a site's word
pub site_field : (r : Rising) → IsField (site_at r) site_spelling (λ w. KeepsSite r w × FitsSite w)
unfolding site_at site_spelling
site_field r = record {
  takes = λ bytes w rest fits e.
      step (byte_in_field r.least 255) bytes (w, rest) fits e λ site r0 t0 k0 e0.
      step quorum_field r0 (w, rest) t0.rest_fits e0 λ q r1 t1 k1 e1.
      subst (λ (p : SiteWord × List ℕ). Takes bytes (site_spelling p.0) p.1 × (KeepsSite r p.0 × FitsSite p.0)) (ok_is _ (w, rest) e1)
      (t0 ▷ (t1 ▷ none t1.rest_fits), ((k0.1.0, k1.0), (k0.0, k1.1)));
  again = λ w rest k.
      ap (site_at r) (joined-append (byte w.site.0 ∷ quorum_spelling w.quorum ∷ []) rest)
      ∙ (again_step (byte_in_field r.least 255) _ _ w.site.0 (k.1.0, (k.0.0, omega arith))
      (again_step quorum_field _ _ w.quorum (k.0.1, k.1.1) refl));
}

-- sites' words
pub sites_field : IsField sites_at sites_spelling (λ ws. KeepsSites ws × All FitsSite ws)
unfolding sites_at sites_spelling
sites_field =
    kept_by (counted_field site_at after_site site_spelling (λ r w. KeepsSite r w × FitsSite w) site_field 1 255 (lit< tt) first)
    (λ ws k. let parts = each_parts KeepsSite FitsSite after_site first ws k.1 in ((k.0, parts.0), parts.1))
    (λ ws k. (k.0.0, each_from KeepsSite FitsSite after_site first ws k.0.1 k.1))

-- ---- order proofs

-- an order proof
pub proof_field : IsField proof_at proof_spelling (λ p. KeepsProof p × FitsProof p)
unfolding proof_at proof_spelling
proof_field = record {
  takes = λ bytes p rest fits e.
      step u32_field bytes (p, rest) fits e λ view r0 t0 k0 e0.
      step value_field r0 (p, rest) t0.rest_fits e0 λ v r1 t1 k1 e1.
      step sites_field r1 (p, rest) t1.rest_fits e1 λ sites r2 t2 k2 e2.
      subst (λ (x : Proof × List ℕ). Takes bytes (proof_spelling x.0) x.1 × (KeepsProof x.0 × FitsProof x.0)) (ok_is _ (p, rest) e2)
      (t0 ▷ (t1 ▷ (t2 ▷ none t2.rest_fits)), ((k1.0, k2.0), (k0, k1.1, k2.1)));
  again = λ p rest k.
      ap proof_at (joined-append (number w32 p.view.0 ∷ value_spelling p.value ∷ sites_spelling p.sites ∷ []) rest)
      ∙ (again_step u32_field _ _ p.view.0 k.1.0
      (again_step value_field _ _ p.value (k.0.0, k.1.1)
      (again_step sites_field _ _ p.sites (k.0.1, k.1.2) refl)));
}

-- the order proof of a base
pub base_field : (base : ℕ) → IsField (base_at base) base_spelling (λ b. KeepsBase base b × FitsBase b)
unfolding base_at base_spelling
base_field base = record {
  takes = λ bytes b rest fits e.
      elim (chosen (eqb base 0) (Ok (None, bytes)) (proof_at bytes >>= λ p r. Ok (Some p, r)) (Ok (b, rest)) e) [
        | inl no-base ↦
            subst (λ (x : Option Proof × List ℕ). Takes bytes (base_spelling x.0) x.1 × (KeepsBase base x.0 × FitsBase x.0)) (ok_is (None, bytes) (b, rest) no-base.1)
            (none fits, (eqb-true base 0 no-base.0, tt))
        | inr based ↦
            (let is-not : base ≡ 0 → ⊥ = eqb-false base 0 based.0 in
            step proof_field bytes (b, rest) fits based.1 λ p r0 t0 k0 e0.
            subst (λ (x : Option Proof × List ℕ). Takes bytes (base_spelling x.0) x.1 × (KeepsBase base x.0 × FitsBase x.0)) (ok_is (Some p, r0) (b, rest) e0)
            (t0, ((omega (arith, is-not), k0.0), k0.1)))
      ];
  again = base_again;
}
  where
    base_again : (b : Option Proof) (rest : List ℕ) → KeepsBase base b × FitsBase b → base_at base (base_spelling b ++ rest) ≡ Ok (b, rest)
    base_again None rest k = rw k.0 refl
    base_again (Some p) rest k = rw (ne_eqb base 0 (λ is. omega (arith, k.0.0, is))) (again_step proof_field _ _ p (k.0.1, k.1) refl)

-- ---- reports

-- a quorum for each of so many items
pub quorums_field : (n : ℕ) → IsField (quorums_at n) (flat_map quorum_spelling) (λ qs. (length qs ≡ n) × All KeepsQuorum qs × All FitsQuorum qs)
unfolding quorums_at
quorums_field n =
    let backing : Backing = record {} in
    kept_by (list_field (λ (b : Backing). quorum_at) (λ b q. b) quorum_spelling (λ b q. KeepsQuorum q × FitsQuorum q) (λ b. quorum_field) n backing)
    (λ qs k. let parts = each_parts (λ (b : Backing) q. KeepsQuorum q) FitsQuorum (λ b q. b) backing qs k.1 in (k.0, all_of KeepsQuorum (λ (b : Backing) q. b) backing qs parts.0, parts.1))
    (λ qs k. (k.0, each_from (λ (b : Backing) q. KeepsQuorum q) FitsQuorum (λ b q. b) backing qs (each_of KeepsQuorum (λ (b : Backing) q. b) backing qs k.1) k.2))

-- a report within bounds, with what backs it
pub body_report_field : (b : Bundled) → IsField (body_report_at b) report_spelling (λ r. KeepsReport b r × FitsReport r)
unfolding body_report_at report_spelling
body_report_field b = record {
  takes = λ bytes r rest fits e.
      step (report_field b.bounds) bytes (r, rest) fits e λ s r0 t0 k0 e0.
      step seal_field r0 (r, rest) t0.rest_fits e0 λ seal r1 t1 k1 e1.
      step (quorums_field (length (items_of s))) r1 (r, rest) t1.rest_fits e1 λ quorums r2 t2 k2 e2.
      step (base_field (base_of s)) r2 (r, rest) t2.rest_fits e2 λ base r3 t3 k3 e3.
      subst (λ (x : ReportBody × List ℕ). Takes bytes (report_spelling x.0) x.1 × (KeepsReport b x.0 × FitsReport x.0)) (ok_is _ (r, rest) e3)
      (t0 ▷ (t1 ▷ (t2 ▷ (t3 ▷ none t3.rest_fits))), ((k0.0, (k0.1.0, k1, k2.0, k2.1, k3.0)), (k0.1.1, k2.2, k3.1)));
  again = λ r rest k.
      ap (body_report_at b) (joined-append (core_spelling r.statement ∷ text r.seal ∷ flat_map quorum_spelling r.quorums ∷ base_spelling r.base ∷ []) rest)
      ∙ (again_step (report_field b.bounds) _ _ r.statement (k.0.0, (k.0.1.0, k.1.0))
      (again_step seal_field _ _ r.seal k.0.1.1
      (again_step (quorums_field (length (items_of r.statement))) _ _ r.quorums (k.0.1.2, k.0.1.3, k.1.1)
      (again_step (base_field (base_of r.statement)) _ _ r.base (k.0.1.4, k.1.2) refl))));
}

-- ---- why a view is entered

-- behind the mark of a local view, or of a view
pub words_field : IsField words_at words_spelling (λ w. KeepsWords w × FitsWords w)
unfolding words_at local_words_at global_words_at words_spelling
words_field = record {
  takes = λ bytes w rest fits e.
      step (byte_in_field 0 1) bytes (w, rest) fits e λ mark r0 t0 k0 e0.
      elim (chosen (eqb mark 0) (local_words_at r0) (global_words_at r0) (Ok (w, rest)) e0) [
        | inl local ↦
            (let is : mark ≡ 0 = eqb-true mark 0 local.0 in
            step (core_field view_kinds) r0 (w, rest) t0.rest_fits local.1 λ s r1 t1 k1 e1.
            step quorum_field r1 (w, rest) t1.rest_fits e1 λ q r2 t2 k2 e2.
            subst (λ (p : ViewWords × List ℕ). Takes bytes (words_spelling p.0) p.1 × (KeepsWords p.0 × FitsWords p.0)) (ok_is (Local s q, r2) (w, rest) e2)
            (subst (λ (n : ℕ). Takes bytes (byte n ++ (core_spelling s ++ (quorum_spelling q ++ []))) r2) is (t0 ▷ (t1 ▷ (t2 ▷ none t2.rest_fits))), (((k1.0, k1.1.0), k2.0), (k1.1.1, k2.1))))
        | inr global ↦
            (let is-not : mark ≡ 0 → ⊥ = eqb-false mark 0 global.0 in
            let is : mark ≡ 1 = omega (arith, is-not) in
            step positive_field r0 (w, rest) t0.rest_fits global.1 λ view r1 t1 k1 e1.
            step sites_field r1 (w, rest) t1.rest_fits e1 λ sites r2 t2 k2 e2.
            subst (λ (p : ViewWords × List ℕ). Takes bytes (words_spelling p.0) p.1 × (KeepsWords p.0 × FitsWords p.0)) (ok_is (Global (record { 0 = view }) sites, r2) (w, rest) e2)
            (subst (λ (n : ℕ). Takes bytes (byte n ++ (number w32 view ++ (sites_spelling sites ++ []))) r2) is (t0 ▷ (t1 ▷ (t2 ▷ none t2.rest_fits))), ((k1.1, k2.0), (k1.0, k2.1))))
      ];
  again = words_again;
}
  where
    words_again : (w : ViewWords) (rest : List ℕ) → KeepsWords w × FitsWords w → words_at (words_spelling w ++ rest) ≡ Ok (w, rest)
    words_again (Local s q) rest k =
        ap words_at (joined-append (byte 0 ∷ core_spelling s ∷ quorum_spelling q ∷ []) rest)
        ∙ (again_step (byte_in_field 0 1) _ _ 0 (omega arith, (omega arith, omega arith))
        (again_step (core_field view_kinds) _ _ s (k.0.0.0, (k.0.0.1, k.1.0))
        (again_step quorum_field _ _ q (k.0.1, k.1.1) refl)))
    words_again (Global view sites) rest k =
        ap words_at (joined-append (byte 1 ∷ number w32 view.0 ∷ sites_spelling sites ∷ []) rest)
        ∙ (again_step (byte_in_field 0 1) _ _ 1 (omega arith, (omega arith, omega arith))
        (again_step positive_field _ _ view.0 (k.1.0, k.0.0)
        (again_step sites_field _ _ sites (k.0.1, k.1.1) refl)))
