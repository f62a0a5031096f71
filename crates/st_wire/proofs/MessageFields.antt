-- Messages as fields, kind by kind: what is read is spelled so, and what is spelled so is read.
use Rattle.std.proofs.Common.{◌≡◌, ℕ, ◌^◌, ◌<◌, ◌≤◌, eqb, List, [], ◌∷◌, ◌++◌, length, All, Option, Some, Ok, refl, sym, ap, subst, ◌∙◌, arith, lit<}
use Rattle.std.specs.Int.{w32, w64, IsInRange}
use Rattle.std.specs.Prelude.{IsTrue, find}
use Rattle.st_fields.specs.Spelling.{byte, number, text, counted, is_among, KeepsEach}
use Rattle.st_fields.specs.Reading.{text_at, counted_at}
use Rattle.st_fields.proofs.Fields.{IsBytes, Takes, IsField, ok_is, step, again_step, ◌▷◌, none, joined-append, kept_by}
use Rattle.st_fields.proofs.Leaves.{byte_field, u32_field, u64_field, positive_field, text_field, mark_field}
use Rattle.st_fields.proofs.Lists.{counted_field}
use Rattle.st_fields.proofs.Numbers.{kind_field}
use Rattle.st_words.specs.declared.value.Value.{Value}
use Rattle.st_words.specs.declared.value.Value.TheVariants as values
use Rattle.st_words.specs.Spelling.{update_spelling, value_spelling, core_spelling}
use Rattle.st_words.proofs.Fields.{update_field, value_field}
use Rattle.st_words.proofs.Cores.{core_field}
use Rattle.st_message.specs.declared.message.ReportBody.{ReportBody}
use Rattle.st_message.specs.declared.message.Message.{Message}
use Rattle.st_message.specs.declared.message.Message.TheVariants as messages
use Rattle.st_wire.specs.declared.kind.MessageKind.{MessageKind}
use Rattle.st_wire.specs.declared.kind.MessageKind.TheVariants as kinds
use Rattle.st_wire.specs.Kind.{kind_number, kind_of, all_kinds, share_kinds, certificate_kinds, reply_kinds}
use Rattle.st_wire.specs.Ranges.{most_seal, first, most_client_seal, any_body, after_body, KeepsReport, FitsReport, KeepsMessage, FitsMessage}
use Rattle.st_wire.specs.Spelling.{signed_spelling, quorum_spelling, proof_spelling, report_spelling, words_spelling, body_spelling, message_mark, message_spelling}
use Rattle.st_wire.specs.Reading.{update_body_at, assign_at, share_at, certificate_at, order_proof_at, report_message_at, bundle_at, view_proof_at, ask_at, reply_message_at, body_at, body_report_at, message_at}
use Rattle.st_wire.proofs.PartFields.{each_parts, each_from, seal_field, signed_field, quorum_field, proof_field, body_report_field, words_field}

-- a message of this kind that keeps its ranges
abbrev pub IsKind : MessageKind → Message → Type 0
IsKind kind m = (kind_of m ≡ kind) × (KeepsMessage m × FitsMessage m)

-- the body of such a message was taken
abbrev pub IsBody : MessageKind → List ℕ → Message × List ℕ → Type 0
IsBody kind bytes p = Takes bytes (body_spelling p.0) p.1 × IsKind kind p.0

-- a client's seal, where a no-op has none
client_seal_field : (v : Value) → IsField (text_at 0 (most_client_seal v)) text (λ seal. IsInRange 0 (most_client_seal v) (length seal))
client_seal_field values.Noop = text_field 0 0 (lit< tt)
client_seal_field (values.Update u) = text_field 0 most_seal (lit< tt)

-- the reports of a bundle
reports_field : IsField (counted_at 1 255 body_report_at after_body any_body) (counted report_spelling) (λ rs. (IsInRange 1 255 (length rs) × KeepsEach KeepsReport after_body any_body rs) × All FitsReport rs)
reports_field =
    kept_by (counted_field body_report_at after_body report_spelling (λ b r. KeepsReport b r × FitsReport r) body_report_field 1 255 (lit< tt) any_body)
    (λ rs k. let parts = each_parts KeepsReport FitsReport after_body any_body rs k.1 in ((k.0, parts.0), parts.1))
    (λ rs k. (k.0.0, each_from KeepsReport FitsReport after_body any_body rs k.0.1 k.1))

-- ---- what is read is spelled so

-- an Update
update_takes : (bytes : List ℕ) (m : Message) (rest : List ℕ) → IsBytes bytes → update_body_at bytes ≡ Ok (m, rest) → IsBody kinds.Update bytes (m, rest)
unfolding update_body_at body_spelling
update_takes bytes m rest fits e =
    step update_field bytes (m, rest) fits e λ u r0 t0 k0 e0.
    step seal_field r0 (m, rest) t0.rest_fits e0 λ seal r1 t1 k1 e1.
    subst (IsBody kinds.Update bytes) (ok_is _ (m, rest) e1) (t0 ▷ (t1 ▷ none t1.rest_fits), (refl, ((k0.0, k1), k0.1)))

-- an Assign
assign_takes : (bytes : List ℕ) (m : Message) (rest : List ℕ) → IsBytes bytes → assign_at bytes ≡ Ok (m, rest) → IsBody kinds.Assign bytes (m, rest)
unfolding assign_at body_spelling
assign_takes bytes m rest fits e =
    step u32_field bytes (m, rest) fits e λ view r0 t0 k0 e0.
    step u32_field r0 (m, rest) t0.rest_fits e0 λ local r1 t1 k1 e1.
    step positive_field r1 (m, rest) t1.rest_fits e1 λ n r2 t2 k2 e2.
    step value_field r2 (m, rest) t2.rest_fits e2 λ v r3 t3 k3 e3.
    step (client_seal_field v) r3 (m, rest) t3.rest_fits e3 λ seal r4 t4 k4 e4.
    step (signed_field first) r4 (m, rest) t4.rest_fits e4 λ signed r5 t5 k5 e5.
    subst (IsBody kinds.Assign bytes) (ok_is _ (m, rest) e5)
    (t0 ▷ (t1 ▷ (t2 ▷ (t3 ▷ (t4 ▷ (t5 ▷ none t5.rest_fits))))), (refl, ((k2.1, k3.0, k4.1, k5.0), (k0, k1, k2.0, k3.1, k5.1))))

-- a Share
share_takes : (bytes : List ℕ) (m : Message) (rest : List ℕ) → IsBytes bytes → share_at bytes ≡ Ok (m, rest) → IsBody kinds.Share bytes (m, rest)
unfolding share_at body_spelling
share_takes bytes m rest fits e =
    step (core_field share_kinds) bytes (m, rest) fits e λ s r0 t0 k0 e0.
    step (signed_field first) r0 (m, rest) t0.rest_fits e0 λ signed r1 t1 k1 e1.
    subst (IsBody kinds.Share bytes) (ok_is _ (m, rest) e1) (t0 ▷ (t1 ▷ none t1.rest_fits), (refl, (((k0.0, k0.1.0), k1.0), (k0.1.1, k1.1))))

-- a Certificate
certificate_takes : (bytes : List ℕ) (m : Message) (rest : List ℕ) → IsBytes bytes → certificate_at bytes ≡ Ok (m, rest) → IsBody kinds.Certificate bytes (m, rest)
unfolding certificate_at body_spelling
certificate_takes bytes m rest fits e =
    step (core_field certificate_kinds) bytes (m, rest) fits e λ s r0 t0 k0 e0.
    step quorum_field r0 (m, rest) t0.rest_fits e0 λ q r1 t1 k1 e1.
    subst (IsBody kinds.Certificate bytes) (ok_is _ (m, rest) e1) (t0 ▷ (t1 ▷ none t1.rest_fits), (refl, (((k0.0, k0.1.0), k1.0), (k0.1.1, k1.1))))

-- an OrderProof
order_proof_takes : (bytes : List ℕ) (m : Message) (rest : List ℕ) → IsBytes bytes → order_proof_at bytes ≡ Ok (m, rest) → IsBody kinds.OrderProof bytes (m, rest)
unfolding order_proof_at body_spelling
order_proof_takes bytes m rest fits e =
    step positive_field bytes (m, rest) fits e λ n r0 t0 k0 e0.
    step proof_field r0 (m, rest) t0.rest_fits e0 λ p r1 t1 k1 e1.
    subst (IsBody kinds.OrderProof bytes) (ok_is _ (m, rest) e1) (t0 ▷ (t1 ▷ none t1.rest_fits), (refl, ((k0.1, k1.0), (k0.0, k1.1))))

-- a Report
report_takes : (bytes : List ℕ) (m : Message) (rest : List ℕ) → IsBytes bytes → report_message_at bytes ≡ Ok (m, rest) → IsBody kinds.Report bytes (m, rest)
unfolding report_message_at body_spelling
report_takes bytes m rest fits e =
    step (body_report_field any_body) bytes (m, rest) fits e λ r r0 t0 k0 e0.
    subst (IsBody kinds.Report bytes) (ok_is _ (m, rest) e0) (t0, (refl, k0))

-- a Bundle
bundle_takes : (bytes : List ℕ) (m : Message) (rest : List ℕ) → IsBytes bytes → bundle_at bytes ≡ Ok (m, rest) → IsBody kinds.Bundle bytes (m, rest)
unfolding bundle_at body_spelling
bundle_takes bytes m rest fits e =
    step reports_field bytes (m, rest) fits e λ rs r0 t0 k0 e0.
    subst (IsBody kinds.Bundle bytes) (ok_is _ (m, rest) e0) (t0, (refl, k0))

-- a ViewProof
view_proof_takes : (bytes : List ℕ) (m : Message) (rest : List ℕ) → IsBytes bytes → view_proof_at bytes ≡ Ok (m, rest) → IsBody kinds.ViewProof bytes (m, rest)
unfolding view_proof_at body_spelling
view_proof_takes bytes m rest fits e =
    step words_field bytes (m, rest) fits e λ w r0 t0 k0 e0.
    subst (IsBody kinds.ViewProof bytes) (ok_is _ (m, rest) e0) (t0, (refl, k0))

-- an Ask
ask_takes : (bytes : List ℕ) (m : Message) (rest : List ℕ) → IsBytes bytes → ask_at bytes ≡ Ok (m, rest) → IsBody kinds.Ask bytes (m, rest)
unfolding ask_at body_spelling
ask_takes bytes m rest fits e =
    step byte_field bytes (m, rest) fits e λ site r0 t0 k0 e0.
    step byte_field r0 (m, rest) t0.rest_fits e0 λ index r1 t1 k1 e1.
    step u32_field r1 (m, rest) t1.rest_fits e1 λ executed r2 t2 k2 e2.
    step u32_field r2 (m, rest) t2.rest_fits e2 λ view r3 t3 k3 e3.
    step u32_field r3 (m, rest) t3.rest_fits e3 λ local r4 t4 k4 e4.
    subst (IsBody kinds.Ask bytes) (ok_is _ (m, rest) e4)
    (t0 ▷ (t1 ▷ (t2 ▷ (t3 ▷ (t4 ▷ none t4.rest_fits)))), (refl, (tt, (k0, k1, k2, k3, k4))))

-- a Reply
reply_takes : (bytes : List ℕ) (m : Message) (rest : List ℕ) → IsBytes bytes → reply_message_at bytes ≡ Ok (m, rest) → IsBody kinds.Reply bytes (m, rest)
unfolding reply_message_at body_spelling
reply_takes bytes m rest fits e =
    step (core_field reply_kinds) bytes (m, rest) fits e λ s r0 t0 k0 e0.
    step (signed_field first) r0 (m, rest) t0.rest_fits e0 λ signed r1 t1 k1 e1.
    subst (IsBody kinds.Reply bytes) (ok_is _ (m, rest) e1) (t0 ▷ (t1 ▷ none t1.rest_fits), (refl, (((k0.0, k0.1.0), k1.0), (k0.1.1, k1.1))))

-- each kind
body_takes : (kind : MessageKind) (bytes : List ℕ) (m : Message) (rest : List ℕ) → IsBytes bytes → body_at kind bytes ≡ Ok (m, rest) → IsBody kind bytes (m, rest)
body_takes kinds.Update bytes m rest fits e = update_takes bytes m rest fits e
body_takes kinds.Assign bytes m rest fits e = assign_takes bytes m rest fits e
body_takes kinds.Share bytes m rest fits e = share_takes bytes m rest fits e
body_takes kinds.Certificate bytes m rest fits e = certificate_takes bytes m rest fits e
body_takes kinds.OrderProof bytes m rest fits e = order_proof_takes bytes m rest fits e
body_takes kinds.Report bytes m rest fits e = report_takes bytes m rest fits e
body_takes kinds.Bundle bytes m rest fits e = bundle_takes bytes m rest fits e
body_takes kinds.ViewProof bytes m rest fits e = view_proof_takes bytes m rest fits e
body_takes kinds.Ask bytes m rest fits e = ask_takes bytes m rest fits e
body_takes kinds.Reply bytes m rest fits e = reply_takes bytes m rest fits e

-- ---- what is spelled so is read

-- each kind
body_again : (m : Message) (rest : List ℕ) → KeepsMessage m → FitsMessage m → body_at (kind_of m) (body_spelling m ++ rest) ≡ Ok (m, rest)
unfolding update_body_at assign_at share_at certificate_at order_proof_at report_message_at bundle_at view_proof_at ask_at reply_message_at body_spelling
body_again (messages.Update u seal) rest k f =
    ap update_body_at (joined-append (update_spelling u ∷ text seal ∷ []) rest)
    ∙ (again_step update_field _ _ u (k.0, f)
    (again_step seal_field _ _ seal k.1 refl))
body_again (messages.Assign view local n v seal signed) rest k f =
    ap assign_at (joined-append (number w32 view.0 ∷ number w32 local.0 ∷ number w32 n.0 ∷ value_spelling v ∷ text seal ∷ signed_spelling signed ∷ []) rest)
    ∙ (again_step u32_field _ _ view.0 f.0
    (again_step u32_field _ _ local.0 f.1
    (again_step positive_field _ _ n.0 (f.2, k.0)
    (again_step value_field _ _ v (k.1, f.3)
    (again_step (client_seal_field v) _ _ seal (omega arith, k.2)
    (again_step (signed_field first) _ _ signed (k.3, f.4) refl))))))
body_again (messages.Share s signed) rest k f =
    ap share_at (joined-append (core_spelling s ∷ signed_spelling signed ∷ []) rest)
    ∙ (again_step (core_field share_kinds) _ _ s (k.0.0, (k.0.1, f.0))
    (again_step (signed_field first) _ _ signed (k.1, f.1) refl))
body_again (messages.Certificate s q) rest k f =
    ap certificate_at (joined-append (core_spelling s ∷ quorum_spelling q ∷ []) rest)
    ∙ (again_step (core_field certificate_kinds) _ _ s (k.0.0, (k.0.1, f.0))
    (again_step quorum_field _ _ q (k.1, f.1) refl))
body_again (messages.OrderProof n p) rest k f =
    ap order_proof_at (joined-append (number w32 n.0 ∷ proof_spelling p ∷ []) rest)
    ∙ (again_step positive_field _ _ n.0 (f.0, k.0)
    (again_step proof_field _ _ p (k.1, f.1) refl))
body_again (messages.Report r) rest k f = again_step (body_report_field any_body) _ _ r (k, f) refl
body_again (messages.Bundle rs) rest k f = again_step reports_field _ _ rs (k, f) refl
body_again (messages.ViewProof w) rest k f = again_step words_field _ _ w (k, f) refl
body_again (messages.Ask server executed view local) rest k f =
    ap ask_at (joined-append (byte server.site ∷ byte server.index ∷ number w32 executed ∷ number w32 view.0 ∷ number w32 local.0 ∷ []) rest)
    ∙ (again_step byte_field _ _ server.site f.0
    (again_step byte_field _ _ server.index f.1
    (again_step u32_field _ _ executed f.2
    (again_step u32_field _ _ view.0 f.3
    (again_step u32_field _ _ local.0 f.4 refl)))))
body_again (messages.Reply s signed) rest k f =
    ap reply_message_at (joined-append (core_spelling s ∷ signed_spelling signed ∷ []) rest)
    ∙ (again_step (core_field reply_kinds) _ _ s (k.0.0, (k.0.1, f.0))
    (again_step (signed_field first) _ _ signed (k.1, f.1) refl))

-- the body behind a kind
pub body_field : (kind : MessageKind) → IsField (body_at kind) body_spelling (IsKind kind)
body_field kind = record {
  takes = λ bytes m rest fits e. body_takes kind bytes m rest fits e;
  again = λ m rest (is, (k, f)). ap (λ (j : MessageKind). body_at j (body_spelling m ++ rest)) (sym is) ∙ body_again m rest k f;
}

-- ---- a number has one kind

-- the kind of a number
named : ℕ → Option MessageKind
named n = find (λ k. eqb (kind_number k) n) all_kinds

-- each kind is the kind of its number
named-number : (kind : MessageKind) → named (kind_number kind) ≡ Some kind
unfolding named
named-number kinds.Update = refl
named-number kinds.Assign = refl
named-number kinds.Share = refl
named-number kinds.Certificate = refl
named-number kinds.OrderProof = refl
named-number kinds.Report = refl
named-number kinds.Bundle = refl
named-number kinds.ViewProof = refl
named-number kinds.Ask = refl
named-number kinds.Reply = refl

-- two kinds have two numbers
one_kind : (j k : MessageKind) → kind_number j ≡ kind_number k → j ≡ k
one_kind j k e = let same : Some j ≡ Some k = sym (named-number j) ∙ ap named e ∙ named-number k in cc

-- each kind is among them all
is_among-all : (kind : MessageKind) → IsTrue (is_among kind_number all_kinds kind)
is_among-all kinds.Update = refl
is_among-all kinds.Assign = refl
is_among-all kinds.Share = refl
is_among-all kinds.Certificate = refl
is_among-all kinds.OrderProof = refl
is_among-all kinds.Report = refl
is_among-all kinds.Bundle = refl
is_among-all kinds.ViewProof = refl
is_among-all kinds.Ask = refl
is_among-all kinds.Reply = refl

-- ---- messages

-- a message and its deployment's id
pub message_field : IsField message_at (λ x. message_spelling x.0 x.1) (λ x. (x.0 < 2 ^ 64) × (KeepsMessage x.1 × FitsMessage x.1))
unfolding message_at message_spelling
message_field = record {
  takes = λ bytes x rest fits e.
      step (mark_field message_mark) bytes (x, rest) fits e λ mark r0 t0 k0 e0.
      step u64_field r0 (x, rest) t0.rest_fits e0 λ id r1 t1 k1 e1.
      step (kind_field kind_number one_kind all_kinds) r1 (x, rest) t1.rest_fits e1 λ kind r2 t2 k2 e2.
      step (body_field kind) r2 (x, rest) t2.rest_fits e2 λ m r3 t3 k3 e3.
      let t : Takes r1 (byte (kind_number (kind_of m)) ++ (body_spelling m ++ [])) r3 = subst (λ (k : MessageKind). Takes r1 (byte (kind_number k) ++ (body_spelling m ++ [])) r3) (sym k3.0) (t2 ▷ (t3 ▷ none t3.rest_fits)) in
      subst (λ (p : (ℕ × Message) × List ℕ). Takes bytes (message_spelling p.0.0 p.0.1) p.1 × ((p.0.0 < 2 ^ 64) × (KeepsMessage p.0.1 × FitsMessage p.0.1))) (ok_is ((id, m), r3) (x, rest) e3)
      (t0 ▷ (t1 ▷ t), (k1, k3.1));
  again = λ x rest k.
      ap message_at (joined-append (message_mark ∷ number w64 x.0 ∷ byte (kind_number (kind_of x.1)) ∷ body_spelling x.1 ∷ []) rest)
      ∙ (again_step (mark_field message_mark) _ _ tt tt
      (again_step u64_field _ _ x.0 k.0
      (again_step (kind_field kind_number one_kind all_kinds) _ _ (kind_of x.1) (is_among-all (kind_of x.1))
      (again_step (body_field (kind_of x.1)) _ _ x.1 (refl, k.1) refl))));
}
