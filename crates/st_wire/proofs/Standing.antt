-- Where a message's seals stand.
use Rattle.std.proofs.Common.{◌≡◌, ℕ, ◌+◌, ◌-◌, ◌*◌, ◌^◌, ◌<◌, ◌≤◌, List, [], ◌∷◌, ◌++◌, length, take, drop, min, All, Option, Some, None, refl, sym, ap, subst, ◌∙◌, append_assoc, arith}
use Rattle.std.specs.Int.{w16, w32, w64}
use Rattle.std.specs.List.{flat_map}
use Rattle.std.proofs.lemmas.List.{append-nil, length-append, take_at, drop_at}
use Rattle.std.proofs.lemmas.List.Concat.{flat_map-append}
use Rattle.std.proofs.lemmas.List.Elements.{All-nil, All-cons}
use Rattle.std.proofs.Math.Nat.{min-eq_left}
use Rattle.st_fields.specs.Spelling.{joined, byte, number, text, counted, KeepsEach}
use Rattle.st_fields.proofs.Fields.{joined-append}
use Rattle.st_words.specs.Spelling.{value_spelling, core_spelling}
use Rattle.st_words.specs.declared.ids.SiteId.{SiteId}
use Rattle.st_words.specs.declared.ids.Number.{Number}
use Rattle.st_words.specs.declared.value.Value.{Value}
use Rattle.st_words.specs.declared.value.Value.TheVariants as values
use Rattle.st_words.specs.declared.statement.Item.{Item}
use Rattle.st_words.specs.declared.statement.Statement.{Statement}
use Rattle.st_words.specs.declared.statement.Statement.TheVariants.{Prepare, Accept, GlobalVc}
use Rattle.st_seal.specs.declared.quorum.Signed.{Signed}
use Rattle.st_message.specs.declared.message.SiteWord.{SiteWord}
use Rattle.st_message.specs.declared.message.Proof.{Proof}
use Rattle.st_message.specs.declared.message.ReportBody.{ReportBody}
use Rattle.st_message.specs.declared.message.ViewWords.{ViewWords}
use Rattle.st_message.specs.declared.message.ViewWords.TheVariants.{Local, Global}
use Rattle.st_message.specs.declared.message.Message.{Message}
use Rattle.st_message.specs.declared.message.Message.TheVariants as messages
use Rattle.st_wire.specs.declared.layout.Layout.{Layout}
use Rattle.st_wire.specs.declared.report.Bundled.{Bundled}
use Rattle.st_wire.specs.declared.seal.SealIn.{SealIn}
use Rattle.st_wire.specs.Kind.{kind_number, kind_of, items_of, base_of}
use Rattle.st_wire.specs.Ranges.{most_bytes, KeepsReport, any_body, after_body, KeepsMessage}
use Rattle.st_wire.specs.Spelling.{signed_spelling, quorum_spelling, site_spelling, sites_spelling, proof_spelling, base_spelling, report_spelling, words_spelling, body_spelling, message_mark, message_spelling}
use Rattle.st_wire.specs.Seals.{Piece, Plain, Sealed, piece_spelling, signed_pieces, quorum_pieces, site_pieces, sites_pieces, proof_pieces, base_pieces, leader, item_statement, backing_pieces, report_pieces, words_pieces, client_pieces, update_pieces, assign_pieces, body_pieces, message_pieces, seals_from, seals_of, StandsIn}
use Rattle.st_wire.specs.Layout.{beyond, lay_one, laid}
use Rattle.st_wire.proofs.Sizes.{text_length}

-- the bytes of pieces
abbrev pub spelled : List Piece → List ℕ
spelled pieces = flat_map piece_spelling pieces

-- ---- a message's pieces are its bytes

-- pieces and then pieces
spelled-append : (xs ys : List Piece) → spelled (xs ++ ys) ≡ spelled xs ++ spelled ys
spelled-append xs ys = flat_map-append piece_spelling xs ys

-- what is made of each element
spelled-each : {A : Type 0} (pieces : A → List Piece) (spell : A → List ℕ) → ((x : A) → spelled (pieces x) ≡ spell x) → (xs : List A) → spelled (flat_map pieces xs) ≡ flat_map spell xs
spelled-each pieces spell same [] = refl
spelled-each pieces spell same (x ∷ xs) = spelled-append (pieces x) (flat_map pieces xs) ∙ rw (same x, spelled-each pieces spell same xs) refl

-- a server's seal
spelled-signed : (s : Statement) (x : Signed) → spelled (signed_pieces s x) ≡ signed_spelling x
unfolding signed_pieces signed_spelling
spelled-signed s x = refl

-- a quorum
spelled-quorum : (s : Statement) (q : List Signed) → spelled (quorum_pieces s q) ≡ quorum_spelling q
unfolding quorum_pieces quorum_spelling counted
spelled-quorum s q = ap (λ (t : List ℕ). byte (length q) ++ t) (spelled-each (signed_pieces s) signed_spelling (spelled-signed s) q ∙ sym (append-nil (flat_map signed_spelling q)))

-- a site's word
spelled-site : (says : SiteId → Statement) (w : SiteWord) → spelled (site_pieces says w) ≡ site_spelling w
unfolding site_pieces site_spelling
spelled-site says w = ap (λ (t : List ℕ). byte w.site.0 ++ t) (spelled-quorum (says w.site) w.quorum ∙ sym (append-nil (quorum_spelling w.quorum)))

-- sites' words
spelled-sites : (says : SiteId → Statement) (ws : List SiteWord) → spelled (sites_pieces says ws) ≡ sites_spelling ws
unfolding sites_pieces sites_spelling counted
spelled-sites says ws = ap (λ (t : List ℕ). byte (length ws) ++ t) (spelled-each (site_pieces says) site_spelling (spelled-site says) ws ∙ sym (append-nil (flat_map site_spelling ws)))

-- an order proof
spelled-proof : (n : Number) (p : Proof) → spelled (proof_pieces n p) ≡ proof_spelling p
unfolding proof_pieces proof_spelling
spelled-proof n p = rw (spelled-sites (λ site. Accept site p.view n p.value) p.sites, append-nil (sites_spelling p.sites)) refl

-- the order proof of a base
spelled-base : (base : ℕ) (b : Option Proof) → spelled (base_pieces base b) ≡ base_spelling b
unfolding base_pieces base_spelling
spelled-base base None = refl
spelled-base base (Some p) = spelled-proof (record { 0 = base }) p

-- the quorums behind a report
spelled-backing : (sites : ℕ) (report : Statement) (items : List Item) (quorums : List (List Signed)) → length quorums ≡ length items → spelled (backing_pieces sites report items quorums) ≡ flat_map quorum_spelling quorums
unfolding backing_pieces
spelled-backing sites report [] [] e = refl
spelled-backing sites report [] (q ∷ quorums) e = absurd (omega (arith, e))
spelled-backing sites report (i ∷ items) [] e = absurd (omega (arith, e))
spelled-backing sites report (i ∷ items) (q ∷ quorums) e =
    spelled-append (quorum_pieces (item_statement sites report i) q) (backing_pieces sites report items quorums)
    ∙ rw (spelled-quorum (item_statement sites report i) q, spelled-backing sites report items quorums (omega (arith, e))) refl

-- a report
spelled-report : (sites : ℕ) (r : ReportBody) → length r.quorums ≡ length (items_of r.statement) → spelled (report_pieces sites r) ≡ report_spelling r
unfolding report_pieces report_spelling
spelled-report sites r e =
    rw (spelled-append (backing_pieces sites r.statement (items_of r.statement) r.quorums) (base_pieces (base_of r.statement) r.base), spelled-backing sites r.statement (items_of r.statement) r.quorums e, spelled-base (base_of r.statement) r.base, append-nil (base_spelling r.base)) refl

-- why a view is entered
spelled-words : (w : ViewWords) → spelled (words_pieces w) ≡ words_spelling w
unfolding words_pieces words_spelling
spelled-words (Local s q) = rw (spelled-quorum s q, append-nil (quorum_spelling q)) refl
spelled-words (Global view sites) = rw (spelled-sites (λ site. GlobalVc site view) sites, append-nil (sites_spelling sites)) refl

-- a client's seal
spelled-client : (v : Value) (seal : List ℕ) → spelled (client_pieces v seal) ≡ text seal
unfolding client_pieces text
spelled-client values.Noop seal = refl
spelled-client (values.Update u) [] = refl
spelled-client (values.Update u) (b ∷ bs) = append-nil (text (b ∷ bs))

-- a value that is assigned, and its seals
spelled-assign : (prepare : Statement) (v : Value) (seal : List ℕ) (x : Signed) → spelled (assign_pieces prepare v seal x) ≡ value_spelling v ++ (text seal ++ (signed_spelling x ++ []))
unfolding assign_pieces
spelled-assign prepare v seal x =
    ap (λ (t : List ℕ). value_spelling v ++ t)
    (spelled-append (client_pieces v seal) (signed_pieces prepare x) ∙ rw (spelled-client v seal, spelled-signed prepare x, append-nil (signed_spelling x)) refl)

-- the reports of a bundle
spelled-reports : (sites : ℕ) (b : Bundled) (rs : List ReportBody) → KeepsEach KeepsReport after_body b rs → spelled (flat_map (report_pieces sites) rs) ≡ flat_map report_spelling rs
spelled-reports sites b [] keeps = refl
spelled-reports sites b (r ∷ rs) keeps =
    spelled-append (report_pieces sites r) (flat_map (report_pieces sites) rs)
    ∙ rw (spelled-report sites r keeps.0.1.2, spelled-reports sites (after_body b r) rs keeps.1) refl

-- each body
spelled-body : (sites : ℕ) (m : Message) → KeepsMessage m → spelled (body_pieces sites m) ≡ body_spelling m
unfolding body_pieces body_spelling update_pieces counted
spelled-body sites (messages.Update u seal) keeps = refl
spelled-body sites (messages.Assign view local n v seal signed) keeps =
    ap (λ (t : List ℕ). joined (number w32 view.0 ∷ number w32 local.0 ∷ number w32 n.0 ∷ []) ++ t) (spelled-assign (Prepare (leader sites view) view local n v) v seal signed)
    ∙ joined-append (number w32 view.0 ∷ number w32 local.0 ∷ number w32 n.0 ∷ []) (value_spelling v ++ (text seal ++ (signed_spelling signed ++ [])))
spelled-body sites (messages.Share s x) keeps = ap (λ (t : List ℕ). core_spelling s ++ t) (spelled-signed s x ∙ sym (append-nil (signed_spelling x)))
spelled-body sites (messages.Certificate s q) keeps = ap (λ (t : List ℕ). core_spelling s ++ t) (spelled-quorum s q ∙ sym (append-nil (quorum_spelling q)))
spelled-body sites (messages.OrderProof n p) keeps = ap (λ (t : List ℕ). number w32 n.0 ++ t) (spelled-proof n p ∙ sym (append-nil (proof_spelling p)))
spelled-body sites (messages.Report r) keeps = spelled-report sites r keeps.1.2
spelled-body sites (messages.Bundle rs) keeps = ap (λ (t : List ℕ). byte (length rs) ++ t) (spelled-reports sites any_body rs keeps.1 ∙ sym (append-nil (flat_map report_spelling rs)))
spelled-body sites (messages.ViewProof w) keeps = spelled-words w
spelled-body sites (messages.Ask server executed view local) keeps = append-nil (joined (byte server.site ∷ byte server.index ∷ number w32 executed ∷ number w32 view.0 ∷ number w32 local.0 ∷ []))
spelled-body sites (messages.Reply s x) keeps = ap (λ (t : List ℕ). core_spelling s ++ t) (spelled-signed s x ∙ sym (append-nil (signed_spelling x)))

-- a message
pub spelled-message : (id sites : ℕ) (m : Message) → KeepsMessage m → spelled (message_pieces id sites m) ≡ message_spelling id m
unfolding message_pieces message_spelling
spelled-message id sites m keeps =
    ap (λ (t : List ℕ). message_mark ++ (number w64 id ++ (byte (kind_number (kind_of m)) ++ t))) (spelled-body sites m keeps ∙ sym (append-nil (body_spelling m)))

-- ---- seals stand at their places

-- what stands before a seal's bytes
before_length : (front seal : List ℕ) → length (front ++ number w16 (length seal)) ≡ length front + 2
unfolding number
before_length front seal = length-append front (number w16 (length seal))

before_seal : (front seal rest : List ℕ) → front ++ (text seal ++ rest) ≡ (front ++ number w16 (length seal)) ++ (seal ++ rest)
unfolding text
before_seal front seal rest =
    ap (λ (t : List ℕ). front ++ t) (joined-append (number w16 (length seal) ∷ seal ∷ []) rest)
    ∙ sym (append_assoc front (number w16 (length seal)) (seal ++ rest))

-- the seals of pieces behind a front
stands-from : (front : List ℕ) (pieces : List Piece) → All (StandsIn (front ++ spelled pieces)) (seals_from (length front) pieces)
unfolding seals_from
stands-from front [] = All-nil (StandsIn (front ++ []))
stands-from front (Plain bytes ∷ pieces) =
    subst (λ (p : List ℕ × ℕ). All (StandsIn p.0) (seals_from p.1 pieces)) (rw (append_assoc front bytes (spelled pieces), length-append front bytes) refl) (stands-from (front ++ bytes) pieces)
stands-from front (Sealed who s seal ∷ pieces) =
    let behind : length (front ++ text seal) ≡ length front + 2 + length seal = omega (arith, length-append front (text seal), text_length seal) in
    let more = subst (λ (p : List ℕ × ℕ). All (StandsIn p.0) (seals_from p.1 pieces)) (rw (append_assoc front (text seal) (spelled pieces), behind) refl) (stands-from (front ++ text seal) pieces) in
    All-cons (StandsIn (front ++ (text seal ++ spelled pieces))) (record { who = who; statement = s; seal = seal; place = length front + 2 }) (seals_from (length front + 2 + length seal) pieces) (stands front seal (spelled pieces)) more
  where
    stands : (front seal rest : List ℕ) → take (length seal) (drop (length front + 2) (front ++ (text seal ++ rest))) ≡ seal
    stands front seal rest =
        let parts = before_seal front seal rest in
        ap (λ (t : List ℕ). take (length seal) (drop (length front + 2) t)) parts
        ∙ ap (take (length seal)) (drop_at (front ++ number w16 (length seal)) (seal ++ rest) (length front + 2) (before_length front seal))
        ∙ take_at seal rest (length seal) refl

-- a message's seals
pub stands-message : (id sites : ℕ) (m : Message) → KeepsMessage m → All (StandsIn (message_spelling id m)) (seals_of id sites m)
unfolding seals_of
stands-message id sites m keeps = subst (λ (t : List ℕ). All (StandsIn t) (seals_from 0 (message_pieces id sites m))) (spelled-message id sites m keeps) (stands-from [] (message_pieces id sites m))

-- ---- what is laid out

-- a count that doesn't reach the greatest number
beyond-is : (at n : ℕ) → at + n ≤ 2 ^ 64 - 1 → beyond at n ≡ at + n
beyond-is at n le = min-eq_left le

-- what is laid out behind so many bytes
laid-seals : (pieces : List Piece) (l : Layout) → l.at + length (spelled pieces) ≤ 2 ^ 64 - 1 → (laid l pieces).seals ≡ l.seals ++ seals_from l.at pieces
unfolding laid seals_from
laid-seals [] l le = sym (append-nil l.seals)
laid-seals (Plain bytes ∷ pieces) l le =
    let sum = length-append bytes (spelled pieces) in
    let at-is : beyond l.at (length bytes) ≡ l.at + length bytes = beyond-is l.at (length bytes) (omega (arith, sum, le)) in
    laid-seals pieces (record { at = beyond l.at (length bytes); seals = l.seals }) (omega (arith, sum, le, at-is))
    ∙ ap (λ (n : ℕ). l.seals ++ seals_from n pieces) at-is
laid-seals (Sealed who s seal ∷ pieces) l le =
    let sum = length-append (text seal) (spelled pieces) in
    let count = text_length seal in
    let place-is : beyond l.at 2 ≡ l.at + 2 = beyond-is l.at 2 (omega (arith, sum, count, le)) in
    let end-is : beyond (beyond l.at 2) (length seal) ≡ l.at + 2 + length seal = rw place-is (beyond-is (l.at + 2) (length seal) (omega (arith, sum, count, le))) in
    let x : ℕ → SealIn = λ place. record { who = who; statement = s; seal = seal; place = place } in
    laid-seals pieces (record { at = beyond (beyond l.at 2) (length seal); seals = l.seals ++ x (beyond l.at 2) ∷ [] }) (omega (arith, sum, count, le, end-is))
    ∙ append_assoc l.seals (x (beyond l.at 2) ∷ []) (seals_from (beyond (beyond l.at 2) (length seal)) pieces)
    ∙ ap (λ (p : ℕ × ℕ). l.seals ++ x p.0 ∷ seals_from p.1 pieces) (rw (end-is, place-is) refl)

-- the seals of a message that isn't too long
pub seals-laid : (id sites : ℕ) (m : Message) → KeepsMessage m → length (message_spelling id m) ≤ most_bytes → (laid (record { at = 13; seals = [] }) (body_pieces sites m)).seals ≡ seals_of id sites m
unfolding seals_of message_pieces seals_from number
seals-laid id sites m keeps short =
    let whole : length (spelled (message_pieces id sites m)) ≡ length (message_spelling id m) = ap length (spelled-message id sites m keeps) in
    laid-seals (body_pieces sites m) (record { at = 13; seals = [] }) (omega (arith, whole, short))
