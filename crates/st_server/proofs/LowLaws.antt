-- What a part answers executes, and hears of, no number above a log's last.
use Rattle.std.proofs.Common.{◌≡◌, ◌∙◌, subst, ℕ, ◌+◌, ◌≤◌, Bool, true, false, cond, nat_eq, nat_lt, nat_le, is_none, Option, Some, None, List, [], ◌∷◌, ◌++◌, refl, zero, suc}
use Rattle.std.proofs.lemmas.Bool.{and_parts, and_from, le-leb, ltb-false}
use Rattle.st_words.specs.declared.deployment.TheConstants.{WINDOW, LAST_NUMBER}
use Rattle.st_words.specs.declared.value.Update.{Update}
use Rattle.st_words.specs.declared.value.Value.{Value}
use Rattle.st_words.specs.declared.statement.Statement.{Statement}
use Rattle.st_words.specs.declared.statement.Statement.TheVariants.{Prepare, Proposal, Accept, LocalVc, GlobalVc, LocalReport, GlobalReport, LocalUnion, GlobalUnion, Reply, ClientUpdate}
use Rattle.st_seal.specs.declared.quorum.Signed.{Signed}
use Rattle.st_message.specs.declared.change.Change.{Change}
use Rattle.st_message.specs.declared.change.Change.TheVariants.{Prepared, Accepted, Executed}
use Rattle.st_message.specs.declared.change.Heard.{Heard}
use Rattle.st_message.specs.declared.event.Scope.{Scope}
use Rattle.st_message.specs.declared.event.Scope.TheVariants as scopes
use Rattle.st_message.specs.declared.message.Message.{Message}
use Rattle.st_message.specs.declared.message.Message.TheVariants as messages
use Rattle.st_message.specs.declared.message.Proof.{Proof}
use Rattle.st_message.specs.declared.reason.Reason.{Reason}
use Rattle.st_message.specs.declared.reason.Reason.TheVariants.{NotMine, NotBuilt}
use Rattle.st_message.specs.declared.step.Form.{Form}
use Rattle.st_message.specs.declared.step.Form.TheVariants as forms
use Rattle.st_message.specs.declared.step.Out.TheVariants.{Make}
use Rattle.st_message.specs.declared.step.Step.{Step}
use Rattle.st_protocol.specs.Words.{Bytes, Quorum, a_prepare, a_proposal, an_accept}
use Rattle.st_protocol.specs.Keeping.{given, or_else}
use Rattle.st_protocol.specs.State.{Here, Slots, Hand, Share, Sealing, Word, Answers, AtPrepare, AtProposal, AtAccept}
use Rattle.st_protocol.specs.Growth.{hears, takes, cuts, hand_takes, hand_cuts}
use Rattle.st_protocol.specs.Step.{Refused, Steps, then, making, recording, keeping, completing, putting, idle, when, decides, certifies, completes, completed, first_below, to_rep, to_site}
use Rattle.st_protocol.specs.Forced.{forced_of}
use Rattle.st_protocol.specs.Assigning.{update_reasons, update_step, assign_reasons, assign_step, assigns, keeps_assigned, keeps_prepare, completes_prepare, prepares, prepare_reasons, proposal_share_reasons}
use Rattle.st_protocol.specs.Ordering.{accept_share_reasons, proposal_reasons, proposal_step, accept_reasons, accept_step, executions, in_hand, words_proof}
use Rattle.st_protocol.specs.Duty.{of_message}
use Rattle.st_protocol.proofs.PartLaws.{NoneTrue}
use Rattle.st_server.specs.Bounds.{IsBound, IsLowStep, is_low, is_low_message, all_low, all_low_heard}
use Rattle.st_server.proofs.BoundLaws.{bound_hears}

-- ---- a step is put together

all_low_join : (xs ys : List Change) → all_low xs ≡ true → all_low ys ≡ true → all_low (xs ++ ys) ≡ true
all_low_join [] ys low more = more
all_low_join (x ∷ xs) ys low more = let both = and_parts (is_low x) (all_low xs) low in and_from (is_low x) (all_low (xs ++ ys)) both.0 (all_low_join xs ys both.1 more)

all_heard_join : (xs ys : List Heard) → all_low_heard xs ≡ true → all_low_heard ys ≡ true → all_low_heard (xs ++ ys) ≡ true
all_heard_join [] ys low more = more
all_heard_join (x ∷ xs) ys low more =
    let both = and_parts (is_low_message x.message) (all_low_heard xs) low in and_from (is_low_message x.message) (all_low_heard (xs ++ ys)) both.0 (all_heard_join xs ys both.1 more)

low_then : (a b : Step) → IsLowStep a → IsLowStep b → IsLowStep (then a b)
low_then a b x y = record { changes = all_low_join a.changes b.changes x.changes y.changes; heard = all_heard_join a.heard b.heard x.heard y.heard }

low_when : (b : Bool) (a : Step) → IsLowStep a → IsLowStep (when b a)
low_when true a x = x
low_when false a x = record { changes = refl; heard = refl }

low_making : (leaf : ℕ) (s : Statement) (form : Form) (to : Scope) → IsLowStep (making leaf s form to)
low_making leaf s form to = record { changes = refl; heard = refl }

low_recording : (x : Change) → is_low x ≡ true → IsLowStep (recording x)
low_recording x low = record { changes = and_from (is_low x) true low refl; heard = refl }

low_keeping : (m : Message) → is_low_message m ≡ true → IsLowStep (keeping m)
low_keeping m low = record { changes = refl; heard = and_from (is_low_message m) true low refl }

low_completing : (m : Message) (to : Scope) → is_low_message m ≡ true → IsLowStep (completing m to)
low_completing m to low = record { changes = refl; heard = and_from (is_low_message m) true low refl }

low_certifies : (here : Here) (shares : ℕ → Option Share) (s : Statement) (signed : Signed) (to : Scope) → ((q : Quorum) → is_low_message (messages.Certificate s q) ≡ true) → IsLowStep (certifies here shares s signed to)
low_certifies here shares s signed to low =
    low_then _ _ (low_keeping (messages.Share s signed) refl)
    (low_when (completes here shares s signed) _ (low_completing (messages.Certificate s (completed here shares s signed)) to (low (completed here shares s signed))))

-- ---- the step where no reason holds

record Decided (ts : List (Bool × Reason)) (step done : Step) : Type 0 where
  free : NoneTrue ts
  same : step ≡ done

decided_by : (t : Bool × Reason) (ts : List (Bool × Reason)) (step done : Step) → (decides ts step ≡ Steps done → Decided ts step done) → (b : Bool) → t.0 ≡ b
    → cond b (Refused t.1) (decides ts step) ≡ Steps done → Decided (t ∷ ts) step done
decided_by t ts step done more true is r = absurd (let fails : Refused t.1 ≡ Steps done = r in cc)
decided_by t ts step done more false is r = let rest = more r in record { free = (is, rest.free); same = rest.same }

decided : (ts : List (Bool × Reason)) (step done : Step) → decides ts step ≡ Steps done → Decided ts step done
decided [] step done e = record { free = tt; same = let is : step ≡ done = cc in is }
decided (t ∷ ts) step done e = decided_by t ts step done (decided ts step done) t.0 refl e

-- what holds of the step holds of what is done
low_decided : (ts : List (Bool × Reason)) (step done : Step) → decides ts step ≡ Steps done → IsLowStep step → IsLowStep done
low_decided ts step done e low = subst IsLowStep (decided ts step done e).same low

-- a number that isn't above a log's last
not_full : (n : ℕ) → nat_lt LAST_NUMBER n ≡ false → nat_le n LAST_NUMBER ≡ true
not_full n e = le-leb n LAST_NUMBER (ltb-false LAST_NUMBER n e)

-- ---- the parts' steps

low_update : (last : ℕ) (reply : Option Sealing) (u : Update) (seal : Bytes) → IsLowStep (update_step last reply u seal)
low_update last reply u seal = by (nat_eq u.time last) reply
  where
    by : (b : Bool) (r : Option Sealing) → IsLowStep (cond b (given r idle (λ m. putting (Make m.statement forms.Reply (scopes.Client u.client)))) (keeping (messages.Update u seal)))
    by true None = record { changes = refl; heard = refl }
    by true (Some m) = record { changes = refl; heard = refl }
    by false r = record { changes = refl; heard = refl }

low_prepares : (here : Here) (slots : Slots) (leaf view local n : ℕ) (value : Value) (q : Quorum) → IsLowStep (prepares here slots leaf view local n value q)
low_prepares here slots leaf view local n value q =
    low_then _ _ (low_recording (Prepared (a_prepare here.seat.site view local n value) q) refl) (low_when (is_none (slots.made (AtProposal view local n))) _ (low_making leaf (a_proposal here.seat.site view local n value) forms.Share (to_rep here)))

low_keeps_prepare : (here : Here) (slots : Slots) (leaf site view local n : ℕ) (value : Value) (signed : Signed) → IsLowStep (keeps_prepare here slots leaf site view local n value signed)
low_keeps_prepare here slots leaf site view local n value signed =
    low_then _ _ (low_keeping (messages.Share (a_prepare site view local n value) signed) refl)
    (low_when (completes_prepare here slots site view local n value signed) _ (low_prepares here slots leaf view local n value (completed here (slots.shares (AtPrepare view local n)) (a_prepare site view local n value) signed)))

low_assign : (here : Here) (slots : Slots) (view local n : ℕ) (value : Value) (signed : Signed) → IsLowStep (assign_step here slots view local n value signed)
low_assign here slots view local n value signed =
    low_then _ _ (low_when (assigns slots view local n) _ (low_making here.leaf (a_prepare here.seat.site view local n value) forms.Share (to_site here)))
    (low_when (keeps_assigned here slots view local n) _ (low_keeps_prepare here slots _ here.seat.site view local n value signed))

low_proposal : (here : Here) (site view local n : ℕ) (value : Value) (q : Quorum) → IsLowStep (proposal_step here site view local n value q)
low_proposal here site view local n value q = low_then _ _ (low_recording (Accepted (a_proposal site view local n value) q) refl) (low_making here.leaf (an_accept here.seat.site view n value) forms.Share (to_rep here))

-- ---- what is in hand

first_some_by : {A : Type 0} (pick : ℕ → Option A) (k : ℕ) (a : A) (x : Option A) → first_below pick k ≡ x → (first_below pick k ≡ Some a → (i : ℕ) × (pick i ≡ Some a)) → or_else x (pick k) ≡ Some a → (i : ℕ) × (pick i ≡ Some a)
first_some_by pick k a None is more e = (k, e)
first_some_by pick k a (Some b) is more e = more (is ∙ e)

first_some : {A : Type 0} (pick : ℕ → Option A) (k : ℕ) (a : A) → first_below pick k ≡ Some a → (i : ℕ) × (pick i ≡ Some a)
unfolding first_below
first_some pick zero a e = absurd (let fails : None ≡ Some a = e in cc)
first_some {A = A} pick (suc k) a e = first_some_by pick k a (first_below pick k) refl (first_some pick k a) e

given_some : {A B : Type 0} (x : Option A) (f : A → Option B) (b : B) → given x None f ≡ Some b → (a : A) × (x ≡ Some a)
given_some None f b e = absurd (let fails : None ≡ Some b = e in cc)
given_some (Some a) f b e = (a, refl)

-- a proof that words give comes of a word
words_word : (here : Here) (words : ℕ → Option Word) (s : ℕ) (p : Proof) → words_proof here words s ≡ Some p → (w : Word) × (words s ≡ Some w)
words_word here words s p e = given_some (words s) _ p e

in_hand_low : (here : Here) (hand : Hand) (n : ℕ) (p : Proof) → ((m s : ℕ) (w : Word) → hand.word m s ≡ Some w → m ≤ LAST_NUMBER) → ((m : ℕ) (r : Proof) → hand.proof m ≡ Some r → m ≤ LAST_NUMBER)
    → in_hand here hand n ≡ Some p → n ≤ LAST_NUMBER
unfolding in_hand
in_hand_low here hand n p words proofs e = by (hand.proof n) refl e
  where
    by : (x : Option Proof) → hand.proof n ≡ x → or_else x (first_below (words_proof here (hand.word n)) here.seat.sites) ≡ Some p → n ≤ LAST_NUMBER
    by (Some r) is f = proofs n r is
    by None is f =
        let at = first_some (words_proof here (hand.word n)) here.seat.sites p f in
        let word = words_word here (hand.word n) at.0 p at.1 in
        words n at.0 word.0 word.1

executions_low_by : (here : Here) (hand : Hand) (k n : ℕ) → ((m s : ℕ) (w : Word) → hand.word m s ≡ Some w → m ≤ LAST_NUMBER) → ((m : ℕ) (r : Proof) → hand.proof m ≡ Some r → m ≤ LAST_NUMBER)
    → all_low (executions here hand k (n + 1)) ≡ true → (x : Option Proof) → in_hand here hand n ≡ x → all_low (given x [] (λ p. Executed (record { 0 = n }) p ∷ executions here hand k (n + 1))) ≡ true
executions_low_by here hand k n words proofs more None is = refl
executions_low_by here hand k n words proofs more (Some p) is =
    and_from (nat_le n LAST_NUMBER) (all_low (executions here hand k (n + 1))) (le-leb n LAST_NUMBER (in_hand_low here hand n p words proofs is)) more

executions_low : (here : Here) (hand : Hand) (k n : ℕ) → ((m s : ℕ) (w : Word) → hand.word m s ≡ Some w → m ≤ LAST_NUMBER) → ((m : ℕ) (r : Proof) → hand.proof m ≡ Some r → m ≤ LAST_NUMBER)
    → all_low (executions here hand k n) ≡ true
unfolding executions
executions_low here hand zero n words proofs = refl
executions_low here hand (suc k) n words proofs = executions_low_by here hand k n words proofs (executions_low here hand k (n + 1) words proofs) (in_hand here hand n) refl

-- what is in hand with a certificate more
low_accept : (q : Answers) (site view n : ℕ) (value : Value) (w : Quorum) → IsBound q → nat_le n LAST_NUMBER ≡ true → IsLowStep (accept_step q.here q.hand site view n value w)
unfolding hears takes cuts
low_accept q site view n value w bound low =
    let m : Heard = record { own = false; message = messages.Certificate (an_accept site view n value) w } in
    let so = bound_hears q m low bound in
    record {
      changes = executions_low q.here (hand_cuts q.here (hand_takes m q.hand)) WINDOW (q.here.executed + 1) so.words so.proofs;
      heard = and_from (nat_le n LAST_NUMBER) true low refl;
    }

-- ---- what the part that takes a message answers

low_share : (q : Answers) (s : Statement) (signed : Signed) (done : Step) → of_message q (messages.Share s signed) ≡ Steps done → IsLowStep done
low_share q (Prepare site view local n value) signed done e =
    low_decided (prepare_reasons q.here q.slots site.0 view.0 local.0 n.0 value signed) _ done e (low_keeps_prepare q.here q.slots q.here.leaf site.0 view.0 local.0 n.0 value signed)
low_share q (Proposal site view local n value) signed done e =
    low_decided (proposal_share_reasons q.here q.slots site.0 view.0 local.0 n.0 signed) _ done e (low_certifies q.here (q.slots.shares (AtProposal view.0 local.0 n.0)) (a_proposal site.0 view.0 local.0 n.0 value) signed scopes.All (λ c. refl))
low_share q (Accept site view n value) signed done e =
    let so = decided (accept_share_reasons q.here q.slots site.0 view.0 n.0 signed) _ done e in
    subst IsLowStep so.same
    (low_certifies q.here (q.slots.shares (AtAccept view.0 n.0)) (an_accept site.0 view.0 n.0 value) signed scopes.All (λ c. not_full n.0 so.free.1.1.1.1.1.0))
low_share q (LocalVc site local) signed done e = absurd (let fails : Refused NotBuilt ≡ Steps done = e in cc)
low_share q (GlobalVc site view) signed done e = absurd (let fails : Refused NotBuilt ≡ Steps done = e in cc)
low_share q (LocalReport site local index view base items) signed done e = absurd (let fails : Refused NotBuilt ≡ Steps done = e in cc)
low_share q (GlobalReport site view index base items) signed done e = absurd (let fails : Refused NotBuilt ≡ Steps done = e in cc)
low_share q (LocalUnion site local greatest base items) signed done e = absurd (let fails : Refused NotBuilt ≡ Steps done = e in cc)
low_share q (GlobalUnion site view base items) signed done e = absurd (let fails : Refused NotBuilt ≡ Steps done = e in cc)
low_share q (Reply site client time n outcome) signed done e = absurd (let fails : Refused NotBuilt ≡ Steps done = e in cc)
low_share q (ClientUpdate u) signed done e = absurd (let fails : Refused NotBuilt ≡ Steps done = e in cc)

low_certificate : (q : Answers) (s : Statement) (w : Quorum) (done : Step) → IsBound q → of_message q (messages.Certificate s w) ≡ Steps done → IsLowStep done
low_certificate q (Proposal site view local n value) w done bound e = low_decided (proposal_reasons q.here q.slots view.0 n.0) _ done e (low_proposal q.here site.0 view.0 local.0 n.0 value w)
low_certificate q (Accept site view n value) w done bound e =
    let so = decided (accept_reasons q.here q.hand site.0 view.0 n.0) _ done e in
    subst IsLowStep so.same (low_accept q site.0 view.0 n.0 value w bound (not_full n.0 so.free.1.1.0))
low_certificate q (Prepare site view local n value) w done bound e = absurd (let fails : Refused NotBuilt ≡ Steps done = e in cc)
low_certificate q (LocalVc site local) w done bound e = absurd (let fails : Refused NotBuilt ≡ Steps done = e in cc)
low_certificate q (GlobalVc site view) w done bound e = absurd (let fails : Refused NotBuilt ≡ Steps done = e in cc)
low_certificate q (LocalReport site local index view base items) w done bound e = absurd (let fails : Refused NotBuilt ≡ Steps done = e in cc)
low_certificate q (GlobalReport site view index base items) w done bound e = absurd (let fails : Refused NotBuilt ≡ Steps done = e in cc)
low_certificate q (LocalUnion site local greatest base items) w done bound e = absurd (let fails : Refused NotBuilt ≡ Steps done = e in cc)
low_certificate q (GlobalUnion site view base items) w done bound e = absurd (let fails : Refused NotBuilt ≡ Steps done = e in cc)
low_certificate q (Reply site client time n outcome) w done bound e = absurd (let fails : Refused NotBuilt ≡ Steps done = e in cc)
low_certificate q (ClientUpdate u) w done bound e = absurd (let fails : Refused NotBuilt ≡ Steps done = e in cc)

pub low_answer : (q : Answers) (m : Message) (done : Step) → IsBound q → of_message q m ≡ Steps done → IsLowStep done
low_answer q (messages.Update u seal) done bound e = low_decided (update_reasons q.here q.pending (q.log.run.last u.client.0) (q.making.reply (q.log.run.place u.client.0)) u) _ done e (low_update (q.log.run.last u.client.0) (q.making.reply (q.log.run.place u.client.0)) u seal)
low_answer q (messages.Assign view local n value seal signed) done bound e = low_decided (assign_reasons q.here q.slots (forced_of q.here q.unions) view.0 local.0 n.0 value seal signed) _ done e (low_assign q.here q.slots view.0 local.0 n.0 value signed)
low_answer q (messages.Share s signed) done bound e = low_share q s signed done e
low_answer q (messages.Certificate s w) done bound e = low_certificate q s w done bound e
low_answer q (messages.Reply s signed) done bound e = absurd (let fails : Refused NotMine ≡ Steps done = e in cc)
low_answer q (messages.OrderProof n p) done bound e = absurd (let fails : Refused NotBuilt ≡ Steps done = e in cc)
low_answer q (messages.Report r) done bound e = absurd (let fails : Refused NotBuilt ≡ Steps done = e in cc)
low_answer q (messages.Bundle rs) done bound e = absurd (let fails : Refused NotBuilt ≡ Steps done = e in cc)
low_answer q (messages.ViewProof ws) done bound e = absurd (let fails : Refused NotBuilt ≡ Steps done = e in cc)
low_answer q (messages.Ask server n g l) done bound e = absurd (let fails : Refused NotBuilt ≡ Steps done = e in cc)
