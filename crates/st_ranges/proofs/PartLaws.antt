-- What the parts of a server answer to timeouts, and in the normal case, keeps ranges.
use Rattle.std.proofs.Common.{◌≡◌, refl, sym, subst, inl, inr, ℕ, ◌+◌, ◌^◌, ◌<◌, ◌≤◌, Bool, true, false, IsTrue, cond, zero, suc, nat_eq, nat_lt, nat_le, [], ◌∷◌, take, arith}
use Rattle.std.specs.Prelude.{◌&&◌, Option, Some, None, is_some, is_none}
use Rattle.std.specs.Option.{IfSome}
use Rattle.std.proofs.lemmas.Bool.{and_from, ltb-false, lt-ltb, eqb-true}
use Rattle.st_words.specs.declared.deployment.TheConstants.{LAST_NUMBER, MOST_VIEW}
use Rattle.st_words.specs.declared.ids.ClientId.{ClientId}
use Rattle.st_words.specs.declared.value.Update.{Update}
use Rattle.st_words.specs.declared.value.Value.{Value}
use Rattle.st_words.specs.declared.statement.Statement.{Statement}
use Rattle.st_words.specs.declared.statement.Statement.TheVariants.{Reply}
use Rattle.st_words.specs.Ranges.{most_base}
use Rattle.st_seal.specs.declared.quorum.Signed.{Signed}
use Rattle.st_message.specs.declared.message.Proof.{Proof}
use Rattle.st_message.specs.declared.message.Message.{Message}
use Rattle.st_message.specs.declared.message.Message.TheVariants as messages
use Rattle.st_message.specs.declared.event.Scope.TheVariants as scopes
use Rattle.st_message.specs.declared.change.Change.TheVariants.{Prepared, Accepted, Executed}
use Rattle.st_message.specs.declared.change.Heard.{Heard}
use Rattle.st_message.specs.declared.step.Form.TheVariants as forms
use Rattle.st_message.specs.declared.step.Out.TheVariants.{Make}
use Rattle.st_message.specs.declared.step.Step.{Step}
use Rattle.st_wire.specs.Kind.{reply_kinds}
use Rattle.st_wire.specs.Ranges.{KeepsCore}
use Rattle.st_protocol.specs.Words.{Bytes, Quorum, a_prepare, a_proposal, an_accept, a_local_vc, a_global_vc}
use Rattle.st_protocol.specs.Keeping.{given}
use Rattle.st_protocol.specs.State.{AtPrepare, AtProposal, AtAccept, Sealing, Word, Hand, Answers, at_reply}
use Rattle.st_protocol.specs.Growth.{hand_takes, hand_cuts}
use Rattle.st_protocol.specs.Step.{idle, making, recording, keeping, putting, when, count_below, all_below, first_below, majority, one_if, to_rep, to_site, bound, beyond, seen, spent, full, completed}
use Rattle.st_protocol.specs.Forced.{Forced}
use Rattle.st_protocol.specs.Assigning.{update_reasons, update_step, on_update, prepares, completes_prepare, keeps_prepare, assigns, keeps_assigned, assign_reasons, assign_step, on_assign, prepare_reasons, prepare_step, on_prepare, proposal_share_reasons, proposal_share_step, on_proposal_share}
use Rattle.st_protocol.specs.Views.{on_local_timeout, on_global_timeout}
use Rattle.st_protocol.specs.Ordering.{accept_share_reasons, accept_share_step, on_accept_share, proposal_reasons, proposal_step, on_proposal, names, site_word, words_proof, in_hand, executions, keeps_and_executes, accept_reasons, accept_step, on_accept, on_order_proof}
use Rattle.st_ranges.specs.Ranges.{IsReportOf, StatementInRange, QuorumInRange, SitesInRange, ProofInRange, MessageInRange}
use Rattle.st_ranges.proofs.ChoiceLaws.{either, chosen, first_has, first_below_has}
use Rattle.st_ranges.proofs.RisingLaws.{completed_in_range, word_part, sites_in_range}
use Rattle.st_ranges.proofs.StateLaws.{top_of, SealingInRange, WordInRange, HandInRange, StateInRange, hand_takes_in_range, hand_cuts_in_range}
use Rattle.st_ranges.proofs.MadeLaws.{IsSealed, IsOpen}
use Rattle.st_ranges.proofs.ReportLaws.{SignedInRange}
use Rattle.st_ranges.proofs.CourseLaws.{Runs, StandsInRange, RunsInRange}
use Rattle.st_ranges.proofs.StepLaws.{open_slot, open_accept, above_executed, at_view, at_views, one_if_true, idle_stands, then_stands, making_stands, recording_stands, keeping_stands, again_stands, when_stands, AnswerInRange, decides_in_range, certifies_stands}

-- a leaf is left where one is wanted
pub leaf_left : (leaf capacity : ℕ) (b : Bool) → b ≡ true → nat_lt capacity (leaf + one_if b) ≡ false → leaf < capacity
leaf_left leaf capacity true e h = let least : leaf + 1 ≤ capacity = ltb-false capacity (leaf + 1) h in omega (arith, least)
leaf_left leaf capacity false e h = absurd (let no : false ≡ true = e in cc)

module _ (state : Answers) (inside : StateInRange (top_of state.here) state) where
  -- ---- timeouts

  -- a timeout of the local view
  pub local_timeout_answer : (made : Option Sealing) → AnswerInRange (top_of state.here) state (on_local_timeout state.here made)
  local_timeout_answer made =
      let asking : Statement = a_local_vc state.here.seat.site (state.here.local + 1) in
      decides_in_range (top_of state.here) state (bound (state.here.local + 1) ∷ seen (is_some made) ∷ spent state.here 1 ∷ []) (making state.here.leaf asking forms.Share (to_site state.here))
      (λ free.
      let few : state.here.local + 1 ≤ 65535 = ltb-false MOST_VIEW (state.here.local + 1) free.0 in
      let least : state.here.leaf + 1 ≤ state.here.seat.capacity = ltb-false state.here.seat.capacity (state.here.leaf + 1) free.1.1.0 in
      let most : state.here.seat.capacity < 2 ^ 32 = inside.here.seat.capacity in
      let s : StatementInRange asking = (omega arith, (inside.here.seat.site, omega (arith, few))) in
      inl
      (making_stands (top_of state.here) state state.here.leaf asking forms.Share (to_site state.here) (omega (arith, least, most)) (s, λ signed g. (((refl, s.0), g.0), (s.1, g.1)))
      (lt-ltb state.here.local (state.here.local + 1) (omega arith))))

  -- a timeout of the view
  pub global_timeout_answer : (made : Option Sealing) → AnswerInRange (top_of state.here) state (on_global_timeout state.here made)
  global_timeout_answer made =
      let asking : Statement = a_global_vc state.here.seat.site (state.here.view + 1) in
      decides_in_range (top_of state.here) state (bound (state.here.view + 1) ∷ seen (is_some made) ∷ spent state.here 1 ∷ []) (making state.here.leaf asking forms.Share (to_rep state.here))
      (λ free.
      let few : state.here.view + 1 ≤ 65535 = ltb-false MOST_VIEW (state.here.view + 1) free.0 in
      let least : state.here.leaf + 1 ≤ state.here.seat.capacity = ltb-false state.here.seat.capacity (state.here.leaf + 1) free.1.1.0 in
      let most : state.here.seat.capacity < 2 ^ 32 = inside.here.seat.capacity in
      let s : StatementInRange asking = (omega arith, (inside.here.seat.site, omega (arith, few))) in
      inl
      (making_stands (top_of state.here) state state.here.leaf asking forms.Share (to_rep state.here) (omega (arith, least, most)) (s, λ signed g. (((refl, s.0), g.0), (s.1, g.1)))
      (lt-ltb state.here.view (state.here.view + 1) (omega arith))))

  -- ---- updates

  -- a Reply of this number that was made
  reply_found : (n : ℕ) (r : Sealing) → state.making.reply n ≡ Some r → (s : Statement) → StatementInRange s → at_reply n s ≡ true →
      KeepsCore reply_kinds s × IsOpen state.here s × IsSealed state s
  reply_found n r made (Reply site client time number result) h e = (
    (refl, h.0),
    refl,
    subst (λ i. IsTrue (is_some (state.making.reply i))) (eqb-true n number.0 e)
        (subst (λ (x : Option Sealing). IsTrue (is_some x)) (sym made) refl),
  )
  reply_found n r made _ h e = absurd (let no : false ≡ true = e in cc)

  -- it goes out again
  reply_again : (n : ℕ) (client : ClientId) (x : Option Sealing) → state.making.reply n ≡ x → IfSome x (SealingInRange (at_reply n)) →
      StandsInRange (top_of state.here) state (given x idle (λ r. putting (Make r.statement forms.Reply (scopes.Client client))))
  reply_again n client None made h = idle_stands (top_of state.here) state
  reply_again n client (Some r) made h =
      let found = reply_found n r made r.statement h.0 h.1 in
      again_stands (top_of state.here) state r.statement forms.Reply (scopes.Client client) (h.0, λ signed g. ((found.0, g.0), (h.0.1, g.1))) found.1 found.2

  -- an update
  pub update_answer : (u : Update) (seal : Bytes) → MessageInRange (messages.Update u seal) →
      AnswerInRange (top_of state.here) state (on_update state.here state.pending (state.log.run.last u.client.0) (state.making.reply (state.log.run.place u.client.0)) u seal)
  update_answer u seal h =
      let last : ℕ = state.log.run.last u.client.0 in
      let n : ℕ = state.log.run.place u.client.0 in
      decides_in_range (top_of state.here) state (update_reasons state.here state.pending last (state.making.reply n) u) (update_step last (state.making.reply n) u seal)
      (λ free.
      inl
      (either (StandsInRange (top_of state.here) state) (nat_eq u.time last) (given (state.making.reply n) idle (λ r. putting (Make r.statement forms.Reply (scopes.Client u.client)))) (keeping (messages.Update u seal))
      (reply_again n u.client (state.making.reply n) refl (inside.making.reply n)) (keeping_stands (top_of state.here) state (messages.Update u seal) h tt)))

  -- ---- assignments and Prepares

  -- a Prepare that is complete
  prepares_stand : (leaf view local n : ℕ) (value : Value) (q : Quorum) → view ≡ state.here.view → local ≡ state.here.local → state.here.executed < n →
      StatementInRange (a_prepare state.here.seat.site view local n value) → QuorumInRange q → (is_none (state.slots.made (AtProposal view local n)) ≡ true → leaf < 2 ^ 32) →
      StandsInRange (top_of state.here) state (prepares state.here state.slots leaf view local n value q)
  prepares_stand leaf view local n value q at_g at_l above h quorum left =
      let none : Bool = is_none (state.slots.made (AtProposal view local n)) in
      let prepare : Statement = a_prepare state.here.seat.site view local n value in
      let proposal : Statement = a_proposal state.here.seat.site view local n value in
      then_stands (top_of state.here) state (recording (Prepared prepare q)) (when none (making leaf proposal forms.Share (to_rep state.here)))
      (recording_stands (top_of state.here) state (Prepared prepare q) tt (((refl, h.0), h.1, quorum), (omega (arith, at_g), omega (arith, at_l))))
      (when_stands (top_of state.here) state none (making leaf proposal forms.Share (to_rep state.here))
      (λ e.
      making_stands (top_of state.here) state leaf proposal forms.Share (to_rep state.here) (left e) (h, λ signed g. (((refl, h.0), g.0), (h.1, g.1)))
      (open_slot state.here.view state.here.local state.here.executed view local n (omega (arith, at_g)) (omega (arith, at_l)) above)))

  -- a share of a Prepare that is kept
  keeps_prepare_stands : (leaf site view local n : ℕ) (value : Value) (signed : Signed) → view ≡ state.here.view → local ≡ state.here.local → state.here.executed < n →
      StatementInRange (a_prepare site view local n value) → SignedInRange signed →
      (completes_prepare state.here state.slots site view local n value signed ≡ true → is_none (state.slots.made (AtProposal view local n)) ≡ true → leaf < 2 ^ 32) →
      StandsInRange (top_of state.here) state (keeps_prepare state.here state.slots leaf site view local n value signed)
  keeps_prepare_stands leaf site view local n value signed at_g at_l above h seal left =
      let statement : Statement = a_prepare site view local n value in
      let q : Quorum = completed state.here (state.slots.shares (AtPrepare view local n)) statement signed in
      let done : Bool = completes_prepare state.here state.slots site view local n value signed in
      then_stands (top_of state.here) state (keeping (messages.Share statement signed)) (when done (prepares state.here state.slots leaf view local n value q))
      (keeping_stands (top_of state.here) state (messages.Share statement signed) (((refl, h.0), seal.0), (h.1, seal.1)) tt)
      (when_stands (top_of state.here) state done (prepares state.here state.slots leaf view local n value q)
      (λ e.
      prepares_stand leaf view local n value q at_g at_l above (h.0, (inside.here.seat.site, h.1.1, h.1.2, h.1.3, h.1.4))
      (completed_in_range state.here (state.slots.shares (AtPrepare view local n)) statement signed inside.here.seat.servers (inside.shares (AtPrepare view local n)) seal.0.1 e)
      (left e)))

  -- a share of a Prepare
  pub prepare_answer : (site view local n : ℕ) (value : Value) (signed : Signed) → StatementInRange (a_prepare site view local n value) → SignedInRange signed →
      AnswerInRange (top_of state.here) state (on_prepare state.here state.slots site view local n value signed)
  prepare_answer site view local n value signed h seal =
      decides_in_range (top_of state.here) state (prepare_reasons state.here state.slots site view local n value signed) (prepare_step state.here state.slots site view local n value signed)
      (λ free.
      let views = at_views view state.here.view local state.here.local free.1.0 in
      let g : view ≡ state.here.view = views.0 in
      let l : local ≡ state.here.local = views.1 in
      let done : Bool = completes_prepare state.here state.slots site view local n value signed in
      let none : Bool = is_none (state.slots.made (AtProposal view local n)) in
      let most : state.here.seat.capacity < 2 ^ 32 = inside.here.seat.capacity in
      inl
      (keeps_prepare_stands state.here.leaf site view local n value signed g l (above_executed state.here n free.1.1.0) h seal
      (λ e is.
      let left : state.here.leaf < state.here.seat.capacity = leaf_left state.here.leaf state.here.seat.capacity (done && none) (and_from done none e is) free.1.1.1.1.0 in
      omega (arith, left, most))))

  -- an assignment
  pub assign_answer : (forced : Forced) (view local n : ℕ) (value : Value) (client_seal : Bytes) (signed : Signed) → StatementInRange (a_prepare state.here.seat.site view local n value) →
      SignedInRange signed → AnswerInRange (top_of state.here) state (on_assign state.here state.slots forced view local n value client_seal signed)
  assign_answer forced view local n value client_seal signed h seal =
      decides_in_range (top_of state.here) state (assign_reasons state.here state.slots forced view local n value client_seal signed) (assign_step state.here state.slots view local n value signed)
      (λ free.
      let views = at_views view state.here.view local state.here.local free.1.0 in
      let g : view ≡ state.here.view = views.0 in
      let l : local ≡ state.here.local = views.1 in
      let above : state.here.executed < n = above_executed state.here n free.1.1.0 in
      let new : Bool = assigns state.slots view local n in
      let keeps : Bool = keeps_assigned state.here state.slots view local n in
      let done : Bool = completes_prepare state.here state.slots state.here.seat.site view local n value signed in
      let none : Bool = is_none (state.slots.made (AtProposal view local n)) in
      let leaves : state.here.leaf + (one_if new + one_if ((keeps && done) && none)) ≤ state.here.seat.capacity =
      ltb-false state.here.seat.capacity (state.here.leaf + (one_if new + one_if ((keeps && done) && none))) free.1.1.1.1.1.1.1.1.0
      in
      let most : state.here.seat.capacity < 2 ^ 32 = inside.here.seat.capacity in
      let statement : Statement = a_prepare state.here.seat.site view local n value in
      let made : Step = making state.here.leaf statement forms.Share (to_site state.here) in
      let kept : Step = keeps_prepare state.here state.slots (state.here.leaf + one_if new) state.here.seat.site view local n value signed in
      inl
      (then_stands (top_of state.here) state (when new made) (when keeps kept)
      (when_stands (top_of state.here) state new made
      (λ e.
      let one : one_if new ≡ 1 = one_if_true new e in
      making_stands (top_of state.here) state state.here.leaf statement forms.Share (to_site state.here) (omega (arith, one, leaves, most)) (h, λ s g. (((refl, h.0), g.0), (h.1, g.1)))
      (open_slot state.here.view state.here.local state.here.executed view local n (omega (arith, g)) (omega (arith, l)) above)))
      (when_stands (top_of state.here) state keeps kept
      (λ k.
      keeps_prepare_stands (state.here.leaf + one_if new) state.here.seat.site view local n value signed g l above h seal
      (λ e is.
      let one : one_if ((keeps && done) && none) ≡ 1 = one_if_true ((keeps && done) && none) (and_from (keeps && done) none (and_from keeps done k e) is) in
      omega (arith, one, leaves, most))))))

  -- ---- shares and certificates that order a number

  -- a share of a Proposal
  pub proposal_share_answer : (site view local n : ℕ) (value : Value) (signed : Signed) → StatementInRange (a_proposal site view local n value) → SignedInRange signed →
      AnswerInRange (top_of state.here) state (on_proposal_share state.here state.slots site view local n value signed)
  proposal_share_answer site view local n value signed h seal =
      decides_in_range (top_of state.here) state (proposal_share_reasons state.here state.slots site view local n signed) (proposal_share_step state.here state.slots site view local n value signed)
      (λ free.
      inl
      (certifies_stands (top_of state.here) state (state.slots.shares (AtProposal view local n)) (a_proposal site view local n value) signed scopes.All inside.here.seat.servers
      (inside.shares (AtProposal view local n)) (refl, h.0) (refl, h.0) h.1 seal))

  -- a share of an Accept
  pub accept_share_answer : (site view n : ℕ) (value : Value) (signed : Signed) → StatementInRange (an_accept site view n value) → SignedInRange signed →
      AnswerInRange (top_of state.here) state (on_accept_share state.here state.slots site view n value signed)
  accept_share_answer site view n value signed h seal =
      decides_in_range (top_of state.here) state (accept_share_reasons state.here state.slots site view n signed) (accept_share_step state.here state.slots site view n value signed)
      (λ free.
      inl
      (certifies_stands (top_of state.here) state (state.slots.shares (AtAccept view n)) (an_accept site view n value) signed scopes.All inside.here.seat.servers (inside.shares (AtAccept view n)) (refl, h.0)
      (refl, h.0) h.1 seal))

  -- a certificate of a Proposal
  pub proposal_answer : (site view local n : ℕ) (value : Value) (q : Quorum) → StatementInRange (a_proposal site view local n value) → QuorumInRange q →
      AnswerInRange (top_of state.here) state (on_proposal state.here state.slots site view local n value q)
  proposal_answer site view local n value q h quorum =
      let accept : Statement = an_accept state.here.seat.site view n value in
      decides_in_range (top_of state.here) state (proposal_reasons state.here state.slots view n) (proposal_step state.here site view local n value q)
      (λ free.
      let g : view ≡ state.here.view = at_view view state.here.view free.0 in
      let least : state.here.leaf + 1 ≤ state.here.seat.capacity = ltb-false state.here.seat.capacity (state.here.leaf + 1) free.1.1.1.0 in
      let most : state.here.seat.capacity < 2 ^ 32 = inside.here.seat.capacity in
      let s : StatementInRange accept = (h.0, (inside.here.seat.site, h.1.1, h.1.3, h.1.4)) in
      inl
      (then_stands (top_of state.here) state (recording (Accepted (a_proposal site view local n value) q)) (making state.here.leaf accept forms.Share (to_rep state.here))
      (recording_stands (top_of state.here) state (Accepted (a_proposal site view local n value) q) tt (((refl, h.0), h.1, quorum), omega (arith, g)))
      (making_stands (top_of state.here) state state.here.leaf accept forms.Share (to_rep state.here) (omega (arith, least, most)) (s, λ signed x. (((refl, s.0), x.0), (s.1, x.1)))
      (open_accept state.here.view state.here.executed view n (omega (arith, g)) (above_executed state.here n free.1.0)))))

  -- ---- what is in hand

  -- the proof that kept words give
  word_proof : (words : ℕ → Option Word) → ((s : ℕ) → IfSome (words s) WordInRange) → (s : ℕ) → IfSome (words_proof state.here words s) ProofInRange
  word_proof words all s = by (words s) (all s)
    where
      quorums : (t : ℕ) → IfSome (words t) (λ w. QuorumInRange w.quorum)
      quorums t = word_part WordInRange (λ w. QuorumInRange w.quorum) (λ w g. g.2) (words t) (all t)

      by_many : (w : Word) → WordInRange w → (b : Bool) → nat_le (majority state.here) (count_below (λ t. names w.value (words t)) state.here.seat.sites) ≡ b →
          IfSome
          (cond b (Some (record { view = record { 0 = w.view }; value = w.value; sites = take (majority state.here) (all_below (site_word w.value words) state.here.seat.sites) })) None)
          ProofInRange
      by_many w g true e =
          let sites : SitesInRange (take (majority state.here) (all_below (site_word w.value words) state.here.seat.sites)) =
          sites_in_range state.here w.value words inside.here.seat.sites quorums e
          in
          ((g.1.0, sites.0), (g.0, g.1.1, sites.1))
      by_many w g false e = tt

      by : (x : Option Word) → IfSome x WordInRange →
          IfSome
          (given x None
          (λ w.
          cond (nat_le (majority state.here) (count_below (λ t. names w.value (words t)) state.here.seat.sites))
          (Some (record { view = record { 0 = w.view }; value = w.value; sites = take (majority state.here) (all_below (site_word w.value words) state.here.seat.sites) }))
          None))
          ProofInRange
      by None g = tt
      by (Some w) g = by_many w g (nat_le (majority state.here) (count_below (λ t. names w.value (words t)) state.here.seat.sites)) refl

  -- the proof of a number
  hand_gives : (hand : Hand) (n : ℕ) → HandInRange hand → IfSome (in_hand state.here hand n) ProofInRange
  unfolding in_hand
  hand_gives hand n h =
      first_has ProofInRange (hand.proof n) (first_below (words_proof state.here (hand.word n)) state.here.seat.sites) (h.proof n)
      (first_below_has ProofInRange (words_proof state.here (hand.word n)) state.here.seat.sites (word_proof (hand.word n) (h.word n)))

  -- what is executed
  executions_run : (hand : Hand) (k e : ℕ) → e + k ≤ most_base → HandInRange hand → Runs e (executions state.here hand k (e + 1))
  unfolding executions
  executions_run hand zero e few h = tt
  executions_run hand (suc k) e few h =
      chosen ProofInRange (Runs e) (in_hand state.here hand (e + 1)) [] (λ p. Executed (record { 0 = e + 1 }) p ∷ executions state.here hand k (e + 1 + 1)) (hand_gives hand (e + 1) h) tt
      (λ p g. ((refl, omega (arith, few), g), executions_run hand k (e + 1) (omega (arith, few)) h))

  -- a message is kept, and what then is in hand is executed
  executes_in_range : (m : Message) → MessageInRange m → IsReportOf state.here.seat.site m → state.here.executed + 16 ≤ most_base → RunsInRange (top_of state.here) state.here.executed (keeps_and_executes state.here state.hand m)
  executes_in_range m h home few =
      let heard : Heard = record { own = false; message = m } in
      record {
        changes =
            executions_run (hand_cuts state.here (hand_takes heard state.hand)) 16 state.here.executed few
            (hand_cuts_in_range state.here (hand_takes heard state.hand) (hand_takes_in_range heard state.hand inside.hand h));
        heard = ((h, home), tt);
        none = refl;
      }

  -- a certificate of an Accept
  pub accept_answer : (site view n : ℕ) (value : Value) (q : Quorum) → StatementInRange (an_accept site view n value) → QuorumInRange q →
      AnswerInRange (top_of state.here) state (on_accept state.here state.hand site view n value q)
  accept_answer site view n value q h quorum =
      decides_in_range (top_of state.here) state (accept_reasons state.here state.hand site view n) (accept_step state.here state.hand site view n value q)
      (λ free.
      let above : state.here.executed < n = above_executed state.here n free.0 in
      let most : n ≤ 1024 = ltb-false LAST_NUMBER n free.1.1.0 in
      inr (inl (executes_in_range (messages.Certificate (an_accept site view n value) q) (((refl, h.0), quorum.0), (h.1, quorum.1)) tt (omega (arith, above, most)))))

  -- an order proof
  pub order_proof_answer : (n : ℕ) (p : Proof) → MessageInRange (messages.OrderProof (record { 0 = n }) p) → AnswerInRange (top_of state.here) state (on_order_proof state.here state.hand n p)
  order_proof_answer n p h =
      decides_in_range (top_of state.here) state (beyond state.here n ∷ seen (is_some (state.hand.proof n)) ∷ full n ∷ []) (keeps_and_executes state.here state.hand (messages.OrderProof (record { 0 = n }) p))
      (λ free.
      let above : state.here.executed < n = above_executed state.here n free.0 in
      let most : n ≤ 1024 = ltb-false LAST_NUMBER n free.1.1.0 in
      inr (inl (executes_in_range (messages.OrderProof (record { 0 = n }) p) h tt (omega (arith, above, most)))))
