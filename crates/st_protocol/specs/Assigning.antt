-- A value is given a number: updates, assignments, the shares of Prepares and Proposals, and the fill.
use Rattle.std.specs.Prelude.{ℕ, ◌+◌, ◌-◌, ◌%◌, min, Bool, true, false, cond, zero, suc, nat_eq, nat_lt, nat_le, ◌&&◌, ◌||◌, not, Option, Some, None, is_some, is_none, List, [], ◌∷◌}
use Rattle.st_words.specs.declared.deployment.TheConstants.{WINDOW, LAST_NUMBER}
use Rattle.st_words.specs.declared.value.Update.{Update}
use Rattle.st_words.specs.declared.value.Value.{Value}
use Rattle.st_words.specs.declared.value.Value.TheVariants as values
use Rattle.st_words.specs.declared.statement.Statement.{Statement}
use Rattle.st_words.specs.declared.statement.Statement.TheVariants.{Prepare}
use Rattle.st_seal.specs.declared.quorum.Signed.{Signed}
use Rattle.st_message.specs.declared.message.Message.TheVariants as messages
use Rattle.st_message.specs.declared.event.Scope.TheVariants as scopes
use Rattle.st_message.specs.declared.change.Change.TheVariants.{Prepared}
use Rattle.st_message.specs.declared.reason.Reason.{Reason}
use Rattle.st_message.specs.declared.reason.Reason.TheVariants.{NotRep, Waiting, Below, OtherValue, OldTime, LogFull}
use Rattle.st_message.specs.declared.step.Form.TheVariants as forms
use Rattle.st_message.specs.declared.step.Out.TheVariants.{Make}
use Rattle.st_message.specs.declared.step.Step.{Step}
use Rattle.st_protocol.specs.Words.{Bytes, Quorum, a_prepare, a_proposal, same_update, same_value}
use Rattle.st_protocol.specs.Keeping.{given}
use Rattle.st_protocol.specs.State.{Place, AtPrepare, AtProposal, same_place, Here, Sealing, Slots, Pended}
use Rattle.st_protocol.specs.Step.{Answer, idle, then, making, recording, keeping, putting, when, decides, some_below, first_below, one_if, rep, leader, to_rep, to_site, not_site, other_view, beyond, not_rep, seen, spent, full, complete, is_seen_share, completes, completed, certifies}
use Rattle.st_protocol.specs.Forced.{Forced, waits, forced_above}

-- ---- updates

abbrev pub is_seen_update : ℕ → Option Pended → Bool
is_seen_update time x = given x false (λ k. nat_le time k.update.time)

-- `last` is the client's last time, `reply` the Reply that this server made to it
abbrev pub update_reasons : Here → (ℕ → Option Pended) → ℕ → Option Sealing → Update → List (Bool × Reason)
update_reasons here pending last reply u =
    seen (is_seen_update u.time (pending u.client.0))
    ∷ (nat_lt u.time last || (nat_eq u.time last && is_none reply), OldTime last)
    ∷ (nat_le LAST_NUMBER here.executed, LogFull (LAST_NUMBER + 1))
    ∷ []

-- the Reply goes out again, or the update waits for a number
abbrev pub update_step : ℕ → Option Sealing → Update → Bytes → Step
update_step last reply u seal =
    cond (nat_eq u.time last)
    (given reply idle (λ r. putting (Make r.statement forms.Reply (scopes.Client u.client))))
    (keeping (messages.Update u seal))

abbrev pub on_update : Here → (ℕ → Option Pended) → ℕ → Option Sealing → Update → Bytes → Answer
on_update here pending last reply u seal = decides (update_reasons here pending last reply u) (update_step last reply u seal)

-- ---- assignments

abbrev pub is_noop : Value → Bool
is_noop values.Noop = true
is_noop (values.Update u) = false

abbrev pub is_empty : Bytes → Bool
is_empty [] = true
is_empty (x ∷ xs) = false

-- not a value that may stand at n
abbrev pub is_other_value : Here → Forced → ℕ → Value → Bytes → Bool
is_other_value here forced n value client_seal =
    given (forced.value n)
    (cond (is_noop value) (not (forced_above here forced n)) (is_empty client_seal))
    (λ v. not (same_value v value))

-- the Prepare is complete: Prepared, and the Proposal unless one was made there
abbrev pub prepares : Here → Slots → ℕ → ℕ → ℕ → ℕ → Value → Quorum → Step
prepares here slots leaf view local n value q =
    then (recording (Prepared (a_prepare here.seat.site view local n value) q))
    (when (is_none (slots.made (AtProposal view local n)))
    (making leaf (a_proposal here.seat.site view local n value) forms.Share (to_rep here)))

-- the share of a Prepare completes its slot
abbrev pub completes_prepare : Here → Slots → ℕ → ℕ → ℕ → ℕ → Value → Signed → Bool
completes_prepare here slots site view local n value signed =
    completes here (slots.shares (AtPrepare view local n)) (a_prepare site view local n value) signed

-- it is kept; where it completes the slot, what follows is made from this leaf on
abbrev pub keeps_prepare : Here → Slots → ℕ → ℕ → ℕ → ℕ → ℕ → Value → Signed → Step
keeps_prepare here slots leaf site view local n value signed =
    let statement : Statement = a_prepare site view local n value in
    then (keeping (messages.Share statement signed))
    (when (completes_prepare here slots site view local n value signed)
    (prepares here slots leaf view local n value (completed here (slots.shares (AtPrepare view local n)) statement signed)))

-- a slot that was completed, where no Proposal was made
abbrev pub proposes : Slots → ℕ → ℕ → ℕ → Bool → Bool
proposes slots view local n done = done && is_none (slots.made (AtProposal view local n))

-- no Prepare was made there, so one is made
abbrev pub assigns : Slots → ℕ → ℕ → ℕ → Bool
assigns slots view local n = is_none (slots.made (AtPrepare view local n))

-- the representative's Prepare is kept as a share, unless the slot is complete
abbrev pub keeps_assigned : Here → Slots → ℕ → ℕ → ℕ → Bool
keeps_assigned here slots view local n = not (complete here (slots.shares (AtPrepare view local n)))

-- it is kept, and completes the slot
abbrev pub completes_assigned : Here → Slots → ℕ → ℕ → ℕ → Value → Signed → Bool
completes_assigned here slots view local n value signed =
    keeps_assigned here slots view local n && completes_prepare here slots here.seat.site view local n value signed

abbrev pub assign_reasons : Here → Slots → Forced → ℕ → ℕ → ℕ → Value → Bytes → Signed → List (Bool × Reason)
assign_reasons here slots forced view local n value client_seal signed =
    let new : Bool = assigns slots view local n in
    let done : Bool = completes_assigned here slots view local n value signed in
    not_site here (view % here.seat.sites)
    ∷ other_view here (not (nat_eq view here.view && nat_eq local here.local))
    ∷ beyond here n
    ∷ (not (nat_eq signed.index (rep here)), NotRep (rep here))
    ∷ seen (is_some (slots.shares (AtPrepare view local n) signed.index))
    ∷ (new && waits forced, Waiting forced.held forced.wanted)
    ∷ (new && nat_le n forced.base, Below n forced.base)
    ∷ (new && is_other_value here forced n value client_seal, OtherValue)
    ∷ spent here (one_if new + one_if (proposes slots view local n done))
    ∷ full n
    ∷ []

abbrev pub assign_step : Here → Slots → ℕ → ℕ → ℕ → Value → Signed → Step
assign_step here slots view local n value signed =
    let new : Bool = assigns slots view local n in
    then (when new (making here.leaf (a_prepare here.seat.site view local n value) forms.Share (to_site here)))
    (when (keeps_assigned here slots view local n)
    (keeps_prepare here slots (here.leaf + one_if new) here.seat.site view local n value signed))

abbrev pub on_assign : Here → Slots → Forced → ℕ → ℕ → ℕ → Value → Bytes → Signed → Answer
on_assign here slots forced view local n value client_seal signed =
    decides (assign_reasons here slots forced view local n value client_seal signed) (assign_step here slots view local n value signed)

-- ---- shares

abbrev pub prepare_reasons : Here → Slots → ℕ → ℕ → ℕ → ℕ → Value → Signed → List (Bool × Reason)
prepare_reasons here slots site view local n value signed =
    not_site here site
    ∷ other_view here (not (nat_eq view here.view && nat_eq local here.local))
    ∷ beyond here n
    ∷ seen (is_seen_share here (slots.shares (AtPrepare view local n)) signed.index)
    ∷ spent here (one_if (proposes slots view local n (completes_prepare here slots site view local n value signed)))
    ∷ full n
    ∷ []

abbrev pub prepare_step : Here → Slots → ℕ → ℕ → ℕ → ℕ → Value → Signed → Step
prepare_step here slots site view local n value signed = keeps_prepare here slots here.leaf site view local n value signed

abbrev pub on_prepare : Here → Slots → ℕ → ℕ → ℕ → ℕ → Value → Signed → Answer
on_prepare here slots site view local n value signed =
    decides (prepare_reasons here slots site view local n value signed) (prepare_step here slots site view local n value signed)

abbrev pub proposal_share_reasons : Here → Slots → ℕ → ℕ → ℕ → ℕ → Signed → List (Bool × Reason)
proposal_share_reasons here slots site view local n signed =
    not_site here site
    ∷ other_view here (not (nat_eq view here.view && nat_eq local here.local))
    ∷ beyond here n
    ∷ not_rep here
    ∷ seen (is_seen_share here (slots.shares (AtProposal view local n)) signed.index)
    ∷ full n
    ∷ []

abbrev pub proposal_share_step : Here → Slots → ℕ → ℕ → ℕ → ℕ → Value → Signed → Step
proposal_share_step here slots site view local n value signed =
    certifies here (slots.shares (AtProposal view local n)) (a_proposal site view local n value) signed scopes.All

abbrev pub on_proposal_share : Here → Slots → ℕ → ℕ → ℕ → ℕ → Value → Signed → Answer
on_proposal_share here slots site view local n value signed =
    decides (proposal_share_reasons here slots site view local n signed) (proposal_share_step here slots site view local n value signed)

-- ---- the fill

-- whether a Prepare of this update was made at the present views and a window number
abbrev pub is_prepare_of : Update → Statement → Bool
is_prepare_of u (Prepare site view local number (values.Update v)) = same_update u v
is_prepare_of u _ = false

abbrev pub is_assigned : Here → Slots → Update → Bool
is_assigned here slots u =
    some_below (λ k. given (slots.made (AtPrepare here.view here.local (here.executed + 1 + k))) false (λ m. is_prepare_of u m.statement)) WINDOW

-- the lowest client's pending update of which none was made
abbrev pub next_pending : Here → Slots → (ℕ → Option Pended) → Option Pended
next_pending here slots pending =
    first_below (λ c. given (pending c) None (λ k. cond (is_assigned here slots k.update) None (Some k))) here.seat.clients

-- the value at n and the client's seal with it
abbrev pub fill_value : Here → Slots → (ℕ → Option Pended) → Forced → ℕ → Option (Value × Bytes)
fill_value here slots pending forced n =
    given (forced.value n)
    (cond (forced_above here forced n) (Some (values.Noop, []))
    (given (next_pending here slots pending) None (λ k. Some (values.Update k.update, k.seal))))
    (λ v. Some (v, []))

abbrev pub with_made : Slots → Place → Sealing → Slots
with_made slots p m = record slots { made = λ o. cond (same_place p o) (Some m) (slots.made o) }

-- The fill so far: its next leaf, and the slots with what it made.
pub record Filling : Type 0 where
  pub step : Step
  pub leaf : ℕ
  pub slots : Slots

abbrev pub fill_makes : Here → Filling → ℕ → Value × Bytes → Filling
fill_makes here filling n x =
    let statement : Statement = a_prepare here.seat.site here.view here.local n x.0 in
    record {
      step = then filling.step (making filling.leaf statement (forms.Assign x.1) (to_site here));
      leaf = filling.leaf + 1;
      slots = with_made filling.slots (AtPrepare here.view here.local n) (record { leaf = filling.leaf; statement = statement });
    }

-- One number: where the fill stops there, none.
unfoldable pub fill_number : Here → (ℕ → Option Pended) → Forced → Filling → ℕ → Option Filling
fill_number here pending forced filling n =
    cond (is_some (filling.slots.made (AtPrepare here.view here.local n))) (Some filling)
    (cond (nat_le here.seat.capacity filling.leaf) None
    (given (fill_value here filling.slots pending forced n) None (λ x. Some (fill_makes here filling n x))))

-- so many numbers, from n on, until it stops
unfoldable pub fills : Here → (ℕ → Option Pended) → Forced → ℕ → ℕ → Filling → Filling
fills here pending forced zero n filling = filling
fills here pending forced (suc k) n filling = given (fill_number here pending forced filling n) filling (fills here pending forced k (n + 1))

unfoldable pub fill : Here → Slots → (ℕ → Option Pended) → Forced → Step
fill here slots pending forced =
    when (nat_eq here.seat.index (rep here) && nat_eq here.seat.site (leader here) && not (waits forced))
    (fills here pending forced (min (here.executed + WINDOW) LAST_NUMBER - forced.base) (forced.base + 1)
    (record { step = idle; leaf = here.leaf; slots = slots })).step
