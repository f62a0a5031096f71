-- The tables take all that a part's step changes and keeps, where no reason is against it.
use Rattle.std.proofs.Common.{◌≡◌, ℕ, ◌+◌, ◌<◌, Bool, true, false, cond, nat_eq, nat_lt, nat_le, Option, Some, None, refl, arith}
use Rattle.std.proofs.Common.{subst, sym, add-zero}
use Rattle.std.proofs.lemmas.Bool.{eq-eqb}
use Rattle.std.proofs.Math.Nat.{mod-lt}
use Rattle.std.specs.Prelude.{◌&&◌, not, is_none}
use Rattle.st_words.specs.declared.value.Update.{Update}
use Rattle.st_words.specs.declared.value.Value.{Value}
use Rattle.st_words.specs.declared.statement.Statement.{Statement}
use Rattle.st_seal.specs.declared.quorum.Signed.{Signed}
use Rattle.st_message.specs.declared.change.Change.TheVariants.{Prepared}
use Rattle.st_message.specs.declared.event.Scope.{Scope}
use Rattle.st_message.specs.declared.event.Scope.TheVariants as scopes
use Rattle.st_message.specs.declared.message.Message.TheVariants as messages
use Rattle.st_message.specs.declared.step.Form.TheVariants as forms
use Rattle.st_message.specs.declared.step.Out.TheVariants.{Make}
use Rattle.st_message.specs.declared.step.Step.{Step}
use Rattle.st_tables.specs.Window.{in_window}
use Rattle.st_protocol.specs.Keeping.{given}
use Rattle.st_protocol.specs.Words.{Bytes, Quorum, a_prepare, a_proposal}
use Rattle.st_protocol.specs.State.{Here, Slots, Sealing, AtPrepare, AtProposal}
use Rattle.st_protocol.specs.Step.{idle, then, when, making, recording, keeping, putting, one_if, servers, out_of_window, rep, completed, to_rep, to_site}
use Rattle.st_protocol.specs.Assigning.{proposal_share_reasons, proposal_share_step, update_step, completes_prepare, prepare_reasons, prepare_step, assigns, keeps_assigned, assign_reasons, assign_step}
use Rattle.st_protocol.specs.Part.{first_reason}
use Rattle.st_protocol.specs.Forced.{Forced}
use Rattle.st_protocol.proofs.PartLaws.{none_true}
use Rattle.st_state.specs.Placed.{Fits}
use Rattle.st_assign.specs.Replied.{IsReply}
use Rattle.st_shares.proofs.FitLaws.{certifies_fits}

-- a number that isn't out of the window is at most 16 above
within : (h : Here) (n : ℕ) → out_of_window h n ≡ false → nat_le n (h.executed + 16) ≡ true
within h n e = grind (arith, e)

-- the present views
same_views : (view local g l : ℕ) → not (nat_eq g view && nat_eq l local) ≡ false → (nat_eq view g && nat_eq local l) ≡ true
same_views view local g l e = grind (arith, e)

pub proposal_share_fits : (h : Here) (slots : Slots) (site view local n : ℕ) (value : Value) (signed : Signed)
    → first_reason (proposal_share_reasons h slots site view local n signed) ≡ None → signed.index < servers h
    → Fits h (proposal_share_step h slots site view local n value signed)
proposal_share_fits h slots site view local n value signed none known =
    let tests = none_true (proposal_share_reasons h slots site view local n signed) none in
    let at : (nat_eq h.view view && nat_eq h.local local) ≡ true = same_views h.view h.local view local tests.1.0 in
    let same : nat_eq h.view view ≡ true = grind (arith, at) in
    let near : nat_le n (h.executed + 16) ≡ true = within h n tests.1.1.0 in
    let index : nat_lt signed.index (servers h) ≡ true = grind (arith, known) in
    certifies_fits h (slots.shares (AtProposal view local n)) (a_proposal site view local n value) signed scopes.All (rw (at, near, index) refl) (rw (same, near) refl)

-- an update is kept, or its Reply goes out
pub update_fits : (h : Here) (last : ℕ) (reply : Option Sealing) (u : Update) (seal : Bytes) → Fits h (update_step last reply u seal)
update_fits h last reply u seal = by_test (nat_eq u.time last) reply
  where
    by_test : (b : Bool) (r : Option Sealing) → Fits h (cond b (given r (idle) (λ m. putting (Make m.statement forms.Reply (scopes.Client u.client)))) (keeping (messages.Update u seal)))
    by_test true None = record { placed = refl; taken = refl }
    by_test true (Some m) = record { placed = refl; taken = refl }
    by_test false r = record { placed = refl; taken = refl }

-- a Reply to make again, of any leaf
pub some_made : (reply : Option Statement) → (made : Option Sealing) × IsReply made reply
some_made None = (None, refl)
some_made (Some s) = (Some (record { leaf = 0; statement = s }), refl)

-- ---- a share of a Prepare

-- a number that isn't out of the window is in it
inside : (h : Here) (n : ℕ) → out_of_window h n ≡ false → in_window h.executed n ≡ true
inside h n e = grind (arith, e)

-- a share of a Prepare is kept; it is prepared, and a Proposal is made
abbrev kept_prepare : ℕ → ℕ → ℕ → ℕ → ℕ → ℕ → Value → Signed → Quorum → Scope → Bool → Bool → Step
kept_prepare leaf own site view local n value signed q to done fresh =
    then (keeping (messages.Share (a_prepare site view local n value) signed))
    (when done
    (then (recording (Prepared (a_prepare own view local n value) q))
    (when fresh (making leaf (a_proposal own view local n value) forms.Share to))))

kept_prepare_fits : (h : Here) (own site view local n : ℕ) (value : Value) (signed : Signed) (q : Quorum) (to : Scope) (done fresh : Bool)
    → (nat_eq h.view view && nat_eq h.local local) ≡ true → out_of_window h n ≡ false → signed.index < servers h
    → nat_lt h.seat.capacity (h.leaf + one_if (done && fresh)) ≡ false
    → Fits h (kept_prepare h.leaf own site view local n value signed q to done fresh)
kept_prepare_fits h own site view local n value signed q to done fresh at window known room =
    let placed : in_window h.executed n ≡ true = inside h n window in
    let near : nat_le n (h.executed + 16) ≡ true = within h n window in
    let index : nat_lt signed.index (servers h) ≡ true = grind (arith, known) in
    by_test done fresh room placed near index
  where
    by_test : (b f : Bool) → nat_lt h.seat.capacity (h.leaf + one_if (b && f)) ≡ false → in_window h.executed n ≡ true → nat_le n (h.executed + 16) ≡ true
        → nat_lt signed.index (servers h) ≡ true → Fits h (kept_prepare h.leaf own site view local n value signed q to b f)
    by_test true true left placed near index =
        let more : nat_lt h.leaf h.seat.capacity ≡ true = grind (arith, left) in
        record { placed = rw (placed, eq-eqb h.leaf h.leaf refl, more, at) refl; taken = rw (at, near, index) refl }
    by_test true false left placed near index = record { placed = rw placed refl; taken = rw (at, near, index) refl }
    by_test false f left placed near index = record { placed = refl; taken = rw (at, near, index) refl }

pub prepare_fits : (h : Here) (slots : Slots) (site view local n : ℕ) (value : Value) (signed : Signed)
    → first_reason (prepare_reasons h slots site view local n value signed) ≡ None → signed.index < servers h
    → Fits h (prepare_step h slots site view local n value signed)
prepare_fits h slots site view local n value signed none known =
    let tests = none_true (prepare_reasons h slots site view local n value signed) none in
    let at : (nat_eq h.view view && nat_eq h.local local) ≡ true = same_views h.view h.local view local tests.1.0 in
    kept_prepare_fits h h.seat.site site view local n value signed (completed h (slots.shares (AtPrepare view local n)) (a_prepare site view local n value) signed) (to_rep h)
    (completes_prepare h slots site view local n value signed) (is_none (slots.made (AtProposal view local n))) at tests.1.1.0 known tests.1.1.1.1.0

-- ---- an assignment

-- a server's own Prepare is made, and what follows fits what that leaves
own_prepare_fits : (h : Here) (site view local n : ℕ) (value : Value) (step : Step)
    → (nat_eq h.view view && nat_eq h.local local) ≡ true → out_of_window h n ≡ false → nat_lt h.leaf h.seat.capacity ≡ true
    → Fits (record h { leaf = h.leaf + 1 }) step
    → Fits h (then (making h.leaf (a_prepare site view local n value) forms.Share (to_site h)) step)
own_prepare_fits h site view local n value step at window left rest =
    let placed : in_window h.executed n ≡ true = inside h n window in
    record { placed = rw (placed, eq-eqb h.leaf h.leaf refl, left, at) rest.placed; taken = rest.taken }

-- the Prepare that is made, if it is new, and the share that is kept
abbrev kept_assigned : Here → ℕ → ℕ → ℕ → Value → Signed → Quorum → Bool → Bool → Bool → Bool → Step
kept_assigned h view local n value signed q new keeps done fresh =
    then (when new (making h.leaf (a_prepare h.seat.site view local n value) forms.Share (to_site h)))
    (when keeps (kept_prepare (h.leaf + one_if new) h.seat.site h.seat.site view local n value signed q (to_rep h) done fresh))

kept_assigned_fits : (h : Here) (view local n : ℕ) (value : Value) (signed : Signed) (q : Quorum) (new keeps done fresh : Bool)
    → (nat_eq h.view view && nat_eq h.local local) ≡ true → out_of_window h n ≡ false → signed.index < servers h
    → nat_lt h.seat.capacity (h.leaf + (one_if new + one_if ((keeps && done) && fresh))) ≡ false
    → Fits h (kept_assigned h view local n value signed q new keeps done fresh)
kept_assigned_fits h view local n value signed q true true done fresh at window known room =
    let left : nat_lt h.leaf h.seat.capacity ≡ true = grind (arith, room) in
    let more : nat_lt h.seat.capacity (h.leaf + 1 + one_if (done && fresh)) ≡ false = grind (arith, room) in
    own_prepare_fits h h.seat.site view local n value _ at window left
    (kept_prepare_fits (record h { leaf = h.leaf + 1 }) h.seat.site h.seat.site view local n value signed q (to_rep h) done fresh at window known more)
kept_assigned_fits h view local n value signed q true false done fresh at window known room =
    let left : nat_lt h.leaf h.seat.capacity ≡ true = grind (arith, room) in
    own_prepare_fits h h.seat.site view local n value (idle) at window left (record { placed = refl; taken = refl })
kept_assigned_fits h view local n value signed q false true done fresh at window known room =
    let more : nat_lt h.seat.capacity (h.leaf + one_if (done && fresh)) ≡ false = grind (arith, room) in
    subst (λ leaf. Fits h (kept_prepare leaf h.seat.site h.seat.site view local n value signed q (to_rep h) done fresh)) (sym (add-zero h.leaf))
    (kept_prepare_fits h h.seat.site h.seat.site view local n value signed q (to_rep h) done fresh at window known more)
kept_assigned_fits h view local n value signed q false false done fresh at window known room = record { placed = refl; taken = refl }

-- the representative is one of its site's servers
rep_below : (h : Here) (index : ℕ) → not (nat_eq index (rep h)) ≡ false → index < servers h
rep_below h index same =
    let below : rep h < servers h = mod-lt h.local (omega arith) in
    grind (arith, same, below)

pub assign_fits : (h : Here) (slots : Slots) (forced : Forced) (view local n : ℕ) (value : Value) (seal : Bytes) (signed : Signed)
    → first_reason (assign_reasons h slots forced view local n value seal signed) ≡ None
    → Fits h (assign_step h slots view local n value signed)
assign_fits h slots forced view local n value seal signed none =
    let tests = none_true (assign_reasons h slots forced view local n value seal signed) none in
    let at : (nat_eq h.view view && nat_eq h.local local) ≡ true = same_views h.view h.local view local tests.1.0 in
    kept_assigned_fits h view local n value signed (completed h (slots.shares (AtPrepare view local n)) (a_prepare h.seat.site view local n value) signed)
    (assigns slots view local n) (keeps_assigned h slots view local n) (completes_prepare h slots h.seat.site view local n value signed) (is_none (slots.made (AtProposal view local n)))
    at tests.1.1.0 (rep_below h signed.index tests.1.1.1.0) tests.1.1.1.1.1.1.1.1.0
