-- The tables take all that a part's step changes and keeps, where no reason is against it.
use Rattle.std.proofs.Common.{◌≡◌, ℕ, ◌+◌, ◌<◌, true, false, nat_eq, nat_lt, nat_le, None, refl, arith}
use Rattle.std.proofs.lemmas.Bool.{eq-eqb}
use Rattle.st_words.specs.declared.value.Value.{Value}
use Rattle.st_seal.specs.declared.quorum.Signed.{Signed}
use Rattle.st_message.specs.declared.event.Scope.TheVariants as scopes
use Rattle.st_tables.specs.Window.{in_window}
use Rattle.st_protocol.specs.Words.{Quorum, an_accept}
use Rattle.st_protocol.specs.State.{Here, Slots, AtAccept}
use Rattle.st_protocol.specs.Step.{servers, out_of_window}
use Rattle.st_protocol.specs.Ordering.{accept_share_reasons, accept_share_step, proposal_reasons, proposal_step}
use Rattle.st_protocol.specs.Part.{first_reason}
use Rattle.st_protocol.proofs.PartLaws.{none_true}
use Rattle.st_state.specs.Placed.{Fits}
use Rattle.st_shares.proofs.FitLaws.{certifies_fits}

-- a number that isn't out of the window is at most 16 above
within : (h : Here) (n : ℕ) → out_of_window h n ≡ false → nat_le n (h.executed + 16) ≡ true
within h n e = grind (arith, e)

pub accept_share_fits : (h : Here) (slots : Slots) (site view n : ℕ) (value : Value) (signed : Signed)
    → first_reason (accept_share_reasons h slots site view n signed) ≡ None → signed.index < servers h
    → Fits h (accept_share_step h slots site view n value signed)
accept_share_fits h slots site view n value signed none known =
    let tests = none_true (accept_share_reasons h slots site view n signed) none in
    let same : nat_eq h.view view ≡ true = grind (arith, tests.1.0) in
    let near : nat_le n (h.executed + 16) ≡ true = within h n tests.1.1.0 in
    let index : nat_lt signed.index (servers h) ≡ true = grind (arith, known) in
    certifies_fits h (slots.shares (AtAccept view n)) (an_accept site view n value) signed scopes.All (rw (same, near, index) refl) (rw (same, near) refl)

pub proposal_fits : (h : Here) (slots : Slots) (site view local n : ℕ) (value : Value) (q : Quorum)
    → first_reason (proposal_reasons h slots view n) ≡ None
    → Fits h (proposal_step h site view local n value q)
proposal_fits h slots site view local n value q none =
    let tests = none_true (proposal_reasons h slots view n) none in
    let same : nat_eq h.view view ≡ true = grind (arith, tests.0) in
    let inside : in_window h.executed n ≡ true = grind (arith, tests.1.0) in
    let left : nat_lt h.leaf h.seat.capacity ≡ true = grind (arith, tests.1.1.1.0) in
    record { placed = rw (eq-eqb h.leaf h.leaf refl, same, inside, left) refl; taken = refl }
