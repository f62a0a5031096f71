-- A number is ordered: Proposals, Accepts, order proofs, and what is in hand.
use Rattle.std.specs.Prelude.{ℕ, ◌+◌, Bool, false, cond, zero, suc, nat_eq, nat_lt, nat_le, ◌&&◌, ◌||◌, not, Option, Some, None, is_some, List, [], ◌∷◌, take}
use Rattle.st_words.specs.declared.deployment.TheConstants.{WINDOW}
use Rattle.st_words.specs.declared.value.Value.{Value}
use Rattle.st_seal.specs.declared.quorum.Signed.{Signed}
use Rattle.st_message.specs.declared.message.SiteWord.{SiteWord}
use Rattle.st_message.specs.declared.message.Proof.{Proof}
use Rattle.st_message.specs.declared.message.Message.{Message}
use Rattle.st_message.specs.declared.message.Message.TheVariants as messages
use Rattle.st_message.specs.declared.event.Scope.TheVariants as scopes
use Rattle.st_message.specs.declared.reason.Reason.{Reason}
use Rattle.st_message.specs.declared.change.Change.{Change}
use Rattle.st_message.specs.declared.change.Change.TheVariants.{Accepted, Executed}
use Rattle.st_message.specs.declared.step.Form.TheVariants as forms
use Rattle.st_message.specs.declared.step.Step.{Step}
use Rattle.st_protocol.specs.Words.{Quorum, a_proposal, an_accept, a_site_word, same_value}
use Rattle.st_protocol.specs.Keeping.{given, or_else}
use Rattle.st_protocol.specs.State.{AtAccept, Here, Slots, Word, Hand}
use Rattle.st_protocol.specs.Growth.{hand_takes, hand_cuts}
use Rattle.st_protocol.specs.Step.{Answer, then, making, recording, decides, count_below, first_below, all_below, majority, to_rep, not_site, other_view, beyond, not_rep, seen, spent, full, is_seen_share, certifies}

abbrev pub accept_share_reasons : Here → Slots → ℕ → ℕ → ℕ → Signed → List (Bool × Reason)
accept_share_reasons here slots site view n signed =
    not_site here site
    ∷ other_view here (not (nat_eq view here.view))
    ∷ beyond here n
    ∷ not_rep here
    ∷ seen (is_seen_share here (slots.shares (AtAccept view n)) signed.index)
    ∷ full n
    ∷ []

abbrev pub accept_share_step : Here → Slots → ℕ → ℕ → ℕ → Value → Signed → Step
accept_share_step here slots site view n value signed = certifies here (slots.shares (AtAccept view n)) (an_accept site view n value) signed scopes.All

abbrev pub on_accept_share : Here → Slots → ℕ → ℕ → ℕ → Value → Signed → Answer
on_accept_share here slots site view n value signed =
    decides (accept_share_reasons here slots site view n signed) (accept_share_step here slots site view n value signed)

abbrev pub proposal_reasons : Here → Slots → ℕ → ℕ → List (Bool × Reason)
proposal_reasons here slots view n =
    other_view here (not (nat_eq view here.view))
    ∷ beyond here n
    ∷ seen (is_some (slots.made (AtAccept view n)))
    ∷ spent here 1
    ∷ full n
    ∷ []

abbrev pub proposal_step : Here → ℕ → ℕ → ℕ → ℕ → Value → Quorum → Step
proposal_step here site view local n value q =
    then (recording (Accepted (a_proposal site view local n value) q)) (making here.leaf (an_accept here.seat.site view n value) forms.Share (to_rep here))

abbrev pub on_proposal : Here → Slots → ℕ → ℕ → ℕ → ℕ → Value → Quorum → Answer
on_proposal here slots site view local n value q = decides (proposal_reasons here slots view n) (proposal_step here site view local n value q)

-- ---- what is in hand

abbrev pub names : Value → Option Word → Bool
names value x = given x false (λ w. same_value w.value value)

abbrev pub site_word : Value → (ℕ → Option Word) → ℕ → List SiteWord
site_word value words s = given (words s) [] (λ w. cond (same_value w.value value) (a_site_word s w.quorum ∷ []) [])

-- the proof that the kept words of a number give, if M sites name what the site s names
abbrev pub words_proof : Here → (ℕ → Option Word) → ℕ → Option Proof
words_proof here words s =
    given (words s) None (λ w.
    cond (nat_le (majority here) (count_below (λ t. names w.value (words t)) here.seat.sites))
    (Some (record { view = record { 0 = w.view }; value = w.value; sites = take (majority here) (all_below (site_word w.value words) here.seat.sites) }))
    None)

-- The proof of a number that is in hand.
unfoldable pub in_hand : Here → Hand → ℕ → Option Proof
in_hand here hand n = or_else (hand.proof n) (first_below (words_proof here (hand.word n)) here.seat.sites)

-- the numbers from n on that are in hand without a gap, at most so many
unfoldable pub executions : Here → Hand → ℕ → ℕ → List Change
executions here hand zero n = []
executions here hand (suc k) n = given (in_hand here hand n) [] (λ p. Executed (record { 0 = n }) p ∷ executions here hand k (n + 1))

-- it is kept, and what then is in hand is executed
abbrev pub keeps_and_executes : Here → Hand → Message → Step
keeps_and_executes here hand m =
    record {
      changes = executions here (hand_cuts here (hand_takes (record { own = false; message = m }) hand)) WINDOW (here.executed + 1);
      heard = record { own = false; message = m } ∷ [];
      out = [];
    }

-- a word of a higher view is kept, or one of the site at its view
abbrev pub is_seen_word : Hand → ℕ → ℕ → ℕ → Bool
is_seen_word hand site view n = nat_lt (view + 1) (hand.highest n) || (nat_eq (view + 1) (hand.highest n) && is_some (hand.word n site))

abbrev pub accept_reasons : Here → Hand → ℕ → ℕ → ℕ → List (Bool × Reason)
accept_reasons here hand site view n = beyond here n ∷ seen (is_seen_word hand site view n) ∷ full n ∷ []

abbrev pub accept_step : Here → Hand → ℕ → ℕ → ℕ → Value → Quorum → Step
accept_step here hand site view n value q = keeps_and_executes here hand (messages.Certificate (an_accept site view n value) q)

abbrev pub on_accept : Here → Hand → ℕ → ℕ → ℕ → Value → Quorum → Answer
on_accept here hand site view n value q = decides (accept_reasons here hand site view n) (accept_step here hand site view n value q)

abbrev pub on_order_proof : Here → Hand → ℕ → Proof → Answer
on_order_proof here hand n p =
    decides (beyond here n ∷ seen (is_some (hand.proof n)) ∷ full n ∷ [])
    (keeps_and_executes here hand (messages.OrderProof (record { 0 = n }) p))
