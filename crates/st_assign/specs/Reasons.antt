-- The reasons against an assignment, in the groups in which they are looked for.
use Rattle.std.specs.Prelude.{ℕ, ◌%◌, Bool, nat_eq, nat_le, ◌&&◌, not, is_some, List, [], ◌∷◌}
use Rattle.st_words.specs.declared.value.Value.{Value}
use Rattle.st_seal.specs.declared.quorum.Signed.{Signed}
use Rattle.st_message.specs.declared.reason.Reason.{Reason}
use Rattle.st_message.specs.declared.reason.Reason.TheVariants.{NotRep, Waiting, Below, OtherValue}
use Rattle.st_protocol.specs.Words.{Bytes}
use Rattle.st_protocol.specs.State.{AtPrepare, Here, Slots}
use Rattle.st_protocol.specs.Step.{rep, not_site, other_view, beyond, seen, spent, full}
use Rattle.st_protocol.specs.Forced.{Forced, waits}
use Rattle.st_protocol.specs.Assigning.{is_other_value}

-- it isn't the leading site's, of the present views and the window, by the representative, and new
abbrev pub place_reasons : Here → Slots → ℕ → ℕ → ℕ → Signed → List (Bool × Reason)
place_reasons here slots view local n signed =
    not_site here (view % here.seat.sites)
    ∷ other_view here (not (nat_eq view here.view && nat_eq local here.local))
    ∷ beyond here n
    ∷ (not (nat_eq signed.index (rep here)), NotRep (rep here))
    ∷ seen (is_some (slots.shares (AtPrepare view local n) signed.index))
    ∷ []

-- the value may not stand there, where a Prepare of it is to be made
abbrev pub value_reasons : Here → Forced → ℕ → Value → Bytes → Bool → List (Bool × Reason)
value_reasons here forced n value client_seal new =
    (new && waits forced, Waiting forced.held forced.wanted)
    ∷ (new && nat_le n forced.base, Below n forced.base)
    ∷ (new && is_other_value here forced n value client_seal, OtherValue)
    ∷ []

-- too few leaves are left, or numbers
abbrev pub room_reasons : Here → ℕ → ℕ → List (Bool × Reason)
room_reasons here wanted n = spent here wanted ∷ full n ∷ []
