-- A server asks for what it lacks, and is answered.
use Rattle.std.specs.Prelude.{ℕ, ◌+◌, ◌-◌, min, cond, nat_eq, nat_lt, nat_le, ◌&&◌, not, Option, List, [], ◌∷◌, ◌++◌}
use Rattle.st_words.specs.declared.deployment.TheConstants.{WINDOW}
use Rattle.st_words.specs.declared.ids.ServerId.{ServerId}
use Rattle.st_message.specs.declared.message.Proof.{Proof}
use Rattle.st_message.specs.declared.message.ViewWords.TheVariants as view_words
use Rattle.st_message.specs.declared.message.Message.{Message}
use Rattle.st_message.specs.declared.message.Message.TheVariants as messages
use Rattle.st_message.specs.declared.event.Scope.TheVariants as scopes
use Rattle.st_message.specs.declared.step.Out.{Out}
use Rattle.st_message.specs.declared.step.Out.TheVariants.{Send}
use Rattle.st_protocol.specs.Words.{a_server, a_local_vc}
use Rattle.st_protocol.specs.Keeping.{given}
use Rattle.st_protocol.specs.State.{Here, KeptViews}
use Rattle.st_protocol.specs.Step.{Answer, decides, all_below, seen}

-- What a server tells of itself, so that another sends what it lacks.
abbrev pub ask : Here → Message
ask here = messages.Ask (a_server here.seat.site here.seat.index) here.executed (record { 0 = here.view }) (record { 0 = here.local })

-- the order proofs of the numbers that the asker lacks, of one window
abbrev pub owed_proofs : Here → (ℕ → Option Proof) → ServerId → ℕ → List Out
owed_proofs here proofs to executed =
    all_below (λ k. given (proofs (executed + 1 + k)) [] (λ p. Send (messages.OrderProof (record { 0 = executed + 1 + k }) p) (scopes.One to) ∷ []))
    (min here.executed (executed + WINDOW) - executed)

-- why the present view was entered, if the asker is below it
abbrev pub owed_view : Here → KeptViews → ServerId → ℕ → List Out
owed_view here kept to view =
    cond (nat_lt view here.view)
    (given kept.view [] (λ sites. Send (messages.ViewProof (view_words.Global (record { 0 = here.view }) sites)) (scopes.One to) ∷ []))
    []

-- why the present local view was entered, if the asker is of this site and below it
abbrev pub owed_local : Here → KeptViews → ServerId → ℕ → List Out
owed_local here kept to local =
    cond (nat_eq to.site here.seat.site && nat_lt local here.local)
    (given kept.local [] (λ q. Send (messages.ViewProof (view_words.Local (a_local_vc here.seat.site here.local) q)) (scopes.One to) ∷ []))
    []

-- What the asker lacks goes to it alone; where it lacks nothing, nothing is new.
abbrev pub answer : Here → (ℕ → Option Proof) → KeptViews → ServerId → ℕ → ℕ → ℕ → Answer
answer here proofs kept to executed view local =
    decides
    (seen (nat_le here.executed executed && nat_le here.view view && not (nat_eq to.site here.seat.site && nat_lt local here.local)) ∷ [])
    (record { changes = []; heard = []; out = owed_proofs here proofs to executed ++ owed_view here kept to view ++ owed_local here kept to local })
