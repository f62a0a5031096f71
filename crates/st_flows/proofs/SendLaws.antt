-- Where messages have no bytes, only their number ends a world.
use Rattle.std.proofs.Common.{◌≡◌, ℕ, ◌+◌, ◌<◌, ◌≤◌, Bool, true, false, cond, List, [], ◌∷◌, length, refl, ◌∙◌, ap, arith, le-leb}
use Rattle.std.proofs.lemmas.Bool.{lt-leb}
use Rattle.std.specs.Prelude.{Some, None, nat_le, nat_lt}
use Rattle.st_schedule.specs.declared.line.Dest.{Dest}
use Rattle.st_schedule.specs.declared.limits.TheConstants.{MOST_MESSAGES, MOST_SENT}
use Rattle.st_protocol.specs.Keeping.{or_else}
use Rattle.st_protocol.specs.World.{Deployment, TooMany, TooMuch, World, size_of, sent_size, send_fault, sends_to}

-- no bytes are not too many
nothing_too_much : (n : ℕ) → n ≡ 0 → nat_lt MOST_SENT n ≡ false
nothing_too_much n e = rw e refl

module _ {Wire : Type 0} (d : Deployment Wire) where
  -- what a world is ended by once a message is sent, where it isn't ended yet
  ended_by_sending : (world : World Wire) (wire : Wire) (to : List Dest) → world.ended ≡ None → (sends_to d world wire to).ended ≡ send_fault d world wire
  unfolding sends_to
  ended_by_sending world wire to e = ap (λ o. or_else o (send_fault d world wire)) e

  module _ (no_bytes : (wire : Wire) → d.formats.bytes wire ≡ []) where
    -- one message has no bytes
    size_nothing : (wire : Wire) → size_of d wire ≡ 0
    size_nothing wire = ap length (no_bytes wire)

    -- All messages together have none.
    pub sent_size_nothing : (wires : List Wire) → sent_size d wires ≡ 0
    unfolding sent_size
    sent_size_nothing [] = refl
    sent_size_nothing (wire ∷ more) =
        let first = size_nothing wire in
        let rest = sent_size_nothing more in
        omega (arith, first, rest)

    -- One message too many is the only fault of sending.
    pub send_fault_by_number : (world : World Wire) (wire : Wire) →
        send_fault d world wire ≡ cond (nat_le MOST_MESSAGES (length world.sent)) (Some (TooMany (length world.sent + 1))) None
    send_fault_by_number world wire =
        let first = size_nothing wire in
        let all = sent_size_nothing world.sent in
        let total : sent_size d world.sent + size_of d wire ≡ 0 = omega (arith, first, all) in
        ap (λ b. cond (nat_le MOST_MESSAGES (length world.sent)) (Some (TooMany (length world.sent + 1)))
        (cond b (Some (TooMuch (sent_size d world.sent + size_of d wire))) None))
        (nothing_too_much (sent_size d world.sent + size_of d wire) total)

    -- what a world that isn't ended is ended by once a message is sent
    ended_by_number : (world : World Wire) (wire : Wire) (to : List Dest) (b : Bool) → world.ended ≡ None → nat_le MOST_MESSAGES (length world.sent) ≡ b →
        (sends_to d world wire to).ended ≡ cond b (Some (TooMany (length world.sent + 1))) None
    ended_by_number world wire to b e test =
        ended_by_sending world wire to e ∙ send_fault_by_number world wire ∙ ap (λ c. cond c (Some (TooMany (length world.sent + 1))) None) test

    -- Below the most messages, a world goes on.
    pub sends_to_goes_on : (world : World Wire) (wire : Wire) (to : List Dest) → length world.sent < MOST_MESSAGES → world.ended ≡ None →
        (sends_to d world wire to).ended ≡ None
    sends_to_goes_on world wire to few e = ended_by_number world wire to false e (lt-leb MOST_MESSAGES (length world.sent) few)

    -- At the most messages, one more ends it.
    pub sends_to_too_many : (world : World Wire) (wire : Wire) (to : List Dest) → MOST_MESSAGES ≤ length world.sent → world.ended ≡ None →
        (sends_to d world wire to).ended ≡ Some (TooMany (length world.sent + 1))
    sends_to_too_many world wire to many e = ended_by_number world wire to true e (le-leb MOST_MESSAGES (length world.sent) many)
