-- How much a world that goes on has sent, and how much waits in it.
use Rattle.std.proofs.Common.{◌≡◌, ◌∙◌, ap, subst, sym, ℕ, ◌+◌, ◌*◌, ◌<◌, ◌≤◌, Bool, true, false, cond, suc, List, [], ◌∷◌, ◌++◌, length, refl, arith}
use Rattle.std.proofs.Math.Nat.{mul-suc}
use Rattle.std.proofs.lemmas.Bool.{leb-false}
use Rattle.std.proofs.lemmas.List.{length-append}
use Rattle.std.proofs.lemmas.List.Elements.{All-head, All-tail}
use Rattle.std.specs.List.{All}
use Rattle.std.specs.Prelude.{Option, Some, None, nat_le, nat_lt}
use Rattle.st_words.specs.declared.ids.Who.{Who}
use Rattle.st_words.specs.declared.statement.Statement.{Statement}
use Rattle.st_words.specs.declared.statement.Statement.TheVariants.{Prepare}
use Rattle.st_seal.specs.declared.quorum.Signed.{Signed}
use Rattle.st_message.specs.declared.message.Message.TheVariants as messages
use Rattle.st_message.specs.declared.event.Scope.{Scope}
use Rattle.st_schedule.specs.declared.limits.TheConstants.{MOST_MESSAGES, MOST_SENT}
use Rattle.st_schedule.specs.declared.line.Dest.{Dest}
use Rattle.st_schedule.specs.declared.line.Line.{Line}
use Rattle.st_protocol.specs.Words.{server_at}
use Rattle.st_protocol.specs.Keeping.{or_else}
use Rattle.st_protocol.specs.World.{Deployment, Fault, TooMany, TooMuch, Node, Pair, Customer, World, empty, pairs_to, uses_leaf, with_node, with_customer, with_waiting, ends, hands, size_of, sent_size, send_fault, dests_of, sends_to}
use Rattle.st_protocol.specs.Schedule.{sets_no_stop, restarted, sealed_message, client_seal_of, then_assigns, seals, goes_on, steps}
use Rattle.st_flows.proofs.KeptLaws.{IsKept, IsKeptByServers, serves_kept, step_kept}

-- While the world goes on it has sent no more than the most messages; where each has no more than so many
-- destinations, no more than those wait.
pub record IsSmall {Wire : Type 0} (most : ℕ) (world : World Wire) : Type 0 where
  pub sent : world.ended ≡ None → length world.sent ≤ MOST_MESSAGES
  pub waiting : length world.waiting ≤ most * length world.sent

-- a line that sets no stop
abbrev SetsNoStop : Line → Type 0
SetsNoStop line = sets_no_stop line ≡ true

-- neither of two faults
neither : (a b : Option Fault) → or_else a b ≡ None → (a ≡ None) × (b ≡ None)
neither None b e = (refl, e)
neither (Some f) b e = absurd (let no : Some f ≡ None = e in cc)

-- a pair for each destination
pairs_length : (n : ℕ) (to : List Dest) → length (pairs_to n to) ≡ length to
unfolding pairs_to
pairs_length n [] = refl
pairs_length n (x ∷ xs) = ap suc (pairs_length n xs)

-- a few more under a bound that grows
under : (w t p most : ℕ) → w ≤ p → t ≤ most → w + t ≤ p + most
under w t p most e f = omega (arith, e, f)

module _ {Wire : Type 0} (d : Deployment Wire) where
  -- where no fault comes of a message, it is not one too many
  below_most : (world : World Wire) (wire : Wire) → send_fault d world wire ≡ None → length world.sent < MOST_MESSAGES
  below_most world wire e = by (nat_le MOST_MESSAGES (length world.sent)) refl e
    where
      by : (b : Bool) → nat_le MOST_MESSAGES (length world.sent) ≡ b
          → cond b (Some (TooMany (length world.sent + 1))) (cond (nat_lt MOST_SENT (sent_size d world.sent + size_of d wire)) (Some (TooMuch (sent_size d world.sent + size_of d wire))) None) ≡ None
          → length world.sent < MOST_MESSAGES
      by true is none = absurd (let no : Some (TooMany (length world.sent + 1)) ≡ None = none in cc)
      by false is none = leb-false MOST_MESSAGES (length world.sent) is

  module _ (most : ℕ) (few : (to : Scope) → length (dests_of d to) ≤ most) where
    -- after a message that is sent
    small_sends_to : (world : World Wire) (wire : Wire) (to : List Dest) → length to ≤ most → IsSmall most world → IsSmall most (sends_to d world wire to)
    unfolding sends_to
    small_sends_to world wire to bound small =
        let joined : length (world.sent ++ wire ∷ []) ≡ length world.sent + 1 = length-append world.sent (wire ∷ []) in
        let one_more : length (world.sent ++ wire ∷ []) ≡ suc (length world.sent) = omega (arith, joined) in
        record {
          sent = λ going. let below = below_most world wire (neither world.ended (send_fault d world wire) going).1 in omega (arith, below, one_more);
          waiting =
              subst (λ n. n ≤ most * length (world.sent ++ wire ∷ [])) (sym (length-append world.waiting (pairs_to (length world.sent) to) ∙ ap (λ n. length world.waiting + n) (pairs_length (length world.sent) to)))
              (subst (λ n. length world.waiting + length to ≤ n) (sym (ap (λ n. most * n) one_more ∙ mul-suc most (length world.sent)))
              (under (length world.waiting) (length to) (most * length world.sent) most small.waiting bound));
        }

    -- the same, to a scope's destinations
    small_sends : (world : World Wire) (wire : Wire) (to : Scope) → IsSmall most world → IsSmall most (sends_to d world wire (dests_of d to))
    small_sends world wire to small = small_sends_to world wire (dests_of d to) (few to) small

    -- after a seal that is noted
    small_hands : (world : World Wire) (who : Who) (leaf : ℕ) (s : Statement) → IsSmall most world → IsSmall most (hands world who leaf s)
    unfolding hands
    small_hands world who leaf s small = record { sent = small.sent; waiting = small.waiting }

    -- with a server changed
    small_node : (world : World Wire) (site index : ℕ) (node : Node) → IsSmall most world → IsSmall most (with_node world site index node)
    unfolding with_node
    small_node world site index node small = record { sent = small.sent; waiting = small.waiting }

    -- with a client changed
    small_customer : (world : World Wire) (client : ℕ) (customer : Customer) → IsSmall most world → IsSmall most (with_customer world client customer)
    unfolding with_customer
    small_customer world client customer small = record { sent = small.sent; waiting = small.waiting }

    -- with fewer pairs
    small_waiting : (world : World Wire) (pairs : List Pair) → length pairs ≤ length world.waiting → IsSmall most world → IsSmall most (with_waiting world pairs)
    unfolding with_waiting
    small_waiting world pairs fewer small = let all = small.waiting in record { sent = small.sent; waiting = omega (arith, all, fewer) }

    -- with a faulty server's leaf used
    small_leaf : (world : World Wire) (site index : ℕ) → IsSmall most world → IsSmall most (uses_leaf world site index)
    unfolding uses_leaf
    small_leaf world site index small = record { sent = small.sent; waiting = small.waiting }

    -- after an assignment that goes nowhere by itself
    small_assigns : (world : World Wire) (s : Statement) (signed : Signed) → IsSmall most world → IsSmall most (then_assigns d world s signed)
    unfolding then_assigns
    small_assigns world (Prepare site view local number value) signed small =
        small_sends_to world (d.formats.encode (messages.Assign view local number value (client_seal_of d world value) signed)) [] (omega arith) small
    small_assigns world _ signed small = small

    -- after a faulty server's seal
    small_seals : (world : World Wire) (site index : ℕ) (s : Statement) → IsSmall most world → IsSmall most (seals d world site index s).world
    unfolding seals
    small_seals world site index s small =
        let signed : Signed = record { index = index; seal = d.formats.seal (server_at site index) (world.leaves site index) s } in
        small_assigns (sends_to d (uses_leaf world site index) (d.formats.encode (sealed_message s signed)) []) s signed
        (small_sends_to (uses_leaf world site index) (d.formats.encode (sealed_message s signed)) [] (omega arith) (small_leaf world site index small))

    -- after a further fault
    small_ends : (world : World Wire) (fault : Option Fault) → IsSmall most world → IsSmall most (ends world fault)
    unfolding ends
    small_ends world fault small = record { sent = λ going. small.sent (neither world.ended fault going).0; waiting = small.waiting }

    -- the parts keep it
    small_by_servers : IsKeptByServers d (IsSmall most)
    small_by_servers = record { changing = small_node; handing = small_hands; sending = small_sends }

    small_is_kept : IsKept d (IsSmall most)
    small_is_kept =
        record {
          serving = serves_kept d (IsSmall most) small_by_servers;
          client = small_customer;
          waiting = small_waiting;
          handing = small_hands;
          sending = small_sends;
          ending = small_ends;
          restarting = λ world site index kept. small_node world site index (restarted d (world.nodes site index) kept);
          sealing = small_seals;
        }

    -- through lines that set no stop
    pub small_steps : (world : World Wire) (all : List Line) → All SetsNoStop all → IsSmall most world → IsSmall most (steps d world all)
    small_steps world [] unset small = small
    small_steps world (line ∷ more) unset small =
        small_steps (goes_on d world line) more (All-tail SetsNoStop line more unset)
        (step_kept d (IsSmall most) small_is_kept world line (All-head SetsNoStop line more unset) small)

    -- Of the world of such lines.
    pub small_world : (all : List Line) → All SetsNoStop all → IsSmall most (steps d empty all)
    unfolding empty
    small_world all unset = small_steps empty all unset (record { sent = λ going. omega arith; waiting = omega arith })
