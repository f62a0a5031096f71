-- A message more.
use Rattle.std.proofs.Common.{◌≡◌, ◌∙◌, ap, sym, subst, ℕ, ◌+◌, ◌<◌, ◌≤◌, nat_le, nat_lt, Bool, true, false, cond, Option, Some, None, List, [], ◌∷◌, ◌++◌, length, refl, arith, le-leb}
use Rattle.std.proofs.lemmas.Bool.{lt-leb, lt-ltb, ltb-true}
use Rattle.std.proofs.lemmas.List.{length-append}
use Rattle.st_words.specs.declared.deployment.Deployment.{Deployment}
use Rattle.st_message.specs.declared.event.Output.{Output}
use Rattle.st_message.specs.declared.event.Scope.{Scope}
use Rattle.st_schedule.specs.declared.limits.TheConstants.{MOST_MESSAGES, MOST_SENT}
use Rattle.st_schedule.specs.declared.line.Dest.{Dest}
use Rattle.st_protocol.specs.Words.{Bytes}
use Rattle.st_protocol.specs.Keeping.{or_else}
use Rattle.st_protocol.specs.World as model
use Rattle.st_protocol.specs.World.{Fault, TooMany, TooMuch, notes_seal, hands_one, sends_to, send_fault, sent_size, size_of, dests_of, pairs_to}
use Rattle.st_wire.specs.Spelling.{message_spelling}
use Rattle.st_flows.proofs.PlainKept.{plain_sends_to}
use Rattle.st_waiting.specs.declared.waiting.Waiting.{Waiting}
use Rattle.st_waiting.specs.Undelivered.{pairs_in, newest_in}
use Rattle.st_deployment.specs.Deployed.{world_deployment}
use Rattle.st_world.specs.declared.world.World.{World}
use Rattle.st_world.specs.declared.error.StepError.{StepError}
use Rattle.st_world.specs.declared.error.StepError.TheVariants as steps
use Rattle.st_world.specs.Standing.{AreSent, IsSet, IsSent, IsWorld, EndsBy}

-- ---- sizes

-- a message has its own bytes
size_is : (d : Deployment) (bytes : Bytes) → size_of (world_deployment d) bytes ≡ length bytes
unfolding world_deployment
size_is d bytes = refl

-- one message more
size_more : (d : Deployment) (sent : List Bytes) (bytes : Bytes) → sent_size (world_deployment d) (sent ++ bytes ∷ []) ≡ sent_size (world_deployment d) sent + length bytes
unfolding sent_size
size_more d [] bytes = let own = size_is d bytes in omega (arith, own)
size_more d (x ∷ xs) bytes = let rest = size_more d xs bytes in omega (arith, rest)

-- ---- faults

-- b isn't below a
not_less : (a b : ℕ) → b ≤ a → nat_lt a b ≡ false
not_less a b most = by (nat_lt a b) refl
  where
    by : (c : Bool) → nat_lt a b ≡ c → nat_lt a b ≡ false
    by true e = absurd (let less = ltb-true a b e in omega (arith, most, less))
    by false e = e

module _ (d : Deployment) (m : model.World Bytes) (bytes : Bytes) where
  -- by the two tests
  fault_by : (many much : Bool) → nat_le MOST_MESSAGES (length m.sent) ≡ many → nat_lt MOST_SENT (sent_size (world_deployment d) m.sent + size_of (world_deployment d) bytes) ≡ much
      → send_fault (world_deployment d) m bytes
      ≡ cond many (Some (TooMany (length m.sent + 1))) (cond much (Some (TooMuch (sent_size (world_deployment d) m.sent + size_of (world_deployment d) bytes))) None)
  fault_by many much e f =
      λ i. cond (e i) (Some (TooMany (length m.sent + 1))) (cond (f i) (Some (TooMuch (sent_size (world_deployment d) m.sent + size_of (world_deployment d) bytes))) None)

  -- a world that goes on ends by what is wrong with the message
  ends_by : (to : List Dest) → m.ended ≡ None → (sends_to (world_deployment d) m bytes to).ended ≡ send_fault (world_deployment d) m bytes
  unfolding sends_to
  ends_by to going = ap (λ (o : Option Fault). or_else o (send_fault (world_deployment d) m bytes)) going

-- ---- what waits

-- pairs of fewer messages
pub more_below : (a b : ℕ) (pairs : List model.Pair) → a ≤ b → AreSent a pairs → AreSent b pairs
more_below a b [] most below = tt
more_below a b (p ∷ ps) most below = let here = below.0 in (omega (arith, most, here), more_below a b ps most below.1)

-- pairs of the newest message
new_below : (message count : ℕ) (to : List Dest) → message < count → AreSent count (pairs_to message to)
unfolding pairs_to
new_below message count [] less = tt
new_below message count (x ∷ xs) less = (less, new_below message count xs less)

-- one list after the other
both_below : (count : ℕ) (xs ys : List model.Pair) → AreSent count xs → AreSent count ys → AreSent count (xs ++ ys)
both_below count [] ys first second = second
both_below count (x ∷ xs) ys first second = (first.0, both_below count xs ys first.1 second)

-- what waits once a message is sent
sent_below : (old new : ℕ) (pairs : List model.Pair) (to : List Dest) → new ≡ old + 1 → AreSent old pairs → AreSent new (pairs ++ pairs_to old to)
sent_below old new pairs to next below =
    both_below new pairs (pairs_to old to) (more_below old new pairs (omega (arith, next)) below) (new_below old new to (omega (arith, next)))

-- ---- one message

-- the world with one message more
abbrev pub with_sent : World → List Bytes → ℕ → Waiting → World
with_sent w sent size waiting = record w { sent = sent; size = size; waiting = waiting }

pub sent_one : (w : World) (sent : List Bytes) (size : ℕ) (waiting : Waiting) (d : Deployment) (m : model.World Bytes) (bytes : Bytes) (to : Scope) (dest : Dest) → IsWorld w d m
    → length w.sent < MOST_MESSAGES → size ≡ w.size + length bytes → size ≤ MOST_SENT → dests_of (world_deployment d) to ≡ dest ∷ [] → sent ≡ w.sent ++ bytes ∷ []
    → pairs_in waiting ≡ pairs_in w.waiting ++ record { message = length w.sent; to = dest } ∷ [] → newest_in waiting ≡ length w.sent
    → IsWorld (with_sent w sent size waiting) d (sends_to (world_deployment d) m bytes (dests_of (world_deployment d) to))
unfolding sends_to pairs_to
sent_one w sent size waiting d m bytes to dest stands few size_now room one sent_is waits newest_is =
    let was : IsSent w d m = stands.sending in
    let own = size_is d bytes in
    let more = size_more d m.sent bytes in
    let kept = was.size in
    let whole : sent_size (world_deployment d) m.sent + size_of (world_deployment d) bytes ≤ MOST_SENT = omega (arith, own, kept, size_now, room) in
    let set : IsSet w d = stands.set in
    record {
      set = record { taken = set.taken; deployment = set.deployment; seals = set.seals; sealer = set.sealer; sealers = set.sealers; seat = set.seat };
      server = stands.server;
      kept = stands.kept;
      plain = plain_sends_to (world_deployment d) m bytes (dests_of (world_deployment d) to) stands.plain;
      customers = stands.customers;
      sending =
          record {
            sent = sent_is ∙ ap (λ (xs : List Bytes). xs ++ bytes ∷ []) was.sent;
            number = let many = length-append m.sent (bytes ∷ []) in let same : length w.sent ≡ length m.sent = ap length was.sent in omega (arith, few, same, many);
            size = size_now ∙ (ap (λ n. n + length bytes) kept ∙ sym more);
            few = room;
            newest = let many = length-append m.sent (bytes ∷ []) in let same : length w.sent ≡ length m.sent = ap length was.sent in omega (arith, newest_is, same, many);
            below = sent_below (length m.sent) (length (m.sent ++ bytes ∷ [])) m.waiting (dests_of (world_deployment d) to) (length-append m.sent (bytes ∷ [])) was.below;
            waiting = waits ∙ (λ i. was.waiting i ++ pairs_to (length (was.sent i)) (sym one i));
            made = was.made;
          };
      going =
          ends_by d m bytes (dests_of (world_deployment d) to) stands.going
          ∙ fault_by d m bytes false false (lt-leb MOST_MESSAGES (length m.sent) (subst (λ (xs : List Bytes). length xs < MOST_MESSAGES) was.sent few))
          (not_less MOST_SENT (sent_size (world_deployment d) m.sent + size_of (world_deployment d) bytes) whole);
    }

pub sent_too_many : (w : World) (d : Deployment) (m : model.World Bytes) (bytes : Bytes) (to : Scope) → IsWorld w d m → MOST_MESSAGES ≤ length w.sent
    → EndsBy (steps.TooMany (MOST_MESSAGES + 1)) (sends_to (world_deployment d) m bytes (dests_of (world_deployment d) to)).ended
sent_too_many w d m bytes to stands many =
    let there : MOST_MESSAGES ≤ length m.sent = subst (λ (xs : List Bytes). MOST_MESSAGES ≤ length xs) stands.sending.sent many in
    let most = stands.sending.number in
    let next : length m.sent + 1 ≡ MOST_MESSAGES + 1 = omega (arith, there, most) in (
      refl,
      ends_by d m bytes (dests_of (world_deployment d) to) stands.going
          ∙ (fault_by d m bytes true (nat_lt MOST_SENT (sent_size (world_deployment d) m.sent + size_of (world_deployment d) bytes)) (le-leb MOST_MESSAGES (length m.sent) there) refl
          ∙ ap (λ n. Some (TooMany n)) next),
    )

pub sent_too_much : (w : World) (size : ℕ) (d : Deployment) (m : model.World Bytes) (bytes : Bytes) (to : Scope) → IsWorld w d m → length w.sent < MOST_MESSAGES → size ≡ w.size + length bytes
    → MOST_SENT < size → EndsBy (steps.TooMuch size) (sends_to (world_deployment d) m bytes (dests_of (world_deployment d) to)).ended
sent_too_much w size d m bytes to stands few size_now much =
    let own = size_is d bytes in
    let kept = stands.sending.size in
    let whole : sent_size (world_deployment d) m.sent + size_of (world_deployment d) bytes ≡ size = omega (arith, own, kept, size_now) in
    let over : MOST_SENT < sent_size (world_deployment d) m.sent + size_of (world_deployment d) bytes = omega (arith, whole, much) in
    ends_by d m bytes (dests_of (world_deployment d) to) stands.going
    ∙ (fault_by d m bytes false true (lt-leb MOST_MESSAGES (length m.sent) (subst (λ (xs : List Bytes). length xs < MOST_MESSAGES) stands.sending.sent few))
    (lt-ltb MOST_SENT (sent_size (world_deployment d) m.sent + size_of (world_deployment d) bytes) over)
    ∙ ap (λ n. Some (TooMuch n)) whole)

-- ---- a server's message

-- what is sent of it
sent_of : (w : World) (d : Deployment) (m : model.World Bytes) (o : Output) (bytes : Bytes) → IsWorld w d (notes_seal (world_deployment d) 0 0 m o) → bytes ≡ message_spelling w.deployment.id o.message
    → sends_to (world_deployment d) (notes_seal (world_deployment d) 0 0 m o) bytes (dests_of (world_deployment d) o.to) ≡ hands_one (world_deployment d) 0 0 m o
unfolding hands_one world_deployment
sent_of w d m o bytes on is =
    ap (λ (x : Bytes). sends_to (world_deployment d) (notes_seal (world_deployment d) 0 0 m o) x (dests_of (world_deployment d) o.to)) (is ∙ ap (λ (x : Deployment). message_spelling x.id o.message) on.set.deployment)

pub hands_sent : (w new : World) (d : Deployment) (m : model.World Bytes) (o : Output) (bytes : Bytes) → IsWorld w d (notes_seal (world_deployment d) 0 0 m o) → bytes ≡ message_spelling w.deployment.id o.message
    → IsWorld new d (sends_to (world_deployment d) (notes_seal (world_deployment d) 0 0 m o) bytes (dests_of (world_deployment d) o.to)) → IsWorld new d (hands_one (world_deployment d) 0 0 m o)
hands_sent w new d m o bytes on is sent = subst (IsWorld new d) (sent_of w d m o bytes on is) sent

pub hands_ended : (e : StepError) (w : World) (d : Deployment) (m : model.World Bytes) (o : Output) (bytes : Bytes) → IsWorld w d (notes_seal (world_deployment d) 0 0 m o) → bytes ≡ message_spelling w.deployment.id o.message
    → EndsBy e (sends_to (world_deployment d) (notes_seal (world_deployment d) 0 0 m o) bytes (dests_of (world_deployment d) o.to)).ended → EndsBy e (hands_one (world_deployment d) 0 0 m o).ended
hands_ended e w d m o bytes on is ended = subst (λ (x : model.World Bytes). EndsBy e x.ended) (sent_of w d m o bytes on is) ended
