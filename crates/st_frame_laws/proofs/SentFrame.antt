-- The messages of a world, each by itself: what holds of the earlier ones, and of those that a step adds, holds of all.
use Rattle.std.proofs.Common.{◌≡◌, ℕ, ◌+◌, true, false, nat_lt, nat_le, List, [], ◌∷◌, ◌++◌, sym, subst, refl}
use Rattle.std.specs.Prelude.{Option, Some, None}
use Rattle.std.specs.List.{AllByRecursion as Each}
use Rattle.st_words.specs.declared.value.Value.{Value}
use Rattle.st_words.specs.declared.statement.Statement.{Statement}
use Rattle.st_words.specs.declared.statement.Statement.TheVariants.{Prepare, ClientUpdate}
use Rattle.st_seal.specs.declared.quorum.Signed.{Signed}
use Rattle.st_message.specs.declared.message.Message.TheVariants as messages
use Rattle.st_message.specs.declared.event.Output.{Output}
use Rattle.st_message.specs.declared.event.Plan.{Plan}
use Rattle.st_schedule.specs.declared.line.Line.{Line}
use Rattle.st_schedule.specs.declared.line.Line.TheVariants as lines
use Rattle.st_protocol.specs.Words.{Bytes, server_at, client_at, an_update}
use Rattle.st_protocol.specs.Keeping.{given}
use Rattle.st_protocol.specs.World.{Deployment, World, handed, with_node, with_customer, with_waiting, uses_leaf, ends, hands, sends_to, notes_seal, hands_one, hands_out, settled, plan_at}
use Rattle.st_protocol.specs.Schedule.{sealed_message, client_seal_of, then_assigns, seals}
use Rattle.st_protocol.specs.Duty.{Event}
use Rattle.st_frame_laws.specs.Events.{EventHas, IsKeptByEvents}
use Rattle.st_frame_laws.proofs.ChoiceLaws.{append_all}

module _ {Wire : Type 0} (d : Deployment Wire) where
  -- noting a seal sends nothing
  notes_sent : (site index : ℕ) (world : World Wire) (o : Output) → (notes_seal d site index world o).sent ≡ world.sent
  unfolding notes_seal hands
  notes_sent site index world o = by o.leaf (handed site o.message)
    where
      by : (leaf : Option ℕ) (x : Option Statement) → (given leaf world (λ n. given x world (λ s. hands world (server_at site index) n s))).sent ≡ world.sent
      by None x = refl
      by (Some n) None = refl
      by (Some n) (Some s) = refl

  -- what a faulty server seals with its next leaf
  abbrev pub signed_next : World Wire → ℕ → ℕ → Statement → Signed
  signed_next world site index s = record { index = index; seal = d.formats.seal (server_at site index) (world.leaves site index) s }

module _ {Wire : Type 0} (d : Deployment Wire) (W : Wire → Type 0) where
  -- one message of a server's
  sent_one : (site index : ℕ) (world : World Wire) (o : Output) → Each W world.sent → W (d.formats.encode o.message) → Each W (hands_one d site index world o).sent
  unfolding hands_one sends_to
  sent_one site index world o w h =
      append_all W (notes_seal d site index world o).sent (d.formats.encode o.message ∷ []) (subst (Each W) (sym (notes_sent d site index world o)) w) (h, tt)

  -- All messages that a server hands out.
  pub sent_out : (site index : ℕ) (world : World Wire) (outputs : List Output) → Each W world.sent → Each (λ (o : Output). W (d.formats.encode o.message)) outputs →
      Each W (hands_out d site index world outputs).sent
  sent_out site index world [] w h = w
  sent_out site index world (o ∷ os) w h = sent_out site index (hands_one d site index world o) os (sent_one site index world o w h.0) h.1

  -- What a faulty server sends with a seal: the sealed statement, and of a Prepare the assignment besides.
  pub sent_seals : (world : World Wire) (site index : ℕ) (s : Statement) → Each W world.sent → W (d.formats.encode (sealed_message s (signed_next d world site index s))) →
      ((leading view local number : ℕ) (value : Value) → s ≡ Prepare (record { 0 = leading }) (record { 0 = view }) (record { 0 = local }) (record { 0 = number }) value →
      W (d.formats.encode (messages.Assign (record { 0 = view }) (record { 0 = local }) (record { 0 = number }) value (client_seal_of d world value) (signed_next d world site index s)))) →
      Each W (seals d world site index s).world.sent
  unfolding seals then_assigns sends_to uses_leaf
  sent_seals world site index s w one more = by s refl
    where
      wire : Wire
      wire = d.formats.encode (sealed_message s (signed_next d world site index s))

      first : Each W (world.sent ++ wire ∷ [])
      first = append_all W world.sent (wire ∷ []) w (one, tt)

      by : (t : Statement) → s ≡ t → Each W (then_assigns d (sends_to d (uses_leaf world site index) wire []) t (signed_next d world site index s)).sent
      by (Prepare leading view local number value) e = append_all W (world.sent ++ wire ∷ []) (_ ∷ []) first (more leading.0 view.0 local.0 number.0 value e, tt)
      by _ e = first

-- W holds of all that is sent, in a world with R, by what may be delivered with D and by lines with L.
pub record AreWiresKept {Wire : Type 0} (d : Deployment Wire) (R : World Wire → Type 0) (D : World Wire → Wire → Type 0) (L : Line → Type 0) (W : Wire → Type 0) : Type 0 where
  pub planned : (world : World Wire) (site index : ℕ) (event : Event Wire) → d.faulty site index ≡ false → EventHas (D world) event → R world →
      Each (λ (o : Output). W (d.formats.encode o.message)) (plan_at d world site index event).outputs
  pub updates : (world : World Wire) (client : ℕ) (op : Bytes) → L (lines.Client (record { 0 = client }) op) → nat_lt client d.clients ≡ true → nat_le d.capacity (world.customers client).time ≡ false → R world →
      W (d.formats.encode (messages.Update (an_update client ((world.customers client).time + 1) op)
      (d.formats.seal (client_at client) (world.customers client).time (ClientUpdate (an_update client ((world.customers client).time + 1) op)))))
  pub sealed : (world : World Wire) (site index : ℕ) (s : Statement) → L (lines.Seal (record { site = site; index = index }) s) → R world →
      W (d.formats.encode (sealed_message s (signed_next d world site index s)))
  pub assigns : (world : World Wire) (site index leading view local number : ℕ) (value : Value) →
      L (lines.Seal (record { site = site; index = index }) (Prepare (record { 0 = leading }) (record { 0 = view }) (record { 0 = local }) (record { 0 = number }) value)) → R world →
      W (d.formats.encode (messages.Assign (record { 0 = view }) (record { 0 = local }) (record { 0 = number }) value (client_seal_of d world value)
      (signed_next d world site index (Prepare (record { 0 = leading }) (record { 0 = view }) (record { 0 = local }) (record { 0 = number }) value))))

module _ {Wire : Type 0} (d : Deployment Wire) (R : World Wire → Type 0) (D : World Wire → Wire → Type 0) (L : Line → Type 0) (W : Wire → Type 0) (k : IsKeptByEvents d R D L) (n : AreWiresKept d R D L W) where
  -- after a faulty server's line
  sealing_kept : (world : World Wire) (site index : ℕ) (s : Statement) → L (lines.Seal (record { site = site; index = index }) s) → R world → Each W world.sent → Each W (seals d world site index s).world.sent
  sealing_kept world site index s l r w =
      sent_seals d W world site index s w (n.sealed world site index s l r)
      (λ leading view local number value is.
      subst
      (λ (x : Statement).
      W (d.formats.encode (messages.Assign (record { 0 = view }) (record { 0 = local }) (record { 0 = number }) value (client_seal_of d world value) (signed_next d world site index x))))
      (sym is) (n.assigns world site index leading view local number value (subst (λ (x : Statement). L (lines.Seal (record { site = site; index = index }) x)) is l) r))

  -- Every event keeps it of each message, beside R.
  pub sent_beside : IsKeptByEvents d (λ world. R world × Each W world.sent) D L
  unfolding with_node with_customer with_waiting hands sends_to ends
  sent_beside =
      record {
        sent = λ world m wire h e. k.sent world m wire h.0 e;
        outside = λ world to bytes l fair h. k.outside world to bytes l fair h.0;
        settles = λ world site index event correct runs e room goes h.
            let plan : Plan = plan_at d world site index event in (
              k.settles world site index event correct runs e room goes h.0,
              sent_out d W site index (with_node world site index (settled d (world.nodes site index) plan)) plan.outputs h.1 (n.planned world site index event correct e h.0),
            );
        fills = λ world site index correct h. (k.fills world site index correct h.0, h.1);
        stops = λ world site index event correct runs e stop h. (k.stops world site index event correct runs e stop h.0, h.1);
        setting = λ world site index call correct h. (k.setting world site index call correct h.0, h.1);
        restarting = λ world site index kept correct h. (k.restarting world site index kept correct h.0, h.1);
        submitting = λ world client op l known left h. (k.submitting world client op l known left h.0, append_all W world.sent (_ ∷ []) h.1 (n.updates world client op l known left h.0, tt));
        answering = λ world client wire site to time number result signed e reads mine good waits new h.
            (k.answering world client wire site to time number result signed e reads mine good waits new h.0, h.1);
        sealing = λ world site index s l there faulty may left h. (k.sealing world site index s l there faulty may left h.0, sealing_kept world site index s l h.0 h.1);
        waiting = λ world pairs few h. (k.waiting world pairs few h.0, h.1);
        ending = λ world fault h. (k.ending world fault h.0, h.1);
      }
