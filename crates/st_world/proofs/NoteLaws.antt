-- A seal that was made is noted.
use Rattle.std.proofs.Common.{◌≡◌, ◌≢◌, ◌∙◌, ap, sym, subst, ℕ, Option, Some, None, List, refl}
use Rattle.st_words.specs.declared.deployment.Deployment.{Deployment}
use Rattle.st_words.specs.declared.ids.LocalView.{LocalView}
use Rattle.st_words.specs.declared.ids.Number.{Number}
use Rattle.st_words.specs.declared.ids.View.{View}
use Rattle.st_words.specs.declared.ids.Who.{Who}
use Rattle.st_words.specs.declared.value.Value.{Value}
use Rattle.st_words.specs.declared.statement.Statement.{Statement}
use Rattle.st_message.specs.declared.event.Output.{Output}
use Rattle.st_message.specs.declared.made.MadeSeal.{MadeSeal}
use Rattle.st_message.specs.declared.message.Message.{Message}
use Rattle.st_message.specs.declared.message.Message.TheVariants as messages
use Rattle.st_message.specs.declared.message.ReportBody.{ReportBody}
use Rattle.st_seal.specs.declared.quorum.Signed.{Signed}
use Rattle.st_protocol.specs.Words.{Bytes, server_at}
use Rattle.st_protocol.specs.Keeping.{given}
use Rattle.st_protocol.specs.World as model
use Rattle.st_protocol.specs.World.{hands, handed, notes_seal}
use Rattle.st_flows.proofs.PlainKept.{plain_hands}
use Rattle.st_made.specs.Keys.{with_seal}
use Rattle.st_deployment.specs.Deployed.{world_deployment}
use Rattle.st_world.specs.declared.world.World.{World}
use Rattle.st_world.specs.Standing.{IsSet, IsSent, IsWorld}

-- the world with one seal more
pub noted : (w : World) (made : List MadeSeal) (d : Deployment) (m : model.World Bytes) (who : Who) (leaf : ℕ) (s : Statement) → IsWorld w d m → made ≡ with_seal w.made who leaf s
    → IsWorld (record w { made = made }) d (hands m who leaf s)
unfolding hands
noted w made d m who leaf s stands is =
    let was : IsSent w d m = stands.sending in
    let set : IsSet w d = stands.set in
    record {
      set = record { taken = set.taken; deployment = set.deployment; seals = set.seals; sealer = set.sealer; sealers = set.sealers; seat = set.seat };
      server = stands.server;
      kept = stands.kept;
      plain = plain_hands m who leaf s stands.plain;
      customers = stands.customers;
      sending = record { sent = was.sent; number = was.number; size = was.size; few = was.few; newest = was.newest; below = was.below; waiting = was.waiting; made = is ∙ ap (λ (list : List MadeSeal). with_seal list who leaf s) was.made };
      going = stands.going;
    }

-- a message that has no seal of the server's own
pub noted_nothing : (w : World) (d : Deployment) (m : model.World Bytes) (o : Output) → IsWorld w d m → o.leaf ≡ None → IsWorld w d (notes_seal (world_deployment d) 0 0 m o)
unfolding notes_seal
noted_nothing w d m o stands none =
    subst (λ (x : Option ℕ). IsWorld w d (given x m (λ leaf. given (handed 0 o.message) m (λ s. hands m (server_at 0 0) leaf s)))) (sym none) stands

-- or none over a statement
pub noted_none : (w : World) (d : Deployment) (m : model.World Bytes) (o : Output) → IsWorld w d m → handed 0 o.message ≡ None → IsWorld w d (notes_seal (world_deployment d) 0 0 m o)
unfolding notes_seal
noted_none w d m o stands none = by o.leaf
  where
    by : (x : Option ℕ) → IsWorld w d (given x m (λ leaf. given (handed 0 o.message) m (λ s. hands m (server_at 0 0) leaf s)))
    by None = stands
    by (Some leaf) = subst (λ (s : Option Statement). IsWorld w d (given s m (λ t. hands m (server_at 0 0) leaf t))) (sym none) stands

-- the server's own seal over a statement
pub noted_own : (new : World) (d : Deployment) (m : model.World Bytes) (o : Output) (leaf : ℕ) (s : Statement) → o.leaf ≡ Some leaf → handed 0 o.message ≡ Some s → IsWorld new d (hands m (server_at 0 0) leaf s)
    → IsWorld new d (notes_seal (world_deployment d) 0 0 m o)
unfolding notes_seal
noted_own new d m o leaf s used own stands =
    subst (λ (x : Option ℕ). IsWorld new d (given x m (λ k. given (handed 0 o.message) m (λ t. hands m (server_at 0 0) k t)))) (sym used)
    (subst (λ (x : Option Statement). IsWorld new d (given x m (λ t. hands m (server_at 0 0) leaf t))) (sym own) stands)

-- no other message has one
pub handed_none : (m : Message) → ((view : View) (local : LocalView) (number : Number) (value : Value) (client_seal : Bytes) (signed : Signed) → m ≢ messages.Assign view local number value client_seal signed)
    → ((s : Statement) (signed : Signed) → m ≢ messages.Share s signed) → ((r : ReportBody) → m ≢ messages.Report r) → ((s : Statement) (signed : Signed) → m ≢ messages.Reply s signed) → handed 0 m ≡ None
handed_none (messages.Assign g l n v seal signed) assign share report reply = absurd (assign g l n v seal signed refl)
handed_none (messages.Share s signed) assign share report reply = absurd (share s signed refl)
handed_none (messages.Report r) assign share report reply = absurd (report r refl)
handed_none (messages.Reply s signed) assign share report reply = absurd (reply s signed refl)
handed_none (messages.Update u seal) assign share report reply = refl
handed_none (messages.Certificate s q) assign share report reply = refl
handed_none (messages.OrderProof n p) assign share report reply = refl
handed_none (messages.Bundle rs) assign share report reply = refl
handed_none (messages.ViewProof ws) assign share report reply = refl
handed_none (messages.Ask server n g l) assign share report reply = refl
