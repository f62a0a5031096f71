-- What a part answers by the short state is what it answers by the answers.
use Rattle.std.proofs.Common.{◌≡◌, ◌∙◌, ap, sym, ℕ, Option, Some, None}
use Rattle.st_words.specs.declared.ids.SiteId.{SiteId}
use Rattle.st_words.specs.declared.ids.View.{View}
use Rattle.st_words.specs.declared.ids.LocalView.{LocalView}
use Rattle.st_words.specs.declared.ids.Number.{Number}
use Rattle.st_words.specs.declared.value.Update.{Update}
use Rattle.st_words.specs.declared.value.Value.{Value}
use Rattle.st_words.specs.declared.statement.Statement.{Statement}
use Rattle.st_words.specs.declared.statement.Statement.TheVariants.{Prepare, Proposal, Accept}
use Rattle.st_seal.specs.declared.quorum.Signed.{Signed}
use Rattle.st_message.specs.declared.message.Message.{Message}
use Rattle.st_message.specs.declared.message.Message.TheVariants as messages
use Rattle.st_protocol.specs.Words.{Bytes, Quorum}
use Rattle.st_protocol.specs.Keeping.{given}
use Rattle.st_protocol.specs.State.{Answers, Sealing}
use Rattle.st_protocol.specs.Forced.{forced_of}
use Rattle.st_protocol.specs.Assigning.{on_update, on_prepare, on_proposal_share}
use Rattle.st_protocol.specs.Ordering.{on_accept_share, on_proposal, on_accept}
use Rattle.st_protocol.specs.Duty.{of_message}
use Rattle.st_state.specs.declared.forced.Forced.{Forced}
use Rattle.st_state.specs.ForcedView.{forced_by, no_unions}
use Rattle.st_state.specs.SlotsView.{slots_of}
use Rattle.st_state.specs.HandView.{hand_of}
use Rattle.st_state.specs.ClientsView.{last_of, place_of, pending_of}
use Rattle.st_live.specs.declared.live.Live.{Live}
use Rattle.st_live.specs.LiveView.{place_here, IsLive, asked}
use Rattle.st_assign.specs.Parts.{client_in, update_answer, assign_answer, prepare_answer, proposal_share_answer}
use Rattle.st_order.specs.Parts.{accept_share_answer, proposal_answer, accept_answer}

pub update_is : (live : Live) (q : Answers) (m : Message) (u : Update) (seal : Bytes) (last : ℕ) → IsLive live q → m ≡ messages.Update u seal → last ≡ last_of live.clients u.client.0
    → update_answer (place_here live) (pending_of (last_of live.clients) live.pending) last (q.making.reply (place_of live.clients u.client.0)) m ≡ of_message q m
unfolding asked
update_is live q m u seal last stands is time =
    ap (update_answer (place_here live) (pending_of (last_of live.clients) live.pending) last (q.making.reply (place_of live.clients u.client.0))) is
    ∙ (ap (λ k. on_update (place_here live) (pending_of (last_of live.clients) live.pending) k (q.making.reply (place_of live.clients u.client.0)) u seal) time
    ∙ (ap (λ (a : Answers). on_update a.here a.pending (a.log.run.last u.client.0) (q.making.reply (a.log.run.place u.client.0)) u seal) stands.is
    ∙ sym (ap (of_message q) is)))

pub assign_is : (live : Live) (q : Answers) (f : Forced) (m : Message) → IsLive live q → forced_by (place_here live) f ≡ forced_of (place_here live) no_unions
    → assign_answer (place_here live) (slots_of (place_here live) live.slots) (forced_by (place_here live) f) m ≡ assign_answer q.here q.slots (forced_of q.here q.unions) m
unfolding asked
assign_is live q f m stands is =
    ap (λ x. assign_answer (place_here live) (slots_of (place_here live) live.slots) x m) is
    ∙ ap (λ (a : Answers). assign_answer a.here a.slots (forced_of a.here a.unions) m) stands.is

pub prepare_is : (live : Live) (q : Answers) (m : Message) (s : Statement) (signed : Signed) (site : SiteId) (view : View) (local : LocalView) (n : Number) (v : Value) → IsLive live q
    → m ≡ messages.Share s signed → s ≡ Prepare site view local n v → prepare_answer (place_here live) (slots_of (place_here live) live.slots) m ≡ of_message q m
unfolding asked
prepare_is live q m s signed site view local n v stands is kind =
    let whole : m ≡ messages.Share (Prepare site view local n v) signed = is ∙ ap (λ (t : Statement). messages.Share t signed) kind in
    ap (prepare_answer (place_here live) (slots_of (place_here live) live.slots)) whole
    ∙ (ap (λ (a : Answers). on_prepare a.here a.slots site.0 view.0 local.0 n.0 v signed) stands.is ∙ sym (ap (of_message q) whole))

pub proposal_share_is : (live : Live) (q : Answers) (m : Message) (s : Statement) (signed : Signed) (site : SiteId) (view : View) (local : LocalView) (n : Number) (v : Value) → IsLive live q
    → m ≡ messages.Share s signed → s ≡ Proposal site view local n v → proposal_share_answer (place_here live) (slots_of (place_here live) live.slots) m ≡ of_message q m
unfolding asked
proposal_share_is live q m s signed site view local n v stands is kind =
    let whole : m ≡ messages.Share (Proposal site view local n v) signed = is ∙ ap (λ (t : Statement). messages.Share t signed) kind in
    ap (proposal_share_answer (place_here live) (slots_of (place_here live) live.slots)) whole
    ∙ (ap (λ (a : Answers). on_proposal_share a.here a.slots site.0 view.0 local.0 n.0 v signed) stands.is ∙ sym (ap (of_message q) whole))

pub accept_share_is : (live : Live) (q : Answers) (m : Message) (s : Statement) (signed : Signed) (site : SiteId) (view : View) (n : Number) (v : Value) → IsLive live q
    → m ≡ messages.Share s signed → s ≡ Accept site view n v → accept_share_answer (place_here live) (slots_of (place_here live) live.slots) m ≡ of_message q m
unfolding asked
accept_share_is live q m s signed site view n v stands is kind =
    let whole : m ≡ messages.Share (Accept site view n v) signed = is ∙ ap (λ (t : Statement). messages.Share t signed) kind in
    ap (accept_share_answer (place_here live) (slots_of (place_here live) live.slots)) whole
    ∙ (ap (λ (a : Answers). on_accept_share a.here a.slots site.0 view.0 n.0 v signed) stands.is ∙ sym (ap (of_message q) whole))

pub proposal_is : (live : Live) (q : Answers) (s : Statement) (w : Quorum) (site : SiteId) (view : View) (local : LocalView) (n : Number) (v : Value) → IsLive live q
    → s ≡ Proposal site view local n v → proposal_answer (place_here live) (slots_of (place_here live) live.slots) s w ≡ of_message q (messages.Certificate s w)
unfolding asked
proposal_is live q s w site view local n v stands kind =
    ap (λ (t : Statement). proposal_answer (place_here live) (slots_of (place_here live) live.slots) t w) kind
    ∙ (ap (λ (a : Answers). on_proposal a.here a.slots site.0 view.0 local.0 n.0 v w) stands.is ∙ sym (ap (λ (t : Statement). of_message q (messages.Certificate t w)) kind))

pub accept_is : (live : Live) (q : Answers) (s : Statement) (w : Quorum) (site : SiteId) (view : View) (n : Number) (v : Value) → IsLive live q
    → s ≡ Accept site view n v → accept_answer (place_here live) (hand_of (place_here live) live.hand) s w ≡ of_message q (messages.Certificate s w)
unfolding asked
accept_is live q s w site view n v stands kind =
    ap (λ (t : Statement). accept_answer (place_here live) (hand_of (place_here live) live.hand) t w) kind
    ∙ (ap (λ (a : Answers). on_accept a.here a.hand site.0 view.0 n.0 v w) stands.is ∙ sym (ap (λ (t : Statement). of_message q (messages.Certificate t w)) kind))

-- the Reply that the table has at the number where the client's last update ran
pub reply_is : (q : Answers) (table : ℕ → Option Sealing) (place at : ℕ) {reply : Option Statement} → ((n : ℕ) → q.making.reply n ≡ table n) → at ≡ place
    → reply ≡ given (table at) None (λ m. Some m.statement) → reply ≡ given (q.making.reply place) None (λ m. Some m.statement)
reply_is q table place at replies same is =
    is ∙ (ap (λ k. given (table k) None (λ m. Some m.statement)) same ∙ sym (ap (λ (m : Option Sealing). given m None (λ x. Some x.statement)) (replies place)))

pub client_is : (lasts : ℕ → ℕ) (m : Message) (u : Update) (seal : Bytes) (last : ℕ) → m ≡ messages.Update u seal → last ≡ lasts u.client.0 → lasts (client_in m) ≡ last
client_is lasts m u seal last is time = ap (λ (k : Message). lasts (client_in k)) is ∙ sym time
