-- The short state goes on standing for the answers, whatever is heard of what its tables take.
use Rattle.std.proofs.Common.{◌≡◌, nat_eq, IsTrue, refl}
use Rattle.std.proofs.lemmas.Bool.{and_parts, eqb-true}
use Rattle.st_words.specs.declared.ids.SiteId.{SiteId}
use Rattle.st_words.specs.declared.ids.View.{View}
use Rattle.st_words.specs.declared.ids.LocalView.{LocalView}
use Rattle.st_words.specs.declared.ids.Number.{Number}
use Rattle.st_words.specs.declared.value.Value.{Value}
use Rattle.st_words.specs.declared.statement.Statement.{Statement}
use Rattle.st_words.specs.declared.statement.Statement.TheVariants.{Prepare, Proposal, Accept}
use Rattle.st_seal.specs.declared.quorum.Signed.{Signed}
use Rattle.st_message.specs.declared.message.Message.TheVariants as messages
use Rattle.st_protocol.specs.Words.{Quorum}
use Rattle.st_protocol.specs.State.{Here, Answers}
use Rattle.st_protocol.specs.Growth.{hears, slots_takes, slots_cuts, own_takes, own_cuts}
use Rattle.st_state.specs.declared.slots.Slots.{Slots}
use Rattle.st_state.specs.declared.own.Own.{Own}
use Rattle.st_state.specs.Placed.{is_within, is_own_kind}
use Rattle.st_state.specs.SlotsView.{slots_of, heard_share}
use Rattle.st_state.specs.OwnView.{own_of, own_certificate}
use Rattle.st_live.specs.declared.live.Live.{Live}
use Rattle.st_live.specs.LiveView.{past_of, place_here, IsLive}
use Rattle.st_live.proofs.HearLaws.{prepare_heard, proposal_heard, accept_heard, own_proposal_heard, own_accept_heard}
use Rattle.st_live.proofs.LiveLaws.{stands_heard}

-- ---- the views of what is taken

pub own_proposal_view : (h : Here) (s : Statement) (q : Quorum) (site : SiteId) (view : View) (local : LocalView) (n : Number) (v : Value) → s ≡ Proposal site view local n v
    → IsTrue (is_own_kind h (messages.Certificate s q)) → h.view ≡ view.0
own_proposal_view h s q site view local n v is taken = eqb-true h.view view.0 (and_parts (nat_eq h.view view.0) (is_within h n.0) (rw is at taken)).0

pub own_accept_view : (h : Here) (s : Statement) (q : Quorum) (site : SiteId) (view : View) (n : Number) (v : Value) → s ≡ Accept site view n v
    → IsTrue (is_own_kind h (messages.Certificate s q)) → h.view ≡ view.0
own_accept_view h s q site view n v is taken = eqb-true h.view view.0 (and_parts (nat_eq h.view view.0) (is_within h n.0) (rw is at taken)).0

-- ---- by kinds

pub stands_prepare : (live : Live) (slots : Slots) (s : Statement) (signed : Signed) (q : Answers) (site : SiteId) (view : View) (local : LocalView) (n : Number) (v : Value)
    → s ≡ Prepare site view local n v → IsLive live q
    → slots_of (place_here live) slots ≡ slots_cuts (place_here live) (slots_takes (heard_share s signed) (slots_of (place_here live) live.slots))
    → IsLive (record live { slots = slots }) (hears q (heard_share s signed))
stands_prepare live slots s signed q site view local n v e stands is =
    let kept = rw e at is in
    rw e (stands_heard live (record live { slots = slots }) (heard_share (Prepare site view local n v) signed) q stands refl refl (prepare_heard (past_of q) live slots site view local n v signed kept))

pub stands_proposal : (live : Live) (slots : Slots) (s : Statement) (signed : Signed) (q : Answers) (site : SiteId) (view : View) (local : LocalView) (n : Number) (v : Value)
    → s ≡ Proposal site view local n v → IsLive live q
    → slots_of (place_here live) slots ≡ slots_cuts (place_here live) (slots_takes (heard_share s signed) (slots_of (place_here live) live.slots))
    → IsLive (record live { slots = slots }) (hears q (heard_share s signed))
stands_proposal live slots s signed q site view local n v e stands is =
    let kept = rw e at is in
    rw e (stands_heard live (record live { slots = slots }) (heard_share (Proposal site view local n v) signed) q stands refl refl (proposal_heard (past_of q) live slots site view local n v signed kept))

pub stands_accept : (live : Live) (slots : Slots) (s : Statement) (signed : Signed) (q : Answers) (site : SiteId) (view : View) (n : Number) (v : Value)
    → s ≡ Accept site view n v → IsLive live q
    → slots_of (place_here live) slots ≡ slots_cuts (place_here live) (slots_takes (heard_share s signed) (slots_of (place_here live) live.slots))
    → IsLive (record live { slots = slots }) (hears q (heard_share s signed))
stands_accept live slots s signed q site view n v e stands is =
    let kept = rw e at is in
    rw e (stands_heard live (record live { slots = slots }) (heard_share (Accept site view n v) signed) q stands refl refl (accept_heard (past_of q) live slots site view n v signed kept))

pub stands_own_proposal : (live : Live) (own : Own) (s : Statement) (quorum : Quorum) (q : Answers) (site : SiteId) (view : View) (local : LocalView) (n : Number) (v : Value)
    → s ≡ Proposal site view local n v → IsLive live q
    → own_of (place_here live) own ≡ own_cuts (place_here live) (own_takes (own_certificate s quorum) (own_of (place_here live) live.own))
    → IsLive (record live { own = own }) (hears q (own_certificate s quorum))
stands_own_proposal live own s quorum q site view local n v e stands is =
    let kept = rw e at is in
    rw e (stands_heard live (record live { own = own }) (own_certificate (Proposal site view local n v) quorum) q stands refl refl (own_proposal_heard (past_of q) live own site view local n v quorum kept))

pub stands_own_accept : (live : Live) (own : Own) (s : Statement) (quorum : Quorum) (q : Answers) (site : SiteId) (view : View) (n : Number) (v : Value)
    → s ≡ Accept site view n v → IsLive live q
    → own_of (place_here live) own ≡ own_cuts (place_here live) (own_takes (own_certificate s quorum) (own_of (place_here live) live.own))
    → IsLive (record live { own = own }) (hears q (own_certificate s quorum))
stands_own_accept live own s quorum q site view n v e stands is =
    let kept = rw e at is in
    rw e (stands_heard live (record live { own = own }) (own_certificate (Accept site view n v) quorum) q stands refl refl (own_accept_heard (past_of q) live own site view n v quorum kept))
