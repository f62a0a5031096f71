-- What is placed at a server's present views and window.
use Rattle.std.proofs.Common.{◌≡◌, ◌≢◌, ℕ, ◌+◌, ◌<◌, ◌≤◌, ◌&&◌, ◌||◌, Bool, nat_eq, nat_lt, nat_le, true, false, None, IsTrue, refl}
use Rattle.std.proofs.lemmas.Bool.{and_parts, eqb-true, ltb-true, leb-true}
use Rattle.st_words.specs.declared.ids.SiteId.{SiteId}
use Rattle.st_words.specs.declared.ids.ClientId.{ClientId}
use Rattle.st_words.specs.declared.ids.View.{View}
use Rattle.st_words.specs.declared.ids.LocalView.{LocalView}
use Rattle.st_words.specs.declared.value.Value.{Value}
use Rattle.st_seal.specs.declared.quorum.Signed.{Signed}
use Rattle.st_message.specs.declared.message.Message.TheVariants as messages
use Rattle.st_message.specs.declared.change.Change.TheVariants.{Made}
use Rattle.st_message.specs.declared.change.Heard.{Heard}
use Rattle.st_tables.specs.Window.{in_window}
use Rattle.st_words.specs.declared.ids.Number.{Number}
use Rattle.st_words.specs.declared.statement.Statement.{Statement}
use Rattle.st_words.specs.declared.statement.Statement.TheVariants.{Prepare, Proposal, Accept, LocalVc, GlobalVc, LocalReport, GlobalReport, LocalUnion, GlobalUnion, Reply, ClientUpdate}
use Rattle.st_protocol.specs.Words.{Bytes}
use Rattle.st_protocol.specs.Keeping.{open_if, or_else}
use Rattle.st_protocol.specs.State.{Here, Term, Place, open_place, AtPrepare, AtProposal, AtAccept, at_vc, at_report, at_union}
use Rattle.st_protocol.specs.Step.{servers}
use Rattle.st_state.specs.declared.slots.Slots.{Slots}
use Rattle.st_state.specs.Placed.{is_at, is_placed, is_placed_statement, is_within, is_kept_kind, is_own_kind, is_taken}
use Rattle.st_state.specs.SlotsView.{slots_of, made_at}
use Rattle.st_state.proofs.SlotsLaws.{made_stays_at, prepared_stays, shares_stay}
use Rattle.st_live.specs.LiveView.{NotesMade}

-- a statement that is placed asks for no view, and is no report and no union
pub placed_vc : (h : Here) (s : Statement) → IsTrue (is_placed_statement h s) → (t : Term) → at_vc t s ≡ false
placed_vc h (Prepare site view local number value) placed t = refl
placed_vc h (Proposal site view local number value) placed t = refl
placed_vc h (Accept site view number value) placed t = refl
placed_vc h (Reply site client time number result) placed t = refl
placed_vc h (LocalVc site local) placed t = absurd (let fails : false ≡ true = placed in cc)
placed_vc h (GlobalVc site view) placed t = absurd (let fails : false ≡ true = placed in cc)
placed_vc h (LocalReport site local index view base items) placed t = absurd (let fails : false ≡ true = placed in cc)
placed_vc h (GlobalReport site view index base items) placed t = absurd (let fails : false ≡ true = placed in cc)
placed_vc h (LocalUnion site local greatest base items) placed t = absurd (let fails : false ≡ true = placed in cc)
placed_vc h (GlobalUnion site view base items) placed t = absurd (let fails : false ≡ true = placed in cc)
placed_vc h (ClientUpdate update) placed t = absurd (let fails : false ≡ true = placed in cc)

pub placed_report : (h : Here) (s : Statement) → IsTrue (is_placed_statement h s) → (t : Term) → at_report t s ≡ false
placed_report h (Prepare site view local number value) placed t = refl
placed_report h (Proposal site view local number value) placed t = refl
placed_report h (Accept site view number value) placed t = refl
placed_report h (Reply site client time number result) placed t = refl
placed_report h (LocalVc site local) placed t = absurd (let fails : false ≡ true = placed in cc)
placed_report h (GlobalVc site view) placed t = absurd (let fails : false ≡ true = placed in cc)
placed_report h (LocalReport site local index view base items) placed t = absurd (let fails : false ≡ true = placed in cc)
placed_report h (GlobalReport site view index base items) placed t = absurd (let fails : false ≡ true = placed in cc)
placed_report h (LocalUnion site local greatest base items) placed t = absurd (let fails : false ≡ true = placed in cc)
placed_report h (GlobalUnion site view base items) placed t = absurd (let fails : false ≡ true = placed in cc)
placed_report h (ClientUpdate update) placed t = absurd (let fails : false ≡ true = placed in cc)

pub placed_union : (h : Here) (s : Statement) → IsTrue (is_placed_statement h s) → (t : Term) → at_union t s ≡ false
placed_union h (Prepare site view local number value) placed t = refl
placed_union h (Proposal site view local number value) placed t = refl
placed_union h (Accept site view number value) placed t = refl
placed_union h (Reply site client time number result) placed t = refl
placed_union h (LocalVc site local) placed t = absurd (let fails : false ≡ true = placed in cc)
placed_union h (GlobalVc site view) placed t = absurd (let fails : false ≡ true = placed in cc)
placed_union h (LocalReport site local index view base items) placed t = absurd (let fails : false ≡ true = placed in cc)
placed_union h (GlobalReport site view index base items) placed t = absurd (let fails : false ≡ true = placed in cc)
placed_union h (LocalUnion site local greatest base items) placed t = absurd (let fails : false ≡ true = placed in cc)
placed_union h (GlobalUnion site view base items) placed t = absurd (let fails : false ≡ true = placed in cc)
placed_union h (ClientUpdate update) placed t = absurd (let fails : false ≡ true = placed in cc)

-- a Reply is none of the slots' matter
pub reply_made : (h : Here) (slots : Slots) (leaf : ℕ) (site : SiteId) (client : ClientId) (time : ℕ) (number : Number) (bytes : Bytes) → NotesMade h slots slots leaf (Reply site client time number bytes)
unfolding slots_of
reply_made h slots leaf site client time number bytes =
    λ i. record {
      made = λ p. (made_at_leaf p) i;
      prepared = λ k. (prepared_stays h.executed slots.prepared k) i;
      accepted = λ k. (prepared_stays h.executed slots.accepted k) i;
      shares = λ p j. (shares_stay (h.leaf + 1) h slots p j) i;
    }
  where
    made_at_leaf : (p : Place) → made_at (record h { leaf = h.leaf + 1 }) slots p ≡ open_if (open_place (record h { leaf = h.leaf + 1 }) p) (or_else (made_at h slots p) None)
    made_at_leaf (AtPrepare g l k) = made_stays_at h slots (AtPrepare g l k)
    made_at_leaf (AtProposal g l k) = made_stays_at h slots (AtProposal g l k)
    made_at_leaf (AtAccept g k) = made_stays_at h slots (AtAccept g k)

-- the parts of what is placed
pub placed_next : (h : Here) (leaf : ℕ) (s : Statement) → IsTrue (is_placed h (Made leaf s)) → (leaf ≡ h.leaf) × (h.leaf < h.seat.capacity) × IsTrue (is_placed_statement h s)
placed_next h leaf s placed =
    let whole = and_parts (nat_eq leaf h.leaf && nat_lt h.leaf h.seat.capacity) (is_placed_statement h s) placed in
    let first = and_parts (nat_eq leaf h.leaf) (nat_lt h.leaf h.seat.capacity) whole.0 in
    (eqb-true leaf h.leaf first.0, ltb-true h.leaf h.seat.capacity first.1, whole.1)

in_reach : (e n : ℕ) → in_window e n ≡ true → (e < n) × (n ≤ e + 16)
in_reach e n within = let both = and_parts (nat_lt e n) (nat_le n (e + 16)) within in (ltb-true e n both.0, leb-true n (e + 16) both.1)

pub prepare_placed : (h : Here) (s : Statement) (site : SiteId) (view : View) (local : LocalView) (n : Number) (v : Value) → s ≡ Prepare site view local n v → IsTrue (is_placed_statement h s)
    → (h.view ≡ view.0) × (h.local ≡ local.0) × (h.executed < n.0) × (n.0 ≤ h.executed + 16)
prepare_placed h s site view local n v is placed =
    let both = and_parts (is_at h view.0 local.0) (in_window h.executed n.0) (rw is at placed) in
    let views = and_parts (nat_eq h.view view.0) (nat_eq h.local local.0) both.0 in
    let reach = in_reach h.executed n.0 both.1 in
    (eqb-true h.view view.0 views.0, eqb-true h.local local.0 views.1, reach.0, reach.1)

pub proposal_placed : (h : Here) (s : Statement) (site : SiteId) (view : View) (local : LocalView) (n : Number) (v : Value) → s ≡ Proposal site view local n v → IsTrue (is_placed_statement h s)
    → (h.view ≡ view.0) × (h.local ≡ local.0) × (h.executed < n.0) × (n.0 ≤ h.executed + 16)
proposal_placed h s site view local n v is placed =
    let both = and_parts (is_at h view.0 local.0) (in_window h.executed n.0) (rw is at placed) in
    let views = and_parts (nat_eq h.view view.0) (nat_eq h.local local.0) both.0 in
    let reach = in_reach h.executed n.0 both.1 in
    (eqb-true h.view view.0 views.0, eqb-true h.local local.0 views.1, reach.0, reach.1)

pub accept_placed : (h : Here) (s : Statement) (site : SiteId) (view : View) (n : Number) (v : Value) → s ≡ Accept site view n v → IsTrue (is_placed_statement h s)
    → (h.view ≡ view.0) × (h.executed < n.0) × (n.0 ≤ h.executed + 16)
accept_placed h s site view n v is placed =
    let both = and_parts (nat_eq h.view view.0) (in_window h.executed n.0) (rw is at placed) in
    let reach = in_reach h.executed n.0 both.1 in
    (eqb-true h.view view.0 both.0, reach.0, reach.1)

-- every other statement that is placed is a Reply
pub other_placed : (h : Here) (slots : Slots) (leaf : ℕ) (s : Statement) → IsTrue (is_placed_statement h s)
    → ((site : SiteId) (view : View) (local : LocalView) (n : Number) (v : Value) → s ≢ Prepare site view local n v)
    → ((site : SiteId) (view : View) (local : LocalView) (n : Number) (v : Value) → s ≢ Proposal site view local n v)
    → ((site : SiteId) (view : View) (n : Number) (v : Value) → s ≢ Accept site view n v)
    → NotesMade h slots slots leaf s
other_placed h slots leaf (Prepare site view local n v) placed no_prepare no_proposal no_accept = absurd (no_prepare site view local n v refl)
other_placed h slots leaf (Proposal site view local n v) placed no_prepare no_proposal no_accept = absurd (no_proposal site view local n v refl)
other_placed h slots leaf (Accept site view n v) placed no_prepare no_proposal no_accept = absurd (no_accept site view n v refl)
other_placed h slots leaf (Reply site client time n bytes) placed no_prepare no_proposal no_accept = reply_made h slots leaf site client time n bytes
other_placed h slots leaf (LocalVc site local) placed no_prepare no_proposal no_accept = absurd (let fails : false ≡ true = placed in cc)
other_placed h slots leaf (GlobalVc site view) placed no_prepare no_proposal no_accept = absurd (let fails : false ≡ true = placed in cc)
other_placed h slots leaf (LocalReport site local index view base items) placed no_prepare no_proposal no_accept = absurd (let fails : false ≡ true = placed in cc)
other_placed h slots leaf (GlobalReport site view index base items) placed no_prepare no_proposal no_accept = absurd (let fails : false ≡ true = placed in cc)
other_placed h slots leaf (LocalUnion site local greatest base items) placed no_prepare no_proposal no_accept = absurd (let fails : false ≡ true = placed in cc)
other_placed h slots leaf (GlobalUnion site view base items) placed no_prepare no_proposal no_accept = absurd (let fails : false ≡ true = placed in cc)
other_placed h slots leaf (ClientUpdate update) placed no_prepare no_proposal no_accept = absurd (let fails : false ≡ true = placed in cc)

-- ---- what is heard

-- the views of a share, of which the rest of the test is passed too
views_of : (h : Here) (view : View) (local : LocalView) (within known : Bool) → (is_at h view.0 local.0 && within && known) ≡ true → (h.view ≡ view.0) × (h.local ≡ local.0)
views_of h view local within known taken =
    let whole = and_parts (is_at h view.0 local.0 && within) known taken in
    let both = and_parts (is_at h view.0 local.0) within whole.0 in
    let views = and_parts (nat_eq h.view view.0) (nat_eq h.local local.0) both.0 in
    (eqb-true h.view view.0 views.0, eqb-true h.local local.0 views.1)

reach_below : (h : Here) (n : ℕ) → is_within h n ≡ true → n ≤ h.executed + 16
reach_below h n within = leb-true n (h.executed + 16) within

-- the own message of those that are taken, and the others
pub taken_kind : (h : Here) (m : Heard) → m.own ≡ false → IsTrue (is_taken h m) → IsTrue (is_kept_kind h m.message)
taken_kind h m other taken = let whole = rw other at taken in whole

pub taken_own : (h : Here) (m : Heard) → m.own ≡ true → IsTrue (is_taken h m) → IsTrue (is_own_kind h m.message)
taken_own h m own taken = or_false (is_own_kind h m.message) (rw own at taken)
  where
    or_false : (b : Bool) → (b || false) ≡ true → b ≡ true
    or_false true e = e
    or_false false e = e

pub share_prepare_views : (h : Here) (s : Statement) (signed : Signed) (site : SiteId) (view : View) (local : LocalView) (n : Number) (v : Value) → s ≡ Prepare site view local n v
    → IsTrue (is_kept_kind h (messages.Share s signed)) → (h.view ≡ view.0) × (h.local ≡ local.0)
share_prepare_views h s signed site view local n v is taken = views_of h view local (is_within h n.0) (nat_lt signed.index (servers h)) (rw is at taken)

pub share_proposal_views : (h : Here) (s : Statement) (signed : Signed) (site : SiteId) (view : View) (local : LocalView) (n : Number) (v : Value) → s ≡ Proposal site view local n v
    → IsTrue (is_kept_kind h (messages.Share s signed)) → (h.view ≡ view.0) × (h.local ≡ local.0)
share_proposal_views h s signed site view local n v is taken = views_of h view local (is_within h n.0) (nat_lt signed.index (servers h)) (rw is at taken)

pub share_accept_view : (h : Here) (s : Statement) (signed : Signed) (site : SiteId) (view : View) (n : Number) (v : Value) → s ≡ Accept site view n v
    → IsTrue (is_kept_kind h (messages.Share s signed)) → h.view ≡ view.0
share_accept_view h s signed site view n v is taken =
    let whole = and_parts (nat_eq h.view view.0 && is_within h n.0) (nat_lt signed.index (servers h)) (rw is at taken) in
    eqb-true h.view view.0 (and_parts (nat_eq h.view view.0) (is_within h n.0) whole.0).0
