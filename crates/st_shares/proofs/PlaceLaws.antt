-- Laws on the slots of other views: nothing is kept of them.
use Rattle.std.proofs.Common.{◌≡◌, ap, ℕ, Bool, false, nat_eq, ◌&&◌, Option, Some, None, refl}
use Rattle.st_tables.specs.Window.{kept}
use Rattle.st_protocol.specs.Keeping.{open_if}
use Rattle.st_protocol.specs.State.{Here, Sealing, Share, AtPrepare, AtProposal, AtAccept}
use Rattle.st_state.specs.declared.slots.Slots.{Slots}
use Rattle.st_state.specs.Placed.{is_at}
use Rattle.st_state.specs.SlotsView.{slots_of}
use Rattle.st_state.specs.Writes.{among}

pub no_prepare : (h : Here) (slots : Slots) (g l n : ℕ) → is_at h g l ≡ false → (slots_of h slots).made (AtPrepare g l n) ≡ None
unfolding slots_of
no_prepare h slots g l n away = rw away refl

pub no_proposal : (h : Here) (slots : Slots) (g l n : ℕ) → is_at h g l ≡ false → (slots_of h slots).made (AtProposal g l n) ≡ None
unfolding slots_of
no_proposal h slots g l n away = rw away refl

pub no_accept : (h : Here) (slots : Slots) (g n : ℕ) → nat_eq h.view g ≡ false → (slots_of h slots).made (AtAccept g n) ≡ None
unfolding slots_of
no_accept h slots g n away = rw away refl

pub no_prepare_shares : (h : Here) (slots : Slots) (g l n : ℕ) → is_at h g l ≡ false → (slots_of h slots).shares (AtPrepare g l n) ≡ among None
unfolding slots_of
no_prepare_shares h slots g l n away = ap (λ (b : Bool). λ (i : ℕ). open_if b (among (kept h.executed slots.prepare_shares n) i)) away

pub no_proposal_shares : (h : Here) (slots : Slots) (g l n : ℕ) → is_at h g l ≡ false → (slots_of h slots).shares (AtProposal g l n) ≡ among None
unfolding slots_of
no_proposal_shares h slots g l n away = ap (λ (b : Bool). λ (i : ℕ). open_if b (among (kept h.executed slots.proposal_shares n) i)) away

pub no_accept_shares : (h : Here) (slots : Slots) (g n : ℕ) → nat_eq h.view g ≡ false → (slots_of h slots).shares (AtAccept g n) ≡ among None
unfolding slots_of
no_accept_shares h slots g n away = ap (λ (b : Bool). λ (i : ℕ). open_if b (among (kept h.executed slots.accept_shares n) i)) away
