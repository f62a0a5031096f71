-- Laws on the shares that the slots keep.
use Rattle.std.proofs.Common.{◌≡◌, ◌∙◌, ap, sym, ℕ, ◌<◌, ◌≤◌, Bool, true, false, cond, nat_eq, nat_lt, nat_le, ◌&&◌, Option, Some, None, List, refl, arith}
use Rattle.std.proofs.lemmas.Bool.{eqb-true}
use Rattle.st_words.specs.declared.ids.SiteId.{SiteId}
use Rattle.st_words.specs.declared.ids.Number.{Number}
use Rattle.st_words.specs.declared.value.Value.{Value}
use Rattle.st_words.specs.declared.statement.Statement.{Statement}
use Rattle.st_words.specs.declared.statement.Statement.TheVariants.{Prepare, Proposal, Accept}
use Rattle.st_seal.specs.declared.quorum.Signed.{Signed}
use Rattle.st_tables.specs.Window.{kept}
use Rattle.st_protocol.specs.Keeping.{open_if, or_else}
use Rattle.st_protocol.specs.State.{Place, AtPrepare, AtProposal, AtAccept, Here, Share}
use Rattle.st_protocol.specs.Growth.{slots_takes, slots_cuts}
use Rattle.st_state.specs.declared.slots.Slots.{Slots}
use Rattle.st_state.specs.Placed.{is_at}
use Rattle.st_state.specs.Writes.{among, PutsAmong}
use Rattle.st_state.specs.SlotsView.{slots_of, heard_share}
use Rattle.st_state.proofs.SlotsLaws.{kept_low, or_else_alone, stays_at_views, stays_at_view}

-- the rows of shares of a kind of slot
abbrev Rows : Type 0
Rows = List (Option (List (Option Share)))

-- ---- one entry

-- nothing is kept of a number that isn't above the window's base
among_low : (e : ℕ) (rows : Rows) (k i : ℕ) → k ≤ e → among (kept e rows k) i ≡ None
among_low e rows k i low = rw (kept_low e rows k low) refl

among_same : (e : ℕ) (rows : Rows) (n k j i : ℕ) → n ≡ k → j ≡ i → among (kept e rows n) j ≡ among (kept e rows k) i
among_same e rows n k j i same here = rw same (ap (among (kept e rows k)) here)

-- of what is put at a number and an index, the first stays
put_kept : (e n k j i : ℕ) (new old here : Option Share) (x : Share)
    → new ≡ cond (nat_eq n k && nat_eq j i) (or_else here (Some x)) old → e < n → (n ≡ k → j ≡ i → here ≡ old) → (k ≤ e → old ≡ None)
    → new ≡ open_if (nat_lt e k) (or_else old (cond (nat_eq k n && nat_eq j i) (Some x) None))
put_kept e n k j i new old here x put above same low = let alone = or_else_alone old in grind (arith, put, above, same, low, alone)

-- below the window nothing is put
low_kept : (e n k j i : ℕ) (old : Option Share) (x : Share) → n ≤ e → (k ≤ e → old ≡ None)
    → old ≡ open_if (nat_lt e k) (or_else old (cond (nat_eq k n && nat_eq j i) (Some x) None))
low_kept e n k j i old x past low = let alone = or_else_alone old in grind (arith, past, low, alone)

-- and so at the present views, and at the present view
kept_at_views : (view local e g l n k j i : ℕ) (new old : Option Share) (x : Share)
    → new ≡ open_if (nat_lt e k) (or_else old (cond (nat_eq k n && nat_eq j i) (Some x) None))
    → open_if (nat_eq view g && nat_eq local l) new
    ≡ open_if (nat_le view g && nat_le local l && nat_lt e k)
    (or_else (open_if (nat_eq view g && nat_eq local l) old) (cond (nat_eq g view && nat_eq l local && nat_eq k n && nat_eq j i) (Some x) None))
kept_at_views view local e g l n k j i new old x whole = by_test (nat_eq view g) (nat_eq local l) refl refl
  where
    by_test : (b c : Bool) → nat_eq view g ≡ b → nat_eq local l ≡ c
        → open_if (nat_eq view g && nat_eq local l) new
        ≡ open_if (nat_le view g && nat_le local l && nat_lt e k)
        (or_else (open_if (nat_eq view g && nat_eq local l) old) (cond (nat_eq g view && nat_eq l local && nat_eq k n && nat_eq j i) (Some x) None))
    by_test true true eb ec = let sg : view ≡ g = eqb-true view g eb in let sl : local ≡ l = eqb-true local l ec in grind (arith, sg, sl, whole)
    by_test true false eb ec = grind (arith, eb, ec)
    by_test false c eb ec = grind (arith, eb)

kept_at_view : (view e g n k j i : ℕ) (new old : Option Share) (x : Share)
    → new ≡ open_if (nat_lt e k) (or_else old (cond (nat_eq k n && nat_eq j i) (Some x) None))
    → open_if (nat_eq view g) new
    ≡ open_if (nat_le view g && nat_lt e k) (or_else (open_if (nat_eq view g) old) (cond (nat_eq g view && nat_eq k n && nat_eq j i) (Some x) None))
kept_at_view view e g n k j i new old x whole = by_test (nat_eq view g) refl
  where
    by_test : (b : Bool) → nat_eq view g ≡ b
        → open_if (nat_eq view g) new
        ≡ open_if (nat_le view g && nat_lt e k) (or_else (open_if (nat_eq view g) old) (cond (nat_eq g view && nat_eq k n && nat_eq j i) (Some x) None))
    by_test true eb = let sg : view ≡ g = eqb-true view g eb in grind (arith, sg, whole)
    by_test false eb = grind (arith, eb)

-- ---- the slots once a share is heard

abbrev Whole : ℕ → Rows → Rows → ℕ → ℕ → Share → Type 0
Whole e new old n j x = (k i : ℕ) → among (kept e new k) i ≡ open_if (nat_lt e k) (or_else (among (kept e old k) i) (cond (nat_eq k n && nat_eq j i) (Some x) None))

-- a share of a number of the window is put among its slot's
pub whole_put : (e : ℕ) (new old : Rows) (n j : ℕ) (x : Share) → e < n → PutsAmong e old new n j x → Whole e new old n j x
whole_put e new old n j x above put k i = put_kept e n k j i _ _ (among (kept e old n) j) x (put k i) above (among_same e old n k j i) (among_low e old k i)

-- a share of an executed number is dropped
pub whole_low : (e : ℕ) (old : Rows) (n j : ℕ) (x : Share) → n ≤ e → Whole e old old n j x
whole_low e old n j x past k i = low_kept e n k j i (among (kept e old k) i) x past (among_low e old k i)

abbrev share : Statement → Signed → Share
share s signed = record { statement = s; seal = signed.seal }

pub prepares_stay : (h : Here) (slots : Slots) (g l k i : ℕ) → open_if (is_at h g l) (among (kept h.executed slots.prepare_shares k) i)
    ≡ open_if (nat_le h.view g && nat_le h.local l && nat_lt h.executed k) (or_else (open_if (is_at h g l) (among (kept h.executed slots.prepare_shares k) i)) None)
prepares_stay h slots g l k i = stays_at_views h.view h.local h.executed g l k _ (among_low h.executed slots.prepare_shares k i)

pub proposals_stay : (h : Here) (slots : Slots) (g l k i : ℕ) → open_if (is_at h g l) (among (kept h.executed slots.proposal_shares k) i)
    ≡ open_if (nat_le h.view g && nat_le h.local l && nat_lt h.executed k) (or_else (open_if (is_at h g l) (among (kept h.executed slots.proposal_shares k) i)) None)
proposals_stay h slots g l k i = stays_at_views h.view h.local h.executed g l k _ (among_low h.executed slots.proposal_shares k i)

pub accepts_stay : (h : Here) (slots : Slots) (g k i : ℕ) → open_if (nat_eq h.view g) (among (kept h.executed slots.accept_shares k) i)
    ≡ open_if (nat_le h.view g && nat_lt h.executed k) (or_else (open_if (nat_eq h.view g) (among (kept h.executed slots.accept_shares k) i)) None)
accepts_stay h slots g k i = stays_at_view h.view h.executed g k _ (among_low h.executed slots.accept_shares k i)

prepare_heard_at : (h : Here) (slots : Slots) (site : SiteId) (n : Number) (v : Value) (signed : Signed) (rows : Rows)
    → Whole h.executed rows slots.prepare_shares n.0 signed.index (share (Prepare site (record { 0 = h.view }) (record { 0 = h.local }) n v) signed)
    → (p : Place) (i : ℕ) → (slots_of h (record slots { prepare_shares = rows })).shares p i
    ≡ (slots_cuts h (slots_takes (heard_share (Prepare site (record { 0 = h.view }) (record { 0 = h.local }) n v) signed) (slots_of h slots))).shares p i
unfolding slots_of
prepare_heard_at h slots site n v signed rows whole (AtPrepare g l k) i = kept_at_views h.view h.local h.executed g l n.0 k signed.index i _ _ _ (whole k i)
prepare_heard_at h slots site n v signed rows whole (AtProposal g l k) i = proposals_stay h slots g l k i
prepare_heard_at h slots site n v signed rows whole (AtAccept g k) i = accepts_stay h slots g k i

pub prepare_heard : (h : Here) (slots : Slots) (site : SiteId) (n : Number) (v : Value) (signed : Signed) (rows : Rows)
    → Whole h.executed rows slots.prepare_shares n.0 signed.index (share (Prepare site (record { 0 = h.view }) (record { 0 = h.local }) n v) signed)
    → slots_of h (record slots { prepare_shares = rows }) ≡ slots_cuts h (slots_takes (heard_share (Prepare site (record { 0 = h.view }) (record { 0 = h.local }) n v) signed) (slots_of h slots))
unfolding slots_of
prepare_heard h slots site n v signed rows whole =
    λ i. record {
      made = (slots_of h slots).made;
      prepared = (slots_of h slots).prepared;
      accepted = (slots_of h slots).accepted;
      shares = λ p j. (prepare_heard_at h slots site n v signed rows whole p j) i;
    }

proposal_heard_at : (h : Here) (slots : Slots) (site : SiteId) (n : Number) (v : Value) (signed : Signed) (rows : Rows)
    → Whole h.executed rows slots.proposal_shares n.0 signed.index (share (Proposal site (record { 0 = h.view }) (record { 0 = h.local }) n v) signed)
    → (p : Place) (i : ℕ) → (slots_of h (record slots { proposal_shares = rows })).shares p i
    ≡ (slots_cuts h (slots_takes (heard_share (Proposal site (record { 0 = h.view }) (record { 0 = h.local }) n v) signed) (slots_of h slots))).shares p i
unfolding slots_of
proposal_heard_at h slots site n v signed rows whole (AtPrepare g l k) i = prepares_stay h slots g l k i
proposal_heard_at h slots site n v signed rows whole (AtProposal g l k) i = kept_at_views h.view h.local h.executed g l n.0 k signed.index i _ _ _ (whole k i)
proposal_heard_at h slots site n v signed rows whole (AtAccept g k) i = accepts_stay h slots g k i

pub proposal_heard : (h : Here) (slots : Slots) (site : SiteId) (n : Number) (v : Value) (signed : Signed) (rows : Rows)
    → Whole h.executed rows slots.proposal_shares n.0 signed.index (share (Proposal site (record { 0 = h.view }) (record { 0 = h.local }) n v) signed)
    → slots_of h (record slots { proposal_shares = rows }) ≡ slots_cuts h (slots_takes (heard_share (Proposal site (record { 0 = h.view }) (record { 0 = h.local }) n v) signed) (slots_of h slots))
unfolding slots_of
proposal_heard h slots site n v signed rows whole =
    λ i. record {
      made = (slots_of h slots).made;
      prepared = (slots_of h slots).prepared;
      accepted = (slots_of h slots).accepted;
      shares = λ p j. (proposal_heard_at h slots site n v signed rows whole p j) i;
    }

accept_heard_at : (h : Here) (slots : Slots) (site : SiteId) (n : Number) (v : Value) (signed : Signed) (rows : Rows)
    → Whole h.executed rows slots.accept_shares n.0 signed.index (share (Accept site (record { 0 = h.view }) n v) signed)
    → (p : Place) (i : ℕ) → (slots_of h (record slots { accept_shares = rows })).shares p i
    ≡ (slots_cuts h (slots_takes (heard_share (Accept site (record { 0 = h.view }) n v) signed) (slots_of h slots))).shares p i
unfolding slots_of
accept_heard_at h slots site n v signed rows whole (AtPrepare g l k) i = prepares_stay h slots g l k i
accept_heard_at h slots site n v signed rows whole (AtProposal g l k) i = proposals_stay h slots g l k i
accept_heard_at h slots site n v signed rows whole (AtAccept g k) i = kept_at_view h.view h.executed g n.0 k signed.index i _ _ _ (whole k i)

pub accept_heard : (h : Here) (slots : Slots) (site : SiteId) (n : Number) (v : Value) (signed : Signed) (rows : Rows)
    → Whole h.executed rows slots.accept_shares n.0 signed.index (share (Accept site (record { 0 = h.view }) n v) signed)
    → slots_of h (record slots { accept_shares = rows }) ≡ slots_cuts h (slots_takes (heard_share (Accept site (record { 0 = h.view }) n v) signed) (slots_of h slots))
unfolding slots_of
accept_heard h slots site n v signed rows whole =
    λ i. record {
      made = (slots_of h slots).made;
      prepared = (slots_of h slots).prepared;
      accepted = (slots_of h slots).accepted;
      shares = λ p j. (accept_heard_at h slots site n v signed rows whole p j) i;
    }
