-- Laws on the slots' answers.
use Rattle.std.proofs.Common.{◌≡◌, ◌∙◌, ap, sym, ℕ, ◌+◌, ◌<◌, ◌≤◌, Bool, true, false, cond, nat_eq, nat_lt, nat_le, ◌&&◌, Option, Some, None, List, refl, arith}
use Rattle.std.proofs.lemmas.Bool.{eqb-true}
use Rattle.st_words.specs.declared.ids.SiteId.{SiteId}
use Rattle.st_words.specs.declared.ids.View.{View}
use Rattle.st_words.specs.declared.ids.LocalView.{LocalView}
use Rattle.st_words.specs.declared.ids.Number.{Number}
use Rattle.st_words.specs.declared.value.Value.{Value}
use Rattle.st_words.specs.declared.statement.Statement.{Statement}
use Rattle.st_words.specs.declared.statement.Statement.TheVariants.{Prepare, Proposal, Accept}
use Rattle.st_message.specs.declared.change.Change.TheVariants.{Made, Prepared, Accepted}
use Rattle.st_tables.specs.Window.{kept}
use Rattle.st_protocol.specs.Words.{Quorum}
use Rattle.st_protocol.specs.Keeping.{open_if, or_else, higher}
use Rattle.st_protocol.specs.State as slots_state
use Rattle.st_protocol.specs.State.{backed_view, backed_local}
use Rattle.st_protocol.specs.State.{open_place, Place, AtPrepare, AtProposal, AtAccept, Here, Sealing, Backed}
use Rattle.st_protocol.specs.Growth.{slots_notes}
use Rattle.st_state.specs.declared.slots.Slots.{Slots}
use Rattle.st_state.specs.Placed.{is_at}
use Rattle.st_state.specs.Writes.{Puts, PutsFirst}
use Rattle.st_state.specs.SlotsView.{slots_of, made_at, shares_at}

-- ---- one entry

-- nothing is kept of a number that isn't above the window's base
pub kept_low : {A : Type 0} (e : ℕ) (xs : List (Option A)) (k : ℕ) → k ≤ e → kept e xs k ≡ None
unfolding kept
kept_low e xs k low = grind (arith, low)

-- the lower bound of what is kept needs no second test
kept_stays : {A : Type 0} (e : ℕ) (xs : List (Option A)) (k : ℕ) → kept e xs k ≡ open_if (nat_lt e k) (kept e xs k)
kept_stays e xs k = let low = kept_low e xs k in grind (arith, low)

-- of two kept values, where there is only one
higher_alone : (x : Option Backed) → higher backed_view backed_local x None ≡ x
higher_alone None = refl
higher_alone (Some x) = refl

pub or_else_alone : {A : Type 0} (x : Option A) → or_else x None ≡ x
or_else_alone None = refl
or_else_alone (Some x) = refl

-- of what is put at a number, the first stays
put_kept : {A : Type 0} (e n k : ℕ) (new old here : Option A) (x : A)
    → new ≡ cond (nat_eq n k) (or_else here (Some x)) old → e < n → (n ≡ k → here ≡ old) → (k ≤ e → old ≡ None)
    → new ≡ open_if (nat_lt e k) (or_else old (cond (nat_eq k n) (Some x) None))
put_kept e n k new old here x put above same low = let alone = or_else_alone old in grind (arith, put, above, same, low, alone)

-- and so at the present views
put_at_views : {A : Type 0} (view local e g l n k : ℕ) (new old here : Option A) (x : A)
    → new ≡ cond (nat_eq n k) (or_else here (Some x)) old → e < n → (n ≡ k → here ≡ old) → (k ≤ e → old ≡ None)
    → open_if (nat_eq view g && nat_eq local l) new
    ≡ open_if (nat_le view g && nat_le local l && nat_lt e k)
    (or_else (open_if (nat_eq view g && nat_eq local l) old) (cond (nat_eq g view && nat_eq l local && nat_eq k n) (Some x) None))
put_at_views view local e g l n k new old here x put above same low =
    let whole = put_kept e n k new old here x put above same low in
    by_test (nat_eq view g) (nat_eq local l) refl refl whole
  where
    by_test : (b c : Bool) → nat_eq view g ≡ b → nat_eq local l ≡ c → new ≡ open_if (nat_lt e k) (or_else old (cond (nat_eq k n) (Some x) None))
        → open_if (nat_eq view g && nat_eq local l) new
        ≡ open_if (nat_le view g && nat_le local l && nat_lt e k)
        (or_else (open_if (nat_eq view g && nat_eq local l) old) (cond (nat_eq g view && nat_eq l local && nat_eq k n) (Some x) None))
    by_test true true eb ec whole = let sg : view ≡ g = eqb-true view g eb in let sl : local ≡ l = eqb-true local l ec in grind (arith, sg, sl, whole)
    by_test true false eb ec whole = grind (arith, eb, ec)
    by_test false c eb ec whole = grind (arith, eb)

put_at_view : {A : Type 0} (view e g n k : ℕ) (new old here : Option A) (x : A)
    → new ≡ cond (nat_eq n k) (or_else here (Some x)) old → e < n → (n ≡ k → here ≡ old) → (k ≤ e → old ≡ None)
    → open_if (nat_eq view g) new
    ≡ open_if (nat_le view g && nat_lt e k) (or_else (open_if (nat_eq view g) old) (cond (nat_eq g view && nat_eq k n) (Some x) None))
put_at_view view e g n k new old here x put above same low =
    let whole = put_kept e n k new old here x put above same low in
    by_test (nat_eq view g) refl whole
  where
    by_test : (b : Bool) → nat_eq view g ≡ b → new ≡ open_if (nat_lt e k) (or_else old (cond (nat_eq k n) (Some x) None))
        → open_if (nat_eq view g) new
        ≡ open_if (nat_le view g && nat_lt e k) (or_else (open_if (nat_eq view g) old) (cond (nat_eq g view && nat_eq k n) (Some x) None))
    by_test true eb whole = let sg : view ≡ g = eqb-true view g eb in grind (arith, sg, whole)
    by_test false eb whole = grind (arith, eb)

-- what stays at the present views
pub stays_at_views : {A : Type 0} (view local e g l k : ℕ) (old : Option A) → (k ≤ e → old ≡ None)
    → open_if (nat_eq view g && nat_eq local l) old
    ≡ open_if (nat_le view g && nat_le local l && nat_lt e k) (or_else (open_if (nat_eq view g && nat_eq local l) old) None)
stays_at_views view local e g l k old low = let alone = or_else_alone old in grind (arith, low, alone)

pub stays_at_view : {A : Type 0} (view e g k : ℕ) (old : Option A) → (k ≤ e → old ≡ None)
    → open_if (nat_eq view g) old ≡ open_if (nat_le view g && nat_lt e k) (or_else (open_if (nat_eq view g) old) None)
stays_at_view view e g k old low = let alone = or_else_alone old in grind (arith, low, alone)

-- ---- a statement is made

-- the shares don't change when a statement is made
pub shares_stay : (leaf : ℕ) (h : Here) (slots : Slots) (p : Place) (i : ℕ) → shares_at (record h { leaf = leaf }) slots p i ≡ shares_at h slots p i
shares_stay leaf h slots (AtPrepare g l n) i = refl
shares_stay leaf h slots (AtProposal g l n) i = refl
shares_stay leaf h slots (AtAccept g n) i = refl

same_entry : {A : Type 0} (e : ℕ) (xs : List (Option A)) (n k : ℕ) → n ≡ k → kept e xs n ≡ kept e xs k
same_entry e xs n k = ap (kept e xs)

-- what doesn't change when a statement is made
pub prepared_stays : (e : ℕ) (xs : List (Option Backed)) (k : ℕ) → kept e xs k ≡ open_if (nat_lt e k) (higher backed_view backed_local (kept e xs k) None)
prepared_stays e xs k = kept_stays e xs k ∙ ap (open_if (nat_lt e k)) (sym (higher_alone (kept e xs k)))

prepares_stay : (h : Here) (slots : Slots) (g l k : ℕ) → open_if (is_at h g l) (kept h.executed slots.prepares k)
    ≡ open_if (nat_le h.view g && nat_le h.local l && nat_lt h.executed k) (or_else (open_if (is_at h g l) (kept h.executed slots.prepares k)) None)
prepares_stay h slots g l k = stays_at_views h.view h.local h.executed g l k (kept h.executed slots.prepares k) (kept_low h.executed slots.prepares k)

proposals_stay : (h : Here) (slots : Slots) (g l k : ℕ) → open_if (is_at h g l) (kept h.executed slots.proposals k)
    ≡ open_if (nat_le h.view g && nat_le h.local l && nat_lt h.executed k) (or_else (open_if (is_at h g l) (kept h.executed slots.proposals k)) None)
proposals_stay h slots g l k = stays_at_views h.view h.local h.executed g l k (kept h.executed slots.proposals k) (kept_low h.executed slots.proposals k)

accepts_stay : (h : Here) (slots : Slots) (g k : ℕ) → open_if (nat_eq h.view g) (kept h.executed slots.accepts k)
    ≡ open_if (nat_le h.view g && nat_lt h.executed k) (or_else (open_if (nat_eq h.view g) (kept h.executed slots.accepts k)) None)
accepts_stay h slots g k = stays_at_view h.view h.executed g k (kept h.executed slots.accepts k) (kept_low h.executed slots.accepts k)

-- the answers after a statement of a present slot is made, and those of slots that note it
abbrev after_made : Here → Slots → slots_state.Slots
after_made h slots = slots_of (record h { leaf = h.leaf + 1 }) slots

abbrev noting : Here → ℕ → Statement → Slots → slots_state.Slots
noting h leaf s slots = slots_notes (record h { leaf = h.leaf + 1 }) (Made leaf s) (slots_of h slots)

-- a Prepare, a Proposal or an Accept of a number of the window is made at the present views
prepare_made_at : (h : Here) (slots : Slots) (leaf : ℕ) (site : SiteId) (n : Number) (v : Value) (ring : List (Option Sealing)) → h.executed < n.0
    → PutsFirst h.executed slots.prepares ring n.0 (record { leaf = leaf; statement = Prepare site (record { 0 = h.view }) (record { 0 = h.local }) n v })
    → (p : Place) → (after_made h (record slots { prepares = ring })).made p ≡ (noting h leaf (Prepare site (record { 0 = h.view }) (record { 0 = h.local }) n v) slots).made p
unfolding slots_of
prepare_made_at h slots leaf site n v ring above put (AtPrepare g l k) =
    put_at_views h.view h.local h.executed g l n.0 k (kept h.executed ring k) (kept h.executed slots.prepares k) (kept h.executed slots.prepares n.0) _ (put k) above (same_entry h.executed slots.prepares n.0 k) (kept_low h.executed slots.prepares k)
prepare_made_at h slots leaf site n v ring above put (AtProposal g l k) = proposals_stay h slots g l k
prepare_made_at h slots leaf site n v ring above put (AtAccept g k) = accepts_stay h slots g k

pub prepare_made : (h : Here) (slots : Slots) (leaf : ℕ) (site : SiteId) (n : Number) (v : Value) (ring : List (Option Sealing)) → h.executed < n.0
    → PutsFirst h.executed slots.prepares ring n.0 (record { leaf = leaf; statement = Prepare site (record { 0 = h.view }) (record { 0 = h.local }) n v })
    → after_made h (record slots { prepares = ring }) ≡ noting h leaf (Prepare site (record { 0 = h.view }) (record { 0 = h.local }) n v) slots
unfolding slots_of
prepare_made h slots leaf site n v ring above put =
    λ i. record {
      made = λ p. (prepare_made_at h slots leaf site n v ring above put p) i;
      prepared = λ k. (prepared_stays h.executed slots.prepared k) i;
      accepted = λ k. (prepared_stays h.executed slots.accepted k) i;
      shares = λ p j. (shares_stay (h.leaf + 1) h slots p j) i;
    }

proposal_made_at : (h : Here) (slots : Slots) (leaf : ℕ) (site : SiteId) (n : Number) (v : Value) (ring : List (Option Sealing)) → h.executed < n.0
    → PutsFirst h.executed slots.proposals ring n.0 (record { leaf = leaf; statement = Proposal site (record { 0 = h.view }) (record { 0 = h.local }) n v })
    → (p : Place) → (after_made h (record slots { proposals = ring })).made p ≡ (noting h leaf (Proposal site (record { 0 = h.view }) (record { 0 = h.local }) n v) slots).made p
unfolding slots_of
proposal_made_at h slots leaf site n v ring above put (AtPrepare g l k) = prepares_stay h slots g l k
proposal_made_at h slots leaf site n v ring above put (AtProposal g l k) =
    put_at_views h.view h.local h.executed g l n.0 k (kept h.executed ring k) (kept h.executed slots.proposals k) (kept h.executed slots.proposals n.0) _ (put k) above (same_entry h.executed slots.proposals n.0 k) (kept_low h.executed slots.proposals k)
proposal_made_at h slots leaf site n v ring above put (AtAccept g k) = accepts_stay h slots g k

pub proposal_made : (h : Here) (slots : Slots) (leaf : ℕ) (site : SiteId) (n : Number) (v : Value) (ring : List (Option Sealing)) → h.executed < n.0
    → PutsFirst h.executed slots.proposals ring n.0 (record { leaf = leaf; statement = Proposal site (record { 0 = h.view }) (record { 0 = h.local }) n v })
    → after_made h (record slots { proposals = ring }) ≡ noting h leaf (Proposal site (record { 0 = h.view }) (record { 0 = h.local }) n v) slots
unfolding slots_of
proposal_made h slots leaf site n v ring above put =
    λ i. record {
      made = λ p. (proposal_made_at h slots leaf site n v ring above put p) i;
      prepared = λ k. (prepared_stays h.executed slots.prepared k) i;
      accepted = λ k. (prepared_stays h.executed slots.accepted k) i;
      shares = λ p j. (shares_stay (h.leaf + 1) h slots p j) i;
    }

accept_made_at : (h : Here) (slots : Slots) (leaf : ℕ) (site : SiteId) (n : Number) (v : Value) (ring : List (Option Sealing)) → h.executed < n.0
    → PutsFirst h.executed slots.accepts ring n.0 (record { leaf = leaf; statement = Accept site (record { 0 = h.view }) n v })
    → (p : Place) → (after_made h (record slots { accepts = ring })).made p ≡ (noting h leaf (Accept site (record { 0 = h.view }) n v) slots).made p
unfolding slots_of
accept_made_at h slots leaf site n v ring above put (AtPrepare g l k) = prepares_stay h slots g l k
accept_made_at h slots leaf site n v ring above put (AtProposal g l k) = proposals_stay h slots g l k
accept_made_at h slots leaf site n v ring above put (AtAccept g k) =
    put_at_view h.view h.executed g n.0 k (kept h.executed ring k) (kept h.executed slots.accepts k) (kept h.executed slots.accepts n.0) _ (put k) above (same_entry h.executed slots.accepts n.0 k) (kept_low h.executed slots.accepts k)

pub accept_made : (h : Here) (slots : Slots) (leaf : ℕ) (site : SiteId) (n : Number) (v : Value) (ring : List (Option Sealing)) → h.executed < n.0
    → PutsFirst h.executed slots.accepts ring n.0 (record { leaf = leaf; statement = Accept site (record { 0 = h.view }) n v })
    → after_made h (record slots { accepts = ring }) ≡ noting h leaf (Accept site (record { 0 = h.view }) n v) slots
unfolding slots_of
accept_made h slots leaf site n v ring above put =
    λ i. record {
      made = λ p. (accept_made_at h slots leaf site n v ring above put p) i;
      prepared = λ k. (prepared_stays h.executed slots.prepared k) i;
      accepted = λ k. (prepared_stays h.executed slots.accepted k) i;
      shares = λ p j. (shares_stay (h.leaf + 1) h slots p j) i;
    }

-- ---- an item is noted

-- of what is put at a number, the higher stays
higher_kept : (e n k : ℕ) (new old here : Option Backed) (x : Backed)
    → new ≡ cond (nat_eq n k) (higher backed_view backed_local here (Some x)) old → (n ≡ k → here ≡ old) → e < n → (k ≤ e → old ≡ None)
    → new ≡ open_if (nat_lt e k) (higher backed_view backed_local old (cond (nat_eq n k) (Some x) None))
higher_kept e n k new old here x put same above low = by_test (nat_eq n k) refl
  where
    by_test : (b : Bool) → nat_eq n k ≡ b → new ≡ open_if (nat_lt e k) (higher backed_view backed_local old (cond (nat_eq n k) (Some x) None))
    by_test true eb =
        let nk : n ≡ k = eqb-true n k eb in
        let is : new ≡ higher backed_view backed_local here (Some x) = put ∙ ap (λ c. cond c (higher backed_view backed_local here (Some x)) old) eb in
        let in_reach : nat_lt e k ≡ true = grind (arith, nk, above) in
        rw eb (rw in_reach (is ∙ ap (λ o. higher backed_view backed_local o (Some x)) (same nk)))
    by_test false eb =
        let is : new ≡ old = put ∙ ap (λ c. cond c (higher backed_view backed_local here (Some x)) old) eb in
        let alone = higher_alone old in
        rw eb (rw alone (grind (arith, is, low)))

pub made_stays_at : (h : Here) (slots : Slots) (p : Place) → made_at h slots p ≡ open_if (open_place h p) (or_else (made_at h slots p) None)
made_stays_at h slots (AtPrepare g l k) = prepares_stay h slots g l k
made_stays_at h slots (AtProposal g l k) = proposals_stay h slots g l k
made_stays_at h slots (AtAccept g k) = accepts_stay h slots g k

abbrev HigherPut : ℕ → List (Option Backed) → List (Option Backed) → ℕ → Backed → Type 0
HigherPut e old new n x = Puts e old new n (higher backed_view backed_local (kept e old n) (Some x))

-- a Prepare of a number of the window was prepared
pub prepared_noted : (h : Here) (slots : Slots) (site : SiteId) (view : View) (local : LocalView) (n : Number) (v : Value) (q : Quorum) (ring : List (Option Backed)) → h.executed < n.0
    → HigherPut h.executed slots.prepared ring n.0 (record { view = view.0; local = local.0; value = v; quorum = q })
    → slots_of h (record slots { prepared = ring }) ≡ slots_notes h (Prepared (Prepare site view local n v) q) (slots_of h slots)
unfolding slots_of
prepared_noted h slots site view local n v q ring above put =
    λ i. record {
      made = λ p. (made_stays_at h slots p) i;
      prepared = λ k. (higher_kept h.executed n.0 k _ _ _ _ (put k) (ap (kept h.executed slots.prepared)) above (kept_low h.executed slots.prepared k)) i;
      accepted = λ k. (prepared_stays h.executed slots.accepted k) i;
      shares = (slots_of h slots).shares;
    }

-- a Proposal of a number of the window was accepted
pub accepted_noted : (h : Here) (slots : Slots) (site : SiteId) (view : View) (local : LocalView) (n : Number) (v : Value) (q : Quorum) (ring : List (Option Backed)) → h.executed < n.0
    → HigherPut h.executed slots.accepted ring n.0 (record { view = view.0; local = local.0; value = v; quorum = q })
    → slots_of h (record slots { accepted = ring }) ≡ slots_notes h (Accepted (Proposal site view local n v) q) (slots_of h slots)
unfolding slots_of
accepted_noted h slots site view local n v q ring above put =
    λ i. record {
      made = λ p. (made_stays_at h slots p) i;
      prepared = λ k. (prepared_stays h.executed slots.prepared k) i;
      accepted = λ k. (higher_kept h.executed n.0 k _ _ _ _ (put k) (ap (kept h.executed slots.accepted)) above (kept_low h.executed slots.accepted k)) i;
      shares = (slots_of h slots).shares;
    }
