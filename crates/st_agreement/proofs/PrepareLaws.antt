-- A value that may stand is safe: what is not covered by a union is closed.
use Rattle.std.proofs.Common.{◌≡◌, ℕ, ◌+◌, ◌*◌, ◌/◌, ◌<◌, ◌≤◌, ◌⊎◌, ◌&&◌, ◌||◌, not, false, IsTrue, List, length, map, sym, ◌∙◌, ap, subst, inl, inr, ⊎_elim, arith, nat_lt, nat_le}
use Rattle.std.proofs.lemmas.List.{length-map}
use Rattle.std.proofs.lemmas.Bool.{leb-true, lt-ltb, and_from, or_cases, or_left, not_from_false, false_from_ne_true, cases_order}
use Rattle.st_words.specs.declared.value.Value.{Value}
use Rattle.st_words.specs.declared.statement.Item.{Item}
use Rattle.st_words.specs.declared.statement.Statement.{Statement}
use Rattle.st_message.specs.declared.change.Change.TheVariants.{Made, Union}
use Rattle.st_counts.specs.Counts.{Has, HasMajority, Found, count, numbers_below}
use Rattle.st_counts.proofs.CountLaws.{count-disjoint}
use Rattle.st_counts.proofs.MemberLaws.{any-found, has-numbers_below, length-numbers_below, map-has}
use Rattle.st_counts.proofs.QuorumLaws.{all_but-majority, all_but-mono, sites-majority}
use Rattle.st_registers.specs.Tests.{Safe}
use Rattle.st_agreement.specs.MiniSteps.{HasMaker, Invariant}
use Rattle.st_agreement.specs.Records.{made_of, unions_of, view_of, local_of}
use Rattle.st_agreement.specs.Rules.{Covers, CoversView, HeldLocal, SiteUnion, HeldSites, ForcedByLocal, FreeOfLocal, ForcedBySites, FollowsSites, MayStand}
use Rattle.st_agreement.specs.Sites.{Sites, AreSites, leader}
use Rattle.st_agreement.specs.Statements.{proposal, accept, local_union, global_union, is_prepare, is_proposal, is_proposal_at, is_accept_at}
use Rattle.st_agreement.specs.Unions.{IsLocalUnion, IsGlobalUnion}
use Rattle.st_agreement.specs.Worlds.{World, has_made, stands, inside, outside, may_accept}
use Rattle.st_agreement.proofs.GrowLaws.{leader-lt}
use Rattle.st_agreement.proofs.HistoryLaws.{made-recorded, union-recorded}
use Rattle.st_agreement.proofs.StatementLaws.{is_proposal_at-true, is_accept_at-true}
use Rattle.st_agreement.proofs.VoiceLaws.{is_proposed-from, prepare-safe_inside, prepare-safe_outside, proposal-prepared}

-- ---- unions that are held are unions

-- a local union that a server holds
pub held-local : (d : Sites) (w : World) (s k l greatest base : ℕ) (items : List Item) → Invariant d w → s < d.sites → Has k (d.correct s) → Has (local_union s l greatest base items) (unions_of (w.records s k)) → IsLocalUnion d w s l greatest base items
held-local d w s k l greatest base items inv exists correct held =
    let t : Statement = local_union s l greatest base items in
    let seen = union-recorded (w.records s k) t held in
    let who : HasMaker d w s t = inv.backed s k exists correct (Union t seen.0) seen.1 in
    let made = made-recorded (w.records s who.server) t who.recorded in
    inv.backed s who.server exists who.correct (Made made.0 t) made.1

-- a site's union that a server holds
pub held-global : (d : Sites) (w : World) (s k q g base : ℕ) (items : List Item) → Invariant d w → s < d.sites → Has k (d.correct s) → q < d.sites → Has (global_union q g base items) (unions_of (w.records s k)) → IsGlobalUnion d w q g base items
held-global d w s k q g base items inv exists correct other held =
    let t : Statement = global_union q g base items in
    let seen = union-recorded (w.records s k) t held in
    let who : HasMaker d w q t = inv.backed s k exists correct (Union t seen.0) seen.1 in
    let made = made-recorded (w.records q who.server) t who.recorded in
    inv.backed q who.server other who.correct (Made made.0 t) made.1

-- ---- inside

-- a reporter's register at a lower local view is closed, where no item covers it
reporter-closed : (d : Sites) (w : World) (s g l n greatest base lower : ℕ) (items : List Item) → Invariant d w → s < d.sites → (union : IsLocalUnion d w s l greatest base items) → greatest ≤ g → base < n → lower < l → ((j : Item) → Has j items → j.number.0 ≡ n → g ≡ j.view.0 → ¬ (lower ≤ j.local.0)) → (k : ℕ) → Has k (d.correct s) → IsTrue (union.reports k) → IsTrue (not (has_made w s (is_proposal_at s g lower n) k) && (nat_lt lower (local_of (w.records s k)) || nat_lt g (view_of (w.records s k))))
reporter-closed d w s g l n greatest base lower items inv exists union usable above below uncovered k correct reported =
    let none : has_made w s (is_proposal_at s g lower n) k ≡ false =
    false_from_ne_true _ (λ has.
    let some : Found (is_proposal_at s g lower n) (w.made s k) = any-found (is_proposal_at s g lower n) (w.made s k) has in
    let which = is_proposal_at-true s g lower n some.element some.passes in
    let recorded : Has (proposal s g lower n which.0) (made_of (w.records s k)) =
    subst (λ (t : Statement). Has t (made_of (w.records s k))) which.1 (inv.recorded s k exists correct some.element some.among) in
    let covered : Covers items n g lower = union.covers k correct reported g lower n which.0 recorded below above in
    let bound : covered.item.view.0 ≤ greatest = union.bounded covered.item covered.among in
    ⊎_elim
    (λ (higher : g < covered.item.view.0). omega arith)
    (λ same. uncovered covered.item covered.among covered.of_number same.0 same.1)
    covered.high) in
    let entered : l ≤ local_of (w.records s k) = union.entered k correct reported in
    and_from _ _ (not_from_false _ none) (or_left (nat_lt lower (local_of (w.records s k))) (nat_lt g (view_of (w.records s k))) (lt-ltb lower (local_of (w.records s k)) (omega arith)))

-- so a majority is closed there
closed-inside : (d : Sites) (w : World) (g l n greatest base lower : ℕ) (items : List Item) → AreSites d → Invariant d w → IsLocalUnion d w (leader d g) l greatest base items → greatest ≤ g → base < n → lower < l → ((j : Item) → Has j items → j.number.0 ≡ n → g ≡ j.view.0 → ¬ (lower ≤ j.local.0)) → HasMajority (inside d w g n).members (λ k. (inside d w g n).closed k lower)
closed-inside d w g l n greatest base lower items sites inv union usable above below uncovered =
    let s : ℕ = leader d g in
    let exists : s < d.sites = leader-lt d g sites in
    all_but-majority (d.faults s) (d.correct s) (λ k. (inside d w g n).closed k lower) (sites.most s exists)
    (all_but-mono (d.faults s) (d.correct s) union.reports (λ k. (inside d w g n).closed k lower)
    (reporter-closed d w s g l n greatest base lower items inv exists union usable above below uncovered) union.many)

-- the Prepare behind an item of the present view
item-prepare : (d : Sites) (w : World) (s g n : ℕ) (v : Value) (i : Item) → i.view.0 ≡ g → i.number.0 ≡ n → i.value ≡ v → IsTrue (stands d w s (is_prepare s i.view.0 i.local.0 i.number.0 i.value)) → IsTrue (stands d w s (is_prepare s g i.local.0 n v))
item-prepare d w s g n v i of_view of_number of_value stand =
    subst (λ (x : Value). IsTrue (stands d w s (is_prepare s g i.local.0 n x))) of_value
    (subst (λ x. IsTrue (stands d w s (is_prepare s g i.local.0 x i.value))) of_number
    (subst (λ x. IsTrue (stands d w s (is_prepare s x i.local.0 i.number.0 i.value))) of_view stand))

-- the Prepare behind the item that forces
forced-prepare : (d : Sites) (w : World) (s k g l n : ℕ) (v : Value) → Invariant d w → s < d.sites → Has k (d.correct s) → (forced : ForcedByLocal s g l n v (w.records s k)) → IsTrue (stands d w s (is_prepare s g forced.item.local.0 n v))
forced-prepare d w s k g l n v inv exists correct forced =
    let held : HeldLocal s g l n (w.records s k) = forced.union in
    let union : IsLocalUnion d w s l held.greatest held.base held.items = held-local d w s k l held.greatest held.base held.items inv exists correct held.held in
    item-prepare d w s g n v forced.item forced.of_view forced.of_number forced.of_value (union.backed forced.item forced.among)

-- a value that the local union forces is safe inside
forced-inside : (d : Sites) (w : World) (k g l n : ℕ) (v : Value) → AreSites d → Invariant d w → Has k (d.correct (leader d g)) → ForcedByLocal (leader d g) g l n v (w.records (leader d g) k) → Safe (inside d w g n) l v
forced-inside d w k g l n v sites inv correct forced lower below =
    let s : ℕ = leader d g in
    let exists : s < d.sites = leader-lt d g sites in
    let held : HeldLocal s g l n (w.records s k) = forced.union in
    let union : IsLocalUnion d w s l held.greatest held.base held.items = held-local d w s k l held.greatest held.base held.items inv exists correct held.held in
    let stand : IsTrue (stands d w s (is_prepare s g forced.item.local.0 n v)) = forced-prepare d w s k g l n v inv exists correct forced in
    ⊎_elim
    (λ same. inl (subst (λ x. IsTrue (stands d w s (is_prepare s g x n v))) (sym same) stand))
    (⊎_elim
    (λ under. prepare-safe_inside d w s g forced.item.local.0 n v sites inv exists stand lower under)
    (λ (over : forced.item.local.0 < lower). inr (closed-inside d w g l n held.greatest held.base lower held.items sites inv union held.usable held.above below
    (λ j among of_number of_view high.
    let one : j ≡ forced.item = union.one j forced.item among forced.among (of_number ∙ sym forced.of_number) in
    let local : j.local.0 ≡ forced.item.local.0 = ap (λ (x : Item). x.local.0) one in
    omega arith))))
    (cases_order lower forced.item.local.0)

-- a value where the local union has none is safe inside
free-inside : (d : Sites) (w : World) (k g l n : ℕ) (v : Value) → AreSites d → Invariant d w → Has k (d.correct (leader d g)) → (l ≡ 0) ⊎ FreeOfLocal (leader d g) g l n (w.records (leader d g) k) → Safe (inside d w g n) l v
free-inside d w k g l n v sites inv correct (inl none) lower below = absurd (omega arith)
free-inside d w k g l n v sites inv correct (inr free) lower below =
    let s : ℕ = leader d g in
    let exists : s < d.sites = leader-lt d g sites in
    let held : HeldLocal s g l n (w.records s k) = free.union in
    let union : IsLocalUnion d w s l held.greatest held.base held.items = held-local d w s k l held.greatest held.base held.items inv exists correct held.held in
    inr (closed-inside d w g l n held.greatest held.base lower held.items sites inv union held.usable held.above below
    (λ j among of_number of_view high. free.free j among of_number (sym of_view)))

-- ---- outside

-- a site is closed at a lower view, where no item of its union covers it
site-closed : (d : Sites) (w : World) (q g n base lower : ℕ) (items : List Item) → AreSites d → Invariant d w → q < d.sites → (union : IsGlobalUnion d w q g base items) → base < n → lower < g → ((j : Item) → Has j items → j.number.0 ≡ n → ¬ (lower ≤ j.view.0)) → IsTrue ((outside d w n).closed q lower)
site-closed d w q g n base lower items sites inv exists union above below uncovered =
    let apart : (k : ℕ) → Has k (d.correct q) → IsTrue (union.reports k) → ¬ IsTrue (may_accept w q lower n k) =
    λ k correct reported may.
    let entered : g ≤ view_of (w.records q k) = union.entered k correct reported in
    ⊎_elim
    (λ low. let view : view_of (w.records q k) ≤ lower = leb-true (view_of (w.records q k)) lower low in omega arith)
    (λ has.
    let some : Found (is_accept_at q lower n) (w.made q k) = any-found (is_accept_at q lower n) (w.made q k) has in
    let which = is_accept_at-true q lower n some.element some.passes in
    let recorded : Has (accept q lower n which.0) (made_of (w.records q k)) =
    subst (λ (t : Statement). Has t (made_of (w.records q k))) which.1 (inv.recorded q k exists correct some.element some.among) in
    let covered : CoversView items n lower = union.covers k correct reported lower n which.0 recorded below above in
    uncovered covered.item covered.among covered.of_number covered.high)
    (or_cases (nat_le (view_of (w.records q k)) lower) (has_made w q (is_accept_at q lower n) k) may) in
    let few : count union.reports (d.correct q) + count (may_accept w q lower n) (d.correct q) ≤ length (d.correct q) =
    count-disjoint union.reports (may_accept w q lower n) (d.correct q) apart in
    let most : 2 * d.faults q < length (d.correct q) = sites.most q exists in
    let many : length (d.correct q) ≤ d.faults q + count union.reports (d.correct q) = union.many in
    lt-ltb (d.faults q + count (may_accept w q lower n) (d.correct q)) (length (d.correct q)) (omega arith)

-- so a majority of sites is closed there
closed-outside : (d : Sites) (w : World) (s k g n lower : ℕ) → AreSites d → Invariant d w → s < d.sites → Has k (d.correct s) → (held : HeldSites d g n (w.records s k)) → lower < g → ((u : SiteUnion) (j : Item) → Has u held.unions → Has j u.items → j.number.0 ≡ n → ¬ (lower ≤ j.view.0)) → HasMajority (outside d w n).members (λ q. (outside d w n).closed q lower)
closed-outside d w s k g n lower sites inv exists correct held below uncovered =
    let named : List ℕ = map (λ (u : SiteUnion). u.site) held.unions in
    let many : length (numbers_below d.sites) / 2 + 1 ≤ length named =
    subst (λ m. m / 2 + 1 ≤ length named) (sym (length-numbers_below d.sites)) (subst (λ m. d.sites / 2 + 1 ≤ m) (sym (length-map held.unions (λ (u : SiteUnion). u.site))) held.many) in
    sites-majority (λ q. (outside d w n).closed q lower) (numbers_below d.sites) named held.distinct
    (λ q among. let u = map-has (λ (x : SiteUnion). x.site) q held.unions among in
    has-numbers_below q d.sites (subst (λ x. x < d.sites) u.1.1 (held.within u.0 u.1.0)))
    many
    (λ q among. let u = map-has (λ (x : SiteUnion). x.site) q held.unions among in
    subst (λ x. IsTrue ((outside d w n).closed x lower)) u.1.1
    (site-closed d w u.0.site g n u.0.base lower u.0.items sites inv (held.within u.0 u.1.0)
    (held-global d w s k u.0.site g u.0.base u.0.items inv exists correct (held.within u.0 u.1.0) (held.held u.0 u.1.0))
    (held.above u.0 u.1.0) below (λ j item_among of_number high. uncovered u.0 j u.1.0 item_among of_number high)))

-- the Proposal behind an item
item-proposal : (d : Sites) (w : World) (n : ℕ) (v : Value) (i : Item) → i.number.0 ≡ n → i.value ≡ v → IsTrue (stands d w (leader d i.view.0) (is_proposal (leader d i.view.0) i.view.0 i.local.0 i.number.0 i.value)) → IsTrue (stands d w (leader d i.view.0) (is_proposal (leader d i.view.0) i.view.0 i.local.0 n v))
item-proposal d w n v i of_number of_value stand =
    subst (λ (x : Value). IsTrue (stands d w (leader d i.view.0) (is_proposal (leader d i.view.0) i.view.0 i.local.0 n x))) of_value
    (subst (λ x. IsTrue (stands d w (leader d i.view.0) (is_proposal (leader d i.view.0) i.view.0 i.local.0 x i.value))) of_number stand)

-- a value that the site unions force is safe outside
forced-outside : (d : Sites) (w : World) (s k g n : ℕ) (v : Value) → AreSites d → Invariant d w → s < d.sites → Has k (d.correct s) → (held : HeldSites d g n (w.records s k)) → ForcedBySites n v held.unions → Safe (outside d w n) g v
forced-outside d w s k g n v sites inv exists correct held forced lower below =
    let i : Item = forced.item in
    let q : ℕ = leader d i.view.0 in
    let union : IsGlobalUnion d w forced.union.site g forced.union.base forced.union.items =
    held-global d w s k forced.union.site g forced.union.base forced.union.items inv exists correct (held.within forced.union forced.among) (held.held forced.union forced.among) in
    let stand : IsTrue (stands d w q (is_proposal q i.view.0 i.local.0 n v)) = item-proposal d w n v i forced.of_number forced.of_value (union.backed i forced.item_among) in
    ⊎_elim
    (λ same. inl (subst (λ x. IsTrue ((outside d w n).proposed x v)) (sym same) (is_proposed-from d w n i.view.0 i.local.0 v sites stand)))
    (⊎_elim
    (λ under. prepare-safe_outside d w q i.view.0 i.local.0 n v sites inv (leader-lt d i.view.0 sites)
    (proposal-prepared d w q i.view.0 i.local.0 n v sites inv (leader-lt d i.view.0 sites) stand) lower under)
    (λ (over : i.view.0 < lower). inr (closed-outside d w s k g n lower sites inv exists correct held below
    (λ u j among item_among of_number high. let most : j.view.0 ≤ i.view.0 = forced.highest u j among item_among of_number in omega arith))))
    (cases_order lower i.view.0)

-- a value that follows the site unions is safe outside
follows-outside : (d : Sites) (w : World) (s k g n : ℕ) (v : Value) → AreSites d → Invariant d w → s < d.sites → Has k (d.correct s) → FollowsSites d g n v (w.records s k) → Safe (outside d w n) g v
follows-outside d w s k g n v sites inv exists correct (inl none) = λ lower (below : lower < g). absurd (omega arith)
follows-outside d w s k g n v sites inv exists correct (inr follows) =
    ⊎_elim
    (λ forced. forced-outside d w s k g n v sites inv exists correct follows.0 forced)
    (λ free lower below. inr (closed-outside d w s k g n lower sites inv exists correct follows.0 below (λ u j among item_among of_number high. free u j among item_among of_number)))
    follows.1

-- ---- both

-- a value that may stand is safe inside
pub may_stand-inside : (d : Sites) (w : World) (k g l n : ℕ) (v : Value) → AreSites d → Invariant d w → Has k (d.correct (leader d g)) → MayStand d (leader d g) g l n v (w.records (leader d g) k) → Safe (inside d w g n) l v
may_stand-inside d w k g l n v sites inv correct (inl forced) = forced-inside d w k g l n v sites inv correct forced
may_stand-inside d w k g l n v sites inv correct (inr free) = free-inside d w k g l n v sites inv correct free.0

-- and outside
pub may_stand-outside : (d : Sites) (w : World) (s k g l n : ℕ) (v : Value) → AreSites d → Invariant d w → s < d.sites → Has k (d.correct s) → MayStand d s g l n v (w.records s k) → Safe (outside d w n) g v
may_stand-outside d w s k g l n v sites inv exists correct (inl forced) =
    prepare-safe_outside d w s g forced.item.local.0 n v sites inv exists (forced-prepare d w s k g l n v inv exists correct forced)
may_stand-outside d w s k g l n v sites inv exists correct (inr free) = follows-outside d w s k g n v sites inv exists correct free.1
