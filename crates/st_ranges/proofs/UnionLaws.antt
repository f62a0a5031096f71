-- Bundles of reports, and their unions, are in range.
use Rattle.std.proofs.Common.{◌≡◌, refl, sym, subst, ℕ, ◌+◌, ◌-◌, ◌*◌, ◌^◌, ◌<◌, ◌≤◌, Bool, true, false, cond, zero, suc, nat_eq, nat_le, List, [], ◌∷◌, ◌++◌, append-nil, arith}
use Rattle.std.specs.Prelude.{max, Option, Some, None, is_some, length}
use Rattle.std.specs.Option.{IfSome}
use Rattle.std.specs.List.{AllByRecursion as Each}
use Rattle.std.proofs.lemmas.Bool.{eqb-true, leb-true}
use Rattle.std.proofs.lemmas.List.{length-append}
use Rattle.std.proofs.lemmas.List.Elements.{All-from_recursion, recursion_from_All}
use Rattle.st_fields.specs.Spelling.{KeepsEach}
use Rattle.st_words.specs.declared.statement.Item.{Item}
use Rattle.st_words.specs.declared.statement.Statement.{Statement}
use Rattle.st_words.specs.declared.statement.Statement.TheVariants.{LocalReport, GlobalReport}
use Rattle.st_words.specs.declared.limits.ItemLimits.{ItemLimits}
use Rattle.st_words.specs.declared.limits.ReportBounds.{ReportBounds}
use Rattle.st_words.specs.Ranges.{most_base, KeepsItem, after_item, limits_above, KeepsStatement, KeepsBounds, after_report, FitsItem, FitsStatement}
use Rattle.st_message.specs.declared.message.ReportBody.{ReportBody}
use Rattle.st_message.specs.declared.message.Message.TheVariants as messages
use Rattle.st_wire.specs.declared.report.Bundled.{Bundled}
use Rattle.st_wire.specs.Ranges.{KeepsBacked, KeepsReport, any_body, after_body, FitsReport}
use Rattle.st_protocol.specs.Words.{site_of, index_of}
use Rattle.st_protocol.specs.State.{Term, OfLocal, OfGlobal, at_report, Here}
use Rattle.st_protocol.specs.Step.{count_below, all_below, to_list, servers, quorum}
use Rattle.st_protocol.specs.Forced.{item_at}
use Rattle.st_protocol.specs.Collecting.{reports_kept, view_in, base_in, items_in, most, best_item, union_items, union_as, union}
use Rattle.st_ranges.specs.Ranges.{ValueInRange, StatementInRange, MessageInRange}
use Rattle.st_ranges.proofs.ChoiceLaws.{append_all, best_item_has}
use Rattle.st_ranges.proofs.RisingLaws.{each_weaker, as_many}
use Rattle.st_ranges.proofs.StateLaws.{Top, ReportAt}
use Rattle.st_ranges.proofs.ReportLaws.{AtMostItem, WindowItems, window_below}

-- ---- bundles

-- a report of this term and site, below an index
abbrev ReportBelow : Top → Term → ℕ → ReportBody → Type 0
ReportBelow top term k r = KeepsBacked r × FitsReport r × (site_of r.statement ≡ top.site) × (at_report term r.statement ≡ true) × (index_of r.statement < k)

-- behind a local report, one of its site and local view, with a greater index
after_local : (b : ReportBounds) (l site k : ℕ) (x s : Statement) → at_report (OfLocal l) x ≡ true → site_of x ≡ site → index_of x < k → at_report (OfLocal l) s ≡ true → site_of s ≡ site →
    index_of s ≡ k → KeepsStatement s → KeepsBounds (after_report b x) s
after_local b l site k (LocalReport sx lx ix gx bx isx) (LocalReport ss ls is gs bs iss) ex hx less es hs at keeps =
    let a : l ≡ lx.0 = eqb-true l lx.0 ex in
    let c : l ≡ ls.0 = eqb-true l ls.0 es in
    let positive : 1 ≤ ls.0 = keeps.0 in
    (refl, (omega (arith, hx, hs), omega (arith, hx, hs)), omega (arith, a, c, positive), omega (arith, a, c), omega (arith, less, at))
after_local b l site k (LocalReport sx lx ix gx bx isx) _ ex hx less es hs at keeps = absurd (let no : false ≡ true = es in cc)
after_local b l site k _ s ex hx less es hs at keeps = absurd (let no : false ≡ true = ex in cc)

-- so of a view
after_global : (b : ReportBounds) (g site k : ℕ) (x s : Statement) → at_report (OfGlobal g) x ≡ true → site_of x ≡ site → index_of x < k → at_report (OfGlobal g) s ≡ true → site_of s ≡ site →
    index_of s ≡ k → KeepsStatement s → KeepsBounds (after_report b x) s
after_global b g site k (GlobalReport sx gx ix bx isx) (GlobalReport ss gs is bs iss) ex hx less es hs at keeps =
    let a : g ≡ gx.0 = eqb-true g gx.0 ex in
    let c : g ≡ gs.0 = eqb-true g gs.0 es in
    let positive : 1 ≤ gs.0 = keeps.0 in
    (refl, (omega (arith, hx, hs), omega (arith, hx, hs)), omega (arith, a, c, positive), omega (arith, a, c), omega (arith, less, at))
after_global b g site k (GlobalReport sx gx ix bx isx) _ ex hx less es hs at keeps = absurd (let no : false ≡ true = es in cc)
after_global b g site k _ s ex hx less es hs at keeps = absurd (let no : false ≡ true = ex in cc)

-- either
after_same : (b : ReportBounds) (term : Term) (site k : ℕ) (x s : Statement) → at_report term x ≡ true → site_of x ≡ site → index_of x < k → at_report term s ≡ true → site_of s ≡ site →
    index_of s ≡ k → KeepsStatement s → KeepsBounds (after_report b x) s
after_same b (OfLocal l) site k x s ex hx less es hs at keeps = after_local b l site k x s ex hx less es hs at keeps
after_same b (OfGlobal g) site k x s ex hx less es hs at keeps = after_global b g site k x s ex hx less es hs at keeps

module _ (top : Top) (term : Term) where
  -- one more report, of a greater index
  reports_last : (b : Bundled) (rs : List ReportBody) (r : ReportBody) (k : ℕ) → KeepsBounds b.bounds r.statement → ReportAt top term k r → Each (ReportBelow top term k) rs →
      KeepsEach KeepsReport after_body b rs → KeepsEach KeepsReport after_body b (rs ++ r ∷ [])
  reports_last b [] r k bounds at below h = ((bounds, at.0.0.1), tt)
  reports_last b (x ∷ xs) r k bounds at below h = (
    h.0,
    reports_last (after_body b x) xs r k
        (after_same b.bounds term top.site k x.statement r.statement below.0.3 below.0.2 below.0.4 at.2 at.1 at.3 at.0.0.1.0) at below.1 h.1,
  )

  -- What is gathered of the servers below a number.
  record Reports (k : ℕ) (rs : List ReportBody) : Type 0 where
    pub keeps : KeepsEach KeepsReport after_body any_body rs
    pub below : Each (ReportBelow top term k) rs
    pub short : length rs ≤ k

  -- a greater number
  below_more : (k : ℕ) (rs : List ReportBody) → Each (ReportBelow top term k) rs → Each (ReportBelow top term (suc k)) rs
  below_more k rs h =
      each_weaker (ReportBelow top term k) (ReportBelow top term (suc k)) (λ r g. let less : index_of r.statement < k = g.4 in (g.0, g.1, g.2, g.3, omega (arith, less))) rs h

  -- one server more
  reports_more : (k : ℕ) (rs : List ReportBody) (x : Option ReportBody) → IfSome x (ReportAt top term k) → Reports k rs → Reports (suc k) (rs ++ to_list x)
  reports_more k rs None at h =
      subst (Reports (suc k)) (sym (append-nil rs)) (record { keeps = h.keeps; below = below_more k rs h.below; short = omega (arith, h.short) })
  reports_more k rs (Some r) at h =
      let size : length (rs ++ r ∷ []) ≡ length rs + 1 = length-append rs (r ∷ []) in
      let index : index_of r.statement ≡ k = at.3 in
      record {
        keeps = reports_last any_body rs r k at.0.0.0 at h.below h.keeps;
        below = append_all (ReportBelow top term (suc k)) rs (r ∷ []) (below_more k rs h.below) ((at.0.0.1, at.0.1, at.1, at.2, omega (arith, index)), tt);
        short = omega (arith, size, h.short);
      }

  -- all servers
  reports_below : (kept : ℕ → Option ReportBody) (k : ℕ) → ((i : ℕ) → IfSome (kept i) (ReportAt top term i)) → Reports k (all_below (λ i. to_list (kept i)) k)
  unfolding all_below
  reports_below kept zero all = record { keeps = tt; below = tt; short = omega arith }
  reports_below kept (suc k) all = reports_more k (all_below (λ i. to_list (kept i)) k) (kept k) (all k) (reports_below kept k all)

  -- A bundle of a quorum of kept reports.
  pub bundle_in_range : (here : Here) (kept : ℕ → Option ReportBody) → 3 * here.seat.f + 1 < 2 ^ 8 → ((i : ℕ) → IfSome (kept i) (ReportAt top term i)) →
      nat_le (quorum here) (reports_kept here kept) ≡ true → MessageInRange (messages.Bundle (all_below (λ i. to_list (kept i)) (servers here)))
  bundle_in_range here kept few all done =
      let rs : List ReportBody = all_below (λ i. to_list (kept i)) (servers here) in
      let r : Reports (servers here) rs = reports_below kept (servers here) all in
      let size : length rs ≡ count_below (λ i. is_some (kept i)) (servers here) = as_many (λ i. to_list (kept i)) (λ i. is_some (kept i)) (λ i. one (kept i)) (servers here) in
      let enough : quorum here ≤ count_below (λ i. is_some (kept i)) (servers here) = leb-true (quorum here) (count_below (λ i. is_some (kept i)) (servers here)) done in (
        ((omega (arith, size, enough), omega (arith, r.short, few)), r.keeps),
        All-from_recursion FitsReport rs (each_weaker (ReportBelow top term (servers here)) FitsReport (λ x g. g.1) rs r.below),
      )
    where
      one : (x : Option ReportBody) → length {A = ReportBody} (to_list x) ≡ cond (is_some x) 1 0
      one None = refl
      one (Some y) = refl

-- ---- the items of a bundle

-- an item of no later view, with its value
abbrev ItemUpTo : ℕ → Item → Type 0
ItemUpTo view i = (i.view.0 ≤ view) × ValueInRange i.value × (i.view.0 < 2 ^ 32) × (i.local.0 < 2 ^ 32)

-- the items of a list with these limits
items_up_to : (limits : ItemLimits) (view : ℕ) (is : List Item) → limits.most_view ≤ view → KeepsEach KeepsItem after_item limits is → Each FitsItem is → Each (ItemUpTo view) is
items_up_to limits view [] most h k = tt
items_up_to limits view (i ∷ is) most h k =
    let at : i.view.0 ≤ limits.most_view = h.0.2 in
    ((omega (arith, at, most), (h.0.4, k.0.3), k.0.1, k.0.2), items_up_to (after_item limits i) view is most h.1 k.1)

-- the greater of two numbers that isn't above a third
max_parts : (a b n : ℕ) → max a b ≤ n → (a ≤ n) × (b ≤ n)
max_parts a b n h = (grind (arith, h), grind (arith, h))

max_from : (a b n : ℕ) → a ≤ n → b ≤ n → max a b ≤ n
max_from a b n h k = grind (arith, h, k)

-- of a report of a local view, where no report of a view may stand
local_items : (b : ReportBounds) (view : ℕ) (s : Statement) → b.global ≡ false → KeepsBounds b s → KeepsStatement s → FitsStatement s → view_in s ≤ view → Each (ItemUpTo view) (items_in s)
local_items b view (LocalReport site local index g base items) none bounds k f most = items_up_to (limits_above base g.0 (Some (local.0 - 1))) view items most k.2.1 (recursion_from_All FitsItem items f.5)
local_items b view (GlobalReport site g index base items) none bounds k f most = absurd (let no : b.global ≡ true = bounds.0 in cc)
local_items b view _ none bounds k f most = absurd bounds

-- of a report of a view, where no report of a local view may stand
global_items : (b : ReportBounds) (view : ℕ) (s : Statement) → b.local ≡ false → b.most_view ≤ view + 1 → KeepsBounds b s → KeepsStatement s → FitsStatement s →
    Each (ItemUpTo view) (items_in s)
global_items b view (GlobalReport site g index base items) none most bounds k f =
    let at : g.0 ≤ b.most_view = bounds.3 in
    items_up_to (limits_above base (g.0 - 1) None) view items (omega (arith, at, most)) k.2.1 (recursion_from_All FitsItem items f.4)
global_items b view (LocalReport site local index g base items) none most bounds k f = absurd (let no : b.local ≡ true = bounds.0 in cc)
global_items b view _ none most bounds k f = absurd bounds

-- what may stand behind a local report
after_is_local : (b : ReportBounds) (s : Statement) → b.global ≡ false → KeepsBounds b s → (after_report b s).global ≡ false
after_is_local b (LocalReport site local index g base items) none bounds = refl
after_is_local b (GlobalReport site g index base items) none bounds = absurd (let no : b.global ≡ true = bounds.0 in cc)
after_is_local b _ none bounds = absurd bounds

-- and behind a report of a view
after_is_global : (b : ReportBounds) (view : ℕ) (s : Statement) → b.local ≡ false → b.most_view ≤ view + 1 → KeepsBounds b s →
    ((after_report b s).local ≡ false) × ((after_report b s).most_view ≤ view + 1)
after_is_global b view (GlobalReport site g index base items) none most bounds = let at : g.0 ≤ b.most_view = bounds.3 in (refl, omega (arith, at, most))
after_is_global b view (LocalReport site local index g base items) none most bounds = absurd (let no : b.local ≡ true = bounds.0 in cc)
after_is_global b view _ none most bounds = absurd bounds

-- a report's items
abbrev ItemsUpTo : ℕ → ReportBody → Type 0
ItemsUpTo view r = Each (ItemUpTo view) (items_in r.statement)

-- of reports of a local view
all_local_items : (b : Bundled) (view : ℕ) (rs : List ReportBody) → b.bounds.global ≡ false → KeepsEach KeepsReport after_body b rs → Each FitsReport rs → most view_in rs ≤ view →
    Each (ItemsUpTo view) rs
unfolding most
all_local_items b view [] none h f least = tt
all_local_items b view (r ∷ rs) none h f least =
    let parts = max_parts (view_in r.statement) (most view_in rs) view least in (
      local_items b.bounds view r.statement none h.0.0 h.0.1.0 f.0.0 parts.0,
      all_local_items (after_body b r) view rs (after_is_local b.bounds r.statement none h.0.0) h.1 f.1 parts.1,
    )

-- of reports of a view
all_global_items : (b : Bundled) (view : ℕ) (rs : List ReportBody) → b.bounds.local ≡ false → b.bounds.most_view ≤ view + 1 → KeepsEach KeepsReport after_body b rs → Each FitsReport rs →
    Each (ItemsUpTo view) rs
all_global_items b view [] none most_view h f = tt
all_global_items b view (r ∷ rs) none most_view h f =
    let after = after_is_global b.bounds view r.statement none most_view h.0.0 in
    (global_items b.bounds view r.statement none most_view h.0.0 h.0.1.0 f.0.0, all_global_items (after_body b r) view rs after.0 after.1 h.1 f.1)

-- ---- the union

-- an item of this number
abbrev FoundItem : ℕ → ℕ → Item → Type 0
FoundItem view n i = (i.number.0 ≡ n) × ItemUpTo view i

-- the first item of a number
item_found : (view n : ℕ) (is : List Item) → Each (ItemUpTo view) is → IfSome (item_at n is) (FoundItem view n)
unfolding item_at
item_found view n [] h = tt
item_found view n (i ∷ is) h = by (nat_eq i.number.0 n) refl (item_found view n is h.1)
  where
    by : (b : Bool) → nat_eq i.number.0 n ≡ b → IfSome (item_at n is) (FoundItem view n) → IfSome (cond b (Some i) (item_at n is)) (FoundItem view n)
    by true e more = (eqb-true i.number.0 n e, h.0)
    by false e more = more

-- the highest item of a number
best_in_range : (view n : ℕ) (rs : List ReportBody) → Each (ItemsUpTo view) rs → IfSome (best_item n rs) (FoundItem view n)
best_in_range view n rs h = best_item_has (FoundItem view n) n rs (each rs h)
  where
    each : (rs : List ReportBody) → Each (ItemsUpTo view) rs → Each (λ (r : ReportBody). IfSome (item_at n (items_in r.statement)) (FoundItem view n)) rs
    each [] h = tt
    each (r ∷ rs) h = (item_found view n (items_in r.statement) h.0, each rs h.1)

-- the items of a union
union_window : (view : ℕ) (rs : List ReportBody) → most base_in rs ≤ most_base → Each (ItemsUpTo view) rs →
    WindowItems (limits_above (most base_in rs) view None) (most base_in rs) 16 (union_items rs)
union_window view rs few h =
    window_below (limits_above (most base_in rs) view None) (most base_in rs) (λ k. to_list (best_item (most base_in rs + 1 + k) rs)) 16 (omega arith)
    (λ i less. by i less (best_item (most base_in rs + 1 + i) rs) (best_in_range view (most base_in rs + 1 + i) rs h))
  where
    by : (i : ℕ) → i < 16 → (x : Option Item) → IfSome x (FoundItem view (most base_in rs + 1 + i)) → AtMostItem (limits_above (most base_in rs) view None) (most base_in rs + 1 + i) (to_list x)
    by i less None g = tt
    by i less (Some j) g =
        let number : j.number.0 ≡ most base_in rs + 1 + i = g.0 in
        (number, (omega (arith, number, less), g.1.0, tt, g.1.1.0), (omega (arith, number, less, few), g.1.2, g.1.3, g.1.1.1))

-- bases of reports
base_small : (s : Statement) → KeepsStatement s → base_in s ≤ most_base
base_small (LocalReport site local index g base items) k = k.1
base_small (GlobalReport site g index base items) k = k.1
base_small _ k = omega arith

bases_small : (b : Bundled) (rs : List ReportBody) → KeepsEach KeepsReport after_body b rs → most base_in rs ≤ most_base
unfolding most
bases_small b [] h = omega arith
bases_small b (r ∷ rs) h = max_from (base_in r.statement) (most base_in rs) most_base (base_small r.statement h.0.1.0) (bases_small (after_body b r) rs h.1)

-- views of reports
view_small : (s : Statement) → FitsStatement s → view_in s ≤ 2 ^ 32 - 1
view_small (LocalReport site local index g base items) f = let at : g.0 < 2 ^ 32 = f.3 in omega (arith, at)
view_small _ f = omega arith

views_small : (rs : List ReportBody) → Each FitsReport rs → most view_in rs ≤ 2 ^ 32 - 1
unfolding most
views_small [] f = omega arith
views_small (r ∷ rs) f = max_from (view_in r.statement) (most view_in rs) (2 ^ 32 - 1) (view_small r.statement f.0.0) (views_small rs f.1)

-- the union of a bundle, by its first report's statement
union_by : (r : ReportBody) (rs : List ReportBody) (s : Statement) → r.statement ≡ s → MessageInRange (messages.Bundle (r ∷ rs)) →
    StatementInRange (union_as s (most view_in (r ∷ rs)) (most base_in (r ∷ rs)) (union_items (r ∷ rs)))
unfolding most
union_by r rs (LocalReport site local index g base items) e h =
    let fits : Each FitsReport (r ∷ rs) = recursion_from_All FitsReport (r ∷ rs) h.1 in
    let few : most base_in (r ∷ rs) ≤ most_base = bases_small any_body (r ∷ rs) h.0.1 in
    let views : most view_in (r ∷ rs) ≤ 2 ^ 32 - 1 = views_small (r ∷ rs) fits in
    let kept : KeepsStatement (LocalReport site local index g base items) = subst KeepsStatement e h.0.1.0.1.0 in
    let fit : FitsStatement (LocalReport site local index g base items) = subst FitsStatement e fits.0.0 in
    let one : ItemsUpTo (most view_in (r ∷ rs)) r =
    subst (λ (s : Statement). Each (ItemUpTo (most view_in (r ∷ rs))) (items_in s)) (sym e)
    (items_up_to (limits_above base g.0 (Some (local.0 - 1))) (most view_in (r ∷ rs)) items (first_view (view_in r.statement) (subst (λ (s : Statement). view_in r.statement ≡ view_in s) e refl)) kept.2.1
    (recursion_from_All FitsItem items fit.5))
    in
    let more : Each (ItemsUpTo (most view_in (r ∷ rs))) rs =
    all_local_items (after_body any_body r) (most view_in (r ∷ rs)) rs (subst (λ (s : Statement). (after_report any_body.bounds s).global ≡ false) (sym e) refl) h.0.1.1 fits.1 most_more
    in
    let w : WindowItems (limits_above (most base_in (r ∷ rs)) (most view_in (r ∷ rs)) None) (most base_in (r ∷ rs)) 16 (union_items (r ∷ rs)) =
    union_window (most view_in (r ∷ rs)) (r ∷ rs) few (one, more)
    in
    ((kept.0, few, (w.short, w.keeps)), (fit.0, fit.1, omega (arith, views), omega (arith, few), All-from_recursion FitsItem (union_items (r ∷ rs)) w.fits))
  where
    most_is : most view_in (r ∷ rs) ≡ max (view_in r.statement) (most view_in rs)
    most_is = refl

    first_view : (v : ℕ) → v ≡ g.0 → g.0 ≤ most view_in (r ∷ rs)
    first_view v is = grind (arith, is, most_is)

    most_more : most view_in rs ≤ most view_in (r ∷ rs)
    most_more = grind (arith, most_is)
union_by r rs (GlobalReport site g index base items) e h =
    let fits : Each FitsReport (r ∷ rs) = recursion_from_All FitsReport (r ∷ rs) h.1 in
    let few : most base_in (r ∷ rs) ≤ most_base = bases_small any_body (r ∷ rs) h.0.1 in
    let kept : KeepsStatement (GlobalReport site g index base items) = subst KeepsStatement e h.0.1.0.1.0 in
    let fit : FitsStatement (GlobalReport site g index base items) = subst FitsStatement e fits.0.0 in
    let positive : 1 ≤ g.0 = kept.0 in
    let one : ItemsUpTo (g.0 - 1) r =
    subst (λ (s : Statement). Each (ItemUpTo (g.0 - 1)) (items_in s)) (sym e)
    (items_up_to (limits_above base (g.0 - 1) None) (g.0 - 1) items (omega arith) kept.2.1 (recursion_from_All FitsItem items fit.4))
    in
    let more : Each (ItemsUpTo (g.0 - 1)) rs =
    all_global_items (after_body any_body r) (g.0 - 1) rs (subst (λ (s : Statement). (after_report any_body.bounds s).local ≡ false) (sym e) refl)
    (subst (λ (s : Statement). (after_report any_body.bounds s).most_view ≤ g.0 - 1 + 1) (sym e) (omega (arith, positive))) h.0.1.1 fits.1
    in
    let w : WindowItems (limits_above (most base_in (r ∷ rs)) (g.0 - 1) None) (most base_in (r ∷ rs)) 16 (union_items (r ∷ rs)) = union_window (g.0 - 1) (r ∷ rs) few (one, more) in
    ((kept.0, few, (w.short, w.keeps)), (fit.0, fit.1, omega (arith, few), All-from_recursion FitsItem (union_items (r ∷ rs)) w.fits))
union_by r rs _ e h = absurd (subst (KeepsBounds any_body.bounds) e h.0.1.0.0)

-- The union of a bundle.
pub union_in_range : (r : ReportBody) (rs : List ReportBody) → MessageInRange (messages.Bundle (r ∷ rs)) → StatementInRange (union (r ∷ rs))
unfolding union
union_in_range r rs h = union_by r rs r.statement refl h
