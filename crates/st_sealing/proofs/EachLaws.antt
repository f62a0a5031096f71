-- What passes the tests of updates, values and items keeps their ranges, and the other way round.
use Rattle.std.proofs.Common.{◌≡◌, ℕ, ◌≤◌, Bool, ◌&&◌, true, nat_le, nat_lt, Option, Some, None, List, [], ◌∷◌, length, refl}
use Rattle.std.proofs.lemmas.Bool.{and_parts, and_from, leb-true, le-leb, ltb-true, lt-ltb}
use Rattle.st_fields.specs.Spelling.{KeepsEach}
use Rattle.st_words.specs.declared.value.Update.{Update}
use Rattle.st_words.specs.declared.value.Value.{Value}
use Rattle.st_words.specs.declared.value.Value.TheVariants as values
use Rattle.st_words.specs.declared.limits.ItemLimits.{ItemLimits}
use Rattle.st_words.specs.declared.statement.Item.{Item}
use Rattle.st_words.specs.Ranges.{KeepsUpdate, KeepsValue, KeepsLimit, KeepsItem, KeepsItems, most_text, most_items, most_base, after_item, limits_above}
use Rattle.st_sealing.specs.Sealing.{keeps_update, keeps_value, keeps_slot, keeps_limit, keeps_item, keeps_each, keeps_above}

-- ---- what passes keeps

-- an update
pub update_kept : (u : Update) → keeps_update u ≡ true → KeepsUpdate u
update_kept u e = let both = and_parts (nat_le 1 u.time) (nat_le (length u.op) most_text) e in (leb-true 1 u.time both.0, leb-true (length u.op) most_text both.1)

-- a value
value_kept : (v : Value) → keeps_value v ≡ true → KeepsValue v
value_kept values.Noop e = tt
value_kept (values.Update u) e = update_kept u e

-- a number and its value
pub slot_kept : (n : ℕ) (v : Value) → keeps_slot n v ≡ true → (1 ≤ n) × KeepsValue v
slot_kept n v e = let both = and_parts (nat_le 1 n) (keeps_value v) e in (leb-true 1 n both.0, value_kept v both.1)

-- a local view
limit_kept : (limit : Option ℕ) (n : ℕ) → keeps_limit limit n ≡ true → KeepsLimit limit n
limit_kept None n e = tt
limit_kept (Some most) n e = leb-true n most e

-- an item
item_kept : (limits : ItemLimits) (i : Item) → keeps_item limits i ≡ true → KeepsItem limits i
item_kept limits i e =
    let above : Bool = nat_lt limits.after i.number.0 in
    let most : Bool = nat_le i.number.0 limits.most in
    let view : Bool = nat_le i.view.0 limits.most_view in
    let local : Bool = keeps_limit limits.most_local i.local.0 in
    let four = and_parts (above && most && view && local) (keeps_value i.value) e in
    let three = and_parts (above && most && view) local four.0 in
    let two = and_parts (above && most) view three.0 in
    let one = and_parts above most two.0 in
    (ltb-true limits.after i.number.0 one.0, leb-true i.number.0 limits.most one.1, leb-true i.view.0 limits.most_view two.1, limit_kept limits.most_local i.local.0 three.1, value_kept i.value four.1)

-- items, each behind those before it
each_kept : (limits : ItemLimits) (items : List Item) → keeps_each limits items ≡ true → KeepsEach KeepsItem after_item limits items
each_kept limits [] e = tt
each_kept limits (i ∷ items) e =
    let both = and_parts (keeps_item limits i) (keeps_each (after_item limits i) items) e in
    (item_kept limits i both.0, each_kept (after_item limits i) items both.1)

-- a base and the items above it
pub above_kept : (base most_view : ℕ) (most_local : Option ℕ) (items : List Item) → keeps_above base most_view most_local items ≡ true → (base ≤ most_base) × KeepsItems (limits_above base most_view most_local) items
above_kept base most_view most_local items e =
    let limits = limits_above base most_view most_local in
    let two = and_parts (nat_le base most_base && nat_le (length items) most_items) (keeps_each limits items) e in
    let one = and_parts (nat_le base most_base) (nat_le (length items) most_items) two.0 in
    (leb-true base most_base one.0, (leb-true (length items) most_items one.1, each_kept limits items two.1))

-- ---- what keeps passes

-- an update
pub kept_update : (u : Update) → KeepsUpdate u → keeps_update u ≡ true
kept_update u k = and_from (nat_le 1 u.time) (nat_le (length u.op) most_text) (le-leb 1 u.time k.0) (le-leb (length u.op) most_text k.1)

-- a value
kept_value : (v : Value) → KeepsValue v → keeps_value v ≡ true
kept_value values.Noop k = refl
kept_value (values.Update u) k = kept_update u k

-- a number and its value
pub kept_slot : (n : ℕ) (v : Value) → 1 ≤ n → KeepsValue v → keeps_slot n v ≡ true
kept_slot n v above k = and_from (nat_le 1 n) (keeps_value v) (le-leb 1 n above) (kept_value v k)

-- a local view
kept_limit : (limit : Option ℕ) (n : ℕ) → KeepsLimit limit n → keeps_limit limit n ≡ true
kept_limit None n k = refl
kept_limit (Some most) n k = le-leb n most k

-- an item
kept_item : (limits : ItemLimits) (i : Item) → KeepsItem limits i → keeps_item limits i ≡ true
kept_item limits i k =
    let above : Bool = nat_lt limits.after i.number.0 in
    let most : Bool = nat_le i.number.0 limits.most in
    let view : Bool = nat_le i.view.0 limits.most_view in
    let local : Bool = keeps_limit limits.most_local i.local.0 in
    let two = and_from above most (lt-ltb limits.after i.number.0 k.0) (le-leb i.number.0 limits.most k.1) in
    let three = and_from (above && most) view two (le-leb i.view.0 limits.most_view k.2) in
    let four = and_from (above && most && view) local three (kept_limit limits.most_local i.local.0 k.3) in
    and_from (above && most && view && local) (keeps_value i.value) four (kept_value i.value k.4)

-- items, each behind those before it
kept_each : (limits : ItemLimits) (items : List Item) → KeepsEach KeepsItem after_item limits items → keeps_each limits items ≡ true
kept_each limits [] k = refl
kept_each limits (i ∷ items) k = and_from (keeps_item limits i) (keeps_each (after_item limits i) items) (kept_item limits i k.0) (kept_each (after_item limits i) items k.1)

-- a base and the items above it
pub kept_above : (base most_view : ℕ) (most_local : Option ℕ) (items : List Item) → base ≤ most_base → KeepsItems (limits_above base most_view most_local) items → keeps_above base most_view most_local items ≡ true
kept_above base most_view most_local items below k =
    let limits = limits_above base most_view most_local in
    let one = and_from (nat_le base most_base) (nat_le (length items) most_items) (le-leb base most_base below) (le-leb (length items) most_items k.0) in
    and_from (nat_le base most_base && nat_le (length items) most_items) (keeps_each limits items) one (kept_each limits items k.1)
