-- The test of ranges is true exactly of the statements that keep them, so these are sealed over their bytes.
use Rattle.std.proofs.Common.{◌≡◌, ℕ, ◌-◌, ◌&&◌, true, nat_le, Some, None, [], length}
use Rattle.std.proofs.lemmas.Bool.{and_parts, and_from, leb-true, le-leb, cond-true}
use Rattle.st_words.specs.declared.statement.Statement.{Statement}
use Rattle.st_words.specs.declared.statement.Statement.TheVariants.{Prepare, Proposal, Accept, LocalVc, GlobalVc, LocalReport, GlobalReport, LocalUnion, GlobalUnion, Reply, ClientUpdate}
use Rattle.st_words.specs.Ranges.{KeepsStatement, most_text}
use Rattle.st_words.specs.Spelling.{statement_spelling}
use Rattle.st_sealing.specs.Sealing.{keeps_above, keeps_ranges, sealed_bytes}
use Rattle.st_sealing.proofs.EachLaws.{update_kept, slot_kept, above_kept, kept_update, kept_slot, kept_above}

-- what passes keeps its ranges
pub ranges_kept : (s : Statement) → keeps_ranges s ≡ true → KeepsStatement s
ranges_kept (Prepare site view local n v) e = slot_kept n.0 v e
ranges_kept (Proposal site view local n v) e = slot_kept n.0 v e
ranges_kept (Accept site view n v) e = slot_kept n.0 v e
ranges_kept (LocalVc site local) e = leb-true 1 local.0 e
ranges_kept (GlobalVc site view) e = leb-true 1 view.0 e
ranges_kept (LocalReport site local index view base items) e =
    let both = and_parts (nat_le 1 local.0) (keeps_above base view.0 (Some (local.0 - 1)) items) e in
    let above = above_kept base view.0 (Some (local.0 - 1)) items both.1 in
    (leb-true 1 local.0 both.0, above.0, above.1)
ranges_kept (GlobalReport site view index base items) e =
    let both = and_parts (nat_le 1 view.0) (keeps_above base (view.0 - 1) None items) e in
    let above = above_kept base (view.0 - 1) None items both.1 in
    (leb-true 1 view.0 both.0, above.0, above.1)
ranges_kept (LocalUnion site local greatest base items) e =
    let both = and_parts (nat_le 1 local.0) (keeps_above base greatest.0 None items) e in
    let above = above_kept base greatest.0 None items both.1 in
    (leb-true 1 local.0 both.0, above.0, above.1)
ranges_kept (GlobalUnion site view base items) e =
    let both = and_parts (nat_le 1 view.0) (keeps_above base (view.0 - 1) None items) e in
    let above = above_kept base (view.0 - 1) None items both.1 in
    (leb-true 1 view.0 both.0, above.0, above.1)
ranges_kept (Reply site client time n outcome) e =
    let whole = and_parts (nat_le 1 time && nat_le 1 n.0) (nat_le (length outcome) most_text) e in
    let both = and_parts (nat_le 1 time) (nat_le 1 n.0) whole.0 in
    (leb-true 1 time both.0, leb-true 1 n.0 both.1, leb-true (length outcome) most_text whole.1)
ranges_kept (ClientUpdate u) e = update_kept u e

-- what keeps its ranges passes
pub kept_is_spelled : (s : Statement) → KeepsStatement s → keeps_ranges s ≡ true
kept_is_spelled (Prepare site view local n v) k = kept_slot n.0 v k.0 k.1
kept_is_spelled (Proposal site view local n v) k = kept_slot n.0 v k.0 k.1
kept_is_spelled (Accept site view n v) k = kept_slot n.0 v k.0 k.1
kept_is_spelled (LocalVc site local) k = le-leb 1 local.0 k
kept_is_spelled (GlobalVc site view) k = le-leb 1 view.0 k
kept_is_spelled (LocalReport site local index view base items) k =
    and_from (nat_le 1 local.0) (keeps_above base view.0 (Some (local.0 - 1)) items) (le-leb 1 local.0 k.0) (kept_above base view.0 (Some (local.0 - 1)) items k.1 k.2)
kept_is_spelled (GlobalReport site view index base items) k =
    and_from (nat_le 1 view.0) (keeps_above base (view.0 - 1) None items) (le-leb 1 view.0 k.0) (kept_above base (view.0 - 1) None items k.1 k.2)
kept_is_spelled (LocalUnion site local greatest base items) k =
    and_from (nat_le 1 local.0) (keeps_above base greatest.0 None items) (le-leb 1 local.0 k.0) (kept_above base greatest.0 None items k.1 k.2)
kept_is_spelled (GlobalUnion site view base items) k =
    and_from (nat_le 1 view.0) (keeps_above base (view.0 - 1) None items) (le-leb 1 view.0 k.0) (kept_above base (view.0 - 1) None items k.1 k.2)
kept_is_spelled (Reply site client time n outcome) k =
    let both = and_from (nat_le 1 time) (nat_le 1 n.0) (le-leb 1 time k.0) (le-leb 1 n.0 k.1) in
    and_from (nat_le 1 time && nat_le 1 n.0) (nat_le (length outcome) most_text) both (le-leb (length outcome) most_text k.2)
kept_is_spelled (ClientUpdate u) k = kept_update u k

-- a statement that keeps its ranges is sealed over its own bytes
pub sealed_as_spelled : (id : ℕ) (s : Statement) → KeepsStatement s → sealed_bytes id s ≡ statement_spelling id s
unfolding sealed_bytes
sealed_as_spelled id s k = cond-true (keeps_ranges s) (statement_spelling id s) [] (kept_is_spelled s k)
