-- What is sealed of a statement: its bytes, where it keeps its ranges.
use Rattle.std.specs.Prelude.{ℕ, ◌-◌, Bool, true, cond, nat_le, nat_lt, ◌&&◌, Option, Some, None, List, [], ◌∷◌, length}
use Rattle.st_words.specs.declared.value.Update.{Update}
use Rattle.st_words.specs.declared.value.Value.{Value}
use Rattle.st_words.specs.declared.value.Value.TheVariants as values
use Rattle.st_words.specs.declared.limits.ItemLimits.{ItemLimits}
use Rattle.st_words.specs.declared.statement.Item.{Item}
use Rattle.st_words.specs.declared.statement.Statement.{Statement}
use Rattle.st_words.specs.declared.statement.Statement.TheVariants.{Prepare, Proposal, Accept, LocalVc, GlobalVc, LocalReport, GlobalReport, LocalUnion, GlobalUnion, Reply, ClientUpdate}
use Rattle.st_words.specs.Ranges.{most_text, most_items, most_base, after_item, limits_above}
use Rattle.st_words.specs.Spelling.{statement_spelling}
use Rattle.st_seal.specs.Pen as seal
use Rattle.st_protocol.specs.Duty.{Pen}

-- an update keeps its ranges
abbrev pub keeps_update : Update → Bool
keeps_update u = nat_le 1 u.time && nat_le (length u.op) most_text

-- a value keeps its ranges
abbrev pub keeps_value : Value → Bool
keeps_value values.Noop = true
keeps_value (values.Update u) = keeps_update u

-- a number, from 1, and a value keep their ranges
abbrev pub keeps_slot : ℕ → Value → Bool
keeps_slot n v = nat_le 1 n && keeps_value v

-- at most a limit, where there is one
abbrev pub keeps_limit : Option ℕ → ℕ → Bool
keeps_limit None n = true
keeps_limit (Some most) n = nat_le n most

-- an item is within the limits
abbrev pub keeps_item : ItemLimits → Item → Bool
keeps_item limits i = nat_lt limits.after i.number.0 && nat_le i.number.0 limits.most && nat_le i.view.0 limits.most_view && keeps_limit limits.most_local i.local.0 && keeps_value i.value

-- each item is within the limits that those before it leave
abbrev pub keeps_each : ItemLimits → List Item → Bool
keeps_each limits [] = true
keeps_each limits (i ∷ items) = keeps_item limits i && keeps_each (after_item limits i) items

-- a base, and the items above it, keep their ranges
abbrev pub keeps_above : ℕ → ℕ → Option ℕ → List Item → Bool
keeps_above base most_view most_local items = nat_le base most_base && nat_le (length items) most_items && keeps_each (limits_above base most_view most_local) items

-- a statement keeps its ranges
abbrev pub keeps_ranges : Statement → Bool
keeps_ranges (Prepare site view local n v) = keeps_slot n.0 v
keeps_ranges (Proposal site view local n v) = keeps_slot n.0 v
keeps_ranges (Accept site view n v) = keeps_slot n.0 v
keeps_ranges (LocalVc site local) = nat_le 1 local.0
keeps_ranges (GlobalVc site view) = nat_le 1 view.0
keeps_ranges (LocalReport site local index view base items) = nat_le 1 local.0 && keeps_above base view.0 (Some (local.0 - 1)) items
keeps_ranges (GlobalReport site view index base items) = nat_le 1 view.0 && keeps_above base (view.0 - 1) None items
keeps_ranges (LocalUnion site local greatest base items) = nat_le 1 local.0 && keeps_above base greatest.0 None items
keeps_ranges (GlobalUnion site view base items) = nat_le 1 view.0 && keeps_above base (view.0 - 1) None items
keeps_ranges (Reply site client time n outcome) = nat_le 1 time && nat_le 1 n.0 && nat_le (length outcome) most_text
keeps_ranges (ClientUpdate update) = keeps_update update

-- the bytes that a seal over the statement is over
unfoldable pub sealed_bytes : ℕ → Statement → List ℕ
sealed_bytes id s = cond (keeps_ranges s) (statement_spelling id s) []

-- a party's seals over the statements of a deployment
abbrev pub pen_by : seal.Pen → ℕ → Pen
pen_by pen id leaf s = pen.seal_of leaf (sealed_bytes id s)
